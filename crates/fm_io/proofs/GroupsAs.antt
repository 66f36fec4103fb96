-- A stream that a responder follows in groups is followed by what the responder stands for.
use Rattle.std.proofs.Common.{◌≡◌, ℕ, List, [], ◌∷◌, Result, Ok, Err, refl, sym, subst, inl, inr}
use Rattle.fm_io.specs.declared.group_commit.StreamFault.{StreamFault}
use Rattle.fm_io.specs.declared.group_commit.StreamFault.TheVariants as fault
use Rattle.fm_io.specs.Sources.{Streams}
use Rattle.fm_io.specs.Runs.{IsTaken, Run}
use Rattle.fm_io.specs.Groups.{LineGroup, Groups, IsLeft, IsFollowedInGroups}

-- steps of one kind have steps of another beside them: from what the old state stands for, to what the new one does
abbrev pub Follows : {D E : Type 0} → (D → E → Type 0) → (D → D → Type 0) → (E → E → Type 0) → Type 0
Follows {D} {E} Stands Step Step2 = (old new : D) (k : E) → Stands old k → Step old new → (j : E) × Stands new j × Step2 k j

module _ {D E : Type 0} (Stands : D → E → Type 0) (Answers : D → List ℕ → List ℕ → D → Type 0) (Answers2 : E → List ℕ → List ℕ → E → Type 0)
    (answer : (line text : List ℕ) → Follows Stands (λ d e. Answers d line text e) (λ d e. Answers2 d line text e)) where
  taken_as : (line text : List ℕ) (old new : D) (k : E) → Stands old k → IsTaken Answers old line text new → (j : E) × Stands new j × IsTaken Answers2 k line text j
  taken_as line text old new k at (inl unread) = (k, subst (λ d. Stands d k) (sym unread.1) at, inl (unread.0, refl))
  taken_as line text old new k at (inr answered) =
      let gone = answer line text old new k at answered in
      (gone.0, gone.1, inr gone.2)

  pub run_as : (lines : List (List ℕ)) (text : List ℕ) (old new : D) (k : E) → Stands old k → Run Answers old lines text new → (j : E) × Stands new j × Run Answers2 k lines text j
  run_as [] text old new k at r = (k, subst (λ d. Stands d k) (sym r.1) at, (r.0, refl))
  run_as (line ∷ lines) text old new k at r =
      let one = taken_as line r.1 old r.0 k at r.3 in
      let gone = run_as lines r.2 r.0 new one.0 one.1 r.5 in
      (gone.0, gone.1, (one.0, r.1, r.2, one.2, r.4, gone.2))

  module _ (Commits Fails : D → D → Type 0) (Commits2 Fails2 : E → E → Type 0) (commit : Follows Stands Commits Commits2) (fail : Follows Stands Fails Fails2) where
    pub groups_as : (groups : List LineGroup) (old new : D) (k : E) → Stands old k → Groups Answers Commits old groups new → (j : E) × Stands new j × Groups Answers2 Commits2 k groups j
    groups_as [] old new k at are = (k, subst (λ d. Stands d k) (sym are) at, refl)
    groups_as (g ∷ groups) old new k at are =
        let ran = run_as g.lines g.answers old are.1.ran k at are.1.run in
        let kept = commit are.1.ran are.0 ran.0 ran.1 are.1.commit in
        let gone = groups_as groups are.0 new kept.0 kept.1 are.2 in
        (gone.0, gone.1, (kept.0, record { some = are.1.some; ran = ran.0; run = ran.2; commit = kept.2 }, gone.2))

    left_none : (lines : List (List ℕ)) (old new : D) (k : E) → Stands old k → (lines ≡ []) × (new ≡ old) → (j : E) × Stands new j × ((lines ≡ []) × (j ≡ k))
    left_none lines old new k at l = (k, subst (λ d. Stands d k) (sym l.1) at, (l.0, refl))

    left_as : {T : Type 0} (result : Result T StreamFault) (lines : List (List ℕ)) (old new : D) (k : E) → Stands old k → IsLeft Answers Fails result old lines new → (j : E) × Stands new j × IsLeft Answers2 Fails2 result k lines j
    left_as (Ok t) lines old new k at l = left_none lines old new k at l
    left_as (Err fault.Source) lines old new k at l = left_none lines old new k at l
    left_as (Err fault.Sink) lines old new k at l = left_none lines old new k at l
    left_as (Err fault.Commit) lines old new k at l =
        let ran = run_as lines l.answers old l.ran k at l.run in
        let gone = fail l.ran new ran.0 ran.1 l.fails in
        (gone.0, gone.1, record { some = l.some; answers = l.answers; ran = ran.0; run = ran.2; fails = gone.2 })

    pub followed_as : {T : Type 0} (result : Result T StreamFault) (old new : D) (k : E) (streams : Streams) → Stands old k → IsFollowedInGroups Answers Commits Fails result old new streams
        → (j : E) × Stands new j × IsFollowedInGroups Answers2 Commits2 Fails2 result k j streams
    followed_as result old new k streams at f =
        let kept = groups_as f.groups old f.kept k at f.committed in
        let gone = left_as result f.last f.kept new kept.0 kept.1 f.left in
        (gone.0, gone.1, record { text = f.text; read = f.read; groups = f.groups; kept = kept.0; committed = kept.2; last = f.last; left = gone.2; followed = f.followed; went = f.went })
