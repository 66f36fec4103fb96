-- Runs, step by step, and what coordinators that stand for replicas have in common.
use Rattle.std.proofs.Common.{◌≡◌, ◌<◌, ◌≤◌, ◌+◌, ℕ, List, [], ◌∷◌, ◌++◌, Option, Some, None, Result, Ok, Err, IfErr, OnOk, OnErr, MatchOption, length, take, get_or, refl, sym, ap, ◌∙◌, subst}
use Rattle.std.proofs.lemmas.List.{take_more, take_all}
use Rattle.std.proofs.lemmas.Option.{slice_get-get_or}
use Rattle.std.specs.Io.KnownBytes.{Appends}
use Rattle.fm_records.specs.declared.refusal.Refusal.{Refusal}
use Rattle.fm_records.specs.Know.{table_of}
use Rattle.fm_records.specs.Facts.{winner_of}
use Rattle.fm_records.proofs.FactLaws.{winner_is}
use Rattle.fm_records.proofs.SetExtensionality.{know_same}
use Rattle.fm_net.specs.Network.{net_of}
use Rattle.fm_dimacs.specs.Text.{dump_text}
use Rattle.fm_coord.specs.Events.{Replica}
use Rattle.fm_coord.specs.States.{State, Represents}
use Rattle.fm_world.specs.declared.step.Step.{Step}
use Rattle.fm_world.specs.Worlds.{WorldOfSets, with_number, cause_of, refusal_of, step_of, run_of, AreAccepted, StopsAt}
use Rattle.fm_world.specs.Represents.{Kept, WorldRepresents, state_with}
use Rattle.fm_world.specs.Agreement.{IsRepresentedAt, EachKnows, SameAgree, IsDumpOf}
use Rattle.fm_world.proofs.Places.{Stood, stood}

pub run_more : (w : WorldOfSets) (ss : List Step) (s : Step) → run_of w (ss ++ s ∷ []) ≡ step_of (run_of w ss) s
run_more w [] s = refl
run_more w (t ∷ ss) s = run_more (step_of w t) ss s

pub accept_more : (w : WorldOfSets) (ss : List Step) (s : Step) → AreAccepted w ss → cause_of (run_of w ss) s ≡ None → AreAccepted w (ss ++ s ∷ [])
accept_more w [] s h e = (e, tt)
accept_more w (t ∷ ss) s h e = (h.0, accept_more (step_of w t) ss s h.1 e)

module _ (w : WorldOfSets) (ss : List Step) (i : ℕ) (s : Step) (lt : i < length ss) (is : s ≡ get_or ss i s) where
  next : take (i + 1) ss ≡ take i ss ++ s ∷ []
  next = take_more ss i s lt ∙ ap (λ (t : Step). take i ss ++ t ∷ []) (sym is)

  pub run_next : run_of w (take (i + 1) ss) ≡ step_of (run_of w (take i ss)) s
  run_next = ap (run_of w) next ∙ run_more w (take i ss) s

  pub accept_next : AreAccepted w (take i ss) → cause_of (run_of w (take i ss)) s ≡ None → AreAccepted w (take (i + 1) ss)
  accept_next h e = subst (AreAccepted w) (sym next) (accept_more w (take i ss) s h e)

  pub stops_at : (refusal : Refusal) → refusal ≡ refusal_of (run_of w (take i ss)) s → StopsAt w ss (record { place = i; refusal = refusal })
  stops_at refusal h = record { step = s; there = slice_get-get_or ss i s lt ∙ ap (λ (t : Step). Some t) (sym is); refusal = h }

-- all of the steps
pub whole : (ss : List Step) (n : ℕ) → length ss ≤ n → take n ss ≡ ss
whole ss n h = take_all n ss h

module _ (k : Kept) (w : WorldOfSets) (h : WorldRepresents k w) where
  stands_at : (n : ℕ) (s : State) (r : Replica) → IsRepresentedAt k w n s r → Represents s r
  stands_at n s r at =
      let q : Stood (with_number w.replicas n) s = stood n k.coordinators w.replicas h.coordinators s at.state in
      let same : q.replica ≡ r = let a = q.at in let b = at.replica in cc in
      subst (λ (x : Replica). Represents s x) same q.stands

  pub each_knows : EachKnows k w
  each_knows n s r at =
      let known : s.knowledge ≡ table_of r.taken = (stands_at n s r at).knowledge in
      record { knowledge = known; winners = λ task attempt. ap (λ t. winner_of t task attempt) known ∙ winner_is r.taken (task, attempt) }

  pub same_agree : SameAgree k w
  same_agree m n s t a b is_a is_b same =
      let one : s.knowledge ≡ t.knowledge = (stands_at m s a is_a).knowledge ∙ know_same a.taken b.taken same ∙ sym (stands_at n t b is_b).knowledge in
      record { knowledge = one; winners = λ task attempt. ap (λ k. winner_of k task attempt) one; networks = ap net_of one }

  -- a dump of the coordinator with the number
  module _ (n : ℕ) (s : State) (there : state_with k.coordinators n ≡ Some s) {T : Type 0} (old new : Option (List ℕ)) where
    pub dumped : (result : Result T Refusal) → OnOk result (Appends old new (dump_text (net_of s.knowledge))) → OnOk result (IsDumpOf (with_number w.replicas n) old new)
    dumped (Err e) sent = tt
    dumped (Ok t) sent =
        let q : Stood (with_number w.replicas n) s = stood n k.coordinators w.replicas h.coordinators s there in
        subst (λ (o : Option Replica). IsDumpOf o old new) (sym q.at)
        (subst (λ table. Appends old new (dump_text (net_of table))) q.stands.knowledge sent)

-- what is said of an option, if it is none and if it is there
pub at_none : {T : Type 0} (P : Type 0) (Q : T → Type 0) (o : Option T) → o ≡ None → P → MatchOption o P Q
at_none P Q None e p = p
at_none P Q (Some s) e p = absurd (let no : ⊥ = cc in no)

pub at_some : {T : Type 0} (P : Type 0) (Q : T → Type 0) (o : Option T) (s : T) → o ≡ Some s → Q s → MatchOption o P Q
at_some P Q None s e q = absurd (let no : ⊥ = cc in no)
at_some P Q (Some t) s e q = let same : s ≡ t = cc in subst Q same q

pub on_err : {T E : Type 0} {P Q : Type 0} (result : Result T E) → (P → Q) → OnErr result P → OnErr result Q
on_err (Ok t) f h = tt
on_err (Err e) f h = f h

pub if_err : {T E : Type 0} {P Q : E → Type 0} (result : Result T E) → ((e : E) → P e → Q e) → IfErr result P → IfErr result Q
if_err (Ok t) f h = tt
if_err (Err e) f h = f e h
