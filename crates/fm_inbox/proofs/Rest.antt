-- What is left in the end.
use Rattle.std.proofs.Common.{◌≡◌, ℕ, ◌+◌, ◌≤◌, List, [], ◌∷◌, ◌++◌, length, refl, subst, arith, length-append, All}
use Rattle.std.proofs.Math.Seq.{get_or-append_seam}
use Rattle.std.proofs.lemmas.List.{get_or_append_left}
use Rattle.fm_inbox.proofs.Keeps.{weigh-append}
use Rattle.atomic_table.specs.Seated.{TableId}
use Rattle.fm_delta.specs.declared.packet.Packet.{Packet}
use Rattle.fm_inbox.specs.declared.conservation.PortAccount.{PortAccount}
use Rattle.fm_inbox.specs.Conservation.{weigh}
use Rattle.fm_inbox.specs.Ports.{PortModel, seen_port, AloneHas, all_put, all_taken}
use Rattle.fm_inbox.specs.inner.PortWeights.{put_by, taken_weight}

pub weigh-ones : (xs : List Packet) → weigh (λ _. 1) xs ≡ length xs
weigh-ones [] = refl
weigh-ones (x ∷ xs) = let e = weigh-ones xs in omega (arith, e)

pub weigh-none : (h : Packet → ℕ) (xs : List Packet) → length xs ≡ 0 → weigh h xs ≡ 0
weigh-none h [] e = refl
weigh-none h (x ∷ xs) e = absurd (omega (arith, e))

-- what a pass with every part knows, by lengths
pub counted : (v : PortAccount) (items : List Packet) → ((h : Packet → ℕ) → v.whole ≤ v.parts → weigh h v.put ≡ weigh h v.taken + weigh h items) → v.whole ≤ v.parts → length v.put ≡ length v.taken + length items
counted v items fact all = let e = fact (λ _. 1) all in omega (arith, e, weigh-ones v.put, weigh-ones v.taken, weigh-ones items)

-- a sum over ports, less the last
pub weigh-last : {X : Type 0} (f : X → ℕ) (old now : List X) (x : X) → old ≡ now ++ x ∷ [] → weigh f old ≡ weigh f now + f x
weigh-last f old now x e = rw e (omega (arith, weigh-append f now (x ∷ [])))

pub all-last : {X : Type 0} (P : X → Type 0) (old now : List X) (x : X) → old ≡ now ++ x ∷ [] → All P old → All P now × P x
all-last P old now x e h =
    let h' : All P (now ++ x ∷ []) = subst (All P) e h in (
      (λ k d lt. subst P (get_or_append_left now (x ∷ []) d k lt) (h' k d (omega (arith, lt, length-append now (x ∷ []))))),
      subst P (get_or-append_seam now x [] x) (h' (length now) x (omega (arith, length-append now (x ∷ [])))),
    )

-- what all ports put or took, by weight
pub weigh-all_put : (h : Packet → ℕ) (ps : List PortModel) → weigh h (all_put ps) ≡ weigh (put_by h) ps
weigh-all_put h [] = refl
weigh-all_put h (p ∷ ps) = let e = weigh-all_put h ps in omega (arith, e, weigh-append h p.put (all_put ps))

pub weigh-all_taken : (h : Packet → ℕ) (ps : List PortModel) → weigh h (all_taken ps) ≡ weigh (taken_weight h) ps
weigh-all_taken h [] = refl
weigh-all_taken h (p ∷ ps) = let e = weigh-all_taken h ps in omega (arith, e, weigh-append h p.taken (all_taken ps))

-- a pass of the only port knows how many packets there are
pub alone : (p : PortModel) (id : TableId) (v : PortAccount) (n size : ℕ) (items : List Packet) → seen_port id v ≡ p → n ≡ size → length items ≡ n → v.parts ≡ 1 → ((h : Packet → ℕ) → v.whole ≤ v.parts → weigh h v.put ≡ weigh h v.taken + weigh h items) → AloneHas size p
alone p id v n size items seen is many one fact =
    subst (AloneHas size) seen (λ only. let e = counted v items fact (omega (arith, one, only)) in omega (arith, e, many, is))
