-- Where packets of a name start.
use Rattle.std.proofs.Common.{◌≡◌, ◌≤◌, ◌+◌, ℕ, Bool, true, false, cond, List, [], ◌∷◌, ◌++◌, Option, Some, None, length, take, drop, not, nat_lt, refl, sym, ap, ◌∙◌, subst, arith, length-append, add-zero}
use Rattle.std.specs.Prelude.{option_map, IsSome}
use Rattle.std.specs.Bool.{Decides}
use Rattle.std.specs.Map.{lookup}
use Rattle.std.specs.BTreeMap.{is_at}
use Rattle.std.specs.Cmp.{Equal-is}
use Rattle.std.specs.List.{position, position_or_len}
use Rattle.std.proofs.lemmas.List.{append-nil, take-append-le, take-append-drop, length-drop, length-take-le, take_all}
use Rattle.std.proofs.lemmas.Map.Lookups.{exact_pairs, exact_unsigned}
use Rattle.std.specs.Ordering.{nat_cmp, is_eq, ordering_then}
use Rattle.std.specs.declared.cmp.Ordering.TheVariants.{Equal}
use Rattle.std.proofs.lemmas.Bool.Decides.{nat_tests}
use Rattle.fm_delta.specs.declared.packet.Packet.{Packet}
use Rattle.fm_delta.specs.Packets.{same_packet}
use Rattle.fm_delta.specs.laws.PacketLaws.{packet_Decides}
use Rattle.fm_world.specs.inner.Names.{name_of, name_cmp, AreOthers, StartsAt, AreNamed}

names_told : (a b : ℕ × ℕ) → is_at (name_cmp a) b ≡ true → a ≡ b
names_told a b is = exact_pairs nat_cmp nat_cmp exact_unsigned exact_unsigned a b ((Equal-is (name_cmp a b)).0 is)

same_number : (n : ℕ) → nat_cmp n n ≡ Equal
same_number n = grind (arith, nat_tests)

its_own : (a : ℕ × ℕ) → is_at (name_cmp a) a ≡ true
its_own a = λ i. is_eq (ordering_then (same_number a.0 i) (same_number a.1 i))

others_more : (name : ℕ × ℕ) (ps : List Packet) (p : Packet) → (name_of p ≡ name → ⊥) → AreOthers name ps → AreOthers name (ps ++ p ∷ [])
others_more name [] p far h = (far, tt)
others_more name (x ∷ ps) p far h = (h.0, others_more name ps p far h.1)

starts_kept : (ps : List Packet) (p : Packet) (name : ℕ × ℕ) (place : ℕ) → StartsAt ps name (Some place) → StartsAt (ps ++ p ∷ []) name (Some place)
starts_kept ps p name place h = (omega (arith, h.0, length-append ps (p ∷ [])), subst (AreOthers name) (sym (take-append-le place ps (p ∷ []) h.0)) h.1)

starts_other : (ps : List Packet) (p : Packet) (name : ℕ × ℕ) (o : Option ℕ) → (name_of p ≡ name → ⊥) → StartsAt ps name o → StartsAt (ps ++ p ∷ []) name o
starts_other ps p name None far h = others_more name ps p far h
starts_other ps p name (Some place) far h = starts_kept ps p name place h

starts_new : (ps : List Packet) (p : Packet) (name : ℕ × ℕ) → AreOthers name ps → StartsAt (ps ++ p ∷ []) name (Some (length ps))
starts_new ps p name h = (
  omega (arith, length-append ps (p ∷ [])),
  subst (AreOthers name) (sym (take_all (length ps) ps (omega arith)) ∙ sym (take-append-le (length ps) ps (p ∷ []) (omega arith))) h,
)

no_some : (o : Option ℕ) → IsSome o → o ≡ None → ⊥
no_some None h is = let no : ⊥ = cc in no
no_some (Some n) h is = let no : ⊥ = cc in no

-- a packet of a name that is there
pub named_again : (starts : List ((ℕ × ℕ) × ℕ)) (ps : List Packet) (p : Packet) → AreNamed starts ps → IsSome (lookup (is_at (name_cmp (name_of p))) starts) → AreNamed starts (ps ++ p ∷ [])
named_again starts ps p h there name = by (lookup (is_at (name_cmp name)) starts) refl (h name) where
  by : (o : Option ℕ) → lookup (is_at (name_cmp name)) starts ≡ o → StartsAt ps name o → StartsAt (ps ++ p ∷ []) name o
  by None is s = starts_other ps p name None (λ e. no_some (lookup (is_at (name_cmp (name_of p))) starts) there (ap (λ n. lookup (is_at (name_cmp n)) starts) e ∙ is)) s
  by (Some place) is s = starts_kept ps p name place s

-- a packet of a new name, which starts at the end
pub named_new : (starts new : List ((ℕ × ℕ) × ℕ)) (ps : List Packet) (p : Packet) → AreNamed starts ps → lookup (is_at (name_cmp (name_of p))) starts ≡ None
    → ((name : ℕ × ℕ) → lookup (is_at (name_cmp name)) new ≡ cond (is_at (name_cmp (name_of p)) name) (Some (length ps)) (lookup (is_at (name_cmp name)) starts)) → AreNamed new (ps ++ p ∷ [])
named_new starts new ps p h none updates name = subst (StartsAt (ps ++ p ∷ []) name) (sym (updates name)) (by (is_at (name_cmp (name_of p)) name) refl) where
  by : (b : Bool) → is_at (name_cmp (name_of p)) name ≡ b → StartsAt (ps ++ p ∷ []) name (cond b (Some (length ps)) (lookup (is_at (name_cmp name)) starts))
  by true is =
      let e = names_told (name_of p) name is in
      starts_new ps p name (subst (StartsAt ps name) (ap (λ n. lookup (is_at (name_cmp n)) starts) (sym e) ∙ none) (h name))
  by false is = starts_other ps p name (lookup (is_at (name_cmp name)) starts) (λ e. let self : is_at (name_cmp (name_of p)) name ≡ true = subst (λ n. is_at (name_cmp (name_of p)) n ≡ true) e (its_own (name_of p)) in let no : ⊥ = cc in no) (h name)

not_below : (n : ℕ) → nat_lt n n ≡ false
not_below n = grind (arith, nat_tests)

below_both : (start a n : ℕ) → nat_lt (start + a) (start + n) ≡ nat_lt a n
below_both start a n = grind (arith, nat_tests)

shifted : (start a n : ℕ) → cond (nat_lt (start + a) (start + n)) (Some (start + a)) None ≡ option_map (λ k. start + k) (cond (nat_lt a n) (Some a) None)
shifted start a n = ap (λ b. cond b (Some (start + a)) None) (below_both start a n) ∙ by (nat_lt a n) where
  by : (b : Bool) → cond b (Some (start + a)) None ≡ option_map (λ k. start + k) (cond b (Some a) None)
  by true = refl
  by false = refl

module _ (p : Packet) where
  -- what has another name is not equal
  others_skip : (xs ys : List Packet) → AreOthers (name_of p) xs → position_or_len (λ q. same_packet q p) (xs ++ ys) ≡ length xs + position_or_len (λ q. same_packet q p) ys
  others_skip [] ys h = omega arith
  others_skip (x ∷ xs) ys h = by (same_packet x p) (packet_Decides x p) (others_skip xs ys h.1) where
    by : (b : Bool) → Decides b (x ≡ p) → position_or_len (λ q. same_packet q p) (xs ++ ys) ≡ length xs + position_or_len (λ q. same_packet q p) ys
        → cond (not b) (1 + position_or_len (λ q. same_packet q p) (xs ++ ys)) 0 ≡ length (x ∷ xs) + position_or_len (λ q. same_packet q p) ys
    by true d rest = absurd (h.0 (ap name_of (d.0 refl)))
    by false d rest = omega arith

  pub none_there : (ps : List Packet) → AreOthers (name_of p) ps → position (λ q. same_packet q p) ps ≡ None
  none_there ps h =
      let is : position_or_len (λ q. same_packet q p) ps ≡ length ps = ap (position_or_len (λ q. same_packet q p)) (sym (append-nil ps)) ∙ others_skip ps [] h ∙ add-zero (length ps) in
      ap (λ n. cond (nat_lt n (length ps)) (Some n) None) is ∙ ap (λ b. cond b (Some (length ps)) None) (not_below (length ps))

  pub there_after : (ps : List Packet) (start : ℕ) → start ≤ length ps → AreOthers (name_of p) (take start ps) → position (λ q. same_packet q p) ps ≡ option_map (λ k. start + k) (position (λ q. same_packet q p) (drop start ps))
  there_after ps start le h =
      let after = drop start ps in
      let first : length (take start ps) ≡ start = length-take-le start ps le in
      let place : position_or_len (λ q. same_packet q p) ps ≡ start + position_or_len (λ q. same_packet q p) after =
      ap (position_or_len (λ q. same_packet q p)) (sym (take-append-drop start ps)) ∙ others_skip (take start ps) after h ∙ ap (λ n. n + position_or_len (λ q. same_packet q p) after) first in
      let all : length ps ≡ start + length after = omega (arith, length-drop start ps) in
      (λ i. cond (nat_lt (place i) (all i)) (Some (place i)) None) ∙ shifted start (position_or_len (λ q. same_packet q p) after) (length after)
