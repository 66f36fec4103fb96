-- What a coordinator knew by its packets, if packets are added, and if one of all that it knew stands for them.
use Rattle.std.proofs.Common.{◌≡◌, ◌==◌, ◌||◌, ℕ, suc, Bool, true, false, cond, List, [], ◌∷◌, ◌++◌, All, map, filter, refl, sym, ap, ◌∙◌, inl, inr, arith, append_assoc, eqb-true}
use Rattle.std.specs.List.{list_any}
use Rattle.std.proofs.lemmas.List.{append-nil}
use Rattle.std.proofs.lemmas.Bool.{eqb-false}
use Rattle.fm_records.specs.declared.ops.Op.{Op}
use Rattle.fm_records.specs.Sets.{IsMember, union}
use Rattle.fm_records.specs.Table.{Table}
use Rattle.fm_records.specs.Know.{table_of}
use Rattle.fm_records.specs.Ranges.{CanBe}
use Rattle.fm_records.specs.Joined.{table_join}
use Rattle.fm_records.proofs.JoinedLaws.{join_can_be, table_laws}
use Rattle.fm_records.proofs.RangeLaws.{know_can_be}
use Rattle.fm_records.proofs.UnionLaws.{know_append}
use Rattle.fm_delta.specs.declared.packet.Packet.{Packet}
use Rattle.fm_delta.specs.Deltas.{joined_from, joined_all}
use Rattle.fm_delta.proofs.GroupLaws.{join_one}
use Rattle.fm_coord.specs.Events.{Sent}
use Rattle.fm_coord.specs.Replays.{seen_packet}
use Rattle.fm_store.specs.Stores.{values_of, recovered}
use Rattle.fm_service.specs.StreamSteps.{StandBehind, packet_by_ops}
use Rattle.fm_service.specs.Storing.{sets_from}
use Rattle.fm_store.specs.KnownPackets.{known_packets}

-- ---- packets are added

values_one : (b : Bool) (p : Packet) (xs ys : List Packet) (vs : List Table) → map (λ (q : Packet). q.value) xs ≡ map (λ (q : Packet). q.value) ys ++ vs
    → map (λ (q : Packet). q.value) (cond b (p ∷ xs) xs) ≡ map (λ (q : Packet). q.value) (cond b (p ∷ ys) ys) ++ vs
values_one true p xs ys vs is = ap (λ (ks : List Table). p.value ∷ ks) is
values_one false p xs ys vs is = is

values_append : (n : ℕ) (ps qs : List Packet) → values_of n (ps ++ qs) ≡ values_of n ps ++ values_of n qs
values_append n [] qs = refl
values_append n (p ∷ ps) qs =
    values_one (p.sender == n) p (filter (λ (q : Packet). q.sender == n) (ps ++ qs)) (filter (λ (q : Packet). q.sender == n) ps) (values_of n qs) (values_append n ps qs)

from_append : (k : Table) (a b : List Table) → joined_from k (a ++ b) ≡ joined_from (joined_from k a) b
from_append k [] b = refl
from_append k (d ∷ ds) b = from_append (table_join k d) ds b

union_from : (S : List Op) (Ss : List (List Op)) → joined_from (table_of S) (map table_of Ss) ≡ table_of (S ++ union Ss)
union_from S [] = ap table_of (sym (append-nil S))
union_from S (T ∷ Ss) = ap (λ k. joined_from k (map table_of Ss)) (sym (know_append S T)) ∙ union_from (S ++ T) Ss ∙ ap table_of (append_assoc S T (union Ss))

seen_one : (b : Bool) (p : Sent) (ps : List Packet) (qs : List Sent) → map (λ (q : Packet). q.value) ps ≡ map table_of (map (λ (q : Sent). q.set) qs)
    → map (λ (q : Packet). q.value) (cond b (seen_packet p ∷ ps) ps) ≡ map table_of (map (λ (q : Sent). q.set) (cond b (p ∷ qs) qs))
seen_one true p ps qs is = ap (λ (ks : List Table). table_of p.set ∷ ks) is
seen_one false p ps qs is = is

values_seen : (n : ℕ) (us : List Sent) → values_of n (map seen_packet us) ≡ map table_of (sets_from n us)
values_seen n [] = refl
values_seen n (u ∷ us) =
    seen_one (u.sender == n) u (filter (λ (q : Packet). q.sender == n) (map seen_packet us)) (filter (λ (q : Sent). q.sender == n) us) (values_seen n us)

-- what was known by the first packets, and by the others as well
recovered_append : (n : ℕ) (ps qs : List Packet) → recovered n (ps ++ qs) ≡ joined_from (recovered n ps) (values_of n qs)
recovered_append n ps qs = ap joined_all (values_append n ps qs) ∙ from_append (table_of []) (values_of n ps) (values_of n qs)

-- packets by which the same was known, and the same packets more
pub recovered_alike : (n : ℕ) (ps qs more : List Packet) → recovered n ps ≡ recovered n qs → recovered n (ps ++ more) ≡ recovered n (qs ++ more)
recovered_alike n ps qs more is = recovered_append n ps more ∙ ap (λ k. joined_from k (values_of n more)) is ∙ sym (recovered_append n qs more)

-- by packets that are added as well, a coordinator knew these sets as well
pub recovered_more : (n : ℕ) (ps : List Packet) (us : List Sent) (S : List Op) → recovered n ps ≡ table_of S → recovered n (ps ++ map seen_packet us) ≡ table_of (S ++ union (sets_from n us))
recovered_more n ps us S is =
    recovered_append n ps (map seen_packet us)
    ∙ ap (λ k. joined_from k (values_of n (map seen_packet us))) is
    ∙ ap (joined_from (table_of S)) (values_seen n us)
    ∙ union_from S (sets_from n us)

-- ---- possible packets

pub all_first : {A : Type 0} (P : A → Type 0) (x : A) (xs : List A) → All P (x ∷ xs) → P x
all_first P x xs h = h 0 x (omega arith)

pub all_rest : {A : Type 0} (P : A → Type 0) (x : A) (xs : List A) → All P (x ∷ xs) → All P xs
all_rest P x xs h = λ k d lt. h (suc k) d (omega arith)

nothing_can_be : CanBe (table_of [])
nothing_can_be = know_can_be [] refl

abbrev Possible : List Packet → Type 0
Possible ps = All (λ p. CanBe p.value) ps

can_be_one : (b : Bool) (p : Packet) (qs : List Packet) → CanBe p.value → ((k : Table) → CanBe k → CanBe (joined_from k (map (λ (q : Packet). q.value) qs)))
    → (k : Table) → CanBe k → CanBe (joined_from k (map (λ (q : Packet). q.value) (cond b (p ∷ qs) qs)))
can_be_one true p qs h rest k can = rest (table_join k p.value) (join_can_be k p.value can h)
can_be_one false p qs h rest k can = rest k can

from_can_be : (n : ℕ) (ps : List Packet) → Possible ps → (k : Table) → CanBe k → CanBe (joined_from k (values_of n ps))
from_can_be n [] h k can = can
from_can_be n (p ∷ ps) h k can =
    can_be_one (p.sender == n) p (filter (λ (q : Packet). q.sender == n) ps) (all_first (λ (q : Packet). CanBe q.value) p ps h)
    (from_can_be n ps (all_rest (λ (q : Packet). CanBe q.value) p ps h)) k can

pub recovered_can_be : (n : ℕ) (ps : List Packet) → Possible ps → CanBe (recovered n ps)
recovered_can_be n ps h = from_can_be n ps h (table_of []) nothing_can_be

-- ---- one packet of all

onto_nothing : (k : Table) → CanBe k → table_join (table_of []) k ≡ k
onto_nothing k can = sym (join_one k can).value

abbrev has_packet : ℕ → List Packet → Bool
has_packet n ps = list_any (λ p. p.sender == n) ps

no_value : (b : Bool) (p : Packet) (qs : List Packet) (e : Bool) → (b || e) ≡ false → (e ≡ false → map (λ (q : Packet). q.value) qs ≡ []) → map (λ (q : Packet). q.value) (cond b (p ∷ qs) qs) ≡ []
no_value true p qs e is rest = absurd (let no : ⊥ = cc in no)
no_value false p qs e is rest = rest is

no_values : (n : ℕ) (ps : List Packet) → has_packet n ps ≡ false → values_of n ps ≡ []
no_values n [] e = refl
no_values n (p ∷ ps) e = no_value (p.sender == n) p (filter (λ (q : Packet). q.sender == n) ps) (has_packet n ps) e (no_values n ps)

module _ (n : ℕ) (ps : List Packet) (possible : Possible ps) where
  abbrev all_known : Table
  all_known = recovered n ps

  can : CanBe all_known
  can = recovered_can_be n ps possible

  twice : table_join all_known all_known ≡ all_known
  twice = table_laws.idem all_known can

  -- the values of a coordinator's packets, in front of others
  abbrev values_before : Bool → ℕ → List Packet → List Table
  values_before b m qs = values_of n (cond b (record { sender = m; number = 0; value = recovered m ps } ∷ []) [] ++ qs)

  again : (b c : Bool) (m : ℕ) (qs : List Packet) → (m == n) ≡ c → joined_from all_known (values_of n qs) ≡ all_known → joined_from all_known (values_before b m qs) ≡ all_known
  again false c m qs is rest = rest
  again true true m qs is rest =
      rw is (ap (λ k. joined_from (table_join all_known (recovered k ps)) (values_of n qs)) (eqb-true m n is) ∙ ap (λ k. joined_from k (values_of n qs)) twice ∙ rest)
  again true false m qs is rest = rw is rest

  stays : (ns : List ℕ) → joined_from all_known (values_of n (known_packets ns ps)) ≡ all_known
  stays [] = refl
  stays (m ∷ ns) = again (has_packet m ps) (m == n) m (known_packets ns ps) refl (stays ns)

  nothing : has_packet n ps ≡ false → all_known ≡ table_of []
  nothing e = ap joined_all (no_values n ps e)

  first : (b c : Bool) (m : ℕ) (qs : List Packet) → (m == n) ≡ c → has_packet m ps ≡ b → joined_from all_known (values_of n qs) ≡ all_known
      → (c ≡ false → joined_all (values_of n qs) ≡ all_known) → joined_all (values_before b m qs) ≡ all_known
  first false true m qs is e rest later =
      let none = nothing (ap (λ k. has_packet k ps) (sym (eqb-true m n is)) ∙ e) in
      ap (λ k. joined_from k (values_of n qs)) (sym none) ∙ rest
  first true true m qs is e rest later =
      rw is (ap (λ k. joined_from (table_join (table_of []) (recovered k ps)) (values_of n qs)) (eqb-true m n is) ∙ ap (λ k. joined_from k (values_of n qs)) (onto_nothing all_known can) ∙ rest)
  first false false m qs is e rest later = later refl
  first true false m qs is e rest later = rw is (later refl)

  -- by one packet of all that each of these coordinators knew, each knew that
  pub known_again : (ns : List ℕ) → IsMember n ns → recovered n (known_packets ns ps) ≡ recovered n ps
  known_again [] h = absurd h
  known_again (m ∷ ns) h =
      first (has_packet m ps) (m == n) m (known_packets ns ps) refl refl (stays ns)
      (λ other. elim h [
        | inl is ↦ absurd (eqb-false m n other is)
        | inr later ↦ known_again ns later
      ])

-- ---- what stands behind packets

module _ (behind : Packet → List Op) (stand : StandBehind behind) (n : ℕ) where
  stood_one : (b : Bool) (p : Packet) (ps : List Packet) (qs : List Sent) → CanBe p.value → map table_of (map (λ (q : Sent). q.set) qs) ≡ map (λ (q : Packet). q.value) ps
      → map table_of (map (λ (q : Sent). q.set) (cond b (packet_by_ops behind p ∷ qs) qs)) ≡ map (λ (q : Packet). q.value) (cond b (p ∷ ps) ps)
  stood_one true p ps qs h is = λ i. stand p h i ∷ is i
  stood_one false p ps qs h is = is

  stood : (ps : List Packet) → Possible ps → map table_of (sets_from n (map (packet_by_ops behind) ps)) ≡ values_of n ps
  stood [] h = refl
  stood (p ∷ ps) h =
      stood_one (p.sender == n) p (filter (λ (q : Packet). q.sender == n) ps) (filter (λ (q : Sent). q.sender == n) (map (packet_by_ops behind) ps))
      (all_first (λ (q : Packet). CanBe q.value) p ps h) (stood ps (all_rest (λ (q : Packet). CanBe q.value) p ps h))

  -- the sets that stand behind packets have the table of what was known by these
  pub table_behind : (ps : List Packet) → Possible ps → table_of (union (sets_from n (map (packet_by_ops behind) ps))) ≡ recovered n ps
  table_behind ps h = sym (union_from [] (sets_from n (map (packet_by_ops behind) ps))) ∙ ap joined_all (stood ps h)
