-- A join of deltas can be taken by parts, and is the table of all their operations.
use Rattle.std.specs.Prelude.{◌≡◌, ◌≤◌, ℕ, ◌+◌, ◌-◌, List, [], ◌∷◌, ◌++◌, map, take, drop, refl}
use Rattle.std.specs.List.{slice_range}
use Rattle.std.proofs.Common.{sym, ap, ◌∙◌, subst, append_assoc, arith}
use Rattle.std.proofs.Math.Seq.{take-add}
use Rattle.std.proofs.lemmas.List.{append-nil, drop-drop}
use Rattle.fm_lattice.specs.Joins.{JoinLaws}
use Rattle.fm_records.specs.declared.ops.Op.{Op}
use Rattle.fm_records.specs.Sets.{union}
use Rattle.fm_records.specs.Table.{Table}
use Rattle.fm_records.specs.Know.{table_of}
use Rattle.fm_records.specs.OpsOfTable.{ops}
use Rattle.fm_records.specs.Ranges.{CanBe}
use Rattle.fm_records.specs.Joined.{table_join}
use Rattle.fm_records.proofs.JoinedLaws.{join_can_be, table_laws}
use Rattle.fm_records.proofs.UnionLaws.{know_append}
use Rattle.fm_records.proofs.SpelledLaws.{know_ops}
use Rattle.fm_records.proofs.RangeLaws.{know_can_be}
use Rattle.fm_delta.specs.Deltas.{joined_from, joined_all}
use Rattle.fm_delta.specs.inner.JoinedDeltas.{AllCanBe, IsJoinOf}

all_append : (a b : List Table) → AllCanBe a → AllCanBe b → AllCanBe (a ++ b)
all_append [] b p q = q
all_append (d ∷ ds) b p q = (p.0, all_append ds b p.1 q)

nothing_can_be : CanBe (table_of [])
nothing_can_be = know_can_be [] refl

-- nothing known is a unit of the join
onto_nothing : (k : Table) → CanBe k → table_join (table_of []) k ≡ k
onto_nothing k p = let here = know_ops k p.table in ap (table_join (table_of [])) here ∙ sym (know_append [] (ops k)) ∙ sym here

with_nothing : (k : Table) → CanBe k → table_join k (table_of []) ≡ k
with_nothing k p = table_laws.comm k (table_of []) p nothing_can_be ∙ onto_nothing k p

from_can_be : (k : Table) (a : List Table) → CanBe k → AllCanBe a → CanBe (joined_from k a)
from_can_be k [] p q = p
from_can_be k (d ∷ ds) p q = from_can_be (table_join k d) ds (join_can_be k d p q.0) q.1

from_join : (k l : Table) (a : List Table) → CanBe k → CanBe l → AllCanBe a → joined_from (table_join k l) a ≡ table_join k (joined_from l a)
from_join k l [] p q r = refl
from_join k l (d ∷ ds) p q r = ap (λ t. joined_from t ds) (table_laws.assoc k l d p q r.0) ∙ from_join k (table_join l d) ds p (join_can_be l d q r.0) r.1

from_append : (k : Table) (a b : List Table) → joined_from k (a ++ b) ≡ joined_from (joined_from k a) b
from_append k [] b = refl
from_append k (d ∷ ds) b = from_append (table_join k d) ds b

joined_append : (a b : List Table) → AllCanBe a → AllCanBe b → joined_all (a ++ b) ≡ table_join (joined_all a) (joined_all b)
joined_append a b p q =
    let left = from_can_be (table_of []) a nothing_can_be p in
    from_append (table_of []) a b
    ∙ ap (λ t. joined_from t b) (sym (with_nothing (joined_all a) left))
    ∙ from_join (joined_all a) (table_of []) b left nothing_can_be q

-- the join of none, of one, and of two parts
pub join_none : IsJoinOf (table_of []) []
join_none = record { can_be = tt; value = refl }

pub join_one : (k : Table) → CanBe k → IsJoinOf k (k ∷ [])
join_one k p = record { can_be = (p, tt); value = sym (onto_nothing k p) }

pub join_parts : (k l : Table) (a b : List Table) → IsJoinOf k a → IsJoinOf l b → IsJoinOf (table_join k l) (a ++ b)
join_parts k l a b p q = record {
  can_be = all_append a b p.can_be q.can_be;
  value = (λ i. table_join (p.value i) (q.value i)) ∙ sym (joined_append a b p.can_be q.can_be);
}

-- a list between two places is what is between each and a place in the middle
pub split_between : {A : Type 0} (xs : List A) (from middle to : ℕ) → from ≤ middle → middle ≤ to → slice_range xs from to ≡ slice_range xs from middle ++ slice_range xs middle to
split_between xs from middle to low high =
    let whole : to - from ≡ (middle - from) + (to - middle) = omega arith in
    let there : from + (middle - from) ≡ middle = omega arith in
    ap (λ n. take n (drop from xs)) whole
    ∙ take-add (middle - from) (to - middle) (drop from xs)
    ∙ ap (λ ys. take (middle - from) (drop from xs) ++ take (to - middle) ys) (drop-drop (middle - from) from xs ∙ ap (λ n. drop n xs) there)

-- the join of the tables of sets is the table of their union
union_from : (S : List Op) (Ss : List (List Op)) → joined_from (table_of S) (map table_of Ss) ≡ table_of (S ++ union Ss)
union_from S [] = ap table_of (sym (append-nil S))
union_from S (T ∷ Ss) = ap (λ k. joined_from k (map table_of Ss)) (sym (know_append S T)) ∙ union_from (S ++ T) Ss ∙ ap table_of (append_assoc S T (union Ss))

pub joined_union : (Ss : List (List Op)) → joined_all (map table_of Ss) ≡ table_of (union Ss)
joined_union Ss = union_from [] Ss
