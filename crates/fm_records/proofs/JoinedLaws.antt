-- The join of possible tables is a join-semilattice's, since it is the table of both sets together.
use Rattle.std.specs.Prelude.{◌≡◌, ◌⊎◌, List, [], ◌∷◌, ◌++◌}
use Rattle.std.proofs.Common.{sym, ap, ◌∙◌, subst, inl, inr, append_assoc}
use Rattle.fm_records.specs.Sets.{IsMember, HaveSameMembers}
use Rattle.fm_records.specs.Table.{Table}
use Rattle.fm_records.specs.Know.{table_of}
use Rattle.fm_records.specs.OpsOfTable.{ops}
use Rattle.fm_records.specs.Ranges.{in_range, CanBe}
use Rattle.fm_records.specs.Joined.{table_join}
use Rattle.fm_records.proofs.SetExtensionality.{know_same}
use Rattle.fm_records.proofs.UnionLaws.{know_append}
use Rattle.fm_records.proofs.SpelledLaws.{know_ops}
use Rattle.fm_records.proofs.RangeLaws.{all_pass, know_can_be}
use Rattle.fm_lattice.specs.Joins.{JoinLaws}

module _ {R : Type 0} where
  member_left : (x : R) (xs ys : List R) → IsMember x xs → IsMember x (xs ++ ys)
  member_left x [] ys h = absurd h
  member_left x (z ∷ zs) ys h = elim h [ inl is ↦ inl is | inr later ↦ inr (member_left x zs ys later) ]

  member_right : (x : R) (xs ys : List R) → IsMember x ys → IsMember x (xs ++ ys)
  member_right x [] ys h = h
  member_right x (z ∷ zs) ys h = inr (member_right x zs ys h)

  member_either : (x : R) (xs ys : List R) → IsMember x (xs ++ ys) → IsMember x xs ⊎ IsMember x ys
  member_either x [] ys h = inr h
  member_either x (z ∷ zs) ys h = elim h [
    | inl is ↦ inl (inl is)
    | inr later ↦ elim (member_either x zs ys later) [ inl a ↦ inl (inr a) | inr b ↦ inr b ]
  ]

  turn : (xs ys : List R) (x : R) → IsMember x (xs ++ ys) → IsMember x (ys ++ xs)
  turn xs ys x h = elim (member_either x xs ys h) [ inl a ↦ member_right x ys xs a | inr b ↦ member_left x ys xs b ]

  pub turned : (xs ys : List R) → HaveSameMembers (xs ++ ys) (ys ++ xs)
  turned xs ys = (turn xs ys, turn ys xs)

  pub twice : (xs : List R) → HaveSameMembers (xs ++ xs) xs
  twice xs = (λ x h. elim (member_either x xs xs h) [ inl a ↦ a | inr b ↦ b ], λ x h. member_left x xs xs h)

-- the join of two tables is the table of what both spell
pub join_spelled : (k l : Table) → CanBe k → CanBe l → table_join k l ≡ table_of (ops k ++ ops l)
join_spelled k l p q =
    let here = know_ops k p.table in
    let there = know_ops l q.table in
    (λ i. table_join (here i) (there i)) ∙ sym (know_append (ops k) (ops l))

pub join_can_be : (k l : Table) → CanBe k → CanBe l → CanBe (table_join k l)
join_can_be k l p q = subst CanBe (sym (join_spelled k l p q)) (know_can_be (ops k ++ ops l) (all_pass in_range (ops k) (ops l) p.in_range q.in_range))

assoc : (k l m : Table) → CanBe k → CanBe l → CanBe m → table_join (table_join k l) m ≡ table_join k (table_join l m)
assoc k l m p q r =
    let first = join_spelled k l p q in
    let last = join_spelled l m q r in
    let a = know_ops k p.table in
    let c = know_ops m r.table in
    (λ i. table_join (first i) (c i)) ∙ sym (know_append (ops k ++ ops l) (ops m))
    ∙ ap table_of (append_assoc (ops k) (ops l) (ops m))
    ∙ know_append (ops k) (ops l ++ ops m) ∙ (λ i. table_join (sym a i) (sym last i))

pub table_laws : JoinLaws CanBe table_join
table_laws = record {
  closed = join_can_be;
  assoc = assoc;
  comm = λ k l p q. join_spelled k l p q ∙ know_same (ops k ++ ops l) (ops l ++ ops k) (turned (ops k) (ops l)) ∙ sym (join_spelled l k q p);
  idem = λ k p. join_spelled k k p p ∙ know_same (ops k ++ ops k) (ops k) (twice (ops k)) ∙ sym (know_ops k p.table);
}
