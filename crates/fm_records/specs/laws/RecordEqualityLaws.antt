-- Tests that decide whether two values are the same.
use Rattle.std.specs.Prelude.{◌≡◌, ℕ, ◌==◌, Bool, true, false, ◌&&◌, List}
use Rattle.std.specs.Bool.{Decides, one_answer}
use Rattle.std.specs.Cmp.{IsPartialEquivalence, unsigned_Decides}
use Rattle.std.proofs.Common.{sym, refl, ap, ◌∙◌, true≢false, rules}
use Rattle.std.proofs.lemmas.Bool.Decides.{Decides-and}
use Rattle.std.proofs.lemmas.Slice.Eq.{slice_eq-Decides}
use Rattle.fm_records.specs.Preferences.{credit_eq, preferences_eq}
use Rattle.fm_records.specs.declared.ops.Op.{Op}
use Rattle.fm_records.specs.declared.ops.Op.TheVariants as op
use Rattle.fm_records.specs.RecordEquality.{same_op}

pub apart : {P : Type 0} → false ≡ true → P
apart h = absurd (true≢false (sym h))

credit_Decides : (a b : ℕ × ℕ) → Decides (credit_eq a b) (a ≡ b)
credit_Decides a b =
    let both : Decides (a.0 == b.0 && a.1 == b.1) ((a.0 ≡ b.0) × (a.1 ≡ b.1)) = Decides-and (a.0 == b.0) (a.1 == b.1) (unsigned_Decides a.0 b.0) (unsigned_Decides a.1 b.1) in
    (λ h. let p = both.0 h in λ i. (p.0 i, p.1 i), λ q. both.1 (ap (λ z. z.0) q, ap (λ z. z.1) q))

-- lists of preferences are the same if each entry is
pub preferences_Decides : (a b : List (ℕ × ℕ)) → Decides (preferences_eq a b) (a ≡ b)
preferences_Decides a b = slice_eq-Decides credit_Decides a b _ refl

pub op_Decides : (a b : Op) → Decides (same_op a b) (a ≡ b)
op_Decides (op.Job i v w d x y) (op.Job j v2 w2 d2 x2 y2) = search rules
op_Decides (op.Spec i v w d j r p) (op.Spec i2 v2 w2 d2 j2 r2 p2) = search (rules, preferences_Decides)
op_Decides (op.Progress i a p) (op.Progress i2 a2 p2) = search rules
op_Decides (op.Machine i n v w u s x) (op.Machine i2 n2 v2 w2 u2 s2 x2) = search rules
op_Decides (op.Report i n r u) (op.Report i2 n2 r2 u2) = search rules
op_Decides (op.Propose i a x m n) (op.Propose i2 a2 x2 m2 n2) = search rules
op_Decides a b = search rules

-- pairs are the same if both parts are
pub pair_Decides : {A B : Type 0} (E : A → A → Bool) (F : B → B → Bool) → ((a b : A) → Decides (E a b) (a ≡ b)) → ((a b : B) → Decides (F a b) (a ≡ b)) → (x y : A × B) → Decides (E x.0 y.0 && F x.1 y.1) (x ≡ y)
pair_Decides E F d e x y =
    let both : Decides (E x.0 y.0 && F x.1 y.1) ((x.0 ≡ y.0) × (x.1 ≡ y.1)) = Decides-and (E x.0 y.0) (F x.1 y.1) (d x.0 y.0) (e x.1 y.1) in
    (λ h. let p = both.0 h in λ i. (p.0 i, p.1 i), λ q. both.1 (ap (λ z. z.0) q, ap (λ z. z.1) q))

-- such a test is symmetric and transitive
pub equivalence : {A : Type 0} (E : A → A → Bool) → ((a b : A) → Decides (E a b) (a ≡ b)) → IsPartialEquivalence E
equivalence E d = record {
  symm = λ x y. one_answer (E x y) (E y x) (d x y) (λ h. sym ((d y x).0 h), λ e. (d y x).1 (sym e));
  trans = λ x y z h k. (d x z).1 ((d x y).0 h ∙ (d y z).0 k);
}
