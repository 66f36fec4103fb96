-- What a join that may be refused is the join of.
use Rattle.std.proofs.Common.{◌≡◌, List, [], ◌∷◌, ◌++◌, Result, Ok, Err, sym, subst}
use Rattle.std.specs.Result.{IfOk}
use Rattle.fm_records.specs.Table.{Table}
use Rattle.fm_records.specs.Ranges.{CanBe}
use Rattle.fm_records.specs.Joined.{table_join}
use Rattle.fm_delta.proofs.GroupLaws.{join_one, join_parts}
use Rattle.fm_delta.specs.inner.JoinedDeltas.{IsJoinOf}

pub one : {E : Type 0} (r : Result Table E) (d : Table) → CanBe d → IfOk r (λ k. k ≡ d) → IfOk r (λ k. IsJoinOf k (d ∷ []))
one (Ok k) d p same = subst (λ t. IsJoinOf t (d ∷ [])) (sym same) (join_one d p)
one (Err e) d p same = tt

pub parts : {E : Type 0} (r : Result Table E) (k l : Table) (a b c : List Table) → IsJoinOf k a → IsJoinOf l b → c ≡ a ++ b → IfOk r (λ t. t ≡ table_join k l) → IfOk r (λ t. IsJoinOf t c)
parts (Ok t) k l a b c p q whole same = subst (λ z. IsJoinOf t z) (sym whole) (subst (λ z. IsJoinOf z (a ++ b)) (sym same) (join_parts k l a b p q))
parts (Err e) k l a b c p q whole same = tt
