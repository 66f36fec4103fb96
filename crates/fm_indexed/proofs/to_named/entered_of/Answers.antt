use Rattle.std.proofs.Common.{◌≡◌, ◌∙◌, ◌++◌, ◌∷◌, [], ◌+◌, ℕ, List, suc, drop, ap, sym, arith}
use Rattle.std.specs.Prelude.{slice_index}
use Rattle.fm_net.specs.declared.node.Node.{Node}
use Rattle.fm_indexed.specs.inner.Named.{entered_by}
use Rattle.fm_indexed.proofs.Naming.{append_one}
use Rattle.fm_indexed.proofs.Entered.{passed_by, taken_up}
use Rattle.fm_indexed.proofs.to_named.entered_of.Goals as goal
use Rattle.fm_indexed.proofs.to_named.entered_of.Goals.{then-sum-ne0+in_ok-push, else-sum-ne0}

pub loop-place-preserved : goal.loop-place-preserved
loop-place-preserved c =
    let nodes = c.args.nodes.now in
    let sums = c.args.sums.now in
    let at = c.loop-place.place in
    let node = c.index-nodes-place.result in
    let next : suc at ≡ at + 1 = omega arith in
    let rest = λ (i : ℕ). entered_by (drop i nodes) (drop i sums) in
    let sum = c.sum_at-sum.ensures in
    elim c.if-sum-ne0.branch [
      | then-sum-ne0+in_ok-push w ↦
          let some : slice_index sums at ≡ 0 → ⊥ = λ none. w.if-sum-ne0.true (sum ∙ none) in
          let more = taken_up nodes sums at node c.loop-place-test.true c.index-nodes-place.is some in
          ap (λ (es : _). es.items ++ rest (at + 1)) w.entered-is
          ∙ ap (λ (es : List (Node × ℕ)). es ++ rest (at + 1)) w.in_ok-push.ensures.items
          ∙ (λ k. (c.loop-place.entered.items ++ (node, sum k) ∷ []) ++ rest (sym next k))
          ∙ sym (append_one c.loop-place.entered.items (node, slice_index sums at) (rest (suc at)))
          ∙ ap (λ (es : List (Node × ℕ)). c.loop-place.entered.items ++ es) (sym more)
          ∙ c.loop-place.invariant
      | else-sum-ne0 w ↦
          let none : slice_index sums at ≡ 0 = sym sum ∙ w.if-sum-ne0.false in
          ap (λ (es : _). es.items ++ rest (at + 1)) w.entered-is
          ∙ ap (λ (i : ℕ). c.loop-place.entered.items ++ rest i) (sym next)
          ∙ ap (λ (es : List (Node × ℕ)). c.loop-place.entered.items ++ es) (sym (passed_by nodes sums at none))
          ∙ c.loop-place.invariant
    ]
