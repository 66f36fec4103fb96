use Rattle.std.proofs.Common.{◌≡◌, ◌++◌, ℕ, List, ◌∙◌, ap, append_assoc}
use Rattle.std.specs.Prelude.{codes, decimal, string_bytes}
use Rattle.fm_dimacs.proofs.dump.write_arc.Goals as goal

regrouped : (old a source b target c capacity d cost end : List ℕ) → ((((((((old ++ a) ++ source) ++ b) ++ target) ++ c) ++ capacity) ++ d) ++ cost) ++ end ≡ old ++ (a ++ (source ++ (b ++ (target ++ (c ++ (capacity ++ (d ++ (cost ++ end))))))))
regrouped old a source b target c capacity d cost end = simp append_assoc

pub returns : goal.returns
returns c =
    let source = decimal c.args.ends.now.source in
    let target = decimal c.args.ends.now.target in
    let capacity = decimal c.args.capacity in
    let cost = decimal c.args.cost in
    let behind_target = c.in_ok-push_number-2.ensures ∙ ap (λ line. (line ++ codes " ") ++ target) c.in_ok-push_number.ensures in
    let behind_capacity = c.in_ok-push_number-3.ensures ∙ ap (λ line. (line ++ codes " 0 ") ++ capacity) behind_target in
    let behind_cost = c.in_ok-push_number-4.ensures ∙ ap (λ line. (line ++ codes " ") ++ cost) behind_capacity in
    c.in_ok-push_str.ensures.bytes ∙ ap (λ line. line ++ codes "\n") behind_cost
    ∙ regrouped (string_bytes c.args.line.now) (codes "a ") source (codes " ") target (codes " 0 ") capacity (codes " ") cost (codes "\n")
