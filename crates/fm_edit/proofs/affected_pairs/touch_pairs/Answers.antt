use Rattle.std.proofs.Common.{◌∙◌, ◌++◌, ap}
use Rattle.std.specs.Prelude.{filter, reverse}
use Rattle.std.specs.List.{list_any}
use Rattle.fm_edit.specs.inner.Completing.{is_request_node, is_machine, waiting_in}
use Rattle.fm_edit.proofs.Completed.{completes}
use Rattle.fm_edit.proofs.affected_pairs.touch_pairs.Goals as goal

pub returns : goal.returns
returns c =
    let nodes = c.in_ok-nodes.ensures in
    let first = c.as_slice.ensures.value ∙ nodes in
    let adds = c.in_ok-touch_nodes.ensures in
    completes c.args.memory.now c.args.network.now c.args.touched.now c.touch_nodes.new.touched c.as_slice-2.result.now c.as_slice-3.result.now
    (c.as_slice-2.ensures.value ∙ nodes)
    (λ h. c.as_slice-3.ensures.value ∙ c.in_ok-requests.ensures (ap (list_any is_machine) first ∙ h) ∙ ap (λ ns. reverse (waiting_in c.args.memory.now.index) ++ filter is_request_node ns) first)
    adds.grows adds.same adds.sinks adds.places adds.preferring adds.machines
