use Rattle.std.proofs.Common.{◌≡◌, ◌∙◌, ap, length}
use Rattle.std.specs.Prelude.{max}
use Rattle.fm_store.proofs.pieces.longest.Goals as goal

pub returns : goal.returns
returns c =
    let k = c.args.value.now in
    let jobs : c.len.result ≡ length k.jobs = c.len.ensures ∙ ap length c.jobs.ensures in
    let tasks : c.len-2.result ≡ length k.tasks = c.len-2.ensures ∙ ap length c.tasks.ensures in
    let machines : c.len-3.result ≡ length k.machines = c.len-3.ensures ∙ ap length c.machines.ensures in
    let proposals : c.len-4.result ≡ length k.proposals = c.len-4.ensures ∙ ap length c.proposals.ensures in
    c.max.ensures ∙ (λ i. max ((c.max-first.ensures ∙ (λ j. max (jobs j) (tasks j))) i) ((c.max-second.ensures ∙ (λ j. max (machines j) (proposals j))) i))
