use Rattle.std.proofs.Common.{◌≡◌, ◌∙◌, ap, false, take}
use Rattle.std.proofs.lemmas.List.{length-replicate, take_all}
use Rattle.fm_share.specs.Shares.{is_in}
use Rattle.fm_share.proofs.Listing.{nothing_marked, set_is}
use Rattle.fm_share.proofs.writers.Writers.of.Goals as goal

pub loop-writer-init : goal.loop-writer-init
loop-writer-init c = record { marked = nothing_marked 65; long = length-replicate 65 false }

pub returns-clause-value : goal.returns-clause-value
returns-clause-value c =
    let listed = c.args.listed.now in
    let all : take c.loop-writer.writer-index listed ≡ listed = take_all c.loop-writer.writer-index listed c.loop-writer-test.false in
    set_is c.loop-writer.is_listed listed c.loop-writer.invariant.long (λ n. c.loop-writer.invariant.marked n ∙ ap (is_in n) all)
