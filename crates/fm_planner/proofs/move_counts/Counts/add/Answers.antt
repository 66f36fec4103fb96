use Rattle.std.proofs.Common.{◌∙◌, ap, ℕ, ◌+◌, cond}
use Rattle.std.specs.Ordering.{nat_cmp}
use Rattle.std.specs.BTreeMap.{is_at}
use Rattle.fm_records.specs.Options.{passes}
use Rattle.fm_records.specs.Orders.{attempt_cmp}
use Rattle.fm_planner.specs.inner.Counts.{pairs_in, arriving_in, leaving_in}
use Rattle.fm_planner.proofs.Counted.{pair_counts, machine_counts, holder_counts}
use Rattle.fm_planner.proofs.move_counts.Counts.add.Goals as goal

pub count-requires : goal.count-requires
count-requires c = λ q. c.requires.pairs q.0 q.1

pub returns : goal.returns
returns c =
    let old = c.args.self.now in
    let w = c.args.way.now in
    record {
      pairs = λ r m t. c.in_ok-count.ensures (r, m) ∙ ap (λ b. pairs_in old r m + cond b 1 0) (ap (passes (λ (p : ℕ × ℕ). is_at (attempt_cmp p) (r, m))) c.pair_of-pair.ensures ∙ pair_counts r m t w);
      arriving = λ m t. c.in_ok-count-2.ensures m ∙ ap (λ b. arriving_in old m + cond b 1 0) (ap (passes (λ (p : ℕ). is_at (nat_cmp p) m)) c.machine_of-machine.ensures ∙ machine_counts m t w);
      leaving = λ m. c.in_ok-count-3.ensures m ∙ ap (λ b. leaving_in old m + cond b 1 0) (holder_counts m c.args.holder);
    }
