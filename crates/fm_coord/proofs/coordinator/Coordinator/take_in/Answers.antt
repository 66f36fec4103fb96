use Rattle.std.proofs.Common.{rules}
use Rattle.fm_coord.proofs.coordinator.Coordinator.take_in.Goals as goal

pub invariant_of-self-2 : goal.invariant_of-self-2
invariant_of-self-2 g c =
    let joined = c.in_ok-changed.ensures.knowledge in
    record {
      coordinator = search rules;
      keeper = search rules;
      kept_up = λ said.
          c.absorb.ensures.keeps_up (record {
            before = c.self.inside.knowledge;
            delta = c.args.delta;
            before_can_be = c.known.ensures;
            delta_can_be = c.known-2.ensures;
            for_before = λ _. c.self.invariant.kept_up said;
            joined = joined;
            keys = c.in_ok-changed.ensures.changed;
          });
      tallied = c.absorb-2.ensures _ (record {
        before = c.self.inside.knowledge;
        delta = c.args.delta;
        before_can_be = c.known.ensures;
        delta_can_be = c.known-2.ensures;
        for_before = λ _. c.self.invariant.tallied;
        joined = joined;
        keys = c.in_ok-changed.ensures.changed;
      });
    }
