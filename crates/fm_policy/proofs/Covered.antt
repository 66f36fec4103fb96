-- What a network has of a table's, it keeps as it grows.
use Rattle.std.proofs.Common.{ℕ, Option, Some, None}
use Rattle.fm_records.specs.Table.{Table}
use Rattle.fm_records.specs.Facts.{holder_of}
use Rattle.fm_net.specs.declared.node.Node.TheVariants.{Sink, Unscheduled, Request, Machine, Task}
use Rattle.fm_net.specs.Net.{Net}
use Rattle.fm_policy.specs.inner.NetworkSoFar.{Grows, HasHolder, HasNodes, CoversJob, CoversMachine, CoversTask, CoversPreferred, CoversPlace}

module _ (k : Table) (old new : Net) (grows : Grows old new) where
  pub nodes_still : HasNodes k old → HasNodes k new
  nodes_still has n is = grows.nodes n (has n is)

  pub job_still : (j : ℕ) → CoversJob k j old → CoversJob k j new
  job_still j covers is = grows.arcs (Unscheduled j) Sink (covers is)

  pub machine_still : (m : ℕ) → CoversMachine k m old → CoversMachine k m new
  machine_still m covers open_is = grows.arcs (Machine m) Sink (covers open_is)

  pub preferred_still : (t m : ℕ) → CoversPreferred k t m old → CoversPreferred k t m new
  preferred_still t m covers has = grows.arcs (Task t) (Machine m) (covers has)

  pub holder_still : (t r : ℕ) (o : Option ℕ) → HasHolder k t r o old → HasHolder k t r o new
  holder_still t r None has = record {
    waits = grows.arcs (Task t) (Request r) has.waits;
    preferred = λ m. preferred_still t m (has.preferred m);
  }
  holder_still t r (Some m) has = grows.arcs (Task t) (Machine m) has

  pub task_still : (t : ℕ) → CoversTask k t old → CoversTask k t new
  task_still t covers spec live =
      let has = covers spec live in
      record {
        unscheduled = grows.arcs (Task t) (Unscheduled spec.job) has.unscheduled;
        holder = holder_still t spec.request (holder_of k t) has.holder;
      }

  pub place_still : (r m : ℕ) → CoversPlace k r m old → CoversPlace k r m new
  place_still r m covers has = grows.arcs (Request r) (Machine m) (covers has)
