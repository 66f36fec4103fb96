-- What machines hold stays counted.
use Rattle.std.proofs.Common.{◌≡◌, ℕ, ◌+◌, IsTrue, sym, ◌∙◌, ap}
use Rattle.fm_records.specs.Table.{Table}
use Rattle.fm_round.specs.declared.machine_holdings.Holdings.{Holdings}
use Rattle.fm_round.specs.inner.MachineHoldings.{is_counted, holding_of, share, AreCountedHoldings}
use Rattle.fm_round.proofs.Accepted.{HoldMore}

-- counts with a task more on machine n
pub counted_more : (k l : Table) (n r s : ℕ) (old new : Holdings) → HoldMore k l n r → AreCountedHoldings k old → s ≡ r → ((m : ℕ) → (holding_of new m).requests ≡ (holding_of old m).requests + share n m s) → ((m : ℕ) → (holding_of new m).tasks ≡ (holding_of old m).tasks + share n m 1) → ((m : ℕ) → is_counted new m ≡ is_counted old m) → AreCountedHoldings l new
counted_more k l n r s old new more are same requests tasks counted =
    let was = λ (m : ℕ) (is : IsTrue (is_counted new m)). sym (counted m) ∙ is in
    record {
      requests = λ m is. requests m ∙ (λ i. are.requests m (was m is) i + share n m (same i)) ∙ sym (more.requests m);
      tasks = λ m is. tasks m ∙ ap (λ x. x + share n m 1) (are.tasks m (was m is)) ∙ sym (more.tasks m);
    }
