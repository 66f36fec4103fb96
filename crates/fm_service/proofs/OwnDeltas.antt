-- The deltas of a history, and those that are a coordinator's own.
use Rattle.std.proofs.Common.{◌≡◌, ◌≤◌, ◌<◌, ◌+◌, ◌-◌, ◌⊎◌, ℕ, Bool, List, [], ◌∷◌, ◌++◌, length, drop, map, refl, sym, ap, ◌∙◌, inl, inr, arith}
use Rattle.std.specs.Bool.{beq}
use Rattle.std.specs.List.{cons_option}
use Rattle.std.proofs.Math.ListN.{drop_of_length-le}
use Rattle.std.proofs.Math.Seq.{drop-append_seam}
use Rattle.std.proofs.lemmas.Bool.{cases_lt}
use Rattle.std.proofs.lemmas.List.{length-append, length-drop, map-append}
use Rattle.std.proofs.lemmas.List.Elements.{filter_map-append}
use Rattle.std.proofs.lemmas.List.Sums.{prefix_len-le-length}
use Rattle.fm_delta.specs.Deltas.{end_of}
use Rattle.fm_coord.specs.declared.entry.Call.{Call}
use Rattle.fm_coord.specs.declared.entry.Call.TheVariants as call
use Rattle.fm_coord.specs.declared.entry.Entry.{Entry}
use Rattle.fm_records.specs.OpsOfTable.{ops}
use Rattle.fm_coord.specs.Events.{Replica, opening, happens, admitted_by}
use Rattle.fm_coord.specs.Replays.{event_of, replay, after_entry}
use Rattle.fm_coord.specs.States.{State, Represents, IsCoordinator, caller_and_call}
use Rattle.fm_service.specs.OwnNews.{delta_by, deltas_by, own_deltas, count_from}
use Rattle.fm_service.specs.inner.OwnRuns.{added_by, AreLatest}

-- a call adds one delta to a replica, or none
adds_one : (r : Replica) (by : ℕ) (c : Call) (ds : List Bool)
    → length (happens r by (event_of c)).buffer + length ds ≡ length r.buffer + length (cons_option (delta_by c) ds)
adds_one r by (call.Tell op) ds = let one = length-append r.buffer ((op ∷ []) ∷ []) in omega arith
adds_one r by (call.Merge packet) ds = let one = length-append r.buffer (ops packet.value ∷ []) in omega arith
adds_one r by (call.Commit plan) ds = let one = length-append r.buffer ((admitted_by r plan).ops ∷ []) in omega arith
adds_one r by (call.Cut range) ds = refl
adds_one r by (call.Trim n) ds = refl
adds_one r by call.View ds = refl

replayed : (r : Replica) (es : List Entry) → length (replay r es).buffer ≡ length r.buffer + length (added_by es)
replayed r [] = omega arith
replayed r (e ∷ es) = replayed (after_entry r e) es ∙ adds_one r e.by e.call (added_by es)

-- a coordinator's history added as many deltas as it received
pub deltas_counted : (s : State) → IsCoordinator s → length (added_by s.history) ≡ end_of s.deltas
deltas_counted s is = let count = is.stands.end ∙ replayed (opening s.number s.limit) s.history in omega arith

-- they are those of the replica for which it stands
pub same_deltas : (s : State) (r : Replica) → Represents s r → added_by s.history ≡ own_deltas r
same_deltas s r stands = ap deltas_by stands.history

pub added-append : (es fs : List Entry) → added_by (es ++ fs) ≡ added_by es ++ added_by fs
added-append es fs = ap deltas_by (map-append caller_and_call es fs) ∙ filter_map-append (λ asked. delta_by asked.1) (map caller_and_call es) (map caller_and_call fs)

nothing : (ds : List Bool) → length ds ≡ 0 → ds ≡ []
nothing [] e = refl
nothing (d ∷ ds) e = absurd (omega arith)

-- the last of a list
last_of : (whole early late : List Bool) (from : ℕ) → whole ≡ early ++ late → length late ≡ length whole - from → (from < length whole) ⊎ (length whole ≤ from) → late ≡ drop from whole
last_of whole early late from e n (inl fits) =
    let counted : length whole ≡ length early + length late = ap length e ∙ length-append early late in
    let seam : length early ≡ from = omega arith in
    sym (ap (drop from) e ∙ ap (λ m. drop m (early ++ late)) (sym seam) ∙ drop-append_seam early late)
last_of whole early late from e n (inr past) = let none : length late ≡ 0 = omega arith in nothing late none ∙ sym (drop_of_length-le whole past)

-- the latest entries added the last deltas
pub latest_from : (history latest : List Entry) (end from : ℕ) → length (added_by history) ≡ end → AreLatest history (end - from) latest → added_by latest ≡ drop from (added_by history)
latest_from history latest end from counted is =
    let fits : end - from ≤ length (added_by history) = omega arith in
    let few : length (added_by latest) ≡ end - from = is.added fits in
    let many : length (added_by latest) ≡ length (added_by history) - from = omega arith in
    last_of (added_by history) (added_by is.earlier) (added_by latest) from (ap added_by is.whole ∙ added-append is.earlier latest) many
    (cases_lt from (length (added_by history)))

-- what is counted from a number on ends where the deltas end, or there
pub counted_within : (own : Bool) (from bound : ℕ) (ds : List Bool) → from < bound → length ds < bound → from + count_from own from ds < bound
counted_within own from bound ds low high =
    let most : count_from own from ds ≤ length (drop from ds) = prefix_len-le-length (λ is_own. beq is_own own) (drop from ds) in
    let left : length (drop from ds) ≡ length ds - from = length-drop from ds in
    omega arith
