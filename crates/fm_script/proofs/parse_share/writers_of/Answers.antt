use Rattle.std.proofs.Common.{◌≡◌, ◌<◌, ◌∙◌, [], ◌∷◌, ◌++◌, true, false, length, take, drop, ◌+◌, sym, ap, arith, slice_set, option_map}
use Rattle.std.proofs.lemmas.List.{length-take-le, take_more_set, length-set}
use Rattle.std.specs.List.{list_all}
use Rattle.serde_json.specs.View.{view}
use Rattle.fm_records.specs.Ids.{is_coordinator}
use Rattle.fm_share.specs.Shares.{writers_of}
use Rattle.fm_script.specs.Script.{is_listed, are_distinct}
use Rattle.fm_script.proofs.Spelling.{are_distinct-push, all_after, all_after-more, listed_again}
use Rattle.fm_script.proofs.Room.{named_within, within_more, room_for}
use Rattle.fm_script.proofs.parse_share.writers_of.Goals as goal

pub returns-then-contains : goal.returns-then-contains
returns-then-contains c =
    let h : c.loop-item.item-index < length c.args.items.now = omega arith in
    let again : is_listed (take c.loop-item.count c.loop-item.found) c.in_ok-number.number ≡ true = sym c.if-contains.ensures.value in
    ap (option_map writers_of) (listed_again _ _ _ _ _ c.loop-item.invariant.listed h c.item-item.is (sym c.in_ok-number.ensures) again)

pub bounds-found-count : goal.bounds-found-count
bounds-found-count c =
    let before = take c.loop-item.count c.loop-item.found in
    let n = c.in_ok-number.number in
    let new : is_listed before n ≡ false = sym c.if-contains.ensures.value in
    let long : length before ≡ c.loop-item.count = length-take-le c.loop-item.count c.loop-item.found (omega arith) in
    let one : is_coordinator n ≡ true = named_within (view c.item-item.result) n (sym c.in_ok-number.ensures) in
    let room : length before < 64 = room_for before n c.loop-item.invariant.distinct c.loop-item.invariant.within new one in
    omega arith

pub listed : goal.listed
listed c =
    let below : c.loop-item.count < 64 = bounds-found-count c in
    omega arith

pub loop-item-preserved : goal.loop-item-preserved
loop-item-preserved c =
    let i = c.loop-item.count in
    let before = take i c.loop-item.found in
    let n = c.in_ok-number.number in
    let was = c.loop-item.invariant in
    let h : c.loop-item.item-index < length c.args.items.now = omega arith in
    let new : is_listed before n ≡ false = sym c.if-contains.ensures.value in
    let one : is_coordinator n ≡ true = named_within (view c.item-item.result) n (sym c.in_ok-number.ensures) in
    let long : length before ≡ i = length-take-le i c.loop-item.found (omega arith) in
    let room : length before < 64 = room_for before n was.distinct was.within new one in
    let more : take (i + 1) (slice_set c.loop-item.found i n) ≡ before ++ n ∷ [] = take_more_set c.loop-item.found i n (omega arith) in
    record {
      listed = was.listed ∙ all_after-more _ _ _ _ _ h c.item-item.is (sym c.in_ok-number.ensures) ∙ ap (λ ns. all_after ns (drop (c.loop-item.item-index + 1) c.args.items.now)) (sym more);
      distinct = ap are_distinct more ∙ are_distinct-push before n was.distinct new;
      within = ap (list_all is_coordinator) more ∙ within_more before n was.within one;
      counted = ap (λ m. m + 1) was.counted;
      room = omega arith;
      long = length-set c.loop-item.found i n ∙ was.long;
    }
