use Rattle.std.proofs.Common.{◌≡◌, ◌∷◌, arith, rules}
use Rattle.sha2.specs.Sha256.{sha256}
use Rattle.fm_store.proofs.Framing.{body_few, body_found, body_missing}
use Rattle.fm_store.proofs.frames.body_at.Goals as goal

pub returns-in_err-digest-clause-none : goal.returns-in_err-digest-clause-none
returns-in_err-digest-clause-none c = λ none has. body_few c.args.count c.args.bytes.now (omega arith) (omega (arith, c.in_err-digest.ensures.cases)) has

pub returns-then-after-count-clause-none : goal.returns-then-after-count-clause-none
returns-then-after-count-clause-none c = λ none has. body_few c.args.count c.args.bytes.now (omega arith) (omega (arith, c.in_ok-digest.ensures.cases.2)) has

pub returns-then-mark-clause-none : goal.returns-then-mark-clause-none
returns-then-mark-clause-none c = λ none has.
    let front = c.in_ok-digest.ensures.cases in
    let one : c.split_at.result.1.now ≡ c.in_ok-mark.mark.now ∷ c.in_ok-mark.rest.now = search rules in
    body_missing c.args.bytes.now c.in_ok-digest.digest.now c.in_ok-digest.after.now c.split_at.result.0.now c.split_at.result.1.now c.in_ok-mark.rest.now c.in_ok-mark.mark.now c.args.count
    front.0 front.1 front.2 c.split_at.ensures.front c.split_at.ensures.back one c.split_at.ensures.front_len (omega arith) (λ is same. c.if-mark.true is) has

pub returns-then-eq-clause-some : goal.returns-then-eq-clause-some
returns-then-eq-clause-some c =
    let front = c.in_ok-digest.ensures.cases in
    let one : c.split_at.result.1.now ≡ c.in_ok-mark.mark.now ∷ c.in_ok-mark.rest.now = search rules in
    let mark : c.in_ok-mark.mark.now ≡ 255 = omega arith in
    let same : sha256 c.split_at.result.0.now ≡ c.in_ok-digest.digest.now = search rules in
    body_found c.args.bytes.now c.in_ok-digest.digest.now c.in_ok-digest.after.now c.split_at.result.0.now c.split_at.result.1.now c.in_ok-mark.rest.now c.in_ok-mark.mark.now c.args.count
    front.0 front.1 c.split_at.ensures.front c.split_at.ensures.back one c.split_at.ensures.front_len mark same

pub returns-else-eq-clause-none : goal.returns-else-eq-clause-none
returns-else-eq-clause-none c = λ none has.
    let front = c.in_ok-digest.ensures.cases in
    let one : c.split_at.result.1.now ≡ c.in_ok-mark.mark.now ∷ c.in_ok-mark.rest.now = search rules in
    let other : sha256 c.split_at.result.0.now ≡ c.in_ok-digest.digest.now → ⊥ = search rules in
    body_missing c.args.bytes.now c.in_ok-digest.digest.now c.in_ok-digest.after.now c.split_at.result.0.now c.split_at.result.1.now c.in_ok-mark.rest.now c.in_ok-mark.mark.now c.args.count
    front.0 front.1 front.2 c.split_at.ensures.front c.split_at.ensures.back one c.split_at.ensures.front_len (omega arith) (λ is same. other same) has
