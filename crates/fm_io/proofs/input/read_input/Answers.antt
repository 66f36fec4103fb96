use Rattle.std.proofs.Common.{◌≡◌, ◌+◌, ◌++◌, length, take, refl, inr, length-append, length-take-le, arith}
use Rattle.std.proofs.KnownBytes.{Consumes-trans}
use Rattle.fm_io.proofs.input.read_input.Goals as goal

pub returns-then-count-len-clause-err : goal.returns-then-count-len-clause-err
returns-then-count-len-clause-err g c =
    let given = c.in-Some.ensures in
    let piece = c.get.new.piece in
    let n = c.in-Some.count in
    let part : length (take n piece) ≡ n = length-take-le n piece given.within in
    let all : length (c.pieces.bytes.items ++ take n piece) ≡ length c.pieces.bytes.items + length (take n piece) = length-append c.pieces.bytes.items (take n piece) in
    inr (
      refl,
      inr (record {
        bytes = c.pieces.bytes.items ++ take n piece;
        consumed = Consumes-trans _ _ _ c.pieces.bytes.items (take n piece) c.pieces.invariant.consumed given.gives.consumed;
        beyond = omega arith;
      }),
    )
