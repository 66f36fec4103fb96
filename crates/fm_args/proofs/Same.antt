-- Whether two texts are the same does not hang on which comes first.
use Rattle.std.proofs.Common.{◌≡◌, sym, refl, true, false, Bool}
use Rattle.std.specs.Prelude.{bytes_eq}
use Rattle.std.proofs.lemmas.Slice.Eq.{bytes_eq-Decides}
use Rattle.fm_args.specs.Invocation.{Text}

pub flipped : (a b : Text) (t : Bool) → bytes_eq a b ≡ t → bytes_eq b a ≡ t
flipped a b true e = (bytes_eq-Decides b a).1 (sym ((bytes_eq-Decides a b).0 e))
flipped a b false e = go (bytes_eq b a) refl
  where
    go : (t : Bool) → bytes_eq b a ≡ t → bytes_eq b a ≡ false
    go false k = k
    go true k = let same : bytes_eq a b ≡ true = (bytes_eq-Decides a b).1 (sym ((bytes_eq-Decides b a).0 k)) in cc
