-- Small texts and their lines, computed.
use Rattle.std.specs.Prelude.{◌≡◌, [], ◌∷◌, codes}
use Rattle.std.proofs.Common.{refl}
use Rattle.fm_io.specs.Lines.{lines_of}

pub nothing : lines_of [] ≡ []
nothing = refl

pub one : lines_of (codes "a\n") ≡ codes "a" ∷ []
one = refl

pub unended : lines_of (codes "a\n\nb") ≡ codes "a" ∷ [] ∷ codes "b" ∷ []
unended = refl
