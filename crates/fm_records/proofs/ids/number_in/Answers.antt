use Rattle.std.proofs.Common.{◌≡◌, Option, Some, None, true, false, refl, sym, ap, true≢false, option_map}
use Rattle.std.specs.Int.{from_be_bytes, w128}
use Rattle.fm_records.proofs.ids.number_in.Goals as goal

none_where : {T : Type 0} (o : Option T) → (((u : T) × (o ≡ Some u)) → false ≡ true) → o ≡ None
none_where None h = refl
none_where (Some u) h = absurd (true≢false (sym (h (u, refl))))

-- src/ids.rt:37:5
pub returns-in-Err : goal.returns-in-Err
returns-in-Err c = sym (ap (option_map (from_be_bytes w128)) (none_where _ c.in-Err.ensures.ok.1))
