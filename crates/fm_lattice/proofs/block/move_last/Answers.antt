use Rattle.std.proofs.Common.{◌≡◌, List, [], ◌∷◌, ◌++◌, reverse, sym, ◌∙◌, ap, append_assoc, arith}
use Rattle.std.proofs.lemmas.List.{reverse-append}
use Rattle.fm_lattice.proofs.block.move_last.Goals as goal

-- the last of the one goes to the front of the other, which lies the other way round
moved : {X : Type 0} (whole from_old from_new to_old to_new : List X) (x : X) → from_old ++ reverse to_old ≡ whole → from_old ≡ from_new ++ x ∷ [] → to_new ≡ to_old ++ x ∷ [] → from_new ++ reverse to_new ≡ whole
moved whole from_old from_new to_old to_new x so_far popped pushed =
    rw (pushed, reverse-append to_old (x ∷ [])) (sym (append_assoc from_new (x ∷ []) (reverse to_old)) ∙ ap (λ z. z ++ reverse to_old) (sym popped) ∙ so_far)

pub loop-from-preserved-in-Some : goal.loop-from-preserved-in-Some
loop-from-preserved-in-Some g c =
    let popped = c.in-Some.ensures.len in
    let pushed = rw c.unwrap.ensures at c.push.ensures.len in
    record {
      parts = moved c.args.from.now.items c.loop-from.from.items c.pop.new.self.items c.loop-from.to.items c.push.new.self.items c.in-Some.last c.loop-from.invariant.parts c.in-Some.ensures.items (rw c.unwrap.ensures at c.push.ensures.items);
      moved = omega (arith, popped, pushed);
      kept = omega (arith, popped);
      from_capacity = omega arith;
      to_capacity = omega arith;
    }
