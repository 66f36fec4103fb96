use Rattle.std.proofs.Common.{◌≡◌, drop, take}
use Rattle.fm_net.specs.Edits.{after_edits, MayEditAll}
use Rattle.fm_net.proofs.apply.make_each.Given as goal

abbrev pub invariant-loop-edit : goal.invariant-loop-edit
invariant-loop-edit l = record {
  may : MayEditAll l.network (drop l.edit-index l.edits);
  made : l.network ≡ after_edits (take l.edit-index l.edits) l.fn.network;
}
