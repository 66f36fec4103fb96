use Rattle.std.proofs.Common.{◌≡◌, subst, sym, rules}
use Rattle.std.specs.Prelude.{IfSome}
use Rattle.fm_tally.specs.Unfinished.{AreBehind}
use Rattle.fm_coord.proofs.Tallying.{Follow, are_behind}
use Rattle.fm_coord.proofs.tally_cache.Tallied.next_tasks.Goals as goal

pub unfinished_after-requires : goal.unfinished_after-requires
unfinished_after-requires c =
    let k = c.args.knowledge.now in
    let pending = c.args.self.now.pending in
    let tasks = c.in-Some.earlier in
    let follow = subst (λ o. IfSome o (Follow k pending)) c.in-Some.is c.requires.tasks in
    let keys : c.tasks.result.now ≡ pending.tasks = search rules in
    subst (λ xs. AreBehind k xs tasks) (sym keys) (are_behind k pending tasks follow)
