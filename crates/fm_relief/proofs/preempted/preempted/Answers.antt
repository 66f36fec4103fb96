use Rattle.std.proofs.Common.{◌∙◌, ℕ, sym, ap, take, rules}
use Rattle.std.proofs.lemmas.List.Sorted.{answers_always}
use Rattle.std.specs.declared.cmp.Reverse.{Reverse}
use Rattle.fm_relief.specs.declared.held_task.HeldTask.{HeldTask}
use Rattle.fm_relief.specs.inner.Fronts.{front}
use Rattle.fm_relief.proofs.Fronts.{all_requests, front_is, same_sum}
use Rattle.fm_relief.proofs.Held.{apart}
use Rattle.fm_relief.proofs.preempted.preempted.Goals as goal

abbrev Key : Type 0
Key = ℕ × Reverse ℕ × ℕ

-- the order is that of the keys
abbrev key_of : HeldTask → Key
key_of e = (e.price, record { 0 = e.request }, e.task)

pub front_len-count-requires : goal.front_len-count-requires
front_len-count-requires c = c.requires.all ∙ sym (same_sum c.args.tasks.items c.sort_by_key.new.self.items c.in_ok-sort_by_key.ensures.permutation) ∙ sym (ap all_requests c.as_slice.ensures.value)

pub returns : goal.returns
returns c =
    let xs = c.args.tasks.items in
    let ys = c.sort_by_key.new.self.items in
    let sorted = c.in_ok-sort_by_key.ensures.sorted key_of (answers_always _ _ _ (λ f a r g h. search rules)) in
    c.truncate.ensures.items
    ∙ ap (take c.front_len-count.result) (sym c.as_slice.ensures.value)
    ∙ c.front_len-count.ensures
    ∙ ap (front c.args.nic) c.as_slice.ensures.value
    ∙ front_is xs ys c.args.nic c.in_ok-sort_by_key.ensures.permutation sorted (apart xs c.requires.by_id)
