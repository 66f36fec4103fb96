use Rattle.std.proofs.Common.{rules, ◌≡◌, ◌++◌, ◌∷◌, [], None, ℕ, length, cond, Some, ap, subst, sym, ◌∙◌}
use Rattle.std.specs.Prelude.{IsSome}
use Rattle.std.specs.Map.{lookup}
use Rattle.std.specs.BTreeMap.{is_at}
use Rattle.fm_world.specs.inner.Names.{name_of, name_cmp, AreNamed}
use Rattle.fm_world.proofs.Naming.{named_again, named_new}
use Rattle.fm_world.proofs.cut_packets.CutPackets.push.Goals.{then-not-contains_key+in_ok-insert, else-not-contains_key}
use Rattle.fm_world.proofs.cut_packets.CutPackets.push.Goals as goal

pub invariant_of-self-2 : goal.invariant_of-self-2
invariant_of-self-2 c =
    let ps = c.self.inside.list.items in
    let starts = c.self.inside.starts.entries in
    let p = c.args.packet in
    let sender : c.value.result ≡ p.sender = search rules in
    let number : c.get-2.result.now.number ≡ p.number = search rules in
    let own : (c.value.result, c.get-2.result.now.number) ≡ name_of p = λ i. (sender i, number i) in
    let known : AreNamed starts ps = c.self.invariant in
    let now = c.if-not-contains_key.self-inside.starts.entries in
    elim c.if-not-contains_key.branch [
      | then-not-contains_key+in_ok-insert w ↦
          let kept : c.push.new.self.items ≡ ps ++ p ∷ [] = search rules in
          let none : lookup (is_at (name_cmp (name_of p))) starts ≡ None = search rules in
          let is : now ≡ w.insert.new.self.entries = search rules in
          let len : w.len.result ≡ length ps = search rules in
          let updates : (name : ℕ × ℕ) → lookup (is_at (name_cmp name)) now ≡ cond (is_at (name_cmp (name_of p)) name) (Some (length ps)) (lookup (is_at (name_cmp name)) starts) =
          λ name. ap (lookup (is_at (name_cmp name))) is ∙ w.in_ok-insert.ensures.updates.0 name
          ∙ ap (λ k. cond (is_at (name_cmp k) name) (Some w.len.result) (lookup (is_at (name_cmp name)) starts)) own
          ∙ ap (λ n. cond (is_at (name_cmp (name_of p)) name) (Some n) (lookup (is_at (name_cmp name)) starts)) len in
          subst (AreNamed now) (sym kept) (named_new starts now ps p known none updates)
      | else-not-contains_key w ↦
          let kept : c.push.new.self.items ≡ ps ++ p ∷ [] = search rules in
          let there : IsSome (lookup (is_at (name_cmp (name_of p))) starts) = search rules in
          let is : now ≡ starts = search rules in
          subst (AreNamed now) (sym kept) (subst (λ es. AreNamed es (ps ++ p ∷ [])) (sym is) (named_again starts ps p known there))
    ]
