use Rattle.std.proofs.Common.{◌≡◌, ◌∙◌, ℕ, Some, None, slice_index_or, option_map, is_some, refl, sym, ap, rules}
use Rattle.std.specs.Prelude.{count_by}
use Rattle.std.specs.Option.{unwrap_or}
use Rattle.slab.specs.Slab.{get, slab_len}
use Rattle.fm_lattice.specs.Maps.{lookup, put, keep_new}
use Rattle.fm_net.proofs.Copied.{kept_same}
use Rattle.fm_net.proofs.Shown.{CellIs}
use Rattle.fm_net.proofs.Refilled.{stood_told, fills_told, no_more_told, cells_told, shown_told, filled_again}
use Rattle.fm_net.proofs.slab_map.SlabMap.put.Goals as goal

pub invariant_of-self : goal.invariant_of-self
invariant_of-self g c =
    kept_same g.K.Ord.cmp c.self.inside.cells c.reserve.new.self c.self.inside.places.entries c.self.inside.places.entries (ap (λ s. s.slots) c.in_err-reserve.ensures.rest_kept) refl c.self.invariant

pub invariant_of-self-in_err-place : goal.invariant_of-self-in_err-place
invariant_of-self-in_err-place g c =
    kept_same g.K.Ord.cmp c.self.inside.cells c.reserve.new.self c.self.inside.places.entries _ (ap (λ s. s.slots) c.in_ok-reserve.ensures.rest_kept) (search rules) c.self.invariant

pub invariant_of-self-2 : goal.invariant_of-self-2
invariant_of-self-2 g c =
    let s = c.self.inside.cells in
    let mid = c.try_remove-former.new.self in
    let p = c.in_ok-place.place in
    let es = c.self.inside.places.entries in
    let slots : c.reserve.new.self.slots ≡ s.slots = ap (λ z. z.slots) c.in_ok-reserve.ensures.rest_kept in
    let before : (q : ℕ) → get c.reserve.new.self q ≡ get s q = λ q i. slice_index_or (slots i) q None in
    let empty : get s c.vacant_key-next.result ≡ None = sym (before c.vacant_key-next.result) ∙ c.vacant_key-next.ensures.vacant in
    let told : p ≡ unwrap_or (lookup g.K.Ord.cmp c.args.key es) c.vacant_key-next.result = c.in_ok-place.ensures.place in
    let stood : c.try_remove-former.result ≡ get s p = c.try_remove-former.ensures.value ∙ before p in
    let fills : c.insert_reserved.result ≡ p =
    fills_told g.K.Ord.cmp g.met.K.Ord.total (get s) c.vacant_key-next.result p c.args.key es c.self.invariant.indexed empty told c.try_remove-former.result c.insert_reserved.result stood (search rules) (search rules) in
    let gone : CellIs (get s) (get mid) p None = record { changed = c.try_remove-former.ensures.updates.changed; others = λ q e. c.try_remove-former.ensures.updates.others q e ∙ before q } in
    let filled : CellIs (get mid) (get c.insert_reserved.new.self) c.insert_reserved.result (Some (c.args.key, c.args.value)) = record { changed = c.insert_reserved.ensures.updates.changed; others = c.insert_reserved.ensures.updates.others } in
    let u = filled_again (get s) (get mid) (get c.insert_reserved.new.self) p c.insert_reserved.result (Some (c.args.key, c.args.value)) fills gone filled in
    record {
      indexed = cells_told g.K.Ord.cmp g.met.K.Ord.total (get s) c.vacant_key-next.result p c.args.key es c.self.invariant.indexed empty told c.requires (get c.insert_reserved.new.self) c.args.value _ u (search rules) c.in_ok-place.ensures.rising;
      no_more = no_more_told g.K.Ord.cmp g.met.K.Ord.total (get s) c.vacant_key-next.result p c.args.key es
          c.self.invariant.indexed empty told c.try_remove-former.result (slab_len c.reserve.new.self) (slab_len mid)
          (slab_len c.insert_reserved.new.self) _ stood c.try_remove-former.ensures.len (search rules)
          c.insert_reserved.ensures.len (ap (count_by is_some) slots ∙ c.self.invariant.no_more) (search rules);
    }

pub returns-clause-ok : goal.returns-clause-ok
returns-clause-ok g c =
    let s = c.self.inside.cells in
    let mid = c.try_remove-former.new.self in
    let p = c.in_ok-place.place in
    let es = c.self.inside.places.entries in
    let slots : c.reserve.new.self.slots ≡ s.slots = ap (λ z. z.slots) c.in_ok-reserve.ensures.rest_kept in
    let before : (q : ℕ) → get c.reserve.new.self q ≡ get s q = λ q i. slice_index_or (slots i) q None in
    let empty : get s c.vacant_key-next.result ≡ None = sym (before c.vacant_key-next.result) ∙ c.vacant_key-next.ensures.vacant in
    let told : p ≡ unwrap_or (lookup g.K.Ord.cmp c.args.key es) c.vacant_key-next.result = c.in_ok-place.ensures.place in
    let stood : c.try_remove-former.result ≡ get s p = c.try_remove-former.ensures.value ∙ before p in
    let fills : c.insert_reserved.result ≡ p =
    fills_told g.K.Ord.cmp g.met.K.Ord.total (get s) c.vacant_key-next.result p c.args.key es c.self.invariant.indexed empty told c.try_remove-former.result c.insert_reserved.result stood (search rules) (search rules) in
    let gone : CellIs (get s) (get mid) p None = record { changed = c.try_remove-former.ensures.updates.changed; others = λ q e. c.try_remove-former.ensures.updates.others q e ∙ before q } in
    let filled : CellIs (get mid) (get c.insert_reserved.new.self) c.insert_reserved.result (Some (c.args.key, c.args.value)) = record { changed = c.insert_reserved.ensures.updates.changed; others = c.insert_reserved.ensures.updates.others } in
    let u = filled_again (get s) (get mid) (get c.insert_reserved.new.self) p c.insert_reserved.result (Some (c.args.key, c.args.value)) fills gone filled in
    shown_told g.K.Ord.cmp g.met.K.Ord.total (get s) c.vacant_key-next.result p c.args.key es c.self.invariant.indexed empty told c.requires (get c.insert_reserved.new.self) c.args.value _ u (search rules)
    ∙ ap (put g.K.Ord.cmp keep_new c.args.key c.args.value) c.self.view_is

pub returns-clause-stood : goal.returns-clause-stood
returns-clause-stood g c =
    let s = c.self.inside.cells in
    let mid = c.try_remove-former.new.self in
    let p = c.in_ok-place.place in
    let es = c.self.inside.places.entries in
    let slots : c.reserve.new.self.slots ≡ s.slots = ap (λ z. z.slots) c.in_ok-reserve.ensures.rest_kept in
    let before : (q : ℕ) → get c.reserve.new.self q ≡ get s q = λ q i. slice_index_or (slots i) q None in
    let empty : get s c.vacant_key-next.result ≡ None = sym (before c.vacant_key-next.result) ∙ c.vacant_key-next.ensures.vacant in
    let told : p ≡ unwrap_or (lookup g.K.Ord.cmp c.args.key es) c.vacant_key-next.result = c.in_ok-place.ensures.place in
    let stood : c.try_remove-former.result ≡ get s p = c.try_remove-former.ensures.value ∙ before p in
    c.value_of.ensures
    ∙ ap (option_map (λ e. e.1)) stood
    ∙ stood_told g.K.Ord.cmp g.met.K.Ord.total (get s) c.vacant_key-next.result p c.args.key es c.self.invariant.indexed empty told
    ∙ ap (lookup g.K.Ord.cmp c.args.key) c.self.view_is
