-- What was found on a device is found there still, or what says the same of each coordinator.
use Rattle.std.proofs.Common.{◌≡◌, ℕ, List, [], ◌++◌, Option, Some, None, is_some, IfSome, refl, sym, ap, ◌∙◌, subst, inl, inr, append_assoc}
use Rattle.std.proofs.lemmas.List.{append-nil}
use Rattle.fm_delta.specs.declared.packet.Packet.{Packet}
use Rattle.fm_store.specs.Heads.{HeadModel}
use Rattle.fm_store.specs.Stores.{IsStoreOf, HasStoreOf, AreFoundIn, KeepsStore, recovered}
use Rattle.fm_store.proofs.Finding.{finished}
use Rattle.fm_store.proofs.OneStore.{one_store}
use Rattle.fm_durable.specs.DurableServices.{DeviceModel, HoldsStore, HasStoreFront, HoldsFront, AreKnownAlike, HasStoreWith, KeepsStores, HasStoreAlike, KeepsKnown}
use Rattle.fm_durable.proofs.Appending.{whole_store, store_in, found_store}
use Rattle.fm_durable.proofs.Recovering.{recovered_alike}

with_none : (head : HeadModel) (ps : List Packet) (len : ℕ) (all : List ℕ) → HasStoreOf head ps len all → HasStoreWith head ps all
with_none head ps len all has = ([], len, subst (λ (qs : List Packet). HasStoreOf head qs len all) (sym (append-nil ps)) has)

some_with : (o : Option (List ℕ)) (head : HeadModel) (ps : List Packet) (len : ℕ) → IfSome o (HasStoreOf head ps len) → IfSome o (HasStoreWith head ps)
some_with None head ps len h = tt
some_with (Some all) head ps len h = with_none head ps len all h

pub keeps_none : (device : DeviceModel) → KeepsStores device device
keeps_none device head ps len h = some_with device.content head ps len h

pub keeps_same : (old new : DeviceModel) → new ≡ old → KeepsStores old new
keeps_same old new same = subst (λ (d : DeviceModel). KeepsStores old d) (sym same) (keeps_none old)

failed_in : (o n : Option (List ℕ)) → is_some o ≡ is_some n → (head : HeadModel) (ps : List Packet) (len : ℕ) → KeepsStore head o n → IfSome o (HasStoreOf head ps len) → IfSome n (HasStoreWith head ps)
failed_in None None alike head ps len keeps h = tt
failed_in None (Some y) alike head ps len keeps h = absurd (let no : ⊥ = cc in no)
failed_in (Some x) n alike head ps len keeps h = some_with n head ps len (keeps ps len h)

-- a store that could not be opened
pub keeps_failed : (old new : DeviceModel) → is_some old.content ≡ is_some new.content → ((head : HeadModel) → KeepsStore head old.content new.content) → KeepsStores old new
keeps_failed old new alike keeps head ps len h = failed_in old.content new.content alike head ps len (keeps head) h

found_one : (head own : HeadModel) (ps qs : List Packet) (len : ℕ) (x y : List ℕ) → HasStoreOf head ps len x → AreFoundIn own qs x → HasStoreWith own qs y → HasStoreWith head ps y
found_one head own ps qs len x y has (inl none) found = absurd (finished head ps len x has none.1)
found_one head own ps qs len x y has (inr there) found =
    let one = one_store head own ps qs len there.0 x has there.1 in
    subst (λ (h : HeadModel). HasStoreWith h ps y) (sym one.0) (subst (λ (xs : List Packet). HasStoreWith own xs y) (sym one.1) found)

kept_in : (o n : Option (List ℕ)) → is_some o ≡ is_some n → (head own : HeadModel) (ps qs : List Packet) (len : ℕ) → IfSome o (AreFoundIn own qs) → IfSome n (HasStoreWith own qs)
    → IfSome o (HasStoreOf head ps len) → IfSome n (HasStoreWith head ps)
kept_in None None alike head own ps qs len was found h = tt
kept_in None (Some y) alike head own ps qs len was found h = absurd (let no : ⊥ = cc in no)
kept_in (Some x) None alike head own ps qs len was found h = tt
kept_in (Some x) (Some y) alike head own ps qs len was found h = found_one head own ps qs len x y h was found

-- a store that was opened
pub keeps_opened : (old new : DeviceModel) → is_some old.content ≡ is_some new.content → (own : HeadModel) (qs : List Packet) → IfSome old.content (AreFoundIn own qs)
    → IfSome new.content (IsStoreOf own qs) → KeepsStores old new
keeps_opened old new alike own qs was left head ps len h = kept_in old.content new.content alike head own ps qs len was (found_store new.content own qs left) h

found_whole : (o : Option (List ℕ)) (own : HeadModel) (qs : List Packet) → IfSome o (IsStoreOf own qs) → IfSome o (AreFoundIn own qs)
found_whole None own qs h = tt
found_whole (Some x) own qs h = inr (whole_store own qs x h)

more_in : (o : Option (List ℕ)) (own : HeadModel) (qs more : List Packet) → IfSome o (HasStoreWith own (qs ++ more)) → IfSome o (HasStoreWith own qs)
more_in None own qs more h = tt
more_in (Some x) own qs more h = (more ++ h.0, h.1, subst (λ (xs : List Packet). HasStoreOf own xs h.1 x) (append_assoc qs more h.0) h.2)

-- a store that grew
pub keeps_grown : (old new : DeviceModel) → is_some old.content ≡ is_some new.content → (own : HeadModel) (qs more : List Packet) → HoldsStore old own qs → HoldsStore new own (qs ++ more) → KeepsStores old new
keeps_grown old new alike own qs more held holds head ps len h =
    kept_in old.content new.content alike head own ps qs len (found_whole old.content own qs (store_in old.content old.synced old.sound own qs held))
    (more_in new.content own qs more (found_store new.content own (qs ++ more) (store_in new.content new.synced new.sound own (qs ++ more) holds))) h

front_with : (o : Option (List ℕ)) (synced : ℕ) (own : HeadModel) (qs : List Packet) → IfSome o (HasStoreFront own qs synced) → IfSome o (HasStoreWith own qs)
front_with None synced own qs h = tt
front_with (Some x) synced own qs h = (h.added, h.len, h.found)

-- a store that could not grow
pub keeps_front : (old new : DeviceModel) → is_some old.content ≡ is_some new.content → (own : HeadModel) (qs : List Packet) → HoldsStore old own qs → HoldsFront new own qs → KeepsStores old new
keeps_front old new alike own qs held holds head ps len h =
    kept_in old.content new.content alike head own ps qs len (found_whole old.content own qs (store_in old.content old.synced old.sound own qs held))
    (front_with new.content new.synced own qs holds) h

-- ---- what coordinators would know by it

alike_with : (head : HeadModel) (ps : List Packet) (all : List ℕ) → HasStoreWith head ps all → HasStoreAlike head ps all
alike_with head ps all h = record { found = ps ++ h.0; added = h.0; len = h.1; has = h.2; alike = λ n lt m. refl }

some_alike : (o : Option (List ℕ)) (head : HeadModel) (ps : List Packet) → IfSome o (HasStoreWith head ps) → IfSome o (HasStoreAlike head ps)
some_alike None head ps h = tt
some_alike (Some all) head ps h = alike_with head ps all h

pub known_kept : (old new : DeviceModel) → KeepsStores old new → KeepsKnown old new
known_kept old new keeps head ps len h = some_alike new.content head ps (keeps head ps len h)

-- in the place of a store there is one by which the same is known
put_one : (own : HeadModel) (qs more full : List Packet) (y : List ℕ) → HasStoreWith own full y → AreKnownAlike own.numbers full (qs ++ more) → HasStoreAlike own qs y
put_one own qs more full y h same = record {
  found = full ++ h.0;
  added = more ++ h.0;
  len = h.1;
  has = h.2;
  alike = λ n lt m. recovered_alike n full (qs ++ more) h.0 (same n lt m) ∙ ap (recovered n) (append_assoc qs more h.0);
}

alike_one : (head own : HeadModel) (ps qs : List Packet) (len : ℕ) (x y : List ℕ) → HasStoreOf head ps len x → AreFoundIn own qs x → HasStoreAlike own qs y → HasStoreAlike head ps y
alike_one head own ps qs len x y has (inl none) found = absurd (finished head ps len x has none.1)
alike_one head own ps qs len x y has (inr was) found =
    let one = one_store head own ps qs len was.0 x has was.1 in
    subst (λ (h : HeadModel). HasStoreAlike h ps y) (sym one.0) (subst (λ (xs : List Packet). HasStoreAlike own xs y) (sym one.1) found)

put_in : (o n : Option (List ℕ)) → is_some o ≡ is_some n → (head own : HeadModel) (ps qs more full : List Packet) (len : ℕ) → IfSome o (AreFoundIn own qs) → IfSome n (HasStoreWith own full)
    → AreKnownAlike own.numbers full (qs ++ more) → IfSome o (HasStoreOf head ps len) → IfSome n (HasStoreAlike head ps)
put_in None None alike head own ps qs more full len was found same h = tt
put_in None (Some y) alike head own ps qs more full len was found same h = absurd (let no : ⊥ = cc in no)
put_in (Some x) None alike head own ps qs more full len was found same h = tt
put_in (Some x) (Some y) alike head own ps qs more full len was found same h = alike_one head own ps qs len x y h was (put_one own qs more full y found same)

pub keeps_put : (old new : DeviceModel) → is_some old.content ≡ is_some new.content → (own : HeadModel) (qs more full : List Packet) → HoldsStore old own qs → HoldsStore new own full
    → AreKnownAlike own.numbers full (qs ++ more) → KeepsKnown old new
keeps_put old new alike own qs more full held holds same head ps len h =
    put_in old.content new.content alike head own ps qs more full len (found_whole old.content own qs (store_in old.content old.synced old.sound own qs held))
    (found_store new.content own full (store_in new.content new.synced new.sound own full holds)) same h

alike_then : (head : HeadModel) (ps : List Packet) (y z : List ℕ) (h : HasStoreAlike head ps y) → HasStoreAlike head h.found z → HasStoreAlike head ps z
alike_then head ps y z h g = record {
  found = g.found;
  added = h.added ++ g.added;
  len = g.len;
  has = g.has;
  alike = λ n lt m. g.alike n lt m ∙ recovered_alike n h.found (ps ++ h.added) g.added (h.alike n lt m) ∙ ap (recovered n) (append_assoc ps h.added g.added);
}

then_in : (a b c : Option (List ℕ)) → is_some a ≡ is_some b → is_some a ≡ is_some c → (head : HeadModel) (ps : List Packet) → IfSome b (HasStoreAlike head ps)
    → ((qs : List Packet) (len : ℕ) → IfSome b (HasStoreOf head qs len) → IfSome c (HasStoreAlike head qs)) → IfSome c (HasStoreAlike head ps)
then_in a b None first last head ps h later = tt
then_in None None (Some z) first last head ps h later = absurd (let no : ⊥ = cc in no)
then_in None (Some y) (Some z) first last head ps h later = absurd (let no : ⊥ = cc in no)
then_in (Some x) None (Some z) first last head ps h later = absurd (let no : ⊥ = cc in no)
then_in (Some x) (Some y) (Some z) first last head ps h later = alike_then head ps y z h (later h.found h.len h.has)

pub keeps_then : (a b c : DeviceModel) → is_some a.content ≡ is_some b.content → is_some a.content ≡ is_some c.content → KeepsKnown a b → KeepsKnown b c → KeepsKnown a c
keeps_then a b c first last p q head ps len h = then_in a.content b.content c.content first last head ps (p head ps len h) (q head)
