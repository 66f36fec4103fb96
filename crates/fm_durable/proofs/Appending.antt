-- A store that grows by packets, one after another.
use Rattle.std.proofs.Common.{◌≡◌, ◌⊎◌, ◌<◌, ◌≤◌, ◌-◌, ◌^◌, ℕ, Bool, true, cond, List, [], ◌∷◌, ◌++◌, take, length, Option, Some, None, is_some, IfSome, refl, sym, ap, ◌∙◌, subst, inl, inr, le_refl, append_assoc}
use Rattle.std.proofs.KnownBytes.{Appends-nil, Appends-trans}
use Rattle.std.proofs.lemmas.Bool.{cases_lt, lt-leb}
use Rattle.std.proofs.lemmas.List.{append-nil, take_all}
use Rattle.std.specs.Io.KnownBytes.{Appends}
use Rattle.fm_delta.specs.declared.packet.Packet.{Packet}
use Rattle.fm_wire.specs.Grammar.{IsPacket, spelling}
use Rattle.fm_store.specs.Frames.{frame, frames}
use Rattle.fm_store.specs.Tails.{IsTail, IsReadAs, whole_within}
use Rattle.fm_store.specs.Heads.{HeadModel, head_record}
use Rattle.fm_store.specs.Stores.{magic, IsStoreOf, HasStoreOf}
use Rattle.fm_store.specs.declared.frames.Tail.TheVariants.{Clean, Torn}
use Rattle.fm_store.proofs.Opening.{store_push}
use Rattle.fm_store.proofs.Reading.{cut_reads}
use Rattle.fm_durable.specs.DurableServices.{DeviceModel, HoldsStore, HasStoreFront, HoldsFront, HasStoreWith}

-- whatever store there was has these packets more
abbrev pub Grows : Option (List ℕ) → Option (List ℕ) → List Packet → Type 0
Grows old new packets = (head : HeadModel) (ps : List Packet) → IfSome old (IsStoreOf head ps) → IfSome new (IsStoreOf head (ps ++ packets))

pub grows_none : (o : Option (List ℕ)) → Grows o o []
grows_none o head ps h = subst (λ (qs : List Packet). IfSome o (IsStoreOf head qs)) (sym (append-nil ps)) h

pushed : (mid new : Option (List ℕ)) (head : HeadModel) (ps : List Packet) (p : Packet) → IfSome mid (IsStoreOf head ps) → IsPacket p → length (spelling p) < 2 ^ 64
    → Appends mid new (frame (spelling p)) → is_some mid ≡ is_some new → IfSome new (IsStoreOf head (ps ++ p ∷ []))
pushed None None head ps p h packet fits appended alike = tt
pushed None (Some y) head ps p h packet fits appended alike = absurd (let no : ⊥ = cc in no)
pushed (Some x) None head ps p h packet fits appended alike = absurd appended
pushed (Some x) (Some y) head ps p h packet fits appended alike = store_push head x y ps p h packet fits appended

pub grows_more : (old mid new : Option (List ℕ)) (packets : List Packet) (p : Packet) → Grows old mid packets → IsPacket p → length (spelling p) < 2 ^ 64
    → Appends mid new (frame (spelling p)) → is_some mid ≡ is_some new → Grows old new (packets ++ p ∷ [])
grows_more old mid new packets p grows packet fits appended alike head ps h =
    subst (λ (qs : List Packet). IfSome new (IsStoreOf head qs)) (append_assoc ps packets (p ∷ []))
    (pushed mid new head (ps ++ packets) p (grows head ps h) packet fits appended alike)

-- what `HoldsStore` says, of the parts of a device
abbrev pub Held : Option (List ℕ) → ℕ → Bool → HeadModel → List Packet → Type 0
Held content synced sound head packets = IfSome content (λ all. IsStoreOf head packets all × (synced ≡ length all) × (sound ≡ true))

pub store_in : (o : Option (List ℕ)) (synced : ℕ) (sound : Bool) (head : HeadModel) (ps : List Packet) → Held o synced sound head ps → IfSome o (IsStoreOf head ps)
store_in None synced sound head ps h = tt
store_in (Some all) synced sound head ps h = h.0

pub held_in : (o : Option (List ℕ)) (synced : ℕ) (sound : Bool) (head : HeadModel) (ps : List Packet) → IfSome o (IsStoreOf head ps) → IfSome o (λ all. synced ≡ length all) → sound ≡ true
    → Held o synced sound head ps
held_in None synced sound head ps h s so = tt
held_in (Some all) synced sound head ps h s so = (h, s, so)

grown_in : (o n : Option (List ℕ)) (synced then : ℕ) (was is : Bool) (packets : List Packet) → Grows o n packets → (was ≡ true → IfSome n (λ all. then ≡ length all)) → is ≡ was → is_some o ≡ is_some n
    → (head : HeadModel) (ps : List Packet) → Held o synced was head ps → Held n then is head (ps ++ packets)
grown_in None None synced then was is packets grows on_disk same alike head ps h = tt
grown_in None (Some y) synced then was is packets grows on_disk same alike head ps h = absurd (let no : ⊥ = cc in no)
grown_in (Some x) None synced then was is packets grows on_disk same alike head ps h = tt
grown_in (Some x) (Some y) synced then was is packets grows on_disk same alike head ps h = (grows head ps h.0, on_disk h.2, same ∙ h.2)

-- once that is on the disk, the device holds a store with these packets more
pub holds_grown : (old new : DeviceModel) (packets : List Packet) → Grows old.content new.content packets → (old.sound ≡ true → IfSome new.content (λ all. new.synced ≡ length all))
    → new.sound ≡ old.sound → is_some old.content ≡ is_some new.content → (head : HeadModel) (ps : List Packet) → HoldsStore old head ps → HoldsStore new head (ps ++ packets)
holds_grown old new packets grows on_disk same alike head ps h = grown_in old.content new.content old.synced new.synced old.sound new.sound packets grows on_disk same alike head ps h

pub holds_same : (device : DeviceModel) (head : HeadModel) (ps : List Packet) → HoldsStore device head ps → HoldsStore device head (ps ++ [])
holds_same device head ps h = subst (λ (qs : List Packet). HoldsStore device head qs) (sym (append-nil ps)) h

-- ---- a front of a record behind a store

pub whole_store : (head : HeadModel) (ps : List Packet) (bytes : List ℕ) → IsStoreOf head ps bytes → (len : ℕ) × HasStoreOf head ps len bytes
whole_store head ps bytes store =
    let rs = head_record head ∷ store.records in (
      length (magic ++ frames rs),
      record {
        records = store.records;
        rest = [];
        fit = store.fit;
        are = store.are ∙ ap (λ (l : List ℕ). magic ++ l) (sym (append-nil (frames rs)));
        size = refl;
        ends = inl refl;
        packets_are = store.packets_are;
      },
    )

front_tail : (count : ℕ) (r : List ℕ) → length r < 2 ^ 64 → count < length (frame r) → IsTail (take count (frame r)) Clean ⊎ IsTail (take count (frame r)) Torn
front_tail count r fits few =
    let bytes = take count (frames (r ∷ [])) ++ [] in
    let none : whole_within count (r ∷ []) ≡ [] = ap (λ (b : Bool). cond b (r ∷ whole_within (count - length (frame r)) []) []) (lt-leb _ _ few) in
    let is : bytes ≡ take count (frame r) = append-nil (take count (frames (r ∷ []))) ∙ ap (take count) (append-nil (frame r)) in
    elim (cut_reads count (r ∷ []) [] (fits, tt) (λ i. refl)) [
      | inl clean ↦ inl (subst (λ (l : List ℕ). IsTail l Clean) is (subst (λ (rs : List (List ℕ)). IsReadAs bytes rs Clean) none clean))
      | inr torn ↦ inr (subst (λ (l : List ℕ). IsTail l Torn) is (subst (λ (rs : List (List ℕ)). IsReadAs bytes rs Torn) none torn))
    ]

found_whole : (head : HeadModel) (ps : List Packet) (bytes : List ℕ) → IsStoreOf head ps bytes → HasStoreWith head ps bytes
found_whole head ps bytes store =
    let whole = whole_store head ps bytes store in
    ([], whole.0, subst (λ (qs : List Packet). HasStoreOf head qs whole.0 bytes) (sym (append-nil ps)) whole.1)

-- its packets are found, and the one more if its record is whole
found_part : (head : HeadModel) (ps : List Packet) (old new : List ℕ) (p : Packet) (count : ℕ) → IsStoreOf head ps old → IsPacket p → length (spelling p) < 2 ^ 64
    → new ≡ old ++ take count (frame (spelling p)) → HasStoreWith head ps new
found_part head ps old new p count store packet fits is =
    let rs = head_record head ∷ store.records in
    let rest = take count (frame (spelling p)) in
    let len = length (magic ++ frames rs) in
    elim (cases_lt count (length (frame (spelling p)))) [
      | inl few ↦ (
        [],
        len,
        subst (λ (qs : List Packet). HasStoreOf head qs len new) (sym (append-nil ps)) (record {
          records = store.records;
          rest = rest;
          fit = store.fit;
          are = is ∙ ap (λ (l : List ℕ). l ++ rest) store.are ∙ append_assoc magic (frames rs) rest;
          size = refl;
          ends = front_tail count (spelling p) fits few;
          packets_are = store.packets_are;
        }),
      )
      | inr le ↦
          let whole : new ≡ old ++ frame (spelling p) = is ∙ ap (λ (l : List ℕ). old ++ l) (take_all count (frame (spelling p)) le) in
          let pushed_store = whole_store head (ps ++ p ∷ []) new (store_push head old new ps p store packet fits whole) in
          (p ∷ [], pushed_store.0, pushed_store.1)
    ]

some_is : {A : Type 0} (a b : A) → Some a ≡ Some b → a ≡ b
some_is a b e = cc

found_in : (mid new : Option (List ℕ)) (head : HeadModel) (ps : List Packet) (p : Packet) (count : ℕ) → IfSome mid (IsStoreOf head ps) → Appends mid new (take count (frame (spelling p)))
    → (new ≡ mid) ⊎ (IsPacket p × (length (spelling p) < 2 ^ 64)) → is_some mid ≡ is_some new → IfSome new (HasStoreWith head ps)
found_in None None head ps p count h appended part alike = tt
found_in None (Some y) head ps p count h appended part alike = absurd (let no : ⊥ = cc in no)
found_in (Some x) None head ps p count h appended part alike = absurd appended
found_in (Some x) (Some y) head ps p count h appended (inl same) alike = subst (λ (l : List ℕ). HasStoreWith head ps l) (sym (some_is y x same)) (found_whole head ps x h)
found_in (Some x) (Some y) head ps p count h appended (inr both) alike = found_part head ps x y p count h both.0 both.1 appended

found_all : (o : Option (List ℕ)) (head : HeadModel) (ps qs : List Packet) → IfSome o (HasStoreWith head (ps ++ qs)) → IfSome o (HasStoreWith head ps)
found_all None head ps qs h = tt
found_all (Some all) head ps qs h = (qs ++ h.0, h.1, subst (λ (xs : List Packet). HasStoreOf head xs h.1 all) (append_assoc ps qs h.0) h.2)

pub found_store : (o : Option (List ℕ)) (head : HeadModel) (ps : List Packet) → IfSome o (IsStoreOf head ps) → IfSome o (HasStoreWith head ps)
found_store None head ps h = tt
found_store (Some all) head ps h = found_whole head ps all h

-- ---- what was held stays

-- it holds what it held, with more behind, and as much of it is on the disk
pub record HoldsMore (old new : DeviceModel) : Type 0 where
  pub more : List ℕ
  pub content : Appends old.content new.content more
  pub synced : new.synced ≡ old.synced

pub more_none : (device : DeviceModel) → HoldsMore device device
more_none device = record { more = []; content = Appends-nil device.content; synced = refl }

pub more_then : (old mid new : DeviceModel) (bytes : List ℕ) → HoldsMore old mid → Appends mid.content new.content bytes → new.synced ≡ mid.synced → HoldsMore old new
more_then old mid new bytes h appended synced =
    record { more = h.more ++ bytes; content = Appends-trans old.content mid.content new.content h.more bytes h.content appended; synced = synced ∙ h.synced }

more_same : (old mid new : DeviceModel) → HoldsMore old mid → new.content ≡ mid.content → new.synced ≡ mid.synced → HoldsMore old new
more_same old mid new h content synced = record { more = h.more; content = subst (λ (o : Option (List ℕ)). Appends old.content o h.more) (sym content) h.content; synced = synced ∙ h.synced }

front_in : (o n : Option (List ℕ)) (synced then : ℕ) (sound : Bool) (more : List ℕ) (head : HeadModel) (ps : List Packet) → Held o synced sound head ps → Appends o n more
    → is_some o ≡ is_some n → then ≡ synced → IfSome n (HasStoreWith head ps) → IfSome n (HasStoreFront head ps then)
front_in None None synced then sound more head ps h appended alike kept found = tt
front_in None (Some y) synced then sound more head ps h appended alike kept found = absurd (let no : ⊥ = cc in no)
front_in (Some x) None synced then sound more head ps h appended alike kept found = absurd appended
front_in (Some x) (Some y) synced then sound more head ps h appended alike kept found = record {
  front = x;
  more = more;
  is = appended;
  store = h.0;
  on_disk = subst (λ (n : ℕ). length x ≤ n) (sym h.1 ∙ sym kept) (le_refl (length x));
  added = found.0;
  len = found.1;
  found = found.2;
}

pub front_none : (device : DeviceModel) (head : HeadModel) (ps : List Packet) → HoldsStore device head ps → HoldsFront device head ps
front_none device head ps h =
    front_in device.content device.content device.synced device.synced device.sound [] head ps h (Appends-nil device.content) refl refl
    (found_store device.content head ps (store_in device.content device.synced device.sound head ps h))

-- a packet could not be added, and a front of its record is there
pub front_part : (old mid new : DeviceModel) (qs : List Packet) (p : Packet) (count : ℕ) → HoldsMore old mid → Grows old.content mid.content qs → Appends mid.content new.content (take count (frame (spelling p)))
    → (new.content ≡ mid.content) ⊎ (IsPacket p × (length (spelling p) < 2 ^ 64)) → new.synced ≡ mid.synced → is_some old.content ≡ is_some new.content → is_some mid.content ≡ is_some new.content
    → (head : HeadModel) (ps : List Packet) → HoldsStore old head ps → HoldsFront new head ps
front_part old mid new qs p count h grows appended part synced alike alike_mid head ps store =
    let more = more_then old mid new (take count (frame (spelling p))) h appended synced in
    let grown = grows head ps (store_in old.content old.synced old.sound head ps store) in
    let found = found_all new.content head ps qs (found_in mid.content new.content head (ps ++ qs) p count grown appended part alike_mid) in
    front_in old.content new.content old.synced new.synced old.sound more.more head ps store more.content alike more.synced found

-- all packets were added, and it is not known whether they are on the disk
pub front_added : (old mid new : DeviceModel) (qs : List Packet) → HoldsMore old mid → Grows old.content mid.content qs → new.content ≡ mid.content → new.synced ≡ mid.synced
    → is_some old.content ≡ is_some new.content → (head : HeadModel) (ps : List Packet) → HoldsStore old head ps → HoldsFront new head ps
front_added old mid new qs h grows content synced alike head ps store =
    let more = more_same old mid new h content synced in
    let grown = subst (λ (o : Option (List ℕ)). IfSome o (IsStoreOf head (ps ++ qs))) (sym content) (grows head ps (store_in old.content old.synced old.sound head ps store)) in
    front_in old.content new.content old.synced new.synced old.sound more.more head ps store more.content alike more.synced (found_all new.content head ps qs (found_store new.content head (ps ++ qs) grown))
