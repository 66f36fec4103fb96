-- What is not stored, as packets, and where a stream is once it is stored.
use Rattle.std.proofs.Common.{◌≡◌, ◌<◌, ◌+◌, ◌==◌, ℕ, Bool, true, false, cond, List, [], ◌∷◌, ◌++◌, Option, Some, None, is_some, option_map, map, take, length, get_or, replicate, slice_set, refl, sym, ap, ◌∙◌, subst, arith, eqb-true}
use Rattle.std.specs.List.{filter_map, cons_option}
use Rattle.std.proofs.lemmas.Bool.{eqb-false}
use Rattle.std.proofs.lemmas.List.{map-append, map_more, same_lists, get_or-set_same, get_or-set_other, length-set, length-replicate, get_or-replicate, get_or_default}
use Rattle.std.proofs.lemmas.List.Elements.{filter_map-append}
use Rattle.std.proofs.lemmas.List.FromFn.{length-map-range_with_len, get_or-map-range_with_len}
use Rattle.fm_records.specs.declared.ops.Op.{Op}
use Rattle.fm_delta.specs.declared.packet.Packet.{Packet}
use Rattle.fm_coord.specs.Events.{Sent, Replica}
use Rattle.fm_coord.specs.Replays.{seen_packet}
use Rattle.fm_coord.specs.States.{WithKeeper}
use Rattle.fm_world.specs.declared.step.Act.TheVariants.{Take}
use Rattle.fm_world.specs.Worlds.{WorldOfSets, with_number, cause_of, taken_in}
use Rattle.fm_world.specs.Represents.{number_of}
use Rattle.fm_service.specs.declared.session.Session.{Session}
use Rattle.fm_service.specs.declared.storing.Extent.{Extent}
use Rattle.fm_service.specs.declared.storing.Extent.TheVariants.{Unstored, Full}
use Rattle.fm_service.specs.Renewing.{whole_of}
use Rattle.fm_service.specs.WorldSteps.{step_at}
use Rattle.fm_service.specs.StreamSteps.{Following, packet_by_ops}
use Rattle.fm_service.specs.Sessions.{SessionAt, IsIn}
use Rattle.fm_service.specs.Storing.{stored_mark_at, unstored_by, end_in, ends_of, restored_world, AreRestorable}
use Rattle.fm_service.specs.inner.Extents.{packet_by}
use Rattle.fm_service.specs.inner.SetEnds.{ends_set}

-- which packets are made of whom

pub nobody : (e : Extent) (k : Following) (n : ℕ) → with_number k.world.replicas n ≡ None → option_map seen_packet (packet_by e k n) ≡ None
nobody Unstored k n none = ap (λ o. option_map seen_packet (unstored_by (stored_mark_at k n) o)) none
nobody Full k n none = ap (λ o. option_map seen_packet (option_map whole_of o)) none

-- packets one after another

pub told_so : (o : Option Sent) (made : Option Packet) → made ≡ option_map seen_packet o → map seen_packet (cons_option o []) ≡ cons_option made []
told_so None made is = ap (λ (m : Option Packet). cons_option m []) (sym is)
told_so (Some p) made is = ap (λ (m : Option Packet). cons_option m []) (sym is)

module _ {N : Type 0} (f : ℕ → Option Sent) (cs : List (WithKeeper N)) where
  -- the packets of the first coordinators
  abbrev pub packets_of_first : ℕ → List Packet
  packets_of_first i = map seen_packet (filter_map f (map number_of (take i cs)))

  one_further : (i : ℕ) (c : WithKeeper N) → i < length cs → c ≡ get_or cs i c → map number_of (take (i + 1) cs) ≡ map number_of (take i cs) ++ number_of c ∷ []
  one_further i c lt is = map_more number_of cs i c lt ∙ ap (λ (d : WithKeeper N). map number_of (take i cs) ++ number_of d ∷ []) (sym is)

  pub one_packet : (i : ℕ) (c : WithKeeper N) → i < length cs → c ≡ get_or cs i c → (n : ℕ) → n ≡ c.state.number → (made : Option Packet) → made ≡ option_map seen_packet (f n)
      → packets_of_first i ++ cons_option made [] ≡ packets_of_first (i + 1)
  one_packet i c lt is n its made made_is =
      let first = map number_of (take i cs) in
      sym (
      ap (λ ns. map seen_packet (filter_map f ns)) (one_further i c lt is ∙ ap (λ m. first ++ m ∷ []) (sym its))
      ∙ ap (map seen_packet) (filter_map-append f first (n ∷ []))
      ∙ map-append seen_packet (filter_map f first) (filter_map f (n ∷ []))
      ∙ ap (λ ps. packets_of_first i ++ ps) (told_so (f n) made made_is)
      )

-- the marks that are set are the ends

abbrev or_end : Option Replica → ℕ → ℕ
or_end None mark = mark
or_end (Some r) mark = length r.buffer

length_set : (rs : List Replica) (marks : List ℕ) → length (ends_set rs marks) ≡ length marks
length_set [] marks = refl
length_set (r ∷ rs) marks = length-set (ends_set rs marks) r.number (length r.buffer) ∙ length_set rs marks

set_one : (b : Bool) (r : Replica) (o : Option Replica) (marks : List ℕ) (n mark : ℕ) → (r.number == n) ≡ b → n < length marks → get_or marks n 0 ≡ or_end o mark
    → get_or (slice_set marks r.number (length r.buffer)) n 0 ≡ or_end (cond b (Some r) o) mark
set_one true r o marks n mark is lt rest =
    let same : r.number ≡ n = eqb-true r.number n is in
    ap (λ m. get_or (slice_set marks m (length r.buffer)) n 0) same ∙ get_or-set_same marks n (length r.buffer) 0 lt
set_one false r o marks n mark is lt rest = get_or-set_other marks r.number n (length r.buffer) 0 (λ same. eqb-false r.number n is (sym same)) ∙ rest

ends_at : (rs : List Replica) (marks : List ℕ) (n : ℕ) → n < length marks → get_or (ends_set rs marks) n 0 ≡ or_end (with_number rs n) (get_or marks n 0)
ends_at [] marks n lt = refl
ends_at (r ∷ rs) marks n lt =
    set_one (r.number == n) r (with_number rs n) (ends_set rs marks) n (get_or marks n 0) refl (omega (arith, length_set rs marks)) (ends_at rs marks n lt)

none_is : (o : Option Replica) → or_end o 0 ≡ end_in o
none_is None = refl
none_is (Some r) = refl

pub ends_are : (rs : List Replica) → ends_set rs (replicate 256 0) ≡ ends_of rs
ends_are rs =
    let none : ℕ = 0 in
    let zeros : List ℕ = replicate 256 none in
    let end : ℕ → ℕ = λ n. end_in (with_number rs n) in
    let many : length zeros ≡ 256 = length-replicate 256 none in
    let set : length (ends_set rs zeros) ≡ 256 = length_set rs zeros ∙ many in
    let ends : length (ends_of rs) ≡ 256 = length-map-range_with_len end 0 256 in
    same_lists (ends_set rs zeros) (ends_of rs) (set ∙ sym ends)
    (λ n d lt.
    let below : n < 256 = omega (arith, set) in
    get_or_default (ends_set rs zeros) n d 0 lt
    ∙ ends_at rs zeros n (omega (arith, many))
    ∙ ap (or_end (with_number rs n)) (get_or-replicate 256 n none none below)
    ∙ none_is (with_number rs n)
    ∙ sym (get_or-map-range_with_len end 0 256 n n d below (omega arith)))

-- packets that are merged one after another

module _ (behind : Packet → List Op) where
  pub restored_more : (w : WorldOfSets) (ps : List Packet) (p : Packet) → restored_world behind w (ps ++ p ∷ []) ≡ taken_in (restored_world behind w ps) p.sender 0 (packet_by_ops behind p)
  restored_more w [] p = refl
  restored_more w (q ∷ ps) p = restored_more (taken_in w q.sender 0 (packet_by_ops behind q)) ps p

  pub restorable_more : (w : WorldOfSets) (ps : List Packet) (p : Packet) → AreRestorable behind w ps → cause_of (restored_world behind w ps) (step_at p.sender (Take p)) ≡ None → AreRestorable behind w (ps ++ p ∷ [])
  restorable_more w [] p h none = (none, tt)
  restorable_more w (q ∷ ps) p h none = (h.0, restorable_more (taken_in w q.sender 0 (packet_by_ops behind q)) ps p h.1 none)

-- where a stream is, if its session is there

pub open_so : (s : Option Session) (o : Option Following) → IsIn s o → is_some s ≡ is_some o
open_so None None h = refl
open_so None (Some k) h = absurd h
open_so (Some d) None h = absurd h
open_so (Some d) (Some k) h = refl

-- what holds of wherever it is
pub not_open : (P : Option Following → Type 0) (s : Option Session) → s ≡ None → P None → (o : Option Following) → IsIn s o → P o
not_open P None e p None h = p
not_open P None e p (Some k) h = absurd h
not_open P (Some d) e p o h = absurd (let no : ⊥ = cc in no)

pub is_open : (P : Option Following → Type 0) (s : Option Session) (d : Session) → s ≡ Some d → ((k : Following) → SessionAt d k → P (Some k)) → (o : Option Following) → IsIn s o → P o
is_open P None d e p o h = absurd (let no : ⊥ = cc in no)
is_open P (Some c) d e p None h = absurd h
is_open P (Some c) d e p (Some k) h = p k (subst (λ (x : Session). SessionAt x k) (let same : c ≡ d = cc in same) h)
