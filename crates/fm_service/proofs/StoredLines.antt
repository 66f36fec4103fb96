-- No line of a stream takes anything away of what is stored and what was taken in since, or changes which coordinators are listed.
use Rattle.std.proofs.Common.{◌≡◌, ℕ, List, [], ◌∷◌, Option, Some, None, map, refl, sym, ap, ◌∙◌, subst, inl, inr}
use Rattle.fm_records.specs.declared.ops.Op.{Op}
use Rattle.fm_delta.specs.declared.packet.Packet.{Packet}
use Rattle.fm_coord.specs.Events.{Sent, Replica, happens}
use Rattle.fm_coord.specs.Events as event
use Rattle.fm_world.specs.declared.step.Step.{Step}
use Rattle.fm_world.specs.Worlds.{WorldOfSets, event_asked, after_maybe, step_of, taken_in}
use Rattle.fm_script.specs.Requests.{RequestModel, Opens, Does, Cuts, News, OwnNews, Takes, Asks, Agrees, Versions, Renews}
use Rattle.fm_script.specs.Openings.{new_world}
use Rattle.fm_service.specs.Renewing.{renewed_replica, renewed_world}
use Rattle.fm_service.specs.StreamSteps.{Following, fresh, DoesIn, Settles, Answers}
use Rattle.fm_service.specs.Storing.{numbers_listed, AreStored, HaveNothing, nothing_stored}
use Rattle.fm_service.proofs.Anew.{number, same_number, same_acted, same_changed}
use Rattle.fm_service.proofs.Lines.{some_is, stays_so}
use Rattle.fm_service.proofs.StoredSets.{Stored, step_stored, taken_stored, anew_stored, new_stored, new_nothing, renewed_nothing}

no_some : {A P : Type 0} (a : A) → Some a ≡ None → P
no_some a e = absurd (let no : ⊥ = cc in no)

pub answered : (S : ℕ → List Op) (most : ℕ) (behind : Packet → List Op) (k j : Following) → AreStored S k → (line answer : List ℕ) → Answers most behind (Some k) line answer (Some j) → AreStored S j
answered S most behind k j h line answer a =
    stays_so (Stored S) (step_stored S) (taken_stored S) (anew_stored S) most behind k j h line answer a

-- the coordinators that are listed

abbrev Listed : List ℕ → List ℕ → List Replica → Type 0
Listed ns marks rs = map number rs ≡ ns

step_listed : (ns marks : List ℕ) (w : WorldOfSets) (s : Step) → Listed ns marks w.replicas → Listed ns marks (step_of w s).replicas
step_listed ns marks w s is =
    same_changed s.at (after_maybe s.by (event_asked w.packets s.act)) (same_acted s.by (event_asked w.packets s.act)) w.replicas ∙ is

taken_listed : (ns marks : List ℕ) (w : WorldOfSets) (at : ℕ) (packet : Sent) → Listed ns marks w.replicas → Listed ns marks (taken_in w at 0 packet).replicas
taken_listed ns marks w at packet is = same_changed at (λ r. happens r 0 (event.Merge packet)) (same_number 0 (event.Merge packet)) w.replicas ∙ is

renewed_listed : (rs : List Replica) → map number (map renewed_replica rs) ≡ map number rs
renewed_listed [] = refl
renewed_listed (r ∷ rs) = ap (λ ns. r.number ∷ ns) (renewed_listed rs)

pub stay_listed : (most : ℕ) (behind : Packet → List Op) (k j : Following) (line answer : List ℕ) → Answers most behind (Some k) line answer (Some j) → numbers_listed (Some j) ≡ numbers_listed (Some k)
stay_listed most behind k j line answer a =
    let ns = numbers_listed (Some k) in
    stays_so (Listed ns) (step_listed ns) (taken_listed ns) (λ i is. renewed_listed i.world.replicas ∙ is) most behind k j refl line answer a

-- coordinators that a line lists

abbrev IsBegun : Following → Type 0
IsBegun k = HaveNothing k × AreStored nothing_stored k

begun : (most : ℕ) (listed : List ℕ) (k : Following) → Settles most (Some (fresh (new_world listed))) (Some k) → IsBegun k
begun most listed k (inl same) = subst IsBegun (sym (some_is k (fresh (new_world listed)) same)) (new_nothing listed, new_stored listed)
begun most listed k (inr (i, is, due, anew)) =
    let old : IsBegun i = subst IsBegun (some_is (fresh (new_world listed)) i is) (new_nothing listed, new_stored listed) in
    subst IsBegun (sym (some_is k (fresh (renewed_world i.world)) anew)) (renewed_nothing i old.0, anew_stored nothing_stored i old.1)

opens : (most : ℕ) (behind : Packet → List Op) (asked : RequestModel) (text : List ℕ) (made : Option Following) (k : Following) → DoesIn behind None asked text made → Settles most made (Some k) → IsBegun k
opens most behind (Opens listed) text made k does settles = begun most listed k (subst (λ o. Settles most o (Some k)) does.1 settles)
opens most behind (Does step) text made k does settles = absurd does
opens most behind (Cuts at range name) text made k does settles = absurd does
opens most behind (News at) text made k does settles = absurd does
opens most behind (OwnNews at) text made k does settles = absurd does
opens most behind (Takes at digits) text made k does settles = absurd does
opens most behind (Asks at question) text made k does settles = absurd does
opens most behind Agrees text made k does settles = absurd does
opens most behind Versions text made k does settles = absurd does
opens most behind Renews text made k does settles = absurd does

pub opened : (most : ℕ) (behind : Packet → List Op) (line answer : List ℕ) (k : Following) → Answers most behind None line answer (Some k) → IsBegun k
opened most behind line answer k (inl a) = opens most behind a.asked a.text a.made k a.does a.settles
opened most behind line answer k (inr (inl r)) = no_some k r.same
opened most behind line answer k (inr (inr c)) = no_some k c.same
