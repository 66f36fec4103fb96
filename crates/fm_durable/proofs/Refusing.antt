-- A line that is refused does nothing to the store.
use Rattle.std.proofs.Common.{◌≡◌, ℕ, List, Option, Some, None, string_bytes, refl, sym, subst}
use Rattle.fm_service.specs.declared.session.Session.{Session}
use Rattle.fm_service.specs.declared.stream_service.StreamService.{StreamService}
use Rattle.fm_service.specs.StreamSteps.{Following}
use Rattle.fm_service.specs.Sessions.{IsIn, AnswersSo}
use Rattle.fm_durable.specs.declared.durable_service.DurableService.{DurableService}
use Rattle.fm_durable.specs.DurableServices.{DeviceModel, ActsOnStore, AnswersDurably}
use Rattle.fm_durable.proofs.Surviving.{keeps_none}

not_both : (s : Option Session) (k : Following) → IsIn s None → IsIn s (Some k) → ⊥
not_both None k h i = i
not_both (Some d) k h i = h

acts_not : (label : List ℕ) (device : DeviceModel) (service : StreamService) (was is : Option Following) → IsIn service.session was → IsIn service.session is → ActsOnStore label device was is service device service
acts_not label device service None None h i = (refl, refl)
acts_not label device service None (Some k) h i = absurd (not_both service.session k h i)
acts_not label device service (Some k) None h i = (refl, refl)
acts_not label device service (Some k) (Some j) h i = (refl, refl)

module _ {T : Type 0} (model : T → DeviceModel) where
  -- the same, with another service
  abbrev pub with_service : DurableService T → StreamService → DurableService T
  with_service old service = record { alloc = old.alloc; service = service; label = old.label; device = old.device; fault = old.fault; growth = old.growth }

  refused_same : (old : DurableService T) (line answer : List ℕ) → AnswersSo old.service line answer old.service → AnswersDurably model old line answer old
  refused_same old line answer so = record {
    label = refl;
    mid = old.service;
    answered = so;
    keeps = keeps_none (model old.device);
    could = λ e. e;
    untouched = λ k is. (refl, refl);
    continues = λ can was is h i. acts_not (string_bytes old.label) (model old.device) old.service was is h i;
  }

  pub refused : (old : DurableService T) (line answer : List ℕ) (service : StreamService) → service ≡ old.service → AnswersSo old.service line answer service
      → AnswersDurably model old line answer (with_service old service) × (with_service old service ≡ old)
  refused old line answer service same so =
      subst (λ (s : StreamService). AnswersSo old.service line answer s → AnswersDurably model old line answer (with_service old s) × (with_service old s ≡ old)) (sym same)
      (λ here. (refused_same old line answer here, refl)) so
