-- What no line of a stream takes away, if no step, no merge and no renewal does.
use Rattle.std.proofs.Common.{◌≡◌, ℕ, List, Option, Some, None, sym, subst, inl, inr}
use Rattle.fm_records.specs.declared.ops.Op.{Op}
use Rattle.fm_delta.specs.declared.packet.Packet.{Packet}
use Rattle.fm_coord.specs.declared.entry.Range.{Range}
use Rattle.fm_coord.specs.Events.{Sent, Replica}
use Rattle.fm_world.specs.declared.step.Step.{Step}
use Rattle.fm_world.specs.Worlds.{WorldOfSets, step_of, taken_in}
use Rattle.fm_script.specs.declared.script.ScriptAct.{ScriptAct}
use Rattle.fm_script.specs.declared.script.ScriptAct.TheVariants as act
use Rattle.fm_script.specs.Requests.{RequestModel, Opens, Does, Cuts, News, OwnNews, Takes, Asks, Agrees, Versions, Renews}
use Rattle.fm_service.specs.WorldSteps as acting
use Rattle.fm_service.specs.WorldSteps.{WorldStep}
use Rattle.fm_service.specs.Renewing.{renewed_world}
use Rattle.fm_service.specs.StreamSteps.{Following, fresh, at_world, packet_by_ops, StreamActStep, CutsMaybe, DoesAt, DoesIn, Settles, Answers}

pub some_is : {A : Type 0} (a b : A) → Some a ≡ Some b → a ≡ b
some_is a b e = cc

-- of the stored marks and the replicas
module _ (P : List ℕ → List Replica → Type 0) (on_step : (marks : List ℕ) (w : WorldOfSets) (s : Step) → P marks w.replicas → P marks (step_of w s).replicas)
    (on_taken : (marks : List ℕ) (w : WorldOfSets) (at : ℕ) (packet : Sent) → P marks w.replicas → P marks (taken_in w at 0 packet).replicas)
    (on_anew : (k : Following) → P k.stored_marks k.world.replicas → P (fresh (renewed_world k.world)).stored_marks (renewed_world k.world).replicas) where
  abbrev Holds : Following → Type 0
  Holds k = P k.stored_marks k.world.replicas

  module _ (k : Following) (h : Holds k) where
    -- a world that a step makes
    by_step : (s : Step) (v : WorldOfSets) → WorldStep k.world s v → Holds (at_world k v)
    by_step s v made = subst (λ (u : WorldOfSets). Holds (at_world k u)) (sym made.made) (on_step k.stored_marks k.world s h)

    by_cut : (at : ℕ) (range : Range) (text : List ℕ) (v : WorldOfSets) → acting.Cuts k.world at range text v → Holds (at_world k v)
    by_cut at range text v cuts = by_step _ v cuts.cut

    by_maybe : (at : ℕ) (range : Option Range) (text : List ℕ) (v : WorldOfSets) → CutsMaybe k.world at range text v → Holds (at_world k v)
    by_maybe at None text v is = subst (λ (u : WorldOfSets). Holds (at_world k u)) (sym is.1) h
    by_maybe at (Some range) text v cuts = by_cut at range text v cuts

    by_act : (at : ℕ) (a : ScriptAct) (text : List ℕ) (v : WorldOfSets) → StreamActStep k at a text v → Holds (at_world k v)
    by_act at (act.Tell op) text v s = by_step _ v s.1
    by_act at (act.Cut range) text v s = by_cut at range text v s
    by_act at (act.Deliver place) text v s = by_step _ v s.1
    by_act at (act.Trim n) text v s = by_step _ v s.1
    by_act at (act.Round kind) text v s = by_step _ v s.commit

    done : (behind : Packet → List Op) (asked : RequestModel) (text : List ℕ) (j : Following) → DoesAt behind k asked text j → Holds j
    done behind (Opens listed) text j d = absurd d
    done behind (Does step) text j d = subst Holds (sym d.2) (by_act step.at step.act text d.0 d.1)
    done behind (Cuts at range name) text j d = subst Holds (sym d.2) (by_cut at range text d.0 d.1)
    done behind (News at) text j d = subst Holds (sym d.is) (by_cut at _ text d.v d.cuts)
    done behind (OwnNews at) text j d = subst Holds (sym d.is) (by_maybe at _ text d.v d.cuts)
    done behind (Takes at digits) text j d = subst Holds (sym d.1.is) (on_taken k.stored_marks k.world at (packet_by_ops behind d.1.packet) h)
    done behind (Asks at question) text j d = subst Holds (sym d.1) h
    done behind Agrees text j d = subst Holds (sym d.1) h
    done behind Versions text j d = subst Holds (sym d.1) h
    done behind Renews text j d = subst Holds (sym d.1) (on_anew k h)

  settled : (most : ℕ) (i j : Following) → Settles most (Some i) (Some j) → Holds i → Holds j
  settled most i j (inl same) h = subst Holds (sym (some_is j i same)) h
  settled most i j (inr (k, is, due, anew)) h = subst Holds (sym (some_is j _ anew)) (on_anew k (subst Holds (some_is i k is) h))

  module _ (most : ℕ) (behind : Packet → List Op) (k j : Following) (h : Holds k) where
    accepted : (asked : RequestModel) (text : List ℕ) (made : Option Following) → DoesIn behind (Some k) asked text made → Settles most made (Some j) → Holds j
    accepted asked text made does settles =
        settled most does.0 j (subst (λ o. Settles most o (Some j)) does.2 settles) (done k h behind asked text does.0 does.1)

    pub stays_so : (line answer : List ℕ) → Answers most behind (Some k) line answer (Some j) → Holds j
    stays_so line answer (inl a) = accepted a.asked a.text a.made a.does a.settles
    stays_so line answer (inr (inl r)) = subst Holds (sym (some_is j k r.same)) h
    stays_so line answer (inr (inr c)) = subst Holds (sym (some_is j k c.same)) h
