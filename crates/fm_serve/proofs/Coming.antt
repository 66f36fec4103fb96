-- What steps come to, one after another.
use Rattle.std.proofs.Common.{◌≡◌, ◌<◌, ◌≤◌, ◌+◌, ℕ, List, [], ◌∷◌, ◌++◌, Some, length, take, get_or, refl, sym, ap, ◌∙◌, subst}
use Rattle.std.proofs.lemmas.List.{take_more, take_all}
use Rattle.std.proofs.lemmas.Option.{slice_get-get_or}
use Rattle.fm_records.specs.declared.refusal.Refusal.{Refusal}
use Rattle.fm_world.specs.Worlds.{WorldOfSets}
use Rattle.fm_world.specs.Represents.{Kept, WorldRepresents}
use Rattle.fm_world.proofs.Runs.{each_knows, same_agree}
use Rattle.fm_script.specs.declared.script.ScriptStep.{ScriptStep}
use Rattle.fm_script.specs.Openings.{new_world}
use Rattle.fm_serve.specs.ScriptSteps.{ScriptActStep, Come, Refuses, StopsIn, IsRun}

come_more : (w v u : WorldOfSets) (ss : List ScriptStep) (s : ScriptStep) → Come w ss v → ScriptActStep v s.at s.act u → Come w (ss ++ s ∷ []) u
come_more w v u [] s h a = (u, subst (λ x. ScriptActStep x s.at s.act u) (sym h) a, refl)
come_more w v u (t ∷ ss) s h a = (h.0, h.1, come_more h.0 v u ss s h.2 a)

module _ (w v : WorldOfSets) (ss : List ScriptStep) (i : ℕ) (s : ScriptStep) (lt : i < length ss) (is : s ≡ get_or ss i s) (came : Come w (take i ss) v) where
  pub come_next : (u : WorldOfSets) → ScriptActStep v s.at s.act u → Come w (take (i + 1) ss) u
  come_next u a = subst (λ ts. Come w ts u) (sym (take_more ss i s lt ∙ ap (λ (t : ScriptStep). take i ss ++ t ∷ []) (sym is))) (come_more w v u (take i ss) s came a)

  pub stops_in : (refusal : Refusal) → Refuses v s.at s.act refusal → StopsIn w ss (record { refusal = refusal; step = Some (i + 1) })
  stops_in refusal refused =
      record { place = i; step = s; there = slice_get-get_or ss i s lt ∙ ap (λ (t : ScriptStep). Some t) (sym is); before = v; came = came; refused = refused; named = refl }

pub come_all : (w v : WorldOfSets) (ss : List ScriptStep) (i : ℕ) → length ss ≤ i → Come w (take i ss) v → Come w ss v
come_all w v ss i h came = subst (λ ts. Come w ts v) (take_all i ss h) came

-- a world that stands for what all steps come to, with what holds of every world that stands for one
pub is_run : (kept : Kept) (l listed : List ℕ) (ss steps : List ScriptStep) (v : WorldOfSets) → l ≡ listed → ss ≡ steps → Come (new_world l) ss v → WorldRepresents kept v → IsRun listed steps kept
is_run kept l listed ss steps v same_l same_ss came stands =
    record {
      world = v;
      came = subst (λ ts. Come (new_world listed) ts v) same_ss (subst (λ ns. Come (new_world ns) ss v) same_l came);
      stands = stands;
      each_knows = each_knows kept v stands;
      same_agree = same_agree kept v stands;
    }
