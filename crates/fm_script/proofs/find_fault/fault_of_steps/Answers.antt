use Rattle.std.proofs.Common.{◌<◌, ◌∙◌, ◌+◌, [], map, drop, length, option_map, ap, sym, arith}
use Rattle.std.specs.Option.{option_or}
use Rattle.serde_json.specs.View.{view}
use Rattle.fm_script.specs.declared.script_fault.ScriptFault.TheVariants as script
use Rattle.fm_script.specs.ScriptFaults.{first_at_fault, refused_of, step_form, step_refused}
use Rattle.fm_script.proofs.Faults.{form-next, form-stop, refused-next, drop-view}
use Rattle.fm_script.proofs.find_fault.fault_of_steps.Goals as goal

pub returns-in_default : goal.returns-in_default
returns-in_default c =
    let items = c.args.items.now in
    let names = c.loop-place.names in
    let i = c.loop-place.place in
    let d = view c.index-items-place.result in
    let lt : i < length items = omega arith in
    let split = drop-view items i c.index-items-place.result lt c.index-items-place.is in
    let other = first_at_fault (refused_of c.args.listed.now) [] 1 (map view items) in
    c.at_step.ensures ∙ ap (option_map (λ k. script.Step (i + 1) k)) c.step_form.ensures
    ∙ form-stop names (i + 1) d (map view (drop (i + 1) items)) other c.in_default.ensures
    ∙ ap (λ o. option_or o other) (sym (c.loop-place.invariant.formed ∙ ap (first_at_fault step_form names (i + 1)) split))

pub loop-place-preserved : goal.loop-place-preserved
loop-place-preserved c =
    let items = c.args.items.now in
    let listed = c.args.listed.now in
    let names = c.loop-place.names in
    let refused = c.loop-place.refused in
    let i = c.loop-place.place in
    let d = view c.index-items-place.result in
    let s = c.in-Some.step in
    let lt : i < length items = omega arith in
    let split = drop-view items i c.index-items-place.result lt c.index-items-place.is in
    let rest = map view (drop (i + 1) items) in
    let named = sym c.in_ok-keep_name.ensures in
    let asked = c.step_refused.ensures ∙ ap (λ n. step_refused listed n s) c.len.ensures in
    let found = c.or-refused.ensures ∙ ap (option_or refused) (c.at_step-here.ensures ∙ ap (option_map (λ k. script.Step (i + 1) k)) asked) in
    record {
      formed = c.loop-place.invariant.formed ∙ ap (first_at_fault step_form names (i + 1)) split ∙ form-next names (i + 1) d rest s c.in-Some.ensures
          ∙ ap (λ ns. first_at_fault step_form ns (i + 1 + 1) rest) named;
      asked = c.loop-place.invariant.asked ∙ ap (λ ds. option_or refused (first_at_fault (refused_of listed) names (i + 1) ds)) split
          ∙ refused-next listed names (i + 1) d rest s refused c.in-Some.ensures
          ∙ ap (λ ns. option_or (option_or refused (option_map (λ k. script.Step (i + 1) k) (step_refused listed (length names) s))) (first_at_fault (refused_of listed) ns (i + 1 + 1) rest)) named
          ∙ ap (λ o. option_or o (first_at_fault (refused_of listed) c.keep_name.new.names (i + 1 + 1) rest)) (sym found);
    }
