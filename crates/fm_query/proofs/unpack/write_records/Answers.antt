use Rattle.std.proofs.Common.{◌≡◌, ◌++◌, ◌∙◌, ℕ, List, Result, Ok, Err, OnOk, string_bytes, append_assoc, ap}
use Rattle.std.specs.List.{flat_map}
use Rattle.fm_query.specs.Unpacked.{job_line, task_lines, machine_lines, proposal_lines}
use Rattle.fm_query.proofs.unpack.write_records.Goals as goal

-- a map's lines, appended to b
onto : {X : Type 0} (line : X → List ℕ) (b c : List ℕ) (xs ys : List X) → c ≡ b ++ flat_map line xs → xs ≡ ys → c ≡ b ++ flat_map line ys
onto line b c xs ys h e = h ∙ ap (λ zs. b ++ flat_map line zs) e

-- pieces that are appended one after another
appended : {T E : Type 0} (result : Result T E) (a b c d e h i j k l : List ℕ) → b ≡ a ++ h → c ≡ b ++ i → d ≡ c ++ j → l ≡ k → OnOk result (e ≡ d ++ l)
    → OnOk result (e ≡ a ++ (h ++ (i ++ (j ++ k))))
appended (Err x) a b c d e h i j k l is_b is_c is_d is_l is_e = tt
appended (Ok x) a b c d e h i j k l is_b is_c is_d is_l is_e =
    is_e ∙ (λ n. (is_d ∙ ap (λ x. x ++ j) (is_c ∙ ap (λ x. x ++ i) is_b)) n ++ is_l n)
    ∙ append_assoc ((a ++ h) ++ i) j k ∙ append_assoc (a ++ h) i (j ++ k) ∙ append_assoc a h (i ++ (j ++ k))

pub returns-clause-ok : goal.returns-clause-ok
returns-clause-ok c =
    appended c.write_map-4.result (string_bytes c.args.lines.now) (string_bytes c.write_map.new.lines) (string_bytes c.write_map-2.new.lines) (string_bytes c.write_map-3.new.lines) _
    _ _ _ _ (flat_map proposal_lines c.proposals.result.now)
    (onto job_line _ _ _ _ c.in_ok-write_map.ensures.ok c.jobs.ensures)
    (onto task_lines _ _ _ _ c.in_ok-write_map-2.ensures.ok c.tasks.ensures)
    (onto machine_lines _ _ _ _ c.in_ok-write_map-3.ensures.ok c.machines.ensures)
    (ap (flat_map proposal_lines) c.proposals.ensures) c.write_map-4.ensures.ok
