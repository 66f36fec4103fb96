-- Each command is told as it is defined.
use Rattle.std.proofs.Common.{◌≡◌, ◌∙◌, refl, List, [], ◌∷◌, codes, arith}
use Rattle.std.specs.Prelude.{⊤, unwrap_or}
use Rattle.clap.proofs.OnLiterals.{clap_on_literals}
use Rattle.std.specs.Option.{option_map_or}
use Rattle.fm_records.specs.Ids.{read_id}
use Rattle.clap.specs.Words.{Row}
use Rattle.fm_args.specs.declared.words.ScriptQuestion.{ScriptQuestion}
use Rattle.fm_args.specs.declared.words.ScriptQuestion.TheVariants as question
use Rattle.fm_args.specs.Invocation.{Text, agree, ask, check, fleet, pack, records, recover, run, unpack, why, wrong}
use Rattle.fm_args.specs.CommandLine.{Form, asks, commands, fleets, follow_by, follows, lists_records, telling_of_words, nothing, packs, recovers, whys}
use Rattle.fm_args.specs.Parser.{told_as, told_with}
use Rattle.fm_args.specs.inner.ParserOutcomes.{tellings}
use Rattle.fm_args.proofs.Leaf.{built_with, helper}
use Rattle.fm_args.proofs.Entering.{enter}
use Rattle.fm_args.proofs.Bare.{bare}
use Rattle.fm_args.proofs.Named.{Named, takes_name}
use Rattle.fm_args.proofs.Named as named
use Rattle.fm_args.proofs.Numbered.{Numbered, shape, takes_number}
use Rattle.fm_args.proofs.Both.{Both, takes_both}
use Rattle.fm_args.proofs.Both as both
use Rattle.fm_args.proofs.Streamed.{Streamed, takes_options}
use Rattle.fm_args.proofs.Streamed as streamed

abbrev pub IsTold : Form → Type 0
IsTold c = (program : Text) (rest : List Text) → tellings (program ∷ c.name ∷ rest) ≡ telling_of_words c.takes rest ∷ []

-- P holds of each
abbrev pub Each : (Form → Type 0) → List Form → Type 0
Each P [] = ⊤
Each P (c ∷ cs) = P c × Each P cs

abbrev of_fleet : Numbered
of_fleet = record {
  called = codes "fleet";
  option_name = codes "rounds";
  least = 0;
  most = 1000;
  bits = 32;
  give = λ rounds. fleet (unwrap_or rounds 0);
  tell = told_as (codes "fleet");
  itself = refl;
  no_help = refl;
  is_small = omega arith;
  has_room = omega arith;
  tells = λ rows. refl;
}

abbrev of_follow : Streamed
of_follow = record {
  called = codes "follow";
  tell = told_as (codes "follow");
  give = follow_by;
  tells = λ rows. refl;
}

-- the command of the name asks the question
abbrev of_question : (name : Text) (q : ScriptQuestion) → ((rows : List Row) → told_as name rows ≡ told_with (asks q) rows) → Numbered
of_question name q tells = record {
  called = name;
  option_name = codes "at";
  least = 0;
  most = 255;
  bits = 8;
  give = λ at. run (ask q at);
  tell = told_as name;
  itself = refl;
  no_help = refl;
  is_small = omega arith;
  has_room = omega arith;
  tells = tells;
}

abbrev of_graph : Numbered
of_graph = of_question (codes "graph") question.Graph (λ rows. refl)

abbrev of_list : Numbered
of_list = of_question (codes "list") question.List (λ rows. refl)

abbrev of_solve : Numbered
of_solve = of_question (codes "solve") question.Solve (λ rows. refl)

abbrev of_plan : Numbered
of_plan = of_question (codes "plan") question.Plan (λ rows. refl)

abbrev of_winners : Numbered
of_winners = of_question (codes "winners") question.Winners (λ rows. refl)

abbrev of_pack : Named
of_pack = record {
  called = codes "pack";
  tell = told_as (codes "pack");
  give = λ name. run (pack name);
  tells = λ rows. refl;
}

abbrev of_records : Named
of_records = record {
  called = codes "records";
  tell = told_as (codes "records");
  give = λ path. records path;
  tells = λ rows. refl;
}

abbrev of_recover : Named
of_recover = record {
  called = codes "recover";
  tell = told_as (codes "recover");
  give = λ path. recover path;
  tells = λ rows. refl;
}

abbrev of_why : Both
of_why = record {
  called = codes "why";
  tell = told_as (codes "why");
  give = λ name at. option_map_or (λ task. run (why task at)) (read_id name) wrong;
  tells = λ rows. refl;
}

agree_told : IsTold (record { name = codes "agree"; takes = nothing (run agree) })
unfolding clap_on_literals
agree_told program rest = enter program (codes "agree") rest (built_with (codes "agree") (helper ∷ [])) refl refl refl ∙ bare (codes "agree") (told_as (codes "agree")) (run agree) refl rest

check_told : IsTold (record { name = codes "check"; takes = nothing (run check) })
unfolding clap_on_literals
check_told program rest = enter program (codes "check") rest (built_with (codes "check") (helper ∷ [])) refl refl refl ∙ bare (codes "check") (told_as (codes "check")) (run check) refl rest

fleet_told : IsTold (record { name = codes "fleet"; takes = fleets })
unfolding clap_on_literals
fleet_told program rest = enter program (codes "fleet") rest (shape of_fleet) refl refl refl ∙ takes_number of_fleet rest

follow_told : IsTold (record { name = codes "follow"; takes = follows })
unfolding clap_on_literals
follow_told program rest = enter program (codes "follow") rest (built_with (codes "follow") streamed.rules) refl refl refl ∙ takes_options of_follow rest

graph_told : IsTold (record { name = codes "graph"; takes = asks question.Graph })
unfolding clap_on_literals
graph_told program rest = enter program (codes "graph") rest (shape of_graph) refl refl refl ∙ takes_number of_graph rest

list_told : IsTold (record { name = codes "list"; takes = asks question.List })
unfolding clap_on_literals
list_told program rest = enter program (codes "list") rest (shape of_list) refl refl refl ∙ takes_number of_list rest

pack_told : IsTold (record { name = codes "pack"; takes = packs })
unfolding clap_on_literals
pack_told program rest = enter program (codes "pack") rest (built_with (codes "pack") named.rules) refl refl refl ∙ takes_name of_pack rest

records_told : IsTold (record { name = codes "records"; takes = lists_records })
unfolding clap_on_literals
records_told program rest = enter program (codes "records") rest (built_with (codes "records") named.rules) refl refl refl ∙ takes_name of_records rest

recover_told : IsTold (record { name = codes "recover"; takes = recovers })
unfolding clap_on_literals
recover_told program rest = enter program (codes "recover") rest (built_with (codes "recover") named.rules) refl refl refl ∙ takes_name of_recover rest

solve_told : IsTold (record { name = codes "solve"; takes = asks question.Solve })
unfolding clap_on_literals
solve_told program rest = enter program (codes "solve") rest (shape of_solve) refl refl refl ∙ takes_number of_solve rest

plan_told : IsTold (record { name = codes "plan"; takes = asks question.Plan })
unfolding clap_on_literals
plan_told program rest = enter program (codes "plan") rest (shape of_plan) refl refl refl ∙ takes_number of_plan rest

unpack_told : IsTold (record { name = codes "unpack"; takes = nothing (run unpack) })
unfolding clap_on_literals
unpack_told program rest = enter program (codes "unpack") rest (built_with (codes "unpack") (helper ∷ [])) refl refl refl ∙ bare (codes "unpack") (told_as (codes "unpack")) (run unpack) refl rest

why_told : IsTold (record { name = codes "why"; takes = whys })
unfolding clap_on_literals
why_told program rest = enter program (codes "why") rest (built_with (codes "why") both.rules) refl refl refl ∙ takes_both of_why rest

winners_told : IsTold (record { name = codes "winners"; takes = asks question.Winners })
unfolding clap_on_literals
winners_told program rest = enter program (codes "winners") rest (shape of_winners) refl refl refl ∙ takes_number of_winners rest

pub each_told : Each IsTold commands
each_told = (agree_told, (check_told, (fleet_told, (follow_told, (graph_told, (list_told, (pack_told, (records_told, (recover_told, (solve_told, (plan_told, (unpack_told, (why_told, (winners_told, tt))))))))))))))
