use Rattle.std.proofs.Common.{refl, ap, Some, None}
use Rattle.std.specs.Option.{option_map_or}
use Rattle.fm_records.proofs.IdLaws.{text_read}
use Rattle.fm_args.specs.Invocation.{run, why, wrong}
use Rattle.clap.proofs.OnLiterals.{clap_on_literals}
use Rattle.fm_args.proofs.laws.law_examples.Goals as goal

pub returns-clause-any_task : goal.returns-clause-any_task
unfolding clap_on_literals
returns-clause-any_task c p task below = ap (λ o. option_map_or (λ t. run (why t None)) o wrong) (text_read task below)

pub returns-clause-flag : goal.returns-clause-flag
unfolding clap_on_literals
returns-clause-flag c p = refl

pub returns-clause-at_task : goal.returns-clause-at_task
unfolding clap_on_literals
returns-clause-at_task c p task below = ap (λ o. option_map_or (λ t. run (why t (Some 7))) o wrong) (text_read task below)

pub returns-clause-task_at : goal.returns-clause-task_at
unfolding clap_on_literals
returns-clause-task_at c p task is = rw is refl

pub returns-clause-stored : goal.returns-clause-stored
unfolding clap_on_literals
returns-clause-stored c p path is = rw is refl

pub returns-clause-recovered : goal.returns-clause-recovered
unfolding clap_on_literals
returns-clause-recovered c p path is = rw is refl
