use Rattle.std.proofs.Common.{refl, ap, inr, subst}
use Rattle.fm_args.specs.Invocation.{Telling}
use Rattle.fm_serve.specs.declared.ending.Ending.TheVariants.{Stopped}
use Rattle.fm_serve.specs.Output.{IsStoppedReading}
use Rattle.fm_serve.proofs.serve.serve.Goals as goal

pub returns-in-Err-input_for : goal.returns-in-Err-input_for
returns-in-Err-input_for g c =
    inr (record {
      refusal = c.in-Err-input_for.refusal;
      ends = ap Stopped c.from-in-Err-input_for.ensures;
      cause = subst (λ (t : Telling). IsStoppedReading t c.in-Err-input_for.refusal (g.S.Source.remaining c.args.source.now) (g.S.Source.remaining c.input_for.new.source) (g.S.Source.has_failed c.input_for.new.source)) c.in-Ok.ensures.heard c.in-Err-input_for.ensures.err;
      nothing = refl;
      fails_not = refl;
    })
