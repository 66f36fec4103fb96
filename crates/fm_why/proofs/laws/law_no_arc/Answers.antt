use Rattle.fm_why.proofs.Roomy.{closed, full, elsewhere}
use Rattle.fm_why.proofs.laws.law_no_arc.Goals as goal

pub returns-clause-closed : goal.returns-clause-closed
returns-clause-closed c = λ k units t m shut. closed k units t m shut

pub returns-clause-full : goal.returns-clause-full
returns-clause-full c = λ k units t m spec live free none. full k t spec live free units m none

pub returns-clause-elsewhere : goal.returns-clause-elsewhere
returns-clause-elsewhere c = λ k units t m h held other. elsewhere k units t m h held other
