use Rattle.std.proofs.Common.{◌≡◌, ◌∙◌, None, Some, ap, sym}
use Rattle.trace_reader.proofs.Told.{leads_as}
use Rattle.trace_reader.proofs.reader.Reader.next_step.Goals as goal

pub returns-in-Some-clause-stands : goal.returns-in-Some-clause-stands
returns-in-Some-clause-stands g c bytes done here rest is =
    let never : Some c.in-Some.end ≡ None =
    sym c.in-Some.is ∙ ap (λ progress. progress.ended) c.self.view_is ∙ (here rest is).going in
    absurd cc

pub returns-in-Err-clause-stands : goal.returns-in-Err-clause-stands
returns-in-Err-clause-stands g c bytes done here rest is =
    leads_as c.read_on-answer.result c.in-Err.end bytes done c.read_on-answer.new.self _ rest
    c.in-Err.is (c.read_on-answer.ensures.stands bytes done here rest is)
