use Rattle.std.proofs.Common.{arith}
use Rattle.engine_forms.proofs.PatternLemmas.{finds_as_read, is_pattern}
use Rattle.engine_forms.proofs.found.found.Goals as goal

pub returns-in_ok-matcher-in-Ok-clause-found : goal.returns-in_ok-matcher-in-Ok-clause-found
returns-in_ok-matcher-in-Ok-clause-found c =
    rw (c.is_match.ensures.found, c.in_ok-matcher-in-Ok.ensures.pattern)
    (finds_as_read c.in-Ok.regex _ c.in-Ok.ensures.source c.in-Ok.ensures.config
    c.in-Ok.ensures.read c.args.text.now (λ i. omega (arith, c.type_inv.text i)))

pub returns-in_ok-matcher-in-Ok-clause-pattern : goal.returns-in_ok-matcher-in-Ok-clause-pattern
returns-in_ok-matcher-in-Ok-clause-pattern c _ =
    is_pattern c.in-Ok.regex _ c.in-Ok.ensures.source c.in-Ok.ensures.config c.in-Ok.ensures.read
