use Rattle.std.proofs.Common.{◌≡◌, ◌+◌, ◌-◌, ◌*◌, min, map-id, ap, sym, ◌∙◌}
use Rattle.std.specs.Str.{chars}
use Rattle.std.proofs.lemmas.Iterator.{YieldsList-from_chars}
use Rattle.std.proofs.lemmas.Iterator.Consumers.{YieldsList-end}
use Rattle.gtm_data.specs.WholeText.{read_on}
use Rattle.export_checks.proofs.Wholes.{read_on-push, capped_step}
use Rattle.export_checks.proofs.numbers.capped_number.Goals as goal

pub loop-c-preserved : goal.loop-c-preserved
loop-c-preserved c =
    let l = c.loop-c in
    c.min-number.ensures
    ∙ ap (λ digit. min (10 * l.number + digit) 2147479000) c.saturating_sub-digit.ensures
    ∙ capped_step l.number (read_on 0 l.yielded) (c.in-Some.c - 48) l.invariant
    ∙ ap (λ number. min number 2147479000) (sym (read_on-push 0 c.in-Some.c l.yielded))

pub returns : goal.returns
returns c =
    let l = c.loop-c in
    let end =
    YieldsList-end (YieldsList-from_chars c.args.text.now c.utf8.text cc) l.yielded _
    l.yielded_by _ _ c.in-None.is c.next.ensures.steps in
    let all : l.yielded ≡ chars c.args.text.now = sym (map-id l.yielded) ∙ end.0 in
    l.invariant ∙ ap (λ cs. min (read_on 0 cs) 2147479000) all
