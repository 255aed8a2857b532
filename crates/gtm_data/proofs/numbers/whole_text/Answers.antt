use Rattle.std.proofs.Common.{◌≢◌, get_or, true≢false, arith, subst, sym, ap, ◌∙◌}
use Rattle.std.specs.Prelude.{option_and_then, FitsSigned}
use Rattle.std.specs.Int.{w64}
use Rattle.std.proofs.lemmas.Int.{to_z-of_z}
use Rattle.std.proofs.lemmas.Str.Pattern.{starts_char}
use Rattle.gtm_data.specs.Plain.{in_range}
use Rattle.gtm_data.proofs.Wholes.{read_is, unread_is, plus_is, by_bytes}
use Rattle.gtm_data.proofs.numbers.whole_text.Goals as goal

pub returns-then-starts_with : goal.returns-then-starts_with
returns-then-starts_with c =
    let text = c.args.text.now in
    let plus =
    (starts_char 43 text c.starts_with.result c.starts_with.ensures.cases (omega arith)
    (omega arith)).0 c.if-starts_with.true in
    sym (by_bytes text c.utf8.text ∙ plus_is text plus)

pub returns-in-Ok : goal.returns-in-Ok
returns-in-Ok c =
    let text = c.args.text.now in
    let plus : get_or text 0 0 ≢ 43 =
    λ e. true≢false
    (sym ((starts_char 43 text c.starts_with.result c.starts_with.ensures.cases (omega arith)
    (omega arith)).1 e) ∙ c.if-starts_with.false) in
    let read = c.in-Ok.ensures.value.0 in
    let fits : FitsSigned w64 c.in-Ok.number = subst (FitsSigned w64) (sym read.1) read.0.1 in
    c.in_range.ensures ∙ ap in_range (to_z-of_z w64 c.in-Ok.number fits)
    ∙ sym (by_bytes text c.utf8.text
    ∙ ap (option_and_then in_range)
    (read_is text c.in-Ok.number c.parse.result plus c.parse.ensures.value.0 c.in-Ok.is))

pub returns-in-Err : goal.returns-in-Err
returns-in-Err c =
    let text = c.args.text.now in
    let plus : get_or text 0 0 ≢ 43 =
    λ e. true≢false
    (sym ((starts_char 43 text c.starts_with.result c.starts_with.ensures.cases (omega arith)
    (omega arith)).1 e) ∙ c.if-starts_with.false) in
    sym (by_bytes text c.utf8.text
    ∙ unread_is text c.in-Err.field-0 c.parse.result plus c.parse.ensures.value.0 c.in-Err.is)
