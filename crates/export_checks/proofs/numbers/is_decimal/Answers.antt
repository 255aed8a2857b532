use Rattle.std.proofs.Common.{rules, tests, ◌∙◌}
use Rattle.std.specs.Char.{is_ascii_digit}
use Rattle.std.specs.Str.{chars}
use Rattle.std.proofs.lemmas.Iterator.{YieldsList-from_chars}
use Rattle.std.proofs.lemmas.Iterator.Search.{all_from_yields_List}
use Rattle.export_checks.proofs.Wholes.{all_digits}
use Rattle.export_checks.proofs.numbers.is_decimal.Goals as goal

pub returns : goal.returns
returns c =
    all_from_yields_List is_ascii_digit _ _ c.all.result c.all.ensures.ran
    (YieldsList-from_chars c.args.text.now c.utf8.text cc) (λ x b q k. search (rules, tests))
    ∙ all_digits (chars c.args.text.now)
