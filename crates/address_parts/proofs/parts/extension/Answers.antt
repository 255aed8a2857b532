use Rattle.std.proofs.Common.{◌≡◌, [], None, option_map, sym, ap, ◌∙◌}
use Rattle.std.specs.Prelude.{unwrap_or}
use Rattle.std.specs.Str.{chars}
use Rattle.address_parts.specs.Fronts.{behind_last}
use Rattle.address_parts.specs.Parts.{last_segment}
use Rattle.address_parts.proofs.parts.extension.Goals as goal

pub returns-in-None : goal.returns-in-None
unfolding chars
returns-in-None c =
    let none : None ≡ behind_last 46 (last_segment c.args.address.now.path) =
    ap (option_map (λ found. chars found.now)) (sym c.in-None.is) ∙ c.behind_last.ensures
    ∙ ap (behind_last 46) (c.last_segment.ensures ∙ ap last_segment c.as_str.ensures.chars) in
    ap (λ found. unwrap_or found []) none
