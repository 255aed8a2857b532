use Rattle.std.proofs.Common.{◌≡◌, Some, None, option_map, sym, ap, ◌∙◌}
use Rattle.std.specs.Prelude.{codes, unwrap_or}
use Rattle.std.specs.Str.{chars}
use Rattle.address_parts.specs.Fronts.{behind_front}
use Rattle.address_parts.proofs.parts.without_www.Goals as goal

pub returns-in-Some : goal.returns-in-Some
unfolding chars
returns-in-Some c =
    let host = chars c.args.host.now in
    let found : Some (chars c.in-Some.rest.now) ≡ behind_front (codes "www.") host =
    ap (option_map (λ rest. chars rest.now)) (sym c.in-Some.is) ∙ c.behind_front.ensures in
    ap (λ rest. unwrap_or rest host) found

pub returns-in-None : goal.returns-in-None
unfolding chars
returns-in-None c =
    let host = chars c.args.host.now in
    let none : None ≡ behind_front (codes "www.") host =
    ap (option_map (λ rest. chars rest.now)) (sym c.in-None.is) ∙ c.behind_front.ensures in
    ap (λ rest. unwrap_or rest host) none
