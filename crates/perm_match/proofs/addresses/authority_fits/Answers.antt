use Rattle.std.proofs.Common.{◌≡◌, ◌∙◌, ◌++◌, ◌∷◌, ap, sym}
use Rattle.std.proofs.lemmas.Str.{chars-IsAscii}
use Rattle.std.specs.Str.{chars}
use Rattle.std.specs.Prelude.{decimal}
use Rattle.perm_model.specs.Addresses.{authority_fits, port_text, text_or_nothing}
use Rattle.perm_match.proofs.addresses.authority_fits.Goals as goal

pub returns-in-Some : goal.returns-in-Some
unfolding chars
returns-in-Some c =
    let digits : chars c.format.result.now ≡ decimal c.in-Some.port =
    chars-IsAscii c.format.result.now c.format.ensures.ascii ∙ c.format.ensures.text in
    c.fits_authority.ensures
    ∙ ap
    (λ t. authority_fits c.args.pattern.now
    (chars c.text_or_nothing-host.result.now ++ 58 ∷ t))
    digits
    ∙ ap (λ t. authority_fits c.args.pattern.now (t ++ 58 ∷ decimal c.in-Some.port))
    c.text_or_nothing-host.ensures
    ∙ ap
    (λ p. authority_fits c.args.pattern.now
    (text_or_nothing c.args.address.now.host ++ port_text p))
    (sym c.in-Some.is)
