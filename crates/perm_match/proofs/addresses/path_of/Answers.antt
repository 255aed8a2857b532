use Rattle.std.proofs.Common.{◌∙◌, ◌++◌, ◌∷◌, ap, sym}
use Rattle.std.specs.Str.{chars}
use Rattle.perm_model.specs.Addresses.{query_text}
use Rattle.perm_match.proofs.addresses.path_of.Goals as goal

pub returns-in-Some : goal.returns-in-Some
unfolding chars
returns-in-Some c =
    ap (λ t. chars c.as_str.result.now ++ 63 ∷ t) c.as_str-in-Some.ensures.chars
    ∙ ap (λ t. t ++ 63 ∷ c.in-Some.query) c.as_str.ensures.chars
    ∙ ap (λ q. c.args.address.now.path ++ query_text q) (sym c.in-Some.is)
