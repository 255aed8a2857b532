use Rattle.std.proofs.Common.{◌≡◌, ◌∙◌, ap}
use Rattle.perm_model.specs.Apis.{rows, row_at}
use Rattle.perm_model.proofs.apis.api_name.Goals as goal

pub returns : goal.returns
unfolding rows
returns c =
    let same : c.from.result ≡ c.args.api = cc in
    c.name_in.ensures ∙ ap (λ at. (row_at rows at).0) same
