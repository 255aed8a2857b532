use Rattle.std.proofs.Common.{◌≡◌, ◌∙◌, ap}
use Rattle.perm_model.specs.Apis.{rows, row_at, is_place_of}
use Rattle.perm_model.proofs.apis.callback_place.Goals as goal

pub returns : goal.returns
unfolding rows
returns c =
    let same : c.from.result ≡ c.args.api = cc in
    c.is_place_in.ensures ∙ ap (λ at. is_place_of (row_at rows at) c.args.index) same
