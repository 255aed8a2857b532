use Rattle.std.proofs.Common.{◌∙◌, sym}
use Rattle.perm_model.specs.Apis.{rows}
use Rattle.perm_model.proofs.apis.api_named.Goals as goal

pub returns-in_err-at : goal.returns-in_err-at
unfolding rows
returns-in_err-at c = c.from_residual.ensures ∙ sym c.in_err-at.was ∙ c.row_named.ensures.value

pub returns : goal.returns
unfolding rows
returns c = sym c.in_ok-at.was ∙ c.row_named.ensures.value
