use Rattle.std.proofs.Common.{◌≡◌, subst, true}
use Rattle.perm_model.specs.Texts.{fits}
use Rattle.perm_match.proofs.RunLaws.{runs_of, fits_filled}
use Rattle.perm_match.proofs.laws.a_star_is_any_run.Goals as goal

pub returns : goal.returns
returns c = λ pattern text. (
  runs_of pattern text,
  λ filling. subst (λ t. fits pattern t ≡ true) filling.1 (fits_filled pattern filling.0),
)
