use Rattle.std.proofs.Common.{◌∷◌}
use Rattle.perm_match.proofs.RunLaws.{front_of, behind_front}
use Rattle.perm_match.proofs.laws.a_star_before_a_host_is_some_text.Goals as goal

pub returns : goal.returns
returns c = λ host authority. (
  front_of 46 host authority,
  λ split. behind_front (46 ∷ host) split.0 authority split.1 split.2,
)
