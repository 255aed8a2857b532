use Rattle.std.proofs.Common.{[], sym, ap}
use Rattle.std.specs.Prelude.{unwrap_or}
use Rattle.std.specs.Str.{chars}
use Rattle.address_parts.proofs.parts.told.Goals as goal

pub returns-in-None-clause-chars : goal.returns-in-None-clause-chars
unfolding chars
returns-in-None-clause-chars c = ap (λ text. unwrap_or text []) (sym c.in-None.is)
