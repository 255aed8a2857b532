use Rattle.std.proofs.Common.{ap, sym}
use Rattle.std.specs.Str.{chars}
use Rattle.perm_model.specs.Addresses.{text_or_nothing}
use Rattle.perm_match.proofs.addresses.text_or_nothing.Goals as goal

pub returns-in-None : goal.returns-in-None
unfolding chars
returns-in-None c = ap text_or_nothing (sym c.in-None.is)
