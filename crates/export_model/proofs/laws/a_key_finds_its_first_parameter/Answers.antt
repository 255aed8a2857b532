use Rattle.std.proofs.Common.{refl}
use Rattle.export_model.proofs.FirstKeys.{found, lacks, told, same_first}
use Rattle.export_model.specs.Keys.{first_of_key}
use Rattle.export_model.proofs.laws.a_key_finds_its_first_parameter.Goals as goal

pub returns-clause-some : goal.returns-clause-some
returns-clause-some c key params param = (
  found key params param,
  same_first key params (first_of_key key params) param refl,
)

pub returns-clause-none : goal.returns-clause-none
returns-clause-none c key params = (
  lacks key params,
  told key params (first_of_key key params) refl,
)
