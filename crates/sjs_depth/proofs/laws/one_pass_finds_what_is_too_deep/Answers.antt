use Rattle.std.proofs.Common.{ap}
use Rattle.sjs_depth.specs.Depth.{least}
use Rattle.sjs_depth.proofs.Passes.{passes}
use Rattle.sjs_depth.proofs.laws.one_pass_finds_what_is_too_deep.Goals as goal

pub returns : goal.returns
returns c = record { places = passes; first = λ script. ap least (passes script 101) }
