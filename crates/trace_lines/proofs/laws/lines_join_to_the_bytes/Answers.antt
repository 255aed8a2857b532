use Rattle.trace_lines.proofs.Cuts.{lines_join}
use Rattle.trace_lines.proofs.laws.lines_join_to_the_bytes.Goals as goal

pub returns : goal.returns
returns c = lines_join
