use Rattle.std.proofs.Common.{refl}
use Rattle.trace_lines.specs.Lines.{lines}
use Rattle.trace_lines.proofs.Cuts.{all_but_last, texts_lack}
use Rattle.trace_lines.proofs.laws.lines_hold_no_lf.Goals as goal

pub returns-clause-texts : goal.returns-clause-texts
returns-clause-texts c bytes = texts_lack (lines bytes) bytes refl

pub returns-clause-ended : goal.returns-clause-ended
returns-clause-ended c bytes = all_but_last (lines bytes) bytes refl
