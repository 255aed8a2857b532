use Rattle.std.proofs.Common.{◌≡◌, ◌+◌, drop}
use Rattle.template_sections.specs.Lines.{line_len}
use Rattle.template_sections.proofs.lines.line_len.Given as goal

abbrev pub invariant-loop-at : goal.invariant-loop-at
invariant-loop-at l = l.at + line_len (drop l.at l.text) ≡ line_len l.text
