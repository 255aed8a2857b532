use Rattle.std.proofs.Common.{◌≡◌, ◌+◌, drop}
use Rattle.std.specs.List.{prefix_len}
use Rattle.template_sections.specs.Headings.{is_name_char}
use Rattle.template_sections.proofs.lines.word_len.Given as goal

abbrev pub invariant-loop-at : goal.invariant-loop-at
invariant-loop-at l =
    l.at + prefix_len is_name_char (drop l.at l.line) ≡ prefix_len is_name_char l.line
