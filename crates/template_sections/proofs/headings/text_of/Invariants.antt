use Rattle.std.proofs.Common.{◌≡◌, take}
use Rattle.template_sections.proofs.headings.text_of.Given as goal

abbrev pub invariant-loop-byte : goal.invariant-loop-byte
invariant-loop-byte l = l.made ≡ take l.byte-index l.bytes
