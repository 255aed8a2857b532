-- The bytes of a trace that are held, as contracts see them.
use Rattle.std.specs.Prelude.{◌+◌, ◌≤◌, length, take, drop}
use Rattle.trace_lines.specs.Holding.{HasNoEnd, IsWithin}
use Rattle.trace_lines.specs.Reading.{Position}
use Rattle.trace_lines.specs.declared.lines.Lines.TheInside.{Inside}
use Rattle.trace_lines.specs.declared.lines.TheConstants.{MAX_LINE}

-- where the reading stands
abbrev pub position_in : Inside → Position
position_in i = record {
  line = record { text = take i.line_len (drop i.line_start i.bytes.items); ended = i.line_ended };
  held = drop i.start i.bytes.items;
  before = i.before;
  at_end = i.at_end;
}

-- the bytes are never many, the places lie within them, and no LF is where one was looked for
pub record IsInOrder (i : Inside) : Type 0 where
  pub few : length i.bytes.items ≤ MAX_LINE + 1
  pub line : i.line_start + i.line_len ≤ length i.bytes.items
  pub searched : i.start + i.searched ≤ length i.bytes.items
  pub none : HasNoEnd (drop i.start i.bytes.items) i.searched
  pub within : IsWithin (position_in i)
