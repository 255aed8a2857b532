use Rattle.export_entries.specs.Formats.{format_fault, written_format}
use Rattle.export_entries.proofs.Later.{ends_as}
use Rattle.export_entries.proofs.formats.WrittenFormatEntry.read.Goals as goal

pub returns-in_err-no : goal.returns-in_err-no
unfolding format_fault written_format
returns-in_err-no c =
    ends_as _ _ _ _ c.from_residual-in_err-no.ensures.1
    (rw (
      c.in_ok-object.ensures.0,
      c.in_ok-case.ensures.0,
      c.in_ok-null.ensures.0,
      c.in_ok-undefined.ensures.0,
      c.in_ok-yes.ensures.0,
    ) c.in_err-no.ensures)
