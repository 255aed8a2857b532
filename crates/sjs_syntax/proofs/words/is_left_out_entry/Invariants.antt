use Rattle.std.proofs.Common.{◌≡◌, drop}
use Rattle.sjs_syntax.specs.Entries.{entries}
use Rattle.sjs_syntax.specs.Words.{is_left_out_entry}
use Rattle.sjs_syntax.proofs.words.is_left_out_entry.Given as goal

abbrev pub invariant-loop-entry : goal.invariant-loop-entry
invariant-loop-entry l =
    is_left_out_entry (entries (drop l.entry-index l.table)) l.text
    ≡ is_left_out_entry (entries l.table) l.text
