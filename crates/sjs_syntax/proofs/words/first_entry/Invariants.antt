use Rattle.std.proofs.Common.{◌≡◌, drop}
use Rattle.sjs_syntax.specs.Entries.{entries}
use Rattle.sjs_syntax.specs.Words.{first_entry}
use Rattle.sjs_syntax.proofs.words.first_entry.Given as goal

abbrev pub invariant-loop-entry : goal.invariant-loop-entry
invariant-loop-entry l =
    first_entry (entries (drop l.entry-index l.table)) l.text ≡ first_entry (entries l.table) l.text
