use Rattle.std.proofs.Common.{◌≡◌, drop}
use Rattle.gtm_data.specs.Tree.{trees_of}
use Rattle.perm_reader.specs.Policies.{entries_read}
use Rattle.perm_reader.specs.Readings.{plus}
use Rattle.perm_reader.proofs.permissions.read_entries.Given as goal

abbrev pub invariant-loop-entry : goal.invariant-loop-entry
invariant-loop-entry l =
    plus l.out (entries_read (trees_of (drop l.entry-index l.entries)))
    ≡ plus l.fn.out (entries_read (trees_of l.entries))
