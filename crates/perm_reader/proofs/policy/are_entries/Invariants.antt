use Rattle.std.proofs.Common.{◌≡◌, drop}
use Rattle.gtm_data.specs.Tree.{trees_of}
use Rattle.perm_reader.specs.Policies.{are_entries}
use Rattle.perm_reader.proofs.policy.are_entries.Given as goal

abbrev pub invariant-loop-entry : goal.invariant-loop-entry
invariant-loop-entry l =
    are_entries (trees_of (drop l.entry-index l.entries)) ≡ are_entries (trees_of l.entries)
