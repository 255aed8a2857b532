use Rattle.std.proofs.Common.{◌≡◌, drop}
use Rattle.gtm_data.specs.Tree.{entries_of}
use Rattle.trace_forms.specs.Forms.{are_listed}
use Rattle.trace_forms.proofs.pages.are_listed.Given as goal

abbrev pub invariant-loop-key : goal.invariant-loop-key
invariant-loop-key l =
    are_listed (entries_of (drop l.key-index l.key-items)) ≡ are_listed (entries_of l.key-items)
