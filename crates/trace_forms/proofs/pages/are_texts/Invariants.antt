use Rattle.std.proofs.Common.{◌≡◌, drop}
use Rattle.gtm_data.specs.Tree.{entries_of}
use Rattle.trace_forms.specs.Forms.{are_texts}
use Rattle.trace_forms.proofs.pages.are_texts.Given as goal

abbrev pub invariant-loop-value : goal.invariant-loop-value
invariant-loop-value l =
    are_texts (entries_of (drop l.value-index l.value-items)) ≡ are_texts (entries_of l.value-items)
