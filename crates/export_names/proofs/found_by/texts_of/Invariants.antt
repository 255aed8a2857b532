use Rattle.std.proofs.Common.{◌≡◌, take, map}
use Rattle.export_names.proofs.found_by.texts_of.Given as goal

abbrev pub invariant-loop-entry : goal.invariant-loop-entry
invariant-loop-entry g l =
    map (λ text. text.now) l.made.items
    ≡ map g.T.FoundBy.text (take l.entry-index l.entries)
