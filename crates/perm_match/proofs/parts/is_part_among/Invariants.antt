use Rattle.std.proofs.Common.{◌≡◌, drop}
use Rattle.std.specs.List.{list_any}
use Rattle.perm_model.specs.Allowed.{is_same_part}
use Rattle.perm_match.proofs.parts.is_part_among.Given as goal

abbrev pub invariant-loop-other : goal.invariant-loop-other
invariant-loop-other l =
    list_any (is_same_part l.part) (drop l.other-index l.parts)
    ≡ list_any (is_same_part l.part) l.parts
