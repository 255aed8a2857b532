use Rattle.std.proofs.Common.{◌≡◌, ◌++◌, drop}
use Rattle.std.specs.List.{flat_map}
use Rattle.variable_kinds.proofs.resolving.joined.Given as goal
use Rattle.variable_kinds.specs.Kinds.{value_by}
use Rattle.variable_kinds.specs.Resolved.{piece_text}

abbrev pub invariant-loop-piece : goal.invariant-loop-piece
invariant-loop-piece l =
    let text = piece_text (value_by l.names) in
    l.out ++ flat_map text (drop l.piece-index l.piece-items) ≡ flat_map text l.pieces
