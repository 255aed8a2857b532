use Rattle.std.proofs.Common.{◌≡◌, ◌++◌, drop}
use Rattle.std.specs.List.{filter_map}
use Rattle.export_model.specs.Graphs.{variable_at}
use Rattle.export_model.specs.Names.{name_in}
use Rattle.export_model.proofs.names.push_named_by_pieces.Given as goal

abbrev pub invariant-loop-piece : goal.invariant-loop-piece
invariant-loop-piece l =
    l.found ++ filter_map variable_at (filter_map name_in (drop l.piece-index l.piece-items))
    ≡ l.fn.found ++ filter_map variable_at (filter_map name_in l.pieces)
