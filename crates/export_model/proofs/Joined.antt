-- Lists that are joined.
use Rattle.std.proofs.Common.{append_assoc}
use Rattle.std.proofs.lemmas.List.Elements.{filter_map-append}

-- a function of the items of two joined lists, and three joined lists
pub ruleset joined = (filter_map-append, append_assoc)
