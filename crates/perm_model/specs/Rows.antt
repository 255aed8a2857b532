-- The rows of a table that is lent: each name, with the places of its functions.
use Rattle.std.specs.Prelude.{ℕ, List, map}
use denote.Ref.{Bor}
use Rattle.perm_model.specs.Apis.{Row}

abbrev pub rows_of : List (Bor (List ℕ) × Bor (List ℕ)) → List Row
rows_of table = map (λ r. (r.0.now, r.1.now)) table
