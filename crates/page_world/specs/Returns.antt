-- What the page's functions return, by the parts of their keys.
use Rattle.std.specs.Prelude.{ℕ, List, [], ◌∷◌, Bool, true, false, ◌&&◌, Option, Some, None}
use Rattle.std.specs.Prelude.{if◌then◌else◌}
use Rattle.std.specs.Str.{bytes_eq}
use Rattle.gtm_data.specs.Tree.{Tree}

-- what the function at each path returns, where that was told
abbrev pub Returned : Type 0
Returned = List (List ℕ) → Option Tree

-- nothing was told
abbrev pub nothing_told : Returned
nothing_told parts = None

-- whether the parts begin with these
abbrev pub begins_with : List (List ℕ) → List (List ℕ) → Bool
begins_with [] parts = true
begins_with (first ∷ front) [] = false
begins_with (first ∷ front) (part ∷ parts) = bytes_eq part first && begins_with front parts

-- whether the parts are these
abbrev pub are_parts : List (List ℕ) → List (List ℕ) → Bool
are_parts [] [] = true
are_parts [] (part ∷ parts) = false
are_parts (first ∷ front) [] = false
are_parts (first ∷ front) (part ∷ parts) = bytes_eq part first && are_parts front parts

-- the functions at and below these parts return nothing any more
abbrev pub forgotten : List (List ℕ) → Returned → Returned
forgotten parts returns others = if begins_with parts others then None else returns others

-- the function at these parts returns this
abbrev pub with_return : List (List ℕ) → Tree → Returned → Returned
with_return parts value returns others =
    if are_parts parts others then Some value else returns others
