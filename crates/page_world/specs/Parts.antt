-- Keys and paths of parts, for what laws say of them.
use Rattle.std.specs.Prelude.{◌≡◌, ◌==◌, ℕ, List, [], ◌∷◌, ◌++◌, Bool, true, false, ◌&&◌, Some}
use Rattle.gtm_data.specs.Paths.{walk}
use Rattle.gtm_data.specs.Tree.{Tree, object, Entries}
use Rattle.data_layer.specs.Rows.{IsNoMap}

-- nothing is left of a key, or a dot and what is below
abbrev pub goes_below : List ℕ → Bool
goes_below [] = true
goes_below (c ∷ cs) = c == 46

-- the other key is this one, or goes on behind it with a dot
abbrev pub is_within : List ℕ → List ℕ → Bool
is_within [] other = goes_below other
is_within (c ∷ cs) [] = false
is_within (c ∷ cs) (d ∷ ds) = (d == c) && is_within cs ds

-- a front of the parts, and not all of them, leads to a value that is no Map
pub record LeadsThroughOther (parts : List (List ℕ)) (t : Tree) : Type 0 where
  pub front : List (List ℕ)
  pub part : List ℕ
  pub rest : List (List ℕ)
  pub split : parts ≡ front ++ part ∷ rest
  pub value : Tree
  pub there : walk front t ≡ Some value
  pub no_map : IsNoMap value

-- a Map stands at the parts
pub record HasMapAt (parts : List (List ℕ)) (t : Tree) : Type 0 where
  pub members : Entries
  pub there : walk parts t ≡ Some (object members)
