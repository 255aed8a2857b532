-- Paths of keys and indexes into a tree, and dotted texts.
use Rattle.std.specs.Prelude.{◌≡◌, ℕ, zero, suc, ◌+◌, ◌^◌, ◌<◌, ◌==◌, List, [], ◌∷◌, ◌++◌, map, All}
use Rattle.std.specs.Prelude.{Contains, decimal, Option, Some, None, option_and_then, if◌then◌else◌}
use Rattle.std.specs.Str.{bytes_eq}
use Rattle.gtm_data.specs.Tree.{Tree, list, object, Trees, end, item, Entries, none, entry}

-- a key into a Map, or an index into a List
pub data Step : Type 0 where
  key : List ℕ → Step
  index : ℕ → Step

-- the value of the member with this key
abbrev pub member : List ℕ → Entries → Option Tree
member name none = None
member name (entry other t es) = if bytes_eq other name then Some t else member name es

-- the same of a Map; another value has no members
abbrev pub member_of : List ℕ → Tree → Option Tree
member_of name (object es) = member name es
member_of name _ = None

-- the item at this place
abbrev pub nth : ℕ → Trees → Option Tree
nth at end = None
nth zero (item t ts) = Some t
nth (suc at) (item t ts) = nth at ts

-- the value one step into a tree, or nothing
abbrev pub step : Step → Tree → Option Tree
step (key name) (object es) = member name es
step (index at) (list ts) = nth at ts
step _ _ = None

-- the value at a path, or nothing
abbrev pub at : List Step → Tree → Option Tree
at [] t = Some t
at (s ∷ path) t = option_and_then (at path) (step s t)

-- the first of the parts goes on with this character
abbrev pub onto_first : ℕ → List (List ℕ) → List (List ℕ)
onto_first c [] = (c ∷ []) ∷ []
onto_first c (part ∷ parts) = (c ∷ part) ∷ parts

-- the parts of a text between its dots
abbrev pub dotted : List ℕ → List (List ℕ)
dotted [] = [] ∷ []
dotted (c ∷ cs) = if c == 46 then [] ∷ dotted cs else onto_first c (dotted cs)

-- no part has a dot
abbrev pub HaveNoDot : List (List ℕ) → Type 0
HaveNoDot parts = All (λ part. ¬ Contains part 46) parts

-- the item whose index, counted on from here, is written so in decimal digits
abbrev pub numbered : ℕ → List ℕ → Trees → Option Tree
numbered at name end = None
numbered at name (item t ts) =
    if bytes_eq (decimal at) name then Some t else numbered (at + 1) name ts

-- the member of a Map with this key, or the item of a List with this index
abbrev pub named : List ℕ → Tree → Option Tree
named name (object es) = member name es
named name (list ts) = numbered 0 name ts
named name _ = None

-- the value that the parts lead to, one after the other
abbrev pub walk : List (List ℕ) → Tree → Option Tree
walk [] t = Some t
walk (part ∷ parts) t = option_and_then (walk parts) (named part t)

-- what a path has for a step: the key itself, or the index in decimal digits
abbrev pub written : Step → List ℕ
written (key name) = name
written (index place) = decimal place

-- the steps of a path are written so, one after the other
pub record Writes (path : List Step) (parts : List (List ℕ)) : Type 0 where
  pub each : map written path ≡ parts

-- no List within it has more than 2 ^ 64 items
pub record IsIndexed (t : Tree) : Type 0 where
  pub below : (path : List Step) (place : ℕ) (v : Tree) → at (path ++ index place ∷ []) t ≡ Some v
      → place < 2 ^ 64
