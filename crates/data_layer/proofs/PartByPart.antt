-- A merge of a value nested under parts, one part down.
use Rattle.std.proofs.Common.{◌≡◌, ◌<◌, ℕ, List, [], ◌∷◌, length, Bool, true, false, eqb}
use Rattle.std.proofs.Common.{if◌then◌else◌, Option, Some, None, Bor, refl}
use Rattle.std.specs.Option.{IfSome, IfNone}
use Rattle.std.specs.Str.{chars, IsUtf8}
use Rattle.std.proofs.lemmas.Str.Pattern.{IsSplitOnceResult}
use Rattle.gtm_data.proofs.Dots.{Cut, cut, one_part}
use Rattle.gtm_data.specs.Paths.{dotted, onto_first}
use Rattle.gtm_data.specs.Tree.{Tree, object, Entries}
use Rattle.data_layer.specs.Layer.{nest}
use Rattle.data_layer.specs.Merge.{merge, merge_members, put}
use Rattle.data_layer.specs.Rows.{IsNoMap}

pub under_part : (part : List ℕ) (parts : List (List ℕ)) (v : Tree) (ms : Entries)
    → merge (nest (part ∷ parts) v) (object ms)
    ≡ object (put part (merge (nest parts v)) (nest parts v) ms)
unfolding merge merge_members
under_part part parts v ms = refl

over_other : (part : List ℕ) (parts : List (List ℕ)) (v m : Tree) → IsNoMap m
    → merge (nest (part ∷ parts) v) m ≡ nest (part ∷ parts) v
unfolding merge
over_other part parts v (object ms) other = absurd other
over_other part parts v _ other = refl

-- a text has a first part
first_part_at : (test : Bool) (c : ℕ) (parts : List (List ℕ))
    → (if test then [] ∷ parts else onto_first c parts) ≡ [] → ⊥
first_part_at true c parts none = cc
first_part_at false c [] none = cc
first_part_at false c (part ∷ parts) none = cc

first_part : (cs : List ℕ) → dotted cs ≡ [] → ⊥
first_part [] none = cc
first_part (c ∷ cs) none = first_part_at (eqb c 46) c (dotted cs) none

over_parts : (parts : List (List ℕ)) (v m : Tree) → (parts ≡ [] → ⊥) → IsNoMap m
    → merge (nest parts v) m ≡ nest parts v
over_parts [] v m some other = absurd (some refl)
over_parts (part ∷ parts) v m some other = over_other part parts v m other

pub over_no_map : (key : List ℕ) (v m : Tree) → IsNoMap m
    → merge (nest (dotted key) v) m ≡ nest (dotted key) v
over_no_map key v m other = over_parts (dotted key) v m (first_part key) other

-- ---- what `split_once` makes of a key
abbrev Found : Type 0
Found = Option (Bor (List ℕ) × Bor (List ℕ))

module _ (key : List ℕ) (utf8 : IsUtf8 key) where
  cut_at : (found : Found) → IsSplitOnceResult 46 key found
      → IfSome found (λ x. Cut key x.0.now x.1.now)
  cut_at None is = tt
  cut_at (Some x) is = cut key x.0.now x.1.now is.0 is.1 utf8 is.2 is.3 is.4 is.7

  pub cut_parts : (found : Found) → IsSplitOnceResult 46 key found
      → IfSome found (λ x. dotted (chars key) ≡ chars x.0.now ∷ dotted (chars x.1.now))
  cut_parts None is = tt
  cut_parts (Some x) is = (cut_at (Some x) is).parts

  pub cut_shorter : (found : Found) → IsSplitOnceResult 46 key found
      → IfSome found (λ x. length x.1.now < length key)
  cut_shorter None is = tt
  cut_shorter (Some x) is = (cut_at (Some x) is).shorter

  pub cut_last : (found : Found) → IsSplitOnceResult 46 key found
      → IfNone found (dotted (chars key) ≡ chars key ∷ [])
  cut_last None is = one_part key utf8 is
  cut_last (Some x) is = tt
