-- What stands at a path of a tree after a value was set at a path.
use Rattle.std.proofs.Common.{◌≡◌, ℕ, List, [], ◌∷◌, ◌++◌, Option, Some, None, Bool, true, false}
use Rattle.std.proofs.Common.{if◌then◌else◌, true≢false, refl, sym, ap, ◌∙◌, subst}
use Rattle.std.specs.Prelude.{◌&&◌, option_and_then}
use Rattle.std.specs.Option.{option_map_or}
use Rattle.std.specs.Str.{bytes_eq}
use Rattle.gtm_data.specs.Paths.{member, walk}
use Rattle.gtm_data.specs.Tree.{Tree, object, Entries, none, entry}
use Rattle.data_layer.specs.Layer.{nest}
use Rattle.data_layer.proofs.Steps.{changed, put_same, put_other, same_key, equal_keys}
use Rattle.page_world.specs.Globals.{is_in_the_way, members_in, set_at}
use Rattle.page_world.specs.Parts.{HasMapAt}
use Rattle.page_world.specs.Returns.{begins_with}

abbrev Path : Type 0
Path = List (List ℕ)

-- behind an equal part, the rest does not begin with the other rest
behind : (part : List ℕ) (parts others : Path)
    → begins_with (part ∷ parts) (part ∷ others) ≡ false → begins_with parts others ≡ false
behind part parts others apart =
    ap (λ test. test && begins_with parts others) (sym (same_key part)) ∙ apart

module _ (v : Tree) where
  -- ---- at the path itself
  nest-there : (parts : Path) → walk parts (nest parts v) ≡ Some v
  nest-there [] = refl
  nest-there (part ∷ parts) =
      ap (λ test. option_and_then (walk parts) (if test then Some (nest parts v) else None))
      (same_key part)
      ∙ nest-there parts

  changed-there : (parts : Path) (found : Option Tree)
      → ((t : Tree) → walk parts (set_at parts v t) ≡ Some v)
      → walk parts (changed (set_at parts v) (nest parts v) found) ≡ Some v
  changed-there parts None later = nest-there parts
  changed-there parts (Some m) later = later m

  pub set_at-there : (parts : Path) (t : Tree) → walk parts (set_at parts v t) ≡ Some v
  set_at-there [] t = refl
  set_at-there (part ∷ parts) t =
      ap (option_and_then (walk parts))
      (put_same part (set_at parts v) (nest parts v) (members_in t))
      ∙ changed-there parts (member part (members_in t)) (set_at-there parts)

  -- ---- at a path apart from it
  nest-else_at : (test : Bool) (part other : List ℕ) (parts others : Path)
      → bytes_eq part other ≡ test
      → begins_with (part ∷ parts) (other ∷ others) ≡ false
      → begins_with (other ∷ others) (part ∷ parts) ≡ false
      → (begins_with parts others ≡ false → begins_with others parts ≡ false
      → walk others (nest parts v) ≡ None)
      → option_and_then (walk others) (if test then Some (nest parts v) else None) ≡ None
  nest-else_at false part other parts others is over under later = refl
  nest-else_at true part other parts others is over under later =
      let same : other ≡ part = sym (equal_keys part other is) in
      later
      (behind part parts others
      (subst (λ o. begins_with (part ∷ parts) (o ∷ others) ≡ false) same over))
      (behind part others parts
      (subst (λ o. begins_with (o ∷ others) (part ∷ parts) ≡ false) same under))

  nest-else : (parts others : Path) → begins_with parts others ≡ false
      → begins_with others parts ≡ false → walk others (nest parts v) ≡ None
  nest-else [] others over under = absurd (true≢false over)
  nest-else (part ∷ parts) [] over under = absurd (true≢false under)
  nest-else (part ∷ parts) (other ∷ others) over under =
      nest-else_at (bytes_eq part other) part other parts others refl over under
      (nest-else parts others)

  changed-else : (parts others : Path) (found : Option Tree)
      → option_map_or (is_in_the_way parts) found false ≡ false
      → walk others (nest parts v) ≡ None
      → ((m : Tree) → is_in_the_way parts m ≡ false
      → walk others (set_at parts v m) ≡ walk others m)
      → walk others (changed (set_at parts v) (nest parts v) found)
      ≡ option_and_then (walk others) found
  changed-else parts others None free new later = new
  changed-else parts others (Some m) free new later = later m free

  else_at : (test : Bool) (part other : List ℕ) (parts others : Path) (es : Entries)
      → bytes_eq part other ≡ test
      → option_map_or (is_in_the_way parts) (member part es) false ≡ false
      → begins_with (part ∷ parts) (other ∷ others) ≡ false
      → begins_with (other ∷ others) (part ∷ parts) ≡ false
      → ((m : Tree) → is_in_the_way parts m ≡ false → begins_with parts others ≡ false
      → begins_with others parts ≡ false → walk others (set_at parts v m) ≡ walk others m)
      → walk (other ∷ others) (set_at (part ∷ parts) v (object es))
      ≡ walk (other ∷ others) (object es)
  else_at false part other parts others es is free over under later =
      ap (option_and_then (walk others))
      (put_other part (set_at parts v) (nest parts v) other es is)
  else_at true part other parts others es is free over under later =
      let same : other ≡ part = sym (equal_keys part other is) in
      let within =
      behind part parts others
      (subst (λ o. begins_with (part ∷ parts) (o ∷ others) ≡ false) same over) in
      let without =
      behind part others parts
      (subst (λ o. begins_with (o ∷ others) (part ∷ parts) ≡ false) same under) in
      let here : walk (part ∷ others) (set_at (part ∷ parts) v (object es))
      ≡ walk (part ∷ others) (object es) =
      ap (option_and_then (walk others)) (put_same part (set_at parts v) (nest parts v) es)
      ∙ changed-else parts others (member part es) free (nest-else parts others within without)
      (λ m clear. later m clear within without) in
      subst (λ o. walk (o ∷ others) (set_at (part ∷ parts) v (object es))
      ≡ walk (o ∷ others) (object es)) (sym same) here

  pub set_at-else : (parts others : Path) (t : Tree) → is_in_the_way parts t ≡ false
      → begins_with parts others ≡ false → begins_with others parts ≡ false
      → walk others (set_at parts v t) ≡ walk others t
  set_at-else [] others t free over under = absurd (true≢false over)
  set_at-else (part ∷ parts) [] t free over under = absurd (true≢false under)
  set_at-else (part ∷ parts) (other ∷ others) (object es) free over under =
      else_at (bytes_eq part other) part other parts others es refl free over under
      (set_at-else parts others)
  set_at-else (part ∷ parts) (other ∷ others) _ free over under = absurd (true≢false free)

  -- ---- above it
  module _ (part : List ℕ) (rest : Path) where
    nest-above : (front : Path) → HasMapAt front (nest (front ++ part ∷ rest) v)
    nest-above [] = record { members = entry part (nest rest v) none; there = refl }
    nest-above (first ∷ front) =
        let later = nest-above front in
        record {
          members = later.members;
          there =
              ap (λ test. option_and_then (walk front)
              (if test then Some (nest (front ++ part ∷ rest) v) else None)) (same_key first)
              ∙ later.there;
        }

    changed-above : (front : Path) (found : Option Tree)
        → ((t : Tree) → HasMapAt front (set_at (front ++ part ∷ rest) v t))
        → HasMapAt front
        (changed (set_at (front ++ part ∷ rest) v) (nest (front ++ part ∷ rest) v) found)
    changed-above front None later = nest-above front
    changed-above front (Some m) later = later m

    pub set_at-above : (front : Path) (t : Tree)
        → HasMapAt front (set_at (front ++ part ∷ rest) v t)
    set_at-above [] t = record { members = _; there = refl }
    set_at-above (first ∷ front) t =
        let later =
        changed-above front (member first (members_in t)) (set_at-above front) in
        record {
          members = later.members;
          there =
              ap (option_and_then (walk front))
              (put_same first (set_at (front ++ part ∷ rest) v) (nest (front ++ part ∷ rest) v)
              (members_in t))
              ∙ later.there;
        }
