-- The first of the values within a JSON tree of which something holds.
use Rattle.std.proofs.Common.{◌≡◌, ◌+◌, ℕ, List, [], ◌∷◌, ◌++◌, map, Bool, true, false, ◌&&◌}
use Rattle.std.proofs.Common.{Option, Some, None, option_map, refl, sym, ap, ◌∙◌, arith}
use Rattle.std.proofs.lemmas.Bool.Decides.{nat_tests}
use Rattle.std.proofs.lemmas.List.Folds.{find-append}
use Rattle.std.specs.Prelude.{find, nat_le, if◌then◌else◌}
use Rattle.std.specs.Option.{option_or}
use Rattle.std.specs.Str.{chars}
use Rattle.serde_json.specs.Data.{Data, Items, item, Members, member}
use Rattle.gtm_data.specs.Plain.{Node, inside, index_step, key_step, nodes, item_nodes}
use Rattle.gtm_data.specs.Plain.{member_nodes, first_path, is_nest, is_nest_below}

-- a path that is one step longer
abbrev pub under : List ℕ → Option (List ℕ) → Option (List ℕ)
under step found = option_map (λ path. step ++ path) found

path_of-or : (some other : Option Node)
    → option_map (λ node. node.path) (option_or some other)
    ≡ option_or (option_map (λ node. node.path) some) (option_map (λ node. node.path) other)
path_of-or None other = refl
path_of-or (Some n) other = refl

path_of-inside : (step : List ℕ) (found : Option Node)
    → option_map (λ node. node.path) (option_map (inside step) found)
    ≡ under step (option_map (λ node. node.path) found)
path_of-inside step None = refl
path_of-inside step (Some n) = refl

find_here : (b : Bool) (step : List ℕ) (n : Node) (some other : Option Node)
    → other ≡ option_map (inside step) some
    → (if b then Some (inside step n) else other)
    ≡ option_map (inside step) (if b then Some n else some)
find_here true step n some other e = refl
find_here false step n some other e = e

find-inside : (holds : Node → Bool) (step : List ℕ) (ns : List Node)
    → find holds (map (inside step) ns)
    ≡ option_map (inside step) (find (λ n. holds (inside step n)) ns)
find-inside holds step [] = refl
find-inside holds step (n ∷ ns) =
    find_here (holds (inside step n)) step n _ _ (find-inside holds step ns)

first_path-inside : (holds : Node → Bool) (step : List ℕ) (ns more : List Node)
    → first_path holds (map (inside step) ns ++ more)
    ≡ option_or (under step (first_path (λ n. holds (inside step n)) ns)) (first_path holds more)
first_path-inside holds step ns more =
    ap (option_map (λ node. node.path)) (find-append holds (map (inside step) ns) more)
    ∙ path_of-or (find holds (map (inside step) ns)) (find holds more)
    ∙ ap (λ found. option_or found (first_path holds more))
    (ap (option_map (λ node. node.path)) (find-inside holds step ns)
    ∙ path_of-inside step (find (λ n. holds (inside step n)) ns))

-- a fact of the values in a List or Map, and the same fact where the List or Map stands
module _ (within here : Node → Bool)
    (same : (step : List ℕ) (n : Node) → here (inside step n) ≡ within n) where
  pub first_path-item : (place : ℕ) (d : Data) (ds : Items)
      → first_path here (item_nodes place (item d ds))
      ≡ option_or (under (index_step place) (first_path within (nodes d)))
      (first_path here (item_nodes (place + 1) ds))
  unfolding item_nodes
  first_path-item place d ds =
      first_path-inside here (index_step place) (nodes d) (item_nodes (place + 1) ds)
      ∙ (λ i. option_or
      (under (index_step place) (first_path (λ n. same (index_step place) n i) (nodes d)))
      (first_path here (item_nodes (place + 1) ds)))

  pub first_path-member : (key : List ℕ) (d : Data) (ms : Members)
      → first_path here (member_nodes (member key d ms))
      ≡ option_or (under (key_step (chars key)) (first_path within (nodes d)))
      (first_path here (member_nodes ms))
  unfolding member_nodes
  first_path-member key d ms =
      first_path-inside here (key_step (chars key)) (nodes d) (member_nodes ms)
      ∙ (λ i. option_or
      (under (key_step (chars key))
      (first_path (λ n. same (key_step (chars key)) n i) (nodes d))) (first_path here
      (member_nodes ms)))

  -- the path within an item or a member, one step longer
  pub item_told : (place : ℕ) (d : Data) (ds : Items) (path made : List ℕ)
      → Some path ≡ first_path within (nodes d) → made ≡ index_step place ++ path
      → Some made ≡ first_path here (item_nodes place (item d ds))
  item_told place d ds path made e f =
      ap Some f ∙ ap
      (λ found. option_or (under (index_step place) found)
      (first_path here (item_nodes (place + 1) ds))) e ∙ sym (first_path-item place d ds)

  pub member_told : (key : List ℕ) (d : Data) (ms : Members) (path made : List ℕ)
      → Some path ≡ first_path within (nodes d) → made ≡ key_step (chars key) ++ path
      → Some made ≡ first_path here (member_nodes (member key d ms))
  member_told key d ms path made e f =
      ap Some f ∙ ap
      (λ found. option_or (under (key_step (chars key)) found) (first_path here (member_nodes ms)))
      e ∙ sym (first_path-member key d ms)

  -- the rest, where there is none within the first
  pub item_passed : (place : ℕ) (d : Data) (ds : Items) → None ≡ first_path within (nodes d)
      → first_path here (item_nodes (place + 1) ds) ≡ first_path here (item_nodes place (item d ds))
  item_passed place d ds e =
      ap (λ found.
      option_or (under (index_step place) found)
      (first_path here (item_nodes (place + 1) ds))) e ∙ sym (first_path-item place d ds)

  pub member_passed : (key : List ℕ) (d : Data) (ms : Members) → None ≡ first_path within (nodes d)
      → first_path here (member_nodes ms) ≡ first_path here (member_nodes (member key d ms))
  member_passed key d ms e =
      ap (λ found.
      option_or (under (key_step (chars key)) found)
      (first_path here (member_nodes ms))) e ∙ sym (first_path-member key d ms)

nat_le-one_more : (a b more : ℕ) → more ≡ a + 1 → nat_le more (b + 1) ≡ nat_le a b
nat_le-one_more a b more is = grind (arith, nat_tests)

-- one List or Map more above it
pub is_nest_below-inside : (allowed more : ℕ) → more ≡ allowed + 1 → (step : List ℕ) (n : Node)
    → is_nest_below more (inside step n) ≡ is_nest_below allowed n
is_nest_below-inside allowed more is step n =
    ap (λ b. is_nest n.value && b) (nat_le-one_more allowed n.above more is)
