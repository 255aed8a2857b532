-- What the reader that makes data straight from tokens has read; for private clauses.
use Rattle.std.specs.Prelude.{◌≡◌, ◌≤◌, ◌+◌, ◌-◌, ℕ, suc, List, [], ◌∷◌, length, Option, Some, None}
use Rattle.std.specs.Prelude.{option_map, IsTrue, is_some, encode_utf8_all, ⊤}
use Rattle.std.specs.Ordering.{nat_cmp, match_ordering}
use Rattle.std.specs.Cmp.Lexicographic.{slice_cmp}
use Rattle.std.specs.declared.cmp.Ordering.TheVariants.{Less}
use Rattle.json.specs.Token.{Token}
use Rattle.json.specs.Json.{items, members, value}
use Rattle.serde_json.specs.Data as json
use Rattle.serde_json.specs.Read.{of_json, of_items, of_members, converted, max_depth}
use Rattle.gtm_data.specs.declared.limits.TheConstants.{MAX_DEPTH}
use Rattle.gtm_data.specs.Tree.{Tree, Trees, Entries}
use Rattle.gtm_data.specs.Plain.{whole_of, tree_in, trees_in, entries_in}

-- each number within is whole and in range
abbrev mutual
  pub AllWhole : json.Data → Type 0
  AllWhole json.null = ⊤
  AllWhole (json.boolean b) = ⊤
  AllWhole (json.number x) = IsTrue (is_some (whole_of x))
  AllWhole (json.string s) = ⊤
  AllWhole (json.array ds) = ItemsWhole ds
  AllWhole (json.object ms) = MembersWhole ms

  -- the same of the items of a List
  pub ItemsWhole : json.Items → Type 0
  ItemsWhole json.no_items = ⊤
  ItemsWhole (json.item d ds) = AllWhole d × ItemsWhole ds

  -- the same of the members of a Map
  pub MembersWhole : json.Members → Type 0
  MembersWhole json.no_members = ⊤
  MembersWhole (json.member key d ms) = AllWhole d × MembersWhole ms

-- how many levels deeper than data JSON may nest
abbrev pub levels_more : ℕ
levels_more = max_depth - MAX_DEPTH

-- the tokens `old` begin with a value that stands for this tree and nests at most so many levels
-- deep, and `new` stand behind it
pub record ReadsValue (levels : ℕ) (old : List Token) (t : Tree) (new : List Token) : Type 0 where
  pub found : json.Data
  pub read : converted of_json (value (levels + levels_more) old) ≡ Some (found, new)
  pub tree : t ≡ tree_in found
  pub whole : AllWhole found
  pub within : json.depth found ≤ levels

-- the same of the items of a List, with its end
pub record ReadsItems (levels : ℕ) (old : List Token) (ts : Trees) (new : List Token) : Type 0 where
  pub found : json.Items
  pub read : converted of_items (items (value (levels + levels_more)) (length old) old)
      ≡ Some (found, new)
  pub trees : ts ≡ trees_in found
  pub whole : ItemsWhole found
  pub within : json.items_depth found ≤ levels

-- the same of the members of a Map, with its end
pub record ReadsMembers (levels : ℕ) (old : List Token) (es : Entries)
    (new : List Token) : Type 0 where
  pub found : json.Members
  pub read : converted (λ ms. of_members ms json.no_members)
      (members (value (levels + levels_more)) (length old) old) ≡ Some (found, new)
  pub entries : es ≡ entries_in found
  pub whole : MembersWhole found
  pub within : json.members_depth found ≤ levels

-- where a member with this key goes among those in order of key bytes, unless it is there
abbrev pub place_for : {A : Type 0} → List ℕ → List (List ℕ × A) → Option ℕ
place_for key [] = Some 0
place_for key (pair ∷ pairs) =
    match_ordering (slice_cmp nat_cmp key (encode_utf8_all pair.0))
    (Some 0) None (option_map suc (place_for key pairs))

-- the key stands before each of these in the order of bytes
abbrev pub IsBelow : {A : Type 0} → List ℕ → List (List ℕ × A) → Type 0
IsBelow key [] = ⊤
IsBelow key (pair ∷ pairs) =
    (slice_cmp nat_cmp key (encode_utf8_all pair.0) ≡ Less) × IsBelow key pairs

-- keys stand in ascending order of their bytes, and so none twice
abbrev pub Ascend : {A : Type 0} → List (List ℕ × A) → Type 0
Ascend [] = ⊤
Ascend (pair ∷ pairs) = IsBelow (encode_utf8_all pair.0) pairs × Ascend pairs
