-- The turns in which the grammar reads Lists and Maps, with what they read made JSON trees.
use Rattle.std.proofs.Common.{◌≡◌, ◌≤◌, ◌<◌, ◌-◌, ℕ, List, [], ◌∷◌, length, Option, Some, None}
use Rattle.std.proofs.Common.{option_map, option_and_then, ◌+◌, refl, ap, ◌∙◌, arith}
use Rattle.std.specs.Prelude.{unwrap_or}
use Rattle.json.specs.Token.{Token}
use Rattle.json.specs.Json as grammar
use Rattle.json.specs.Json.{Parse, parse_map, after_end_array, read_key, items, members}
use Rattle.json.proofs.Grammar.{value-begin_array, value-begin_object, items_end, items_more}
use Rattle.json.proofs.Grammar.{members_end, members_more}
use Rattle.serde_json.specs.Data.{Data, array, object, no_items, item, Members, no_members}
use Rattle.serde_json.specs.Data.{put}
use Rattle.serde_json.specs.Read.{of_json, of_items, of_members, converted}

-- what is made of what was read, with the tokens behind it
abbrev with_rest : {A : Type 0} → List Token → Option A → Option (A × List Token)
with_rest rest made = option_map (λ a. (a, rest)) made

made_after : {A B : Type 0} (make : A → B) (rest : List Token) (o : Option A)
    → with_rest rest (option_map make o) ≡ parse_map make (with_rest rest o)
made_after make rest None = refl
made_after make rest (Some a) = refl

both_parts : {B : Type 0} (o : Option B) (rest new : List Token) (b : B)
    → with_rest rest o ≡ Some (b, new) → (rest ≡ new) × (o ≡ Some b)
both_parts None rest new b e = absurd (cc)
both_parts (Some a) rest new b e =
    let same = ap (λ read. unwrap_or read (a, rest)) e in
    (ap (λ p. p.1) same, ap (λ p. Some p.0) same)

-- what was read, where something was made of it
pub read_before : {A B : Type 0} (make : A → Option B) (read : Option (A × List Token)) (b : B)
    (new : List Token) → converted make read ≡ Some (b, new)
    → (a : A) × (read ≡ Some (a, new)) × (make a ≡ Some b)
read_before make None b new e = absurd (cc)
read_before make (Some p) b new e =
    let both = both_parts (make p.0) p.1 new b e in
    (p.0, ap (λ rest. Some (p.0, rest)) both.0, both.1)

-- a number that was read, where something was made of it
pub number_read : {A B : Type 0} {make : A → Option B} (read : Option A) (b : B)
    → option_and_then make read ≡ Some b → (a : A) × (read ≡ Some a) × (make a ≡ Some b)
number_read None b e = absurd (cc)
number_read (Some a) b e = (a, refl, e)

-- the whole of a text, where no token is left
pub last_read : (read : Option (grammar.Json × List Token)) (d : Data)
    → converted of_json read ≡ Some (d, [])
    → option_and_then of_json (option_and_then (λ p. grammar.if_last p.0 p.1) read) ≡ Some d
last_read read d e =
    let j = read_before of_json read d [] e in
    ap (λ r. option_and_then of_json (option_and_then (λ p. grammar.if_last p.0 p.1) r)) j.1 ∙ j.2

array_made : (read : Option (grammar.Items × List Token))
    → converted of_json (parse_map grammar.array read) ≡ parse_map array (converted of_items read)
array_made None = refl
array_made (Some p) = made_after array p.1 (of_items p.0)

object_made : (read : Option (grammar.Members × List Token))
    → converted of_json (parse_map grammar.object read)
    ≡ parse_map object (converted (λ ms. of_members ms no_members) read)
object_made None = refl
object_made (Some p) = made_after object p.1 (of_members p.0 no_members)

-- what a List and a Map are, by what is within
module _ (levels more : ℕ) (rest : List Token) (some : 0 < levels) where
  one_less : levels + more - 1 ≡ levels - 1 + more
  one_less = omega arith

  pub opens_array : converted of_json (grammar.value (levels + more) (Token.begin_array ∷ rest))
      ≡ parse_map array
      (converted of_items (items (grammar.value (levels - 1 + more)) (length rest) rest))
  opens_array =
      ap (converted of_json) (value-begin_array (levels + more) rest (omega arith))
      ∙ array_made (items (grammar.value (levels + more - 1)) (length rest) rest)
      ∙ ap (λ n.
      parse_map array (converted of_items (items (grammar.value n) (length rest) rest))) one_less

  pub opens_object : converted of_json (grammar.value (levels + more) (Token.begin_object ∷ rest))
      ≡ parse_map object
      (converted (λ ms. of_members ms no_members)
      (members (grammar.value (levels - 1 + more)) (length rest) rest))
  opens_object =
      ap (converted of_json) (value-begin_object (levels + more) rest (omega arith))
      ∙ object_made (members (grammar.value (levels + more - 1)) (length rest) rest)
      ∙ ap (λ n.
      parse_map object
      (converted (λ ms. of_members ms no_members)
      (members (grammar.value n) (length rest) rest))) one_less

item_made : (j : grammar.Json) (d : Data) (read : Option (grammar.Items × List Token))
    → of_json j ≡ Some d
    → converted of_items (parse_map (grammar.item j) read)
    ≡ parse_map (item d) (converted of_items read)
item_made j d None e = refl
item_made j d (Some p) e =
    ap (λ o. with_rest p.1 (option_and_then (λ first. option_map (item first) (of_items p.0)) o)) e
    ∙ made_after (item d) p.1 (of_items p.0)

member_made : (key : List ℕ) (j : grammar.Json) (d : Data) (found : Members)
    (read : Option (grammar.Members × List Token)) → of_json j ≡ Some d
    → converted (λ ms. of_members ms found) (parse_map (grammar.member key j) read)
    ≡ converted (λ ms. of_members ms (put key d found)) read
member_made key j d found None e = refl
member_made key j d found (Some p) e =
    ap (λ o.
    with_rest p.1 (option_and_then (λ first. of_members p.0 (put key first found)) o)) e

module _ (value : Parse grammar.Json) (turns : ℕ) (old : List Token) where
  -- an item, and those behind it in the turns that are left
  pub item_turn : (new : List Token) (d : Data) → 0 < turns → after_end_array old ≡ None
      → converted of_json (value old) ≡ Some (d, new)
      → converted of_items (items value turns old)
      ≡ parse_map (item d) (converted of_items (items value (turns - 1) new))
  item_turn new d some going e =
      let j = read_before of_json (value old) d new e in
      ap (converted of_items) (items_more value turns old new j.0 some going j.1)
      ∙ item_made j.0 d (items value (turns - 1) new) j.2

  pub last_item : (new : List Token) → length old ≤ turns → after_end_array old ≡ Some new
      → converted of_items (items value turns old) ≡ Some (no_items, new)
  last_item new enough e = ap (converted of_items) (items_end value turns old new enough e)

  -- a member behind those that were found, and those behind it in the turns that are left
  pub member_turn : (found : Members) (key : List ℕ) (behind new : List Token) (d : Data)
      → 0 < turns → read_key old ≡ Some (Some key, behind)
      → converted of_json (value behind) ≡ Some (d, new)
      → converted (λ ms. of_members ms found) (members value turns old)
      ≡ converted (λ ms. of_members ms (put key d found)) (members value (turns - 1) new)
  member_turn found key behind new d some named e =
      let j = read_before of_json (value behind) d new e in
      ap (converted (λ ms. of_members ms found))
      (members_more value turns key old behind new j.0 some named j.1)
      ∙ member_made key j.0 d found (members value (turns - 1) new) j.2

  pub last_member : (found : Members) (new : List Token) → length old ≤ turns
      → read_key old ≡ Some (None, new)
      → converted (λ ms. of_members ms found) (members value turns old) ≡ Some (found, new)
  last_member found new enough e =
      ap (converted (λ ms. of_members ms found)) (members_end value turns old new enough e)
