-- Compact JSON text, as a list of characters.
use Rattle.std.specs.Prelude.{ℕ, ◌/◌, ◌%◌, ◌==◌, nat_lt, nat_le, List, [], ◌∷◌, ◌++◌, codes, Bool}
use Rattle.std.specs.Prelude.{not, ◌&&◌, true, false, if◌then◌else◌}
use Rattle.std.specs.Char.{digit_char}
use Rattle.std.specs.Fmt.{signed_decimal}
use Rattle.std.specs.List.{flat_map, join_with_byte}
use Rattle.gtm_data.specs.Tree.{Tree, undefined, null, bool, whole, text, list, object, foreign}
use Rattle.gtm_data.specs.Tree.{callback, Trees, end, item, Entries, none, entry}

-- one character within quotes
abbrev pub escaped : ℕ → List ℕ
escaped c =
    if c == 34 then codes "\\\"" else
    if c == 92 then codes "\\\\" else
    if c == 8 then codes "\\b" else
    if c == 12 then codes "\\f" else
    if c == 10 then codes "\\n" else
    if c == 13 then codes "\\r" else
    if c == 9 then codes "\\t" else
    if nat_lt c 32 then codes "\\u00" ++ digit_char (c / 16) ∷ digit_char (c % 16) ∷ [] else
    c ∷ []

-- a text in quotes
abbrev pub quoted : List ℕ → List ℕ
quoted characters = 34 ∷ flat_map escaped characters ++ 34 ∷ []

-- whether a byte of a text in UTF-8 needs no escape within quotes
abbrev pub is_plain_byte : ℕ → Bool
is_plain_byte b = nat_le 32 b && not (b == 34) && not (b == 92)

-- what stands before the item or member at this place
abbrev pub comma_before : ℕ → List ℕ
comma_before at = if at == 0 then [] else 44 ∷ []

-- a tree as JSON, with no blanks: members and items are joined by commas
unfoldable mutual
  pub json_text : Tree → List ℕ
  json_text undefined = codes "undefined"
  json_text null = codes "null"
  json_text (bool true) = codes "true"
  json_text (bool false) = codes "false"
  json_text (whole number) = signed_decimal number
  json_text (text t) = quoted t
  json_text (list ts) = 91 ∷ join_with_byte 44 (item_texts ts) ++ 93 ∷ []
  json_text (object es) = 123 ∷ join_with_byte 44 (member_texts es) ++ 125 ∷ []
  json_text foreign = codes "function"
  json_text (callback number) = codes "function"

  -- the items as JSON
  pub item_texts : Trees → List (List ℕ)
  item_texts end = []
  item_texts (item t ts) = json_text t ∷ item_texts ts

  -- the members as JSON, each its key in quotes, a colon and its value
  pub member_texts : Entries → List (List ℕ)
  member_texts none = []
  member_texts (entry key t es) = (quoted key ++ 58 ∷ json_text t) ∷ member_texts es
