-- Fronts, ends and parts of texts, in their bytes. Of whole characters these are the same.
use Rattle.std.specs.Prelude.{ℕ, List, [], ◌∷◌, Bool, ◌||◌, nat_eq, encode_utf8_all}
use Rattle.std.specs.List as list

-- bytes have others somewhere
abbrev pub have : List ℕ → List ℕ → Bool
have [] part = list.starts_with nat_eq [] part
have (b ∷ bs) part = list.starts_with nat_eq (b ∷ bs) part || have bs part

-- a text begins with another one
abbrev pub starts : List ℕ → List ℕ → Bool
starts text front =
    list.starts_with nat_eq (encode_utf8_all text) (encode_utf8_all front)

-- a text ends with another one
abbrev pub ends : List ℕ → List ℕ → Bool
ends text back = list.ends_with nat_eq (encode_utf8_all text) (encode_utf8_all back)

-- a text has another one somewhere
abbrev pub has : List ℕ → List ℕ → Bool
has text part = have (encode_utf8_all text) (encode_utf8_all part)
