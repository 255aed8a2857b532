-- The patterns of addresses and keys, as they are written.
use Rattle.std.specs.Prelude.{◌≡◌, ℕ, ◌==◌, ◌&&◌, ◌||◌, not, if◌then◌else◌, List, [], ◌∷◌, ◌++◌}
use Rattle.std.specs.Prelude.{Bool, true, false, Option, Some, None, option_map, codes}
use Rattle.std.specs.List.{list_any}
use Rattle.std.specs.Str.{bytes_eq}
use Rattle.perm_model.specs.Addresses.{text_or_nothing}
use Rattle.perm_model.specs.Texts.{is_nothing}
use Rattle.perm_model.specs.declared.grants.AddressPattern.{AddressPattern}
use Rattle.perm_model.specs.declared.grants.AddressPattern.TheVariants.{Pattern}
use Rattle.perm_model.specs.declared.grants.KeyPattern.{KeyPattern}
use Rattle.perm_model.specs.declared.grants.KeyPattern.TheVariants.{Equal, Prefix}

-- what stands behind these characters, where a text begins with them
abbrev pub behind : List ℕ → List ℕ → Option (List ℕ)
behind [] text = Some text
behind (c ∷ cs) [] = None
behind (c ∷ cs) (d ∷ ds) = if c == d then behind cs ds else None

-- what stands before the first slash
abbrev pub before_slash : List ℕ → List ℕ
before_slash [] = []
before_slash (c ∷ cs) = if c == 47 then [] else c ∷ before_slash cs

-- from the first slash on, where there is one
abbrev pub from_slash : List ℕ → Option (List ℕ)
from_slash [] = None
from_slash (c ∷ cs) = if c == 47 then Some (c ∷ cs) else from_slash cs

abbrev pub has_star : List ℕ → Bool
has_star text = list_any (λ c. c == 42) text

-- one or more characters, none of which is `*`
abbrev pub is_host : List ℕ → Bool
is_host text = not (is_nothing text) && not (has_star text)

abbrev pub or_whole : Option (List ℕ) → List ℕ → List ℕ
or_whole None whole = whole
or_whole (Some part) whole = part

-- a host, `*.host` or `*`
abbrev pub is_authority : List ℕ → Bool
is_authority text =
    bytes_eq text (codes "*") || is_host (or_whole (behind (codes "*.") text) text)

-- an authority and an optional path
abbrev pub pattern_behind : Option (List ℕ) → Option AddressPattern
pattern_behind None = None
pattern_behind (Some rest) =
    if is_authority (before_slash rest) then Some (Pattern (before_slash rest) (from_slash rest))
    else None

-- `https://`, an authority and an optional path
abbrev pub address_pattern : List ℕ → Option AddressPattern
address_pattern text = pattern_behind (behind (codes "https://") text)

-- a path begins with a slash, where there is one
abbrev pub BeginsWithSlash : Option (List ℕ) → Type 0
BeginsWithSlash None = Unit {0}
BeginsWithSlash (Some path) = (rest : List ℕ) × (path ≡ 47 ∷ rest)

-- the same said of the whole text
pub record IsAddressPattern (text authority : List ℕ) (path : Option (List ℕ)) : Type 0 where
  pub split : text ≡ codes "https://" ++ (authority ++ text_or_nothing path)
  pub host : is_authority authority ≡ true
  pub one_part : list_any (λ c. c == 47) authority ≡ false
  pub rest : BeginsWithSlash path

-- what stands before a `*` that is the last character
abbrev pub before_last_star : List ℕ → Option (List ℕ)
before_last_star [] = None
before_last_star (c ∷ cs) =
    if c == 42 && is_nothing cs then Some []
    else option_map (λ front. c ∷ front) (before_last_star cs)

abbrev pub prefix_or_equal : Option (List ℕ) → List ℕ → KeyPattern
prefix_or_equal None text = Equal text
prefix_or_equal (Some front) text = Prefix front

-- with a `*` as its last character a prefix, and else an equal text
abbrev pub key_pattern : List ℕ → KeyPattern
key_pattern text = prefix_or_equal (before_last_star text) text
