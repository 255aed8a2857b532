-- Reserved words and signs, by the tables of the code. Their characters are ASCII, so a text of the
-- tables is its own list of characters.
use Rattle.std.specs.Prelude.{◌≡◌, ℕ, ◌≤◌, if◌then◌else◌, List, [], ◌∷◌, ◌++◌, map, length, Bool}
use Rattle.std.specs.Prelude.{true, false, Option, Some, None, nat_eq}
use Rattle.std.specs.List.{starts_with}
use Rattle.std.specs.Str.{bytes_eq}
use Rattle.sjs_syntax.specs.declared.words.Standing.{Standing}
use Rattle.sjs_syntax.specs.declared.words.Standing.TheVariants.{Grammar, LeftOut}
use Rattle.sjs_syntax.specs.declared.words.TheConstants.{WORDS, SIGNS}

-- a text with its standing
abbrev pub Entry : Type 0
Entry = List ℕ × Standing

-- a text of the table
abbrev pub is_entry : List Entry → List ℕ → Bool
is_entry [] text = false
is_entry (e ∷ es) text = if bytes_eq e.0 text then true else is_entry es text

abbrev pub counts_as_left_out : Standing → Bool
counts_as_left_out Grammar = false
counts_as_left_out LeftOut = true

-- a text of the table that counts as left out
abbrev pub is_left_out_entry : List Entry → List ℕ → Bool
is_left_out_entry [] text = false
is_left_out_entry (e ∷ es) text =
    if bytes_eq e.0 text then counts_as_left_out e.1 else is_left_out_entry es text

-- the first text of the table with which a text begins
abbrev pub first_entry : List Entry → List ℕ → Option (List ℕ)
first_entry [] text = None
first_entry (e ∷ es) text = if starts_with nat_eq text e.0 then Some e.0 else first_entry es text

unfoldable pub words : List Entry
words = map (λ e. (e.0.now, e.1)) WORDS

unfoldable pub signs : List Entry
signs = map (λ e. (e.0.now, e.1)) SIGNS

abbrev pub is_word : List ℕ → Bool
is_word text = is_entry words text

abbrev pub is_sign : List ℕ → Bool
is_sign text = is_entry signs text

-- a word or a sign that counts as left out
abbrev pub is_left_out : List ℕ → Bool
is_left_out text = if is_left_out_entry words text then true else is_left_out_entry signs text

-- a sign with which the text begins, and no other such sign is longer
pub record IsLongestSign (text sign : List ℕ) : Type 0 where
  pub is : is_sign sign ≡ true
  pub begins : (rest : List ℕ) × (text ≡ sign ++ rest)
  pub longest :
      (other rest : List ℕ) → is_sign other ≡ true → text ≡ other ++ rest →
      length other ≤ length sign

-- no sign is a front of the text
abbrev pub BeginsWithNoSign : List ℕ → Type 0
BeginsWithNoSign text = (sign rest : List ℕ) → is_sign sign ≡ true → text ≡ sign ++ rest → ⊥
