-- Each text of the tables of words and signs has the kind that it should.
use Rattle.std.proofs.Common.{◌≡◌, ℕ, List, [], ◌∷◌, Bool, true, false, refl, subst}
use Rattle.std.specs.Prelude.{if◌then◌else◌}
use Rattle.std.specs.Str.{bytes_eq}
use Rattle.std.proofs.lemmas.Slice.Eq.{bytes_eq-Decides}
use Rattle.sjs_syntax.specs.Words.{Entry, is_entry, is_word, is_sign, words, signs}
use Rattle.sjs_kinds.specs.TextKinds.{IsWordKind, IsSignKind}

infixr 20 ◌&◌
-- each text of a table is so
data All (P : List ℕ → Type 0) : List Entry → Type 0 where
  none : All P []
  ◌&◌ : {e : Entry} {es : List Entry} → P e.0 → All P es → All P (e ∷ es)

each : (P : List ℕ → Type 0) (es : List Entry) → All P es →
    (text : List ℕ) → is_entry es text ≡ true → P text
each P all none text is = cc
each P all (◌&◌ {e = e} {es = es} p h) text is =
    by (bytes_eq e.0 text) refl is (each P es h text)
  where
    by : (b : Bool) → bytes_eq e.0 text ≡ b → (if b then true else is_entry es text) ≡ true →
        (is_entry es text ≡ true → P text) → P text
    by true same is other = subst P ((bytes_eq-Decides e.0 text).0 same) p
    by false same is other = other is

all_words : All IsWordKind words
unfolding words signs
all_words =
    (refl, refl) & (refl, refl) & (refl, refl) & (refl, refl) & (refl, refl) & (refl, refl)
    & (refl, refl) & (refl, refl) & (refl, refl) & (refl, refl) & (refl, refl) & (refl, refl)
    & (refl, refl) & (refl, refl) & (refl, refl) & (refl, refl) & (refl, refl) & (refl, refl)
    & (refl, refl) & (refl, refl) & (refl, refl) & (refl, refl) & (refl, refl) & (refl, refl)
    & (refl, refl) & (refl, refl) & (refl, refl) & (refl, refl) & (refl, refl) & (refl, refl)
    & (refl, refl) & (refl, refl) & (refl, refl) & (refl, refl) & (refl, refl) & (refl, refl)
    & (refl, refl) & (refl, refl) & (refl, refl) & (refl, refl) & (refl, refl) & (refl, refl) & none

all_signs : All IsSignKind signs
unfolding words signs
all_signs =
    refl & refl & refl & refl & refl & refl & refl & refl & refl & refl & refl & refl & refl
    & refl & refl & refl & refl & refl & refl & refl & refl & refl & refl & refl & refl & refl
    & refl & refl & refl & refl & refl & refl & refl & refl & refl & refl & refl & refl & refl
    & refl & refl & refl & refl & refl & refl & refl & refl & none

pub word_kind : (text : List ℕ) → is_word text ≡ true → IsWordKind text
word_kind = each IsWordKind words all_words

pub sign_kind : (text : List ℕ) → is_sign text ≡ true → IsSignKind text
sign_kind = each IsSignKind signs all_signs
