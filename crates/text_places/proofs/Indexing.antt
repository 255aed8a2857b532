-- An index of texts, with one text more.
use Rattle.std.proofs.Common.{◌≡◌, ℕ, suc, ◌+◌, List, [], ◌∷◌, ◌++◌, length, Bool, true, false}
use Rattle.std.proofs.Common.{true≢false, cond, take, Bor, BTreeMap, nat_cmp, is_some, refl, sym}
use Rattle.std.proofs.Common.{ap, ◌∙◌, slice_get}
use Rattle.std.specs.Prelude.{Option, Some, None, option_map}
use Rattle.std.specs.Str.{bytes_eq, chars, IsUtf8}
use Rattle.std.proofs.lemmas.Slice.Eq.{bytes_eq-Decides}
use Rattle.std.proofs.lemmas.Str.{encodes-chars}
use Rattle.std.proofs.Math.Utf8.{encodes}
use Rattle.std.proofs.lemmas.Map.Text.{btree_map_updates_str}
use Rattle.std.specs.BTreeMap.{get_by, UpdatesBy}
use Rattle.std.specs.Cmp.Lexicographic.{slice_cmp}
use Rattle.text_places.specs.Places.{place_of}
use Rattle.text_places.specs.Indexed.{Indexes}
use Rattle.text_places.proofs.ListPlaces.{length-take_before, take_more}

same_truth : (some other : Bool) (a b : List ℕ) → IsUtf8 a → IsUtf8 b → bytes_eq a b ≡ some
    → bytes_eq (chars a) (chars b) ≡ other → some ≡ other
same_truth true true a b a_is b_is bytes characters = refl
same_truth true false a b a_is b_is bytes characters =
    let same : a ≡ b = (bytes_eq-Decides a b).0 bytes in
    absurd (true≢false
    (sym ((bytes_eq-Decides (chars a) (chars b)).1 (ap chars same)) ∙ characters))
same_truth false true a b a_is b_is bytes characters =
    let same : chars a ≡ chars b = (bytes_eq-Decides (chars a) (chars b)).0 characters in
    absurd (true≢false
    (sym ((bytes_eq-Decides a b).1
    (sym (encodes-chars a a_is) ∙ ap encodes same ∙ encodes-chars b b_is)) ∙ bytes))
same_truth false false a b a_is b_is bytes characters = refl

-- two texts have the same characters exactly where they have the same bytes
pub same_text : (a b : List ℕ) → IsUtf8 a → IsUtf8 b → bytes_eq a b ≡ bytes_eq (chars a) (chars b)
same_text a b a_is b_is =
    same_truth (bytes_eq a b) (bytes_eq (chars a) (chars b)) a b a_is b_is refl refl

-- the first of two places, where it is there, and else the second
abbrev or_else : Option ℕ → Option ℕ → Option ℕ
or_else None other = other
or_else (Some at) other = Some at

passed : (test : Bool) (some : Option ℕ) (last : Bool) (count : ℕ)
    → cond test (Some 0) (option_map suc (or_else some (cond last (Some count) None)))
    ≡ or_else (cond test (Some 0) (option_map suc some)) (cond last (Some (suc count)) None)
passed true some last count = refl
passed false None true count = refl
passed false None false count = refl
passed false (Some at) last count = refl

-- the place of a text where one more stands behind the others
place_of-push : (text new : List ℕ) (texts : List (List ℕ))
    → place_of text (texts ++ new ∷ [])
    ≡ or_else (place_of text texts) (cond (bytes_eq new text) (Some (length texts)) None)
place_of-push text new [] = refl
place_of-push text new (first ∷ texts) =
    ap (λ place. cond (bytes_eq first text) (Some 0) (option_map suc place))
    (place_of-push text new texts)
    ∙ passed (bytes_eq first text) (place_of text texts) (bytes_eq new text) (length texts)

or_none : (some : Option ℕ) → or_else some None ≡ some
or_none None = refl
or_none (Some at) = refl

or_old : (some other : Option ℕ) → is_some some ≡ true → or_else some other ≡ some
or_old None other is = absurd (cc)
or_old (Some at) other is = refl

new_place : (test : Bool) (text new : List ℕ) (texts : List (List ℕ)) (at : ℕ)
    → bytes_eq new text ≡ test → place_of new texts ≡ None
    → cond test (Some at) (place_of text texts)
    ≡ or_else (place_of text texts) (cond test (Some at) None)
new_place true text new texts at same none =
    ap (λ place. or_else place (Some at))
    (sym none ∙ ap (λ key. place_of key texts) ((bytes_eq-Decides new text).0 same))
new_place false text new texts at other none = sym (or_none (place_of text texts))

-- a text that the others lack has the next place
pub place_of-new : (text new : List ℕ) (texts : List (List ℕ)) (at : ℕ) → length texts ≡ at
    → place_of new texts ≡ None
    → cond (bytes_eq new text) (Some at) (place_of text texts) ≡ place_of text (texts ++ new ∷ [])
place_of-new text new texts at count none =
    new_place (bytes_eq new text) text new texts at refl none
    ∙ ap (λ n. or_else (place_of text texts) (cond (bytes_eq new text) (Some n) None)) (sym count)
    ∙ sym (place_of-push text new texts)

old_place : (test : Bool) (text new : List ℕ) (texts : List (List ℕ)) (count : ℕ)
    → bytes_eq new text ≡ test → is_some (place_of new texts) ≡ true
    → place_of text texts ≡ or_else (place_of text texts) (cond test (Some count) None)
old_place true text new texts count same known =
    sym (or_old (place_of text texts) (Some count)
    (ap (λ key. is_some (place_of key texts)) (sym ((bytes_eq-Decides new text).0 same))
    ∙ known))
old_place false text new texts count other known = sym (or_none (place_of text texts))

-- a text that the others have changes no place
pub place_of-old : (text new : List ℕ) (texts : List (List ℕ)) → is_some (place_of new texts) ≡ true
    → place_of text texts ≡ place_of text (texts ++ new ∷ [])
place_of-old text new texts known =
    old_place (bytes_eq new text) text new texts (length texts) refl known
    ∙ sym (place_of-push text new texts)

pub none_of : (place : Option ℕ) → is_some place ≡ false → place ≡ None
none_of None is = refl
none_of (Some at) is = absurd (cc)

module _ (first : BTreeMap (Bor (List ℕ)) ℕ) (texts : List (List ℕ)) (at : ℕ) (key : List ℕ) where
  -- the index knows a text where it stood before
  pub knows : Indexes first (take at texts) → IsUtf8 key
      → is_some (get_by (λ k. slice_cmp nat_cmp key k.now) first)
      ≡ is_some (place_of (chars key) (take at texts))
  knows indexes key_is = ap is_some (indexes.places key key_is)

  -- with a new text put in at its place, the index is that of one text more
  pub indexes-new : (new : BTreeMap (Bor (List ℕ)) ℕ) → Indexes first (take at texts) → IsUtf8 key
      → slice_get texts at ≡ Some (chars key)
      → is_some (place_of (chars key) (take at texts)) ≡ false
      → UpdatesBy (λ x y. slice_cmp nat_cmp x.now y.now) (λ k. slice_cmp nat_cmp key k.now) first
      new (Some at) → Indexes new (take (at + 1) texts)
  indexes-new new indexes key_is here unknown updates = record {
    places = λ text text_is.
        let before = take at texts in
        let old = get_by (λ k. slice_cmp nat_cmp text k.now) first in
        btree_map_updates_str key first new (Some at) updates text
        ∙ ap (λ test. cond test (Some at) old) (same_text key text key_is text_is)
        ∙ ap (λ place. cond (bytes_eq (chars key) (chars text)) (Some at) place)
        (indexes.places text text_is)
        ∙ place_of-new (chars text) (chars key) before at
        (length-take_before texts at (chars key) here)
        (none_of (place_of (chars key) before) unknown)
        ∙ ap (place_of (chars text)) (sym (take_more texts at (chars key) here));
  }

  -- the index of texts is that of one text more, which stood before
  pub indexes-old : Indexes first (take at texts) → slice_get texts at ≡ Some (chars key)
      → is_some (place_of (chars key) (take at texts)) ≡ true → Indexes first (take (at + 1) texts)
  indexes-old indexes here known = record {
    places = λ text text_is.
        indexes.places text text_is
        ∙ place_of-old (chars text) (chars key) (take at texts) known
        ∙ ap (place_of (chars text)) (sym (take_more texts at (chars key) here));
  }
