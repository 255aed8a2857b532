-- The first items of a list, the next one and the rest.
use Rattle.std.proofs.Common.{◌≡◌, ◌<◌, ◌≤◌, ℕ, zero, suc, List, [], ◌∷◌, length, get_or, take}
use Rattle.std.proofs.Common.{drop, drop-cons, Bool, true, false, not, ◌&&◌, ◌||◌, true≢false, refl}
use Rattle.std.proofs.Common.{ap, sym, ◌∙◌, arith}
use Rattle.std.specs.Str.{bytes_eq}
use Rattle.gtm_base.proofs.Pairs.{bytes_eq-sym}
use Rattle.gtm_base.specs.Keys.{has_key, distinct_keys}

pub take_all : {A : Type 0} (at : ℕ) (items : List A) → length items ≤ at → take at items ≡ items
take_all zero [] past = refl
take_all (suc at) [] past = refl
take_all zero (x ∷ items) past = absurd (omega arith)
take_all (suc at) (x ∷ items) past = ap (λ rest. x ∷ rest) (take_all at items (omega arith))

pub next : {A : Type 0} (some items : List A) (at : ℕ) (x : A) → some ≡ items → at < length items
    → x ≡ get_or some at x → drop at items ≡ x ∷ drop (suc at) items
next some items at x same within is =
    drop-cons items at x within
    ∙ ap (λ first. first ∷ drop (suc at) items)
    (ap (λ other. get_or other at x) (sym same) ∙ sym is)

pub or_false : (a b : Bool) → (a || b) ≡ false → (a ≡ false) × (b ≡ false)
or_false true b none = absurd (true≢false none)
or_false false b none = (refl, none)

pub and_true : (a b : Bool) → (a && b) ≡ true → (a ≡ true) × (b ≡ true)
and_true true b both = (refl, both)
and_true false b both = absurd (true≢false (sym both))

pub not_true : (b : Bool) → not b ≡ true → b ≡ false
not_true true e = absurd (true≢false (sym e))
not_true false e = refl

module _ {A : Type 0} where
  other_key : (key : List ℕ) (pairs : List (List ℕ × A)) (at : ℕ) (pair : List ℕ × A)
      → at < length pairs → pair ≡ get_or pairs at pair → has_key key pairs ≡ false
      → bytes_eq pair.0 key ≡ false
  other_key key [] at pair within is absent = absurd (omega arith)
  other_key key (first ∷ pairs) zero pair within is absent =
      ap (λ p. bytes_eq p.0 key) is ∙ (or_false (bytes_eq first.0 key) (has_key key pairs) absent).0
  other_key key (first ∷ pairs) (suc at) pair within is absent =
      other_key key pairs at pair (omega arith) is
      (or_false (bytes_eq first.0 key) (has_key key pairs) absent).1

  -- the key of a pair is in none of those before it
  pub key_is_new : (pairs : List (List ℕ × A)) (at : ℕ) (pair : List ℕ × A) → at < length pairs
      → pair ≡ get_or pairs at pair → distinct_keys pairs ≡ true
      → has_key pair.0 (take at pairs) ≡ false
  key_is_new pairs zero pair within is distinct = refl
  key_is_new [] (suc at) pair within is distinct = refl
  key_is_new (first ∷ pairs) (suc at) pair within is distinct =
      let both = and_true (not (has_key first.0 pairs)) (distinct_keys pairs) distinct in
      let apart : bytes_eq first.0 pair.0 ≡ false =
      bytes_eq-sym first.0 pair.0
      ∙ other_key first.0 pairs at pair (omega arith) is
      (not_true (has_key first.0 pairs) both.0) in
      (λ i. apart i || key_is_new pairs at pair (omega arith) is both.1 i)
