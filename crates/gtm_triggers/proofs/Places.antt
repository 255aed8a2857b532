-- The places of items that pass a test, one item after the other.
use Rattle.std.proofs.Common.{◌≡◌, ◌<◌, ◌≤◌, ◌+◌, ℕ, List, [], ◌∷◌, ◌++◌, length, Bool, true}
use Rattle.std.proofs.Common.{false, get_or, take, refl, ap, sym, ◌∙◌, subst, arith}
use Rattle.std.proofs.lemmas.List.{length-take-le, take_more}
use Rattle.std.specs.List.{AllByRecursion}
use Rattle.gtm_triggers.specs.Holding.{places_from}
use Rattle.gtm_triggers.specs.Indexed.{put_if}

-- a place before others, where a test says so
abbrev pub place_if : Bool → ℕ → List ℕ → List ℕ
place_if true at places = at ∷ places
place_if false at places = places

module _ {A : Type 0} (test : ℕ × A → Bool) where
  pub more : (from : ℕ) (t : A) (ts : List A) → places_from test from (t ∷ ts)
      ≡ place_if (test (from, t)) from (places_from test (from + 1) ts)
  more from t ts = by_test (test (from, t)) refl where
    by_test : (b : Bool) → test (from, t) ≡ b → places_from test from (t ∷ ts)
        ≡ place_if b from (places_from test (from + 1) ts)
    by_test true e = rw e refl
    by_test false e = rw e refl

  above_if : (b : Bool) (bound from : ℕ) (places : List ℕ) → bound ≤ from
      → AllByRecursion (λ p. bound ≤ p) places
      → AllByRecursion (λ p. bound ≤ p) (place_if b from places)
  above_if true bound from places within all = (within, all)
  above_if false bound from places within all = all

  -- they are counted from there on
  pub above : (bound from : ℕ) (ts : List A) → bound ≤ from
      → AllByRecursion (λ p. bound ≤ p) (places_from test from ts)
  above bound from [] within = tt
  above bound from (t ∷ ts) within =
      subst (AllByRecursion (λ p. bound ≤ p)) (sym (more from t ts))
      (above_if (test (from, t)) bound from (places_from test (from + 1) ts) within
      (above bound (from + 1) ts (omega (arith, within))))

  swapped : (b c : Bool) (at n : ℕ) (places : List ℕ)
      → place_if b at (put_if c n places) ≡ put_if c n (place_if b at places)
  swapped true true at n places = refl
  swapped true false at n places = refl
  swapped false c at n places = refl

  alone : (b : Bool) (at : ℕ) → place_if b at [] ≡ put_if b at []
  alone true at = refl
  alone false at = refl

  -- one more item behind the last
  pub more_behind : (from : ℕ) (ts : List A) (t : A)
      → places_from test from (ts ++ t ∷ [])
      ≡ put_if (test (from + length ts, t)) (from + length ts) (places_from test from ts)
  more_behind from [] t =
      let e : from ≡ from + 0 = omega arith in
      more from t [] ∙ alone (test (from, t)) from
      ∙ ap (λ n. put_if (test (n, t)) n []) e
  more_behind from (s ∷ ts) t =
      let e : (from + 1) + length ts ≡ from + length (s ∷ ts) = omega arith in
      let n = (from + 1) + length ts in
      more from s (ts ++ t ∷ [])
      ∙ ap (place_if (test (from, s)) from) (more_behind (from + 1) ts t)
      ∙ swapped (test (from, s)) (test (n, t)) from n (places_from test (from + 1) ts)
      ∙ ap (put_if (test (n, t)) n) (sym (more from s ts))
      ∙ ap (λ k. put_if (test (k, t)) k (places_from test from (s ∷ ts))) e

-- one more of the first items
pub next_place : {A : Type 0} (test : A → Bool) (ts : List A) (at : ℕ) (t : A)
    → at < length ts → t ≡ get_or ts at t
    → places_from (λ e. test e.1) 0 (take (at + 1) ts)
    ≡ put_if (test t) at (places_from (λ e. test e.1) 0 (take at ts))
next_place test ts at t within is =
    let few : length (take at ts) ≡ at = length-take-le at ts (omega (arith, within)) in
    let e : 0 + length (take at ts) ≡ at = omega (arith, few) in
    let split : take (at + 1) ts ≡ take at ts ++ t ∷ [] =
    take_more ts at t within ∙ ap (λ x. take at ts ++ x ∷ []) (sym is) in
    ap (places_from (λ e. test e.1) 0) split
    ∙ more_behind (λ e. test e.1) 0 (take at ts) t
    ∙ ap (λ n. put_if (test t) n (places_from (λ e. test e.1) 0 (take at ts))) e
