-- One piece of a pattern, and why its first place serves as well as any other.
use Rattle.std.proofs.Common.{◌≡◌, ◌∙◌, ℕ, zero, suc, ◌<◌, ◌≤◌, ◌||◌, ◌&&◌, List, [], ◌∷◌}
use Rattle.std.proofs.Common.{Bool, true, false, refl, sym, ap, drop, subst, length, arith}
use Rattle.std.specs.Prelude.{◌==◌, if◌then◌else◌}
use Rattle.std.specs.List.{list_any}
use Rattle.std.proofs.lemmas.Bool.Decides.{nat_tests}
use Rattle.perm_model.specs.Texts.{ends_of, fits, first_and}
use Rattle.perm_match.specs.Fitting.{Stepped, star, done, step, step_first}
use Rattle.perm_match.proofs.Ends.{any_here, any_behind}

drop_nil : (n : ℕ) → drop {A = ℕ} n [] ≡ []
drop_nil zero = refl
drop_nil (suc n) = refl

pub drop_one : (n c : ℕ) (cs : List ℕ) → drop n cs ≡ drop 1 (drop n (c ∷ cs))
drop_one zero c cs = refl
drop_one (suc n) c [] = ap (drop 1) (sym (drop_nil n))
drop_one (suc n) c (d ∷ ds) = drop_one n d ds

pub both_ways : (a b : Bool) → (a ≡ true → b ≡ true) → (b ≡ true → a ≡ true) → a ≡ b
both_ways true b to from = sym (to refl)
both_ways false true to from = from refl
both_ways false false to from = refl

-- what a step decides
pub decides : Stepped → Bool
decides (star pattern text) = list_any (fits pattern) (ends_of text)
decides (done is) = is

-- a step is the first part of the pattern
pub fits_by_step : (p s : List ℕ) → fits p s ≡ decides (step p s)
unfolding decides
fits_by_step [] s = refl
fits_by_step (c ∷ cs) [] =
    elim (c == 42) as
    (λ b. (if b then list_any (fits cs) (ends_of []) else first_and c (fits cs) [])
    ≡ decides (if b then star cs [] else step_first c (step cs) [])) [
      | true ↦ refl
      | false ↦ refl
    ]
fits_by_step (c ∷ cs) (d ∷ ds) =
    elim (c == 42) as
    (λ b. (if b then list_any (fits cs) (ends_of (d ∷ ds)) else first_and c (fits cs) (d ∷ ds))
    ≡ decides (if b then star cs (d ∷ ds) else step_first c (step cs) (d ∷ ds))) [
      | true ↦ refl
      | false ↦
          elim (c == d) as
          (λ b. (b && fits cs ds) ≡ decides (if b then step cs ds else done false)) [
            | true ↦ fits_by_step cs ds
            | false ↦ refl
          ]
    ]

pub fits_done : (p s : List ℕ) (is : Bool) → step p s ≡ done is → fits p s ≡ is
unfolding decides
fits_done p s is e = fits_by_step p s ∙ ap decides e

pub fits_star : (p s rest left : List ℕ) → step p s ≡ star rest left
    → fits p s ≡ list_any (fits rest) (ends_of left)
unfolding decides
fits_star p s rest left e = fits_by_step p s ∙ ap decides e

-- how many characters stand before the first `*`
pub before_star : List ℕ → ℕ
before_star [] = 0
before_star (c ∷ cs) = if c == 42 then 0 else suc (before_star cs)

before_here : (c : ℕ) (cs : List ℕ) → (c == 42) ≡ true → before_star (c ∷ cs) ≡ 0
unfolding before_star
before_here c cs is = rw is

before_later : (c : ℕ) (cs : List ℕ) → (c == 42) ≡ false
    → before_star (c ∷ cs) ≡ suc (before_star cs)
unfolding before_star
before_later c cs is = rw is

pub fits_here : (c : ℕ) (cs t : List ℕ) → (c == 42) ≡ true
    → fits (c ∷ cs) t ≡ list_any (fits cs) (ends_of t)
fits_here c cs t is =
    ap (λ b. if b then list_any (fits cs) (ends_of t) else first_and c (fits cs) t) is

pub fits_later : (c : ℕ) (cs t : List ℕ) → (c == 42) ≡ false
    → fits (c ∷ cs) t ≡ first_and c (fits cs) t
fits_later c cs t is =
    ap (λ b. if b then list_any (fits cs) (ends_of t) else first_and c (fits cs) t) is

-- a character and what is behind it
pub record IsFirst (c : ℕ) (P : List ℕ → Bool) (t : List ℕ) : Type 0 where
  pub rest : List ℕ
  pub split : t ≡ c ∷ rest
  pub passes : P rest ≡ true

pub first_of : (c : ℕ) (P : List ℕ → Bool) (t : List ℕ) → first_and c P t ≡ true
    → IsFirst c P t
first_of c P [] is = cc
first_of c P (d ∷ ds) is =
    elim (c == d) as (λ b. (c == d) ≡ b → (b && P ds) ≡ true → IsFirst c P (d ∷ ds)) [
      | true ↦ λ same passes. record {
        rest = ds;
        split = let e : d ≡ c = grind (arith, nat_tests) in ap (λ k. k ∷ ds) e;
        passes = passes;
      }
      | false ↦ λ other no. absurd (let e : false ≡ true = no in cc)
    ] refl is

-- what a step up to a `*` comes to: what it took of both
pub record IsAtStar (p s rest left : List ℕ) : Type 0 where
  pub at : left ≡ drop (before_star p) s
  pub shorter : length rest < length p
  pub not_longer : length left ≤ length s
  -- where the pattern fits any text, its rest fits an end of what is left there
  pub through : (t : List ℕ) → fits p t ≡ true
      → list_any (fits rest) (ends_of (drop (before_star p) t)) ≡ true

star_here : (c : ℕ) (cs s : List ℕ) → (c == 42) ≡ true → IsAtStar (c ∷ cs) s cs s
star_here c cs s is = record {
  at = rw (before_here c cs is);
  shorter = omega arith;
  not_longer = omega arith;
  through = λ t fits_t.
      let none = before_here c cs is in
      let P : ℕ → Type 0 = λ n. list_any (fits cs) (ends_of (drop n t)) ≡ true in
      subst P (sym none) (sym (fits_here c cs t is) ∙ fits_t);
}

star_later : (c : ℕ) (cs ds rest left : List ℕ) → (c == 42) ≡ false → IsAtStar cs ds rest left
    → IsAtStar (c ∷ cs) (c ∷ ds) rest left
star_later c cs ds rest left is later = record {
  at = later.at ∙ ap (λ n. drop n (c ∷ ds)) (sym (before_later c cs is));
  shorter = omega (arith, later.shorter);
  not_longer = omega (arith, later.not_longer);
  through = λ t fits_t.
      let first = first_of c (fits cs) t (sym (fits_later c cs t is) ∙ fits_t) in
      let P : ℕ → List ℕ → Type 0 =
      λ n u. list_any (fits rest) (ends_of (drop n u)) ≡ true in
      let here : P (suc (before_star cs)) (c ∷ first.rest) =
      later.through first.rest first.passes in
      subst (λ n. P n t) (sym (before_later c cs is))
      (subst (λ u. P (suc (before_star cs)) u) (sym first.split) here);
}

pub at_star : (p s rest left : List ℕ) → step p s ≡ star rest left → IsAtStar p s rest left
at_star [] s rest left e = cc
at_star (c ∷ cs) [] rest left e =
    elim (c == 42) as
    (λ b. (c == 42) ≡ b → (if b then star cs [] else step_first c (step cs) []) ≡ star rest left
    → IsAtStar (c ∷ cs) [] rest left) [
      | true ↦ λ is e.
          let pattern : cs ≡ rest = cc in
          let text : [] ≡ left = cc in
          subst (λ r. IsAtStar (c ∷ cs) [] r left) pattern
          (subst (λ l. IsAtStar (c ∷ cs) [] cs l) text (star_here c cs [] is))
      | false ↦ λ is e. cc
    ] refl e
at_star (c ∷ cs) (d ∷ ds) rest left e =
    elim (c == 42) as
    (λ b. (c == 42) ≡ b
    → (if b then star cs (d ∷ ds) else step_first c (step cs) (d ∷ ds)) ≡ star rest left
    → IsAtStar (c ∷ cs) (d ∷ ds) rest left) [
      | true ↦ λ is e.
          let pattern : cs ≡ rest = cc in
          let text : (d ∷ ds) ≡ left = cc in
          subst (λ r. IsAtStar (c ∷ cs) (d ∷ ds) r left) pattern
          (subst (λ l. IsAtStar (c ∷ cs) (d ∷ ds) cs l) text (star_here c cs (d ∷ ds) is))
      | false ↦ λ is e.
          elim (c == d) as
          (λ b. (c == d) ≡ b → (if b then step cs ds else done false) ≡ star rest left
          → IsAtStar (c ∷ cs) (d ∷ ds) rest left) [
            | true ↦ λ same e.
                let eq : c ≡ d = grind (arith, nat_tests) in
                subst (λ k. IsAtStar (c ∷ cs) (k ∷ ds) rest left) eq
                (star_later c cs ds rest left is (at_star cs ds rest left e))
            | false ↦ λ other e. cc
          ] refl e
    ] refl e

-- where the pattern fits an end of a text, its rest fits an end of what is left of that text
pub through_ends : (p rest t : List ℕ)
    → ((u : List ℕ) → fits p u ≡ true
    → list_any (fits rest) (ends_of (drop (before_star p) u)) ≡ true)
    → list_any (fits p) (ends_of t) ≡ true
    → list_any (fits rest) (ends_of (drop (before_star p) t)) ≡ true
through_ends p rest [] through any =
    elim (fits p []) as
    (λ b. fits p [] ≡ b → (b || false) ≡ true
    → list_any (fits rest) (ends_of (drop (before_star p) [])) ≡ true) [
      | true ↦ λ is any. through [] is
      | false ↦ λ is any. absurd (let no : false ≡ true = any in cc)
    ] refl any
through_ends p rest (c ∷ cs) through any =
    elim (fits p (c ∷ cs)) as
    (λ b. fits p (c ∷ cs) ≡ b → (b || list_any (fits p) (ends_of cs)) ≡ true
    → list_any (fits rest) (ends_of (drop (before_star p) (c ∷ cs))) ≡ true) [
      | true ↦ λ is any. through (c ∷ cs) is
      | false ↦ λ is any.
          let later = through_ends p rest cs through any in
          let Q : List ℕ → Type 0 = λ u. list_any (fits rest) (ends_of u) ≡ true in
          any_behind (fits rest) (drop (before_star p) (c ∷ cs))
          (subst Q (drop_one (before_star p) c cs) later)
    ] refl any

-- the first place of a piece serves as well as any other
pub greedy : (p s rest left : List ℕ) → step p s ≡ star rest left
    → list_any (fits p) (ends_of s) ≡ list_any (fits rest) (ends_of left)
greedy p s rest left e =
    let is = at_star p s rest left e in
    both_ways _ _
    (λ any. subst (λ u. list_any (fits rest) (ends_of u) ≡ true) (sym is.at)
    (through_ends p rest s is.through any))
    (λ any. any_here (fits p) s (fits_star p s rest left e ∙ any))
