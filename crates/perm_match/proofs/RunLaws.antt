-- A text that fits a pattern is the pattern with some run in place of each `*`.
use Rattle.std.proofs.Common.{◌≡◌, ◌≢◌, ◌∙◌, ℕ, ◌&&◌, List, [], ◌∷◌, ◌++◌, Bool, true, false, refl}
use Rattle.std.proofs.Common.{sym, ap, subst, arith}
use Rattle.std.specs.Prelude.{◌==◌, if◌then◌else◌}
use Rattle.std.specs.Str.{bytes_eq}
use Rattle.std.proofs.lemmas.Bool.Decides.{nat_tests}
use Rattle.std.proofs.lemmas.Slice.Eq.{bytes_eq-Decides}
use Rattle.perm_model.specs.Texts.{ends_behind_some, fits, filled, first_and, is_nothing}
use Rattle.perm_match.proofs.Ends.{passing, any_here, any_append}
use Rattle.perm_match.proofs.Steps.{fits_here, fits_later, first_of}

pub filled_later : (c : ℕ) (cs : List ℕ) (runs : List (List ℕ)) → (c == 42) ≡ false
    → filled (c ∷ cs) runs ≡ c ∷ filled cs runs
filled_later c cs [] is = ap (λ b. if b then filled cs [] else c ∷ filled cs []) is
filled_later c cs (run ∷ runs) is =
    ap (λ b. if b then run ++ filled cs runs else c ∷ filled cs (run ∷ runs)) is

pub filled_here : (c : ℕ) (cs run : List ℕ) (runs : List (List ℕ)) → (c == 42) ≡ true
    → filled (c ∷ cs) (run ∷ runs) ≡ run ++ filled cs runs
filled_here c cs run runs is =
    ap (λ b. if b then run ++ filled cs runs else c ∷ filled cs (run ∷ runs)) is

pub filled_empty : (c : ℕ) (cs : List ℕ) → (c == 42) ≡ true → filled (c ∷ cs) [] ≡ filled cs []
filled_empty c cs is = ap (λ b. if b then filled cs [] else c ∷ filled cs []) is

is_nothing_of : (s : List ℕ) → is_nothing s ≡ true → [] ≡ s
is_nothing_of [] is = refl
is_nothing_of (c ∷ cs) is = cc

pub runs_of : (p s : List ℕ) → fits p s ≡ true → (runs : List (List ℕ)) × (filled p runs ≡ s)
runs_of [] s is = ([], is_nothing_of s is)
runs_of (c ∷ cs) s is =
    elim (c == 42) as
    (λ b. (c == 42) ≡ b → (runs : List (List ℕ)) × (filled (c ∷ cs) runs ≡ s)) [
      | true ↦ λ star.
          let end = passing (fits cs) s (sym (fits_here c cs s star) ∙ is) in
          let rest : (runs : List (List ℕ)) × (filled cs runs ≡ end.rest) =
          runs_of cs end.rest end.passes in (
            end.front ∷ rest.0,
            filled_here c cs end.front rest.0 star
                ∙ ap (λ t. end.front ++ t) rest.1 ∙ sym end.split,
          )
      | false ↦ λ other.
          let first = first_of c (fits cs) s (sym (fits_later c cs s other) ∙ is) in
          let rest : (runs : List (List ℕ)) × (filled cs runs ≡ first.rest) =
          runs_of cs first.rest first.passes in (
            rest.0,
            filled_later c cs rest.0 other ∙ ap (λ t. c ∷ t) rest.1 ∙ sym first.split,
          )
    ] refl

same_first : (c : ℕ) (P : List ℕ → Bool) (s : List ℕ) → P s ≡ true → first_and c P (c ∷ s) ≡ true
same_first c P s is =
    let e : (c == c) ≡ true = grind (arith, nat_tests) in
    ap (λ b. b && P s) e ∙ is

pub fits_filled : (p : List ℕ) (runs : List (List ℕ)) → fits p (filled p runs) ≡ true
fits_filled [] runs = refl
fits_filled (c ∷ cs) [] =
    elim (c == 42) as (λ b. (c == 42) ≡ b → fits (c ∷ cs) (filled (c ∷ cs) []) ≡ true) [
      | true ↦ λ star.
          subst (λ t. fits (c ∷ cs) t ≡ true) (sym (filled_empty c cs star))
          (fits_here c cs (filled cs []) star
          ∙ any_here (fits cs) (filled cs []) (fits_filled cs []))
      | false ↦ λ other.
          subst (λ t. fits (c ∷ cs) t ≡ true) (sym (filled_later c cs [] other))
          (fits_later c cs (c ∷ filled cs []) other
          ∙ same_first c (fits cs) (filled cs []) (fits_filled cs []))
    ] refl
fits_filled (c ∷ cs) (run ∷ runs) =
    elim (c == 42) as
    (λ b. (c == 42) ≡ b → fits (c ∷ cs) (filled (c ∷ cs) (run ∷ runs)) ≡ true) [
      | true ↦ λ star.
          subst (λ t. fits (c ∷ cs) t ≡ true) (sym (filled_here c cs run runs star))
          (fits_here c cs (run ++ filled cs runs) star
          ∙ any_append (fits cs) run (filled cs runs)
          (any_here (fits cs) (filled cs runs) (fits_filled cs runs)))
      | false ↦ λ other.
          subst (λ t. fits (c ∷ cs) t ≡ true) (sym (filled_later c cs (run ∷ runs) other))
          (fits_later c cs (c ∷ filled cs (run ∷ runs)) other
          ∙ same_first c (fits cs) (filled cs (run ∷ runs)) (fits_filled cs (run ∷ runs)))
    ] refl

-- something, and the end behind it
pub front_of : (d : ℕ) (ds s : List ℕ) → ends_behind_some (d ∷ ds) s ≡ true
    → (front : List ℕ) × (front ≢ []) × (s ≡ front ++ (d ∷ ds))
front_of d ds [] is = absurd (let no : false ≡ true = is in cc)
front_of d ds (c ∷ cs) is =
    let end = passing (bytes_eq (d ∷ ds)) cs is in
    let same : d ∷ ds ≡ end.rest = (bytes_eq-Decides (d ∷ ds) end.rest).0 end.passes in
    (c ∷ end.front, (λ e. cc), ap (λ t. c ∷ t) (end.split ∙ ap (λ t. end.front ++ t) (sym same)))

pub behind_front : (end front s : List ℕ) → front ≢ [] → s ≡ front ++ end
    → ends_behind_some end s ≡ true
behind_front end [] s some split = absurd (some refl)
behind_front end (c ∷ cs) s some split =
    subst (λ t. ends_behind_some end t ≡ true) (sym split)
    (any_append (bytes_eq end) cs end
    (any_here (bytes_eq end) end ((bytes_eq-Decides end end).1 refl)))
