-- What is left of a text behind some run of characters.
use Rattle.std.proofs.Common.{◌≡◌, ◌∙◌, ℕ, ◌||◌, List, [], ◌∷◌, ◌++◌, Bool, true, false}
use Rattle.std.proofs.Common.{refl, ap, drop}
use Rattle.std.specs.List.{list_any}
use Rattle.perm_model.specs.Texts.{ends_of}

pub or_left : (a b : Bool) → a ≡ true → (a || b) ≡ true
or_left true b is = refl
or_left false b is = cc

pub or_right : (a b : Bool) → b ≡ true → (a || b) ≡ true
or_right true b is = refl
or_right false b is = is

-- the whole text is one of them
pub any_here : (P : List ℕ → Bool) (s : List ℕ) → P s ≡ true → list_any P (ends_of s) ≡ true
any_here P [] is = or_left _ _ is
any_here P (c ∷ cs) is = or_left _ _ is

-- those of a later place are among those of an earlier one
pub any_behind : (P : List ℕ → Bool) (s : List ℕ) → list_any P (ends_of (drop 1 s)) ≡ true
    → list_any P (ends_of s) ≡ true
any_behind P [] is = is
any_behind P (c ∷ cs) is = or_right _ _ is

pub any_append : (P : List ℕ → Bool) (front s : List ℕ) → list_any P (ends_of s) ≡ true
    → list_any P (ends_of (front ++ s)) ≡ true
any_append P [] s is = is
any_append P (c ∷ cs) s is = or_right _ _ (any_append P cs s is)

-- where a text does not pass, one of the rest has to
pub any_later : (P : List ℕ → Bool) (s : List ℕ) (c : ℕ) (cs : List ℕ) → s ≡ c ∷ cs
    → P s ≡ false → list_any P (ends_of s) ≡ list_any P (ends_of cs)
any_later P [] c cs split fails = cc
any_later P (d ∷ ds) c cs split fails =
    let rest : ds ≡ cs = cc in
    ap (λ b. b || list_any P (ends_of ds)) fails ∙ ap (λ t. list_any P (ends_of t)) rest

pub any_at_end : (P : List ℕ → Bool) (s : List ℕ) → s ≡ [] → P s ≡ false
    → list_any P (ends_of s) ≡ false
any_at_end P [] end fails = ap (λ b. b || false) fails
any_at_end P (d ∷ ds) end fails = cc

-- one of them passes
pub record PassesBehind (P : List ℕ → Bool) (s : List ℕ) : Type 0 where
  pub front : List ℕ
  pub rest : List ℕ
  pub split : s ≡ front ++ rest
  pub passes : P rest ≡ true

pub passing : (P : List ℕ → Bool) (s : List ℕ) → list_any P (ends_of s) ≡ true
    → PassesBehind P s
passing P [] is =
    elim (P []) as (λ b. P [] ≡ b → (b || false) ≡ true → PassesBehind P []) [
      | true ↦ λ passes is. record { front = []; rest = []; split = refl; passes = passes }
      | false ↦ λ fails is. absurd (let no : false ≡ true = is in cc)
    ] refl is
passing P (c ∷ cs) is =
    elim (P (c ∷ cs)) as
    (λ b. P (c ∷ cs) ≡ b → (b || list_any P (ends_of cs)) ≡ true → PassesBehind P (c ∷ cs)) [
      | true ↦ λ passes is. record { front = []; rest = c ∷ cs; split = refl; passes = passes }
      | false ↦ λ fails is. let later = passing P cs is in record {
        front = c ∷ later.front;
        rest = later.rest;
        split = ap (λ t. c ∷ t) later.split;
        passes = later.passes;
      }
    ] refl is
