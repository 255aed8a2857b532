-- Places that are pushed where something is missing.
use Rattle.std.proofs.Common.{◌≡◌, ◌⊎◌, inl, inr, ◌<◌, ◌≤◌, ◌+◌, ℕ, zero, suc, List, [], ◌∷◌, ◌++◌}
use Rattle.std.proofs.Common.{Bool}
use Rattle.std.proofs.Common.{true, false, take, length, get_or, Option, Some, None, refl, subst}
use Rattle.std.proofs.Common.{sym}
use Rattle.std.proofs.Common.{arith}
use Rattle.std.specs.Prelude.{Contains, MatchOption}
use Rattle.std.proofs.lemmas.List.{take_more}
use Rattle.std.proofs.lemmas.List.Elements.{Contains-append_left, Contains-push_cases}
use Rattle.gtm_data.proofs.Lists.{take_all}

-- what was pushed of the first places, and the last of them
pub record IsGrown (missing : ℕ → Bool) (places : List ℕ) (at : ℕ) (start waiting : List ℕ)
    (found : Option ℕ) : Type 0 where
  pub more : (p : ℕ) → Contains start p → Contains waiting p
  pub only : (p : ℕ) → Contains waiting p → Contains start p ⊎ Contains places p
  pub next : MatchOption found ((p : ℕ) → Contains (take at places) p → missing p ≡ false)
      (λ p. (missing p ≡ true) × Contains places p)

read : (places : List ℕ) (at d e : ℕ) → at < length places → get_or places at d ≡ get_or places at e
read [] at d e within = absurd (omega arith)
read (place ∷ places) zero d e within = refl
read (place ∷ places) (suc at) d e within = read places at d e (omega arith)

-- a place of the list
pub here : (places : List ℕ) (at : ℕ) → at < length places → Contains places (get_or places at 0)
here places at within = (at, within, read places at (get_or places at 0) 0 within)

pub grown_first : (missing : ℕ → Bool) (places start : List ℕ)
    → IsGrown missing places 0 start start None
grown_first missing places start = record {
  more = λ p has. has;
  only = λ p has. inl has;
  next = λ p has. absurd (omega (arith, has.1));
}

module _ (missing : ℕ → Bool) (places : List ℕ) (at : ℕ) (within : at < length places) where
  abbrev place : ℕ
  place = get_or places at 0

  pub grown_missing : (start waiting now : List ℕ) (next : Option ℕ)
      → IsGrown missing places at start waiting next → missing place ≡ true
      → now ≡ waiting ++ place ∷ [] → IsGrown missing places (at + 1) start now (Some place)
  grown_missing start waiting now next grown is pushed = record {
    more = λ p has.
        subst (λ ps. Contains ps p) (sym pushed)
        (Contains-append_left waiting (place ∷ []) p (grown.more p has));
    only = λ p has.
        by_case p (Contains-push_cases waiting place p (subst (λ ps. Contains ps p) pushed has));
    next = (is, here places at within);
  } where
    by_case : (p : ℕ) → Contains waiting p ⊎ (place ≡ p) → Contains start p ⊎ Contains places p
    by_case p (inl has) = grown.only p has
    by_case p (inr same) = inr (subst (Contains places) same (here places at within))

  pub grown_kept : (start waiting : List ℕ) (next : Option ℕ)
      → IsGrown missing places at start waiting next → missing place ≡ false
      → IsGrown missing places (at + 1) start waiting next
  grown_kept start waiting None grown is = record {
    more = grown.more;
    only = grown.only;
    next = λ p has.
        by_case p (Contains-push_cases (take at places) place p
        (subst (λ ps. Contains ps p) (take_more places at 0 within) has));
  } where
    by_case : (p : ℕ) → Contains (take at places) p ⊎ (place ≡ p) → missing p ≡ false
    by_case p (inl has) = grown.next p has
    by_case p (inr same) = subst (λ q. missing q ≡ false) same is
  grown_kept start waiting (Some found) grown is =
      record { more = grown.more; only = grown.only; next = grown.next }

pub grown_last : (missing : ℕ → Bool) (places : List ℕ) (at : ℕ) (start waiting : List ℕ)
    (next : Option ℕ) → length places ≤ at → IsGrown missing places at start waiting next
    → MatchOption next ((p : ℕ) → Contains places p → missing p ≡ false)
    (λ p. (missing p ≡ true) × Contains places p)
grown_last missing places at start waiting None past grown =
    λ p has. grown.next p (subst (λ ps. Contains ps p) (sym (take_all at places past)) has)
grown_last missing places at start waiting (Some found) past grown = grown.next
