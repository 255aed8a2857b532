-- The first character of a text in pieces.
use Rattle.std.proofs.Common.{◌≡◌, ℕ, List, [], ◌∷◌, ◌++◌, ap, sym, append-nil}

pub in_second : (a b d r : List ℕ) (c : ℕ) → a ≡ [] → b ≡ c ∷ r
    → a ++ (b ++ d) ≡ c ∷ (r ++ (d ++ []))
in_second a b d r c none some = rw (none, some) (ap (λ t. c ∷ (r ++ t)) (sym (append-nil d)))

pub in_third : (a b d r : List ℕ) (c : ℕ) → a ≡ [] → b ≡ [] → d ≡ c ∷ r
    → a ++ (b ++ d) ≡ c ∷ (r ++ [])
in_third a b d r c none not some = rw (none, not, some) (ap (λ t. c ∷ t) (sym (append-nil r)))

pub in_none : (a b d : List ℕ) → a ≡ [] → b ≡ [] → d ≡ [] → a ++ (b ++ d) ≡ []
in_none a b d none not nor = rw (none, not, nor)
