-- Where a character stands twice in a row.
use Rattle.std.proofs.Common.{◌≡◌, ◌≢◌, ℕ, suc, ◌<◌, List, [], ◌∷◌, ◌++◌, length, drop, eqb, Bool}
use Rattle.std.proofs.Common.{true, false, Option, Some, None, option_map, if◌then◌else◌, refl, ap}
use Rattle.std.proofs.Common.{◌∙◌, subst, arith}
use Rattle.std.specs.Prelude.{◌&&◌, unwrap_or}
use Rattle.std.proofs.lemmas.Bool.{eq-eqb}
use Rattle.std.proofs.lemmas.Bool.Decides.{nat_tests}
use Rattle.std.proofs.lemmas.Option.{none-some}
use Rattle.export_names.specs.Cut.{begins_with, around_twice}

-- what is within two equal options is equal
pub same_within : {A : Type 0} (a b : A) → Some a ≡ Some b → a ≡ b
same_within a b e = ap (λ o. unwrap_or o a) e

not_true : (b : Bool) → (b ≡ true → ⊥) → b ≡ false
not_true true h = absurd (h refl)
not_true false h = refl

pub same_character : (d c : ℕ) → eqb d c ≡ true → d ≡ c
same_character d c e = grind (arith, nat_tests)

-- where the test says so, the character stands there twice
begins_twice : (c d : ℕ) (rest : List ℕ) (first : Bool) → eqb d c ≡ first
    → (first && begins_with c rest) ≡ true → d ∷ rest ≡ c ∷ c ∷ drop 1 rest
begins_twice c d rest false is e = cc
begins_twice c d [] true is e = cc
begins_twice c d (b ∷ rest) true is e = λ i. same_character d c is i ∷ same_character b c e i ∷ rest

module _ (c : ℕ) where
  pub stands_at : (d : ℕ) (rest : List ℕ) → (eqb d c && begins_with c rest) ≡ true
      → d ∷ rest ≡ c ∷ c ∷ drop 1 rest
  stands_at d rest e = begins_twice c d rest (eqb d c) refl e

  abbrev Stands : List ℕ → List ℕ × List ℕ → Type 0
  Stands text found = text ≡ found.0 ++ c ∷ c ∷ found.1

  stands_later : (d : ℕ) (rest : List ℕ) (o : Option (List ℕ × List ℕ))
      → ((found : List ℕ × List ℕ) → o ≡ Some found → Stands rest found)
      → (found : List ℕ × List ℕ) → option_map (λ parts. (d ∷ parts.0, parts.1)) o ≡ Some found
      → Stands (d ∷ rest) found
  stands_later d rest None later found e = absurd (none-some found e)
  stands_later d rest (Some p) later found e =
      subst (Stands (d ∷ rest)) (same_within _ found e) (ap (λ r. d ∷ r) (later p refl))

  stands_here : (d : ℕ) (rest : List ℕ) (test : Bool) → (eqb d c && begins_with c rest) ≡ test
      → (o : Option (List ℕ × List ℕ))
      → ((found : List ℕ × List ℕ) → o ≡ Some found → Stands rest found)
      → (found : List ℕ × List ℕ)
      → (if test then Some ([], drop 1 rest)
      else option_map (λ parts. (d ∷ parts.0, parts.1)) o) ≡ Some found → Stands (d
      ∷ rest) found
  stands_here d rest true is o later found e =
      subst (Stands (d ∷ rest)) (same_within _ found e) (stands_at d rest is)
  stands_here d rest false is o later found e = stands_later d rest o later found e

  -- what is found stands around the character twice
  pub around_parts : (text : List ℕ) (found : List ℕ × List ℕ) → around_twice c text ≡ Some found
      → Stands text found
  around_parts [] found e = absurd (none-some found e)
  around_parts (d ∷ rest) found e =
      stands_here d rest (eqb d c && begins_with c rest) refl (around_twice c rest)
      (around_parts rest) found e

  -- what stands before the first place is found
  pub around_first : (before behind : List ℕ)
      → ((k : ℕ) (rest : List ℕ) → k < length before
      → drop k (before ++ c ∷ c ∷ behind) ≢ c ∷ c ∷ rest)
      → around_twice c (before ++ c ∷ c ∷ behind) ≡ Some (before, behind)
  around_first [] behind none =
      ap (λ b. if b && b then Some ([], behind)
      else option_map (λ parts. (c ∷ parts.0, parts.1)) (around_twice c (c ∷ behind))) (eq-eqb c c
      refl)
  around_first (d ∷ before) behind none =
      let test : (eqb d c && begins_with c (before ++ c ∷ c ∷ behind)) ≡ false =
      not_true _ (λ e. none 0 _ (omega arith) (stands_at d (before ++ c ∷ c ∷ behind) e)) in
      ap (λ b. if b then Some ([], drop 1 (before ++ c ∷ c ∷ behind))
      else option_map (λ parts. (d ∷ parts.0, parts.1))
      (around_twice c (before ++ c ∷ c ∷ behind))) test
      ∙ ap (option_map (λ parts. (d ∷ parts.0, parts.1)))
      (around_first before behind (λ k rest less. none (suc k) rest (omega arith)))

  -- nothing is found where the character stands nowhere twice
  pub around_nothing : (text : List ℕ) → ((k : ℕ) (rest : List ℕ) → drop k text ≢ c ∷ c ∷ rest)
      → around_twice c text ≡ None
  around_nothing [] none = refl
  around_nothing (d ∷ text) none =
      let test : (eqb d c && begins_with c text) ≡ false =
      not_true _ (λ e. none 0 _ (stands_at d text e)) in
      ap (λ b. if b then Some ([], drop 1 text)
      else option_map (λ parts. (d ∷ parts.0, parts.1)) (around_twice c text)) test
      ∙ ap (option_map (λ parts. (d ∷ parts.0, parts.1))) (around_nothing text (λ k. none (suc k)))
