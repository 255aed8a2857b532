-- Where a character stands nowhere twice in a row.
use Rattle.std.proofs.Common.{◌≡◌, ◌≢◌, ℕ, zero, suc, List, [], ◌∷◌, ◌++◌, length, drop, eqb, Bool}
use Rattle.std.proofs.Common.{true, false, Option, Some, None, option_map, if◌then◌else◌, refl, ap}
use Rattle.std.proofs.Common.{sym, ◌∙◌, subst}
use Rattle.std.specs.Prelude.{◌&&◌}
use Rattle.std.proofs.lemmas.Bool.{eq-eqb}
use Rattle.std.proofs.lemmas.Option.{none-some}
use Rattle.std.proofs.Math.Seq.{drop-append_seam}
use Rattle.export_names.specs.Cut.{begins_with, around_twice}
use Rattle.export_names.proofs.Twice.{same_within, around_parts}

abbrev pub step : ℕ → List ℕ → Bool → Option (List ℕ × List ℕ) → Option (List ℕ × List ℕ)
step d rest test o =
    if test then Some ([], drop 1 rest) else option_map (λ parts. (d ∷ parts.0, parts.1)) o

module _ (c : ℕ) where
  -- the character stands nowhere twice
  abbrev pub LacksTwice : List ℕ → Type 0
  LacksTwice text = (k : ℕ) (rest : List ℕ) → drop k text ≢ c ∷ c ∷ rest

  pub head_tests : (d : ℕ) (rest more : List ℕ) → d ∷ rest ≡ c ∷ c ∷ more
      → (eqb d c && begins_with c rest) ≡ true
  head_tests d [] more e = cc
  head_tests d (b ∷ rest) more e =
      let first : d ≡ c = cc in
      let second : b ≡ c = cc in
      ap (λ t. t && eqb b c) (eq-eqb d c first) ∙ eq-eqb b c second

  lacks_more : (d : ℕ) (rest : List ℕ) → (eqb d c && begins_with c rest) ≡ false → LacksTwice rest
      → LacksTwice (d ∷ rest)
  lacks_more d rest test h zero more e = let yes = head_tests d rest more e in cc
  lacks_more d rest test h (suc k) more e = h k more e

  -- what comes of one character more
  lacks_next : (d : ℕ) (rest : List ℕ) (test : Bool) → (eqb d c && begins_with c rest) ≡ test
      → (o : Option (List ℕ × List ℕ)) → (o ≡ None → LacksTwice rest)
      → step d rest test o ≡ None → LacksTwice (d ∷ rest)
  lacks_next d rest true is o h e = absurd (none-some _ (sym e))
  lacks_next d rest false is None h e = lacks_more d rest is (h refl)
  lacks_next d rest false is (Some p) h e = absurd (none-some _ (sym e))

  empty_lacks : LacksTwice []
  empty_lacks zero rest at = cc
  empty_lacks (suc k) rest at = cc

  -- where nothing is found, the character stands nowhere twice
  pub nothing_lacks : (text : List ℕ) → around_twice c text ≡ None → LacksTwice text
  nothing_lacks [] e = empty_lacks
  nothing_lacks (d ∷ text) e =
      lacks_next d text (eqb d c && begins_with c text) refl (around_twice c text)
      (nothing_lacks text) e

  one_lacks : LacksTwice (c ∷ [])
  one_lacks zero rest at = cc
  one_lacks (suc zero) rest at = cc
  one_lacks (suc (suc k)) rest at = cc

  begins_alike : (before behind : List ℕ)
      → begins_with c (before ++ c ∷ c ∷ behind) ≡ begins_with c (before ++ c ∷ [])
  begins_alike [] behind = refl
  begins_alike (b ∷ before) behind = refl

  front_later : (d : ℕ) (rest : List ℕ) → (eqb d c && begins_with c rest) ≡ false
      → (o : Option (List ℕ × List ℕ)) → o ≡ around_twice c rest
      → ((found : List ℕ × List ℕ) → o ≡ Some found → LacksTwice (found.0 ++ c ∷ []))
      → (found : List ℕ × List ℕ) → option_map (λ parts. (d ∷ parts.0, parts.1)) o ≡ Some found
      → LacksTwice (found.0 ++ c ∷ [])
  front_later d rest is None from h found e = absurd (none-some found e)
  front_later d rest is (Some p) from h found e =
      let P : List ℕ × List ℕ → Type 0 = λ f. LacksTwice (f.0 ++ c ∷ []) in
      let test : (eqb d c && begins_with c (p.0 ++ c ∷ [])) ≡ false =
      ap (λ b. eqb d c && b)
      (sym (begins_alike p.0 p.1) ∙ ap (begins_with c) (sym (around_parts c rest p (sym from))))
      ∙ is in
      subst P (same_within _ found e) (lacks_more d (p.0 ++ c ∷ []) test (h p refl))

  front_here : (d : ℕ) (rest : List ℕ) (test : Bool) → (eqb d c && begins_with c rest) ≡ test
      → (o : Option (List ℕ × List ℕ)) → o ≡ around_twice c rest
      → ((found : List ℕ × List ℕ) → o ≡ Some found → LacksTwice (found.0 ++ c ∷ []))
      → (found : List ℕ × List ℕ)
      → (if test then Some ([], drop 1 rest)
      else option_map (λ parts. (d ∷ parts.0, parts.1)) o) ≡ Some found → LacksTwice (found.0
      ++ c ∷ [])
  front_here d rest true is o from h found e =
      let P : List ℕ × List ℕ → Type 0 = λ f. LacksTwice (f.0 ++ c ∷ []) in
      subst P (same_within _ found e) one_lacks
  front_here d rest false is o from h found e = front_later d rest is o from h found e

  -- the first place is found: before it, and with the first of the two, the character stands
  -- nowhere twice
  pub front_lacks : (text : List ℕ) (found : List ℕ × List ℕ) → around_twice c text ≡ Some found
      → LacksTwice (found.0 ++ c ∷ [])
  front_lacks [] found e = absurd (none-some found e)
  front_lacks (d ∷ text) found e =
      front_here d text (eqb d c && begins_with c text) refl (around_twice c text) refl
      (front_lacks text) found e

  pub lacks_front : (text more : List ℕ) → LacksTwice (text ++ more) → LacksTwice text
  lacks_front [] more h zero rest e = cc
  lacks_front [] more h (suc k) rest e = cc
  lacks_front (d ∷ text) more h zero rest e = h zero (rest ++ more) (ap (λ t. t ++ more) e)
  lacks_front (d ∷ text) more h (suc k) rest e = lacks_front text more (λ j. h (suc j)) k rest e

  -- the same of parts that are put together
  pub lacks_parts : (text before behind : List ℕ) → LacksTwice text
      → text ≢ before ++ c ∷ c ∷ behind
  lacks_parts text before behind h e =
      h (length before) behind
      (ap (drop (length before)) e ∙ drop-append_seam before (c ∷ c ∷ behind))
