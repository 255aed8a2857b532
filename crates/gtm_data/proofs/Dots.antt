-- A dotted text, part by part.
use Rattle.std.proofs.Common.{◌≡◌, ℕ, ◌<◌, ◌+◌, List, [], ◌∷◌, ◌++◌, length, get_or, eqb, Bool}
use Rattle.std.proofs.Common.{true, false, take, drop, Option, Some, None, if◌then◌else◌, refl, ap}
use Rattle.std.proofs.Common.{sym, ◌∙◌, subst, arith}
use Rattle.std.specs.Prelude.{option_and_then}
use Rattle.std.specs.Str.{chars, IsUtf8, NonePass, NoCharPasses}
use Rattle.std.specs.Str.Pattern.{FindsChar}
use Rattle.std.proofs.lemmas.List.{take-append-drop}
use Rattle.std.proofs.lemmas.Str.{chars_from_encodes, chars-append, IsUtf8-take, IsUtf8-drop}
use Rattle.std.proofs.lemmas.Str.{IsCharBoundary-before_ascii, IsCharBoundary-after_ascii}
use Rattle.std.proofs.lemmas.Str.Pattern.{drop_at_char}
use Rattle.gtm_data.specs.Tree.{Tree}
use Rattle.gtm_data.specs.Paths.{dotted, onto_first, walk}

dotted_other : (b : Bool) (c : ℕ) (parts more : List (List ℕ)) → b ≡ false → parts ≡ more
    → (if b then [] ∷ parts else onto_first c parts) ≡ onto_first c more
dotted_other true c parts more e same = cc
dotted_other false c parts more e same = ap (onto_first c) same

pub dotted-part : (part rest : List ℕ) → NonePass (λ c. eqb c 46) part
    → dotted (part ++ 46 ∷ rest) ≡ part ∷ dotted rest
dotted-part [] rest none = refl
dotted-part (c ∷ part) rest none =
    dotted_other (eqb c 46) c (dotted (part ++ 46 ∷ rest)) (part ∷ dotted rest) none.0
    (dotted-part part rest none.1)

pub dotted-last : (part : List ℕ) → NonePass (λ c. eqb c 46) part → dotted part ≡ part ∷ []
dotted-last [] none = refl
dotted-last (c ∷ part) none =
    dotted_other (eqb c 46) c (dotted part) (part ∷ []) none.0 (dotted-last part none.1)

-- the characters of a text in which none is a dot
no_dot : (bytes : List ℕ) → IsUtf8 bytes → NoCharPasses (λ c. eqb c 46) bytes
    → NonePass (λ c. eqb c 46) (chars bytes)
no_dot bytes utf8 none =
    subst (NonePass (λ c. eqb c 46)) (chars_from_encodes none.0 bytes utf8 none.1) none.2

dot_chars : (rest : List ℕ) → chars (46 ∷ rest) ≡ 46 ∷ chars rest
unfolding chars
dot_chars [] = refl
dot_chars (b ∷ rest) = refl

-- what `split_once` makes of a text with a dot
pub record Cut (bytes front back : List ℕ) : Type 0 where
  pub text : IsUtf8 back
  pub shorter : length back < length bytes
  pub parts : dotted (chars bytes) ≡ chars front ∷ dotted (chars back)

pub cut : (bytes front back : List ℕ) (i j : ℕ) → IsUtf8 bytes → FindsChar 46 bytes (Some (i, j))
    → front ≡ take i bytes → back ≡ drop j bytes → length back + j ≡ length bytes
    → Cut bytes front back
cut bytes front back i j utf8 found in_front behind lengths =
    let ends : j ≡ i + 1 = found.1.ends in
    let within : i < length bytes = omega arith in
    let dot : get_or bytes i 0 ≡ 46 = found.1.byte (omega arith) in
    let small : get_or bytes i 0 < 128 = omega arith in
    let front_utf8 : IsUtf8 (take i bytes) =
    IsUtf8-take bytes i utf8 (IsCharBoundary-before_ascii bytes i within small) in
    let rest_utf8 : IsUtf8 (drop (i + 1) bytes) =
    IsUtf8-drop bytes (i + 1) utf8 (IsCharBoundary-after_ascii bytes i utf8 within small) in
    let split : bytes ≡ take i bytes ++ 46 ∷ drop j bytes =
    sym (take-append-drop i bytes)
    ∙ ap (λ rest. take i bytes ++ rest) (drop_at_char 46 bytes i j found.1 (omega arith)) in
    let whole : chars bytes ≡ chars (take i bytes) ++ 46 ∷ chars (drop j bytes) =
    ap chars split ∙ chars-append (take i bytes) (46 ∷ drop j bytes) front_utf8
    ∙ ap (λ cs. chars (take i bytes) ++ cs) (dot_chars (drop j bytes)) in
    record {
      text = subst IsUtf8 (ap (λ n. drop n bytes) (sym ends) ∙ sym behind) rest_utf8;
      shorter = omega arith;
      parts =
          ap dotted whole
          ∙ dotted-part (chars (take i bytes)) (chars (drop j bytes))
          (no_dot (take i bytes) front_utf8 found.0)
          ∙ (λ k. chars (sym in_front k) ∷ dotted (chars (sym behind k)));
    }

pub one_part : (bytes : List ℕ) → IsUtf8 bytes → NoCharPasses (λ c. eqb c 46) bytes
    → dotted (chars bytes) ≡ chars bytes ∷ []
one_part bytes utf8 none = dotted-last (chars bytes) (no_dot bytes utf8 none)

pub walk_last : (found : Option Tree) → option_and_then (walk []) found ≡ found
walk_last None = refl
walk_last (Some t) = refl
