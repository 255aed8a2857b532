-- The parts of a dotted text: they have no dot, and joined by dots they are the text.
use Rattle.std.proofs.Common.{◌≡◌, ◌≢◌, ℕ, zero, suc, ◌<◌, List, [], ◌∷◌, length, eqb, Bool, true}
use Rattle.std.proofs.Common.{false, if◌then◌else◌, refl, ap, ◌∙◌, arith}
use Rattle.std.specs.Prelude.{All, Contains, slice_index_or}
use Rattle.std.specs.List.{join_with_byte, slice_split}
use Rattle.std.specs.Str.{NonePass}
use Rattle.std.proofs.lemmas.Bool.{eqb-true, eqb-false}
use Rattle.std.proofs.lemmas.List.Elements.{All-nil, All-cons, All-head, All-tail}
use Rattle.std.proofs.lemmas.List.Splits.{join_with_byte-slice_split}
use Rattle.gtm_data.specs.Paths.{dotted, onto_first, HaveNoDot}
use Rattle.gtm_data.proofs.Dots.{dotted-part, dotted-last}

dotted-slice_split : (cs : List ℕ) → dotted cs ≡ slice_split (λ c. eqb c 46) cs
dotted-slice_split cs = refl

pub joined-dotted : (cs : List ℕ) → join_with_byte 46 (dotted cs) ≡ cs
joined-dotted cs = ap (join_with_byte 46) (dotted-slice_split cs) ∙ join_with_byte-slice_split 46 cs

abbrev Dotless : List ℕ → Type 0
Dotless part = Contains part 46 → ⊥

no_dot_first : (c : ℕ) (part : List ℕ) → (c ≡ 46 → ⊥) → Dotless part → (place : ℕ)
    → place < length (c ∷ part) → slice_index_or (c ∷ part) place 46 ≡ 46 → ⊥
no_dot_first c part other rest zero within is = other is
no_dot_first c part other rest (suc place) within is = rest (place, omega arith, is)

parts_at : (b : Bool) (c : ℕ) (parts : List (List ℕ)) → eqb c 46 ≡ b → All Dotless parts
    → All Dotless (if b then [] ∷ parts else onto_first c parts)
parts_at true c parts e none = All-cons Dotless [] parts (λ has. absurd (omega (arith, has.1))) none
parts_at false c [] e none =
    All-cons Dotless (c ∷ []) []
    (λ has. no_dot_first c [] (eqb-false c 46 e) (λ it. absurd (omega (arith, it.1))) has.0 has.1
    has.2) none
parts_at false c (part ∷ parts) e none =
    All-cons Dotless (c ∷ part) parts
    (λ has. no_dot_first c part (eqb-false c 46 e) (All-head Dotless part parts none) has.0
    has.1 has.2) (All-tail Dotless part parts none)

pub dotted-no_dot : (cs : List ℕ) → HaveNoDot (dotted cs)
dotted-no_dot [] = All-cons Dotless [] [] (λ has. absurd (omega (arith, has.1))) (All-nil Dotless)
dotted-no_dot (c ∷ cs) = parts_at (eqb c 46) c (dotted cs) refl (dotted-no_dot cs)

not_dot : (b : Bool) (c : ℕ) (part : List ℕ) → eqb c 46 ≡ b → Dotless (c ∷ part) → b ≡ false
not_dot true c part e none = absurd (none (0, omega arith, eqb-true c 46 e))
not_dot false c part e none = refl

none_pass : (part : List ℕ) → Dotless part → NonePass (λ c. eqb c 46) part
none_pass [] none = tt
none_pass (c ∷ part) none = (
  not_dot (eqb c 46) c part refl none,
  none_pass part (λ has. none (suc has.0, omega (arith, has.1), has.2)),
)

pub dotted-joined : (parts : List (List ℕ)) → parts ≢ [] → HaveNoDot parts
    → dotted (join_with_byte 46 parts) ≡ parts
dotted-joined [] some none = absurd (some refl)
dotted-joined (part ∷ []) some none =
    dotted-last part (none_pass part (All-head Dotless part [] none))
dotted-joined (part ∷ next ∷ parts) some none =
    dotted-part part (join_with_byte 46 (next ∷ parts))
    (none_pass part (All-head Dotless part (next ∷ parts) none))
    ∙ ap (λ rest. part ∷ rest)
    (dotted-joined (next ∷ parts) (λ e. cc) (All-tail Dotless part (next ∷ parts) none))
