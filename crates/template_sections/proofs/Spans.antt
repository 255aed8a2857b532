-- The bodies behind headings lie in the text.
use Rattle.std.proofs.Common.{◌≡◌, ◌∙◌, ◌≤◌, ◌+◌, ℕ, suc, List, [], ◌∷◌, length, Bool, true, false}
use Rattle.std.proofs.Common.{Option, Some, None, refl, sym, subst, arith, add_assoc, zero-add}
use Rattle.std.specs.Prelude.{Result, Ok, Err, IfOk, IfSome, ◌==◌, nat_lt, if◌then◌else◌, codes}
use Rattle.std.specs.Str.{bytes_eq}
use Rattle.template_sections.specs.Cut.{next_at, span_of, with_both, sections_in, by_repeat}
use Rattle.template_sections.specs.Cut.{repeated, visible_place, IsWithin, AreWithin}
use Rattle.template_sections.specs.Headings.{heading_name}
use Rattle.template_sections.specs.Lines.{lines, put_before}
use Rattle.template_sections.specs.Parts.{size}
use Rattle.template_sections.specs.Scan.{headings_from, put_heading, sections_of, IsSectionsOf}
use Rattle.template_sections.specs.declared.cutting.SectionEnd.{SectionEnd}
use Rattle.template_sections.specs.declared.cutting.SectionEnd.TheVariants.{OutOfMemory, Repeated}
use Rattle.template_sections.specs.declared.cutting.SectionEnd.TheVariants.{Missing, Before}
use Rattle.template_sections.specs.declared.cutting.Sections.{Sections}
use Rattle.template_sections.specs.declared.cutting.Span.{Span}
use Rattle.template_sections.specs.declared.headings.Heading.{Heading}

-- headings stand one behind the other, from this place on and up to the end
abbrev Rises : ℕ → List Heading → ℕ → Type 0
Rises place [] whole = place ≤ whole
Rises place (h ∷ hs) whole = (place ≤ h.at) × (h.at ≤ h.from) × Rises h.from hs whole

rises_before : (lower place whole : ℕ) (hs : List Heading) → lower ≤ place → Rises place hs whole
    → Rises lower hs whole
rises_before lower place whole [] le rises = omega arith
rises_before lower place whole (h ∷ hs) le rises =
    let here : place ≤ h.at = rises.0 in (omega arith, rises.1, rises.2)

put_rises : (title : Option (List ℕ)) (place ends whole : ℕ) (hs : List Heading) → place ≤ ends
    → Rises ends hs whole → Rises place (put_heading title place ends hs) whole
put_rises None place ends whole hs le rises = rises_before place ends whole hs le rises
put_rises (Some title) place ends whole hs le rises = (omega arith, le, rises)

lines_rise : (place : ℕ) (ls : List (List ℕ)) → Rises place (headings_from place ls) (place + size ls)
lines_rise place [] = omega arith
lines_rise place (l ∷ ls) =
    put_rises (heading_name l) place (place + length l) (place + (length l + size ls))
    (headings_from (place + length l) ls) (omega arith)
    (subst (λ n. Rises (place + length l) (headings_from (place + length l) ls) n)
    (add_assoc place (length l) (size ls)) (lines_rise (place + length l) ls))

size_put : (c : ℕ) (ls : List (List ℕ)) → size (put_before c ls) ≡ suc (size ls)
size_put c [] = refl
size_put c (l ∷ ls) = omega arith

size_lines : (text : List ℕ) → size (lines text) ≡ length text
size_lines [] = refl
size_lines (c ∷ cs) =
    let rest : size (lines cs) ≡ length cs = size_lines cs in
    let put : size (put_before c (lines cs)) ≡ suc (size (lines cs)) = size_put c (lines cs) in
    elim (c == 10) as
    (λ b. size (if b then (c ∷ []) ∷ lines cs else put_before c (lines cs)) ≡ suc (length cs))
    [ true ↦ omega arith | false ↦ omega arith ]

next_between : (place whole : ℕ) (hs : List Heading) → Rises place hs whole
    → (place ≤ next_at whole hs) × (next_at whole hs ≤ whole)
next_between place whole [] rises = (rises, omega arith)
next_between place whole (h ∷ hs) rises =
    let next = next_between h.from whole hs rises.2 in
    let here : h.at ≤ h.from = rises.1 in
    let up : h.from ≤ next_at whole hs = next.0 in
    let end : next_at whole hs ≤ whole = next.1 in
    (rises.0, omega arith)

span_within : (name : List ℕ) (place whole : ℕ) (hs : List Heading) → Rises place hs whole
    → IfSome (span_of name whole hs) (IsWithin whole)
span_within name place whole [] rises = tt
span_within name place whole (h ∷ hs) rises =
    let next = next_between h.from whole hs rises.2 in
    let span : Span = record { from = h.from; to = next_at whole hs } in
    elim (bytes_eq h.name name) as
    (λ b. IfSome (if b then Some span else span_of name whole hs) (IsWithin whole)) [
      | true ↦ record { ordered = next.0; ends = next.1 }
      | false ↦ span_within name h.from whole hs rises.2
    ]

module _ (whole visible : ℕ) (hs : List Heading) (rises : Rises 0 hs whole) where
  both_within : (info script : Option Span) → IfSome info (IsWithin whole)
      → IfSome script (IsWithin whole)
      → IfOk (with_both info script whole visible hs) (AreWithin whole)
  both_within None script within more = tt
  both_within (Some i) None within more = tt
  both_within (Some i) (Some s) within more =
      let made : Sections = record {
        info = i;
        parameters = span_of (codes "TEMPLATE_PARAMETERS") whole hs;
        script = s;
        permissions = span_of (codes "WEB_PERMISSIONS") whole hs;
        tests = span_of (codes "TESTS") whole hs;
      } in
      let early : Result Sections SectionEnd = Err (Before visible) in
      elim (nat_lt visible (next_at whole hs)) as
      (λ b. IfOk (if b then early else Ok made) (AreWithin whole)) [
        | true ↦ tt
        | false ↦ record {
          info = within;
          parameters = span_within (codes "TEMPLATE_PARAMETERS") 0 whole hs rises;
          script = more;
          permissions = span_within (codes "WEB_PERMISSIONS") 0 whole hs rises;
          tests = span_within (codes "TESTS") 0 whole hs rises;
        }
      ]

  in_within : IfOk (sections_in whole visible hs) (AreWithin whole)
  in_within =
      both_within (span_of (codes "INFO") whole hs)
      (span_of (codes "SANDBOXED_JS_FOR_WEB_TEMPLATE") whole hs)
      (span_within (codes "INFO") 0 whole hs rises)
      (span_within (codes "SANDBOXED_JS_FOR_WEB_TEMPLATE") 0 whole hs rises)

  repeat_within : (place : Option ℕ)
      → IfOk (by_repeat place whole visible hs) (AreWithin whole)
  repeat_within None = in_within
  repeat_within (Some place) = tt

-- the sections of a text lie in it
pub sections_within : (text : List ℕ) → IfOk (sections_of text) (AreWithin (length text))
unfolding sections_of
sections_within text =
    let hs = headings_from 0 (lines text) in
    let rises : Rises 0 hs (length text) =
    subst (Rises 0 hs) (zero-add (size (lines text)) ∙ size_lines text) (lines_rise 0 (lines text)) in
    repeat_within (length text) (visible_place text) hs rises (repeated hs)

-- what is equal to the sections of a text is them
pub are_sections : (text : List ℕ) (result : Result Sections SectionEnd) → sections_of text ≡ result
    → IsSectionsOf text result
are_sections text (Ok sections) is = is
are_sections text (Err (Repeated place)) is = is
are_sections text (Err Missing) is = is
are_sections text (Err (Before place)) is = is
are_sections text (Err OutOfMemory) is = tt
