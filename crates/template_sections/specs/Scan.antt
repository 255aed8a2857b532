-- The headings of a text, line by line, and its sections.
use Rattle.std.specs.Prelude.{◌≡◌, ℕ, ◌+◌, List, [], ◌∷◌, length, Option, Some, None, Result}
use Rattle.std.specs.Prelude.{Ok, Err}
use Rattle.template_sections.specs.Cut.{outcome}
use Rattle.template_sections.specs.Headings.{heading_name}
use Rattle.template_sections.specs.Lines.{lines}
use Rattle.template_sections.specs.declared.cutting.SectionEnd.{SectionEnd}
use Rattle.template_sections.specs.declared.cutting.SectionEnd.TheVariants.{OutOfMemory, Repeated}
use Rattle.template_sections.specs.declared.cutting.SectionEnd.TheVariants.{Missing, Before}
use Rattle.template_sections.specs.declared.cutting.Sections.{Sections}
use Rattle.template_sections.specs.declared.headings.Heading.{Heading}

-- a heading, where the line is one
abbrev pub put_heading : Option (List ℕ) → ℕ → ℕ → List Heading → List Heading
put_heading None begins ends hs = hs
put_heading (Some title) begins ends hs =
    record { name = title; at = begins; from = ends } ∷ hs

-- the headings among lines, of which the first begins at this place
abbrev pub headings_from : ℕ → List (List ℕ) → List Heading
headings_from place [] = []
headings_from place (l ∷ ls) =
    put_heading (heading_name l) place (place + length l) (headings_from (place + length l) ls)

-- the sections of a whole text, or why it has none
unfoldable pub sections_of : List ℕ → Result Sections SectionEnd
sections_of text = outcome text (headings_from 0 (lines text))

-- the answer is this one of a text, unless memory ran out
abbrev pub IsSectionsOf : List ℕ → Result Sections SectionEnd → Type 0
IsSectionsOf text (Ok sections) = sections_of text ≡ Ok sections
IsSectionsOf text (Err (Repeated place)) = sections_of text ≡ Err (Repeated place)
IsSectionsOf text (Err Missing) = sections_of text ≡ Err Missing
IsSectionsOf text (Err (Before place)) = sections_of text ≡ Err (Before place)
IsSectionsOf text (Err OutOfMemory) = Unit {0}
