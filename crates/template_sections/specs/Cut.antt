-- The sections of a text, and why it has none.
use Rattle.std.specs.Prelude.{◌≡◌, ◌≤◌, ℕ, ◌-◌, nat_lt, IfSome, if◌then◌else◌, List, [], ◌∷◌, map, length}
use Rattle.std.specs.Prelude.{Option, Some, None, option_map, Result, Ok, Err, codes, slice_get}
use Rattle.std.specs.Str.{bytes_eq, trim_start}
use Rattle.text_places.specs.Places.{first_repeat}
use Rattle.template_sections.specs.Parts.{Part, IsCutInto, size, placed}
use Rattle.template_sections.specs.declared.cutting.SectionEnd.{SectionEnd}
use Rattle.template_sections.specs.declared.cutting.SectionEnd.TheVariants.{Repeated, Missing}
use Rattle.template_sections.specs.declared.cutting.SectionEnd.TheVariants.{Before}
use Rattle.template_sections.specs.declared.cutting.Sections.{Sections}
use Rattle.template_sections.specs.declared.cutting.Span.{Span}
use Rattle.template_sections.specs.declared.headings.Heading.{Heading}

-- where a heading of the list begins
abbrev pub place_in : List Heading → Option ℕ → Option ℕ
place_in hs None = None
place_in hs (Some k) = option_map (λ h. h.at) (slice_get hs k)

-- where the first heading begins whose name stood before
abbrev pub repeated : List Heading → Option ℕ
repeated hs = place_in hs (first_repeat (map (λ h. h.name) hs))

-- where the next heading begins, or the text ends
abbrev pub next_at : ℕ → List Heading → ℕ
next_at whole [] = whole
next_at whole (h ∷ hs) = h.at

-- from behind the heading of this name to the next one
abbrev pub span_of : List ℕ → ℕ → List Heading → Option Span
span_of name whole [] = None
span_of name whole (h ∷ hs) =
    if bytes_eq h.name name then Some (record { from = h.from; to = next_at whole hs })
    else span_of name whole hs

-- the sections, where the two that have to be there are, and no text stands before the first
-- heading
abbrev pub with_both : Option Span → Option Span → ℕ → ℕ → List Heading →
    Result Sections SectionEnd
with_both None script whole visible hs = Err Missing
with_both (Some i) None whole visible hs = Err Missing
with_both (Some i) (Some s) whole visible hs =
    if nat_lt visible (next_at whole hs) then Err (Before visible)
    else Ok (record {
      info = i;
      parameters = span_of (codes "TEMPLATE_PARAMETERS") whole hs;
      script = s;
      permissions = span_of (codes "WEB_PERMISSIONS") whole hs;
      tests = span_of (codes "TESTS") whole hs;
    })

abbrev pub sections_in : ℕ → ℕ → List Heading → Result Sections SectionEnd
sections_in whole visible hs =
    with_both
    (span_of (codes "INFO") whole hs)
    (span_of (codes "SANDBOXED_JS_FOR_WEB_TEMPLATE") whole hs)
    whole visible hs

-- where the first character stands that is no white space
abbrev pub visible_place : List ℕ → ℕ
visible_place text = length text - length (trim_start text)

-- a repeated heading comes before everything else
abbrev pub by_repeat : Option ℕ → ℕ → ℕ → List Heading → Result Sections SectionEnd
by_repeat (Some place) whole visible hs = Err (Repeated place)
by_repeat None whole visible hs = sections_in whole visible hs

abbrev pub outcome : List ℕ → List Heading → Result Sections SectionEnd
outcome text hs = by_repeat (repeated hs) (length text) (visible_place text) hs

-- the text is a first part and parts, and this is what comes of them
pub record IsCut (text : List ℕ) (result : Result Sections SectionEnd) : Type 0 where
  pub first : List (List ℕ)
  pub parts : List Part
  pub are : IsCutInto text first parts
  pub is : result ≡ outcome text (placed (size first) parts)

-- a span lies in a text of so many bytes
pub record IsWithin (whole : ℕ) (span : Span) : Type 0 where
  pub ordered : span.from ≤ span.to
  pub ends : span.to ≤ whole

-- so does each span of sections
pub record AreWithin (whole : ℕ) (sections : Sections) : Type 0 where
  pub info : IsWithin whole sections.info
  pub parameters : IfSome sections.parameters (IsWithin whole)
  pub script : IsWithin whole sections.script
  pub permissions : IfSome sections.permissions (IsWithin whole)
  pub tests : IfSome sections.tests (IsWithin whole)
