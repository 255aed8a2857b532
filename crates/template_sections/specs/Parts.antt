-- A text as a first part and then headings with bodies, in order.
use Rattle.std.specs.Prelude.{◌≡◌, ℕ, ◌+◌, List, [], ◌∷◌, ◌++◌, length, Bool, true, false, Option}
use Rattle.std.specs.Prelude.{Some, None}
use Rattle.std.specs.List.{list_all}
use Rattle.template_sections.specs.Headings.{heading_name}
use Rattle.template_sections.specs.Lines.{lines}
use Rattle.template_sections.specs.declared.headings.Heading.{Heading}

-- a heading, its name, and the lines behind it up to the next heading
pub record Part : Type 0 where
  pub name : List ℕ
  pub heading : List ℕ
  pub body : List (List ℕ)

abbrev pub has_no_name : Option (List ℕ) → Bool
has_no_name None = true
has_no_name (Some name) = false

-- a line that is no heading
abbrev pub is_text : List ℕ → Bool
is_text line = has_no_name (heading_name line)

-- the lines of the parts, in order
abbrev pub lines_of : List Part → List (List ℕ)
lines_of [] = []
lines_of (p ∷ ps) = p.heading ∷ (p.body ++ lines_of ps)

-- the heading has the name, and no line of the body is a heading
pub record IsPart (p : Part) : Type 0 where
  pub named : heading_name p.heading ≡ Some p.name
  pub text : list_all is_text p.body ≡ true

abbrev pub AreParts : List Part → Type 0
AreParts [] = Unit {0}
AreParts (p ∷ ps) = IsPart p × AreParts ps

-- a whole text is its first part, in which no line is a heading, and then the parts
pub record IsCutInto (whole : List ℕ) (first : List (List ℕ)) (ps : List Part) : Type 0 where
  pub split : lines whole ≡ first ++ lines_of ps
  pub text : list_all is_text first ≡ true
  pub parts : AreParts ps

-- how many bytes these lines have
abbrev pub size : List (List ℕ) → ℕ
size [] = 0
size (l ∷ ls) = length l + size ls

-- the headings of the parts, of which the first begins at this place
abbrev pub placed : ℕ → List Part → List Heading
placed place [] = []
placed place (p ∷ ps) =
    record { name = p.name; at = place; from = place + length p.heading }
    ∷ placed (place + length p.heading + size p.body) ps
