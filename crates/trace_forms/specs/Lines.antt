-- What a line of a trace says, by its bytes without the LF.
use Rattle.std.specs.Prelude.{ℕ, List, Option, Some, None, Bool, ◌==◌, ◌||◌, if◌then◌else◌}
use Rattle.std.specs.List.{list_all}
use Rattle.serde_json.specs.Data as json
use Rattle.gtm_data.specs.Json.{json_of}
use Rattle.gtm_data.specs.Plain.{plain, not_whole}
use Rattle.gtm_data.specs.Tree.{Tree}
use Rattle.trace_forms.specs.Forms.{form_of}
use Rattle.trace_forms.specs.Steps.{Reading, blank, bad}

-- spaces, tabs and CR alone
abbrev pub is_blank : List ℕ → Bool
is_blank text = list_all (λ b. (b == 32) || (b == 9) || (b == 13)) text

-- rule 3 for a JSON tree with a number that is not whole or out of range, else rule 4: it nests
-- over 64 deep
abbrev pub bad_tree : Option (List ℕ) → Reading
bad_tree (Some path) = bad 3
bad_tree None = bad 4

-- what a line of this JSON tree says, which stands for this data, if for any
abbrev pub reading_of_data : json.Data → Option Tree → Reading
reading_of_data d None = bad_tree (not_whole d)
reading_of_data d (Some t) = form_of t

-- what a line with this JSON tree says; rule 2 for one without
abbrev pub reading_of_tree : Option json.Data → Reading
reading_of_tree None = bad 2
reading_of_tree (Some d) = reading_of_data d (plain d)

-- what a line says
abbrev pub line_of : List ℕ → Reading
line_of text = if is_blank text then blank else reading_of_tree (json_of text)
