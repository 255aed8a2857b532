-- The values of lines that ask for no step.
use Rattle.std.specs.Prelude.{◌≡◌, ℕ, List, [], ◌∷◌, Bool, true, false, codes}
use Rattle.std.specs.List.{list_any}
use Rattle.gtm_data.specs.Tree.{Tree, list, object, Trees, Entries, none, entry}
use Rattle.trace_forms.specs.FormKeys.{keys_in}
use Rattle.trace_forms.specs.Forms.{are_keys, are_listed, is_among, is_regional}

-- the keys of the forms with one member
abbrev pub single_keys : List (List ℕ)
single_keys = codes "push" ∷ codes "args" ∷ codes "page" ∷ codes "time" ∷ []

-- the keys of the forms with two, in the order of their bytes
abbrev pub key_pairs : List (List ℕ × List ℕ)
key_pairs =
    (codes "load", codes "ok") ∷ (codes "ok", codes "vendor") ∷ (codes "cookie", codes "values")
    ∷ (codes "global", codes "value") ∷ (codes "global", codes "returns") ∷ []

-- the keys are those of a form
abbrev pub are_form_keys : List (List ℕ) → Bool
are_form_keys (key ∷ []) = is_among single_keys key
are_form_keys (first ∷ second ∷ []) =
    list_any (λ pair. are_keys first second pair.0 pair.1) key_pairs
are_form_keys _ = false

-- a value has the members of a form, whatever they hold
abbrev pub has_form : Tree → Bool
has_form t = are_form_keys (keys_in t)

-- it is a page with a member that is not listed
abbrev pub HasOtherMember : Tree → Type 0
HasOtherMember t =
    (es : Entries) × (t ≡ object (entry (codes "page") (object es) none)) × (are_listed es ≡ false)

-- it is arguments that set the default of consent for regions
abbrev pub IsRegionalDefault : Tree → Type 0
IsRegionalDefault t =
    (ts : Trees) × (t ≡ object (entry (codes "args") (list ts) none)) × (is_regional ts ≡ true)
