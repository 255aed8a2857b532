-- The forms of a line: an object with exactly the members of one of them. The members stand in the
-- order of the bytes of their keys.
use Rattle.std.specs.Prelude.{ℕ, pos, suc, List, [], ◌∷◌, Bool, true, false, Option, Some, None}
use Rattle.std.specs.Prelude.{◌&&◌, not, option_map, option_and_then, if◌then◌else◌, codes}
use Rattle.std.specs.Option.{option_map_or}
use Rattle.std.specs.List.{list_any}
use Rattle.std.specs.Str.{bytes_eq}
use Rattle.gtm_data.specs.Facts.{Fact, page, cookie, global, returns, time}
use Rattle.gtm_data.specs.Paths.{member}
use Rattle.gtm_data.specs.Tree.{Tree, bool, whole, list, object, Trees, end, item, Entries, none}
use Rattle.gtm_data.specs.Tree.{entry, text_in}
use Rattle.trace_forms.specs.Steps.{Step, fact, push, args, load, vendor, Reading, step, bad}

-- a step where there is one, and else rule 6: a member of another kind
abbrev pub step_or_kind : Option Step → Reading
step_or_kind None = bad 6
step_or_kind (Some s) = step s

-- the members of a page that are listed
abbrev pub page_keys : List (List ℕ)
page_keys = codes "charset" ∷ codes "referrer" ∷ codes "region" ∷ codes "title" ∷ codes "url" ∷ []

-- a key is one of these
abbrev pub is_among : List (List ℕ) → List ℕ → Bool
is_among keys key = list_any (bytes_eq key) keys

-- each member of a page is listed
abbrev pub are_listed : Entries → Bool
are_listed none = true
are_listed (entry key t es) = is_among page_keys key && are_listed es

-- a value is a text
abbrev pub is_text : Tree → Bool
is_text t = option_map_or (λ characters. true) (text_in t) false

-- each member is a text
abbrev pub are_texts : Entries → Bool
are_texts none = true
are_texts (entry key t es) = is_text t && are_texts es

-- the text of the member with this key, where there is one
abbrev pub text_at : List ℕ → Entries → Option (List ℕ)
text_at key es = option_and_then text_in (member key es)

-- the facts of a page with these members
abbrev pub page_fact : Entries → Fact
page_fact es =
    page (text_at (codes "url") es) (text_at (codes "referrer") es) (text_at (codes "title") es)
    (text_at (codes "charset") es) (text_at (codes "region") es) None None

-- what the members of a page say: rule 5 for one that is not listed, and then rule 6 for one that
-- is no text
abbrev pub page_of : Entries → Reading
page_of es =
    if not (are_listed es) then bad 5 else if are_texts es then step (fact (page_fact es))
    else bad 6

-- what a page says
abbrev pub page_in : Tree → Reading
page_in (object es) = page_of es
page_in _ = bad 6

-- a value is this text
abbrev pub is_word : List ℕ → Tree → Bool
is_word word t = option_map_or (bytes_eq word) (text_in t) false

-- a value is a Map with the member `region`
abbrev pub has_region : Tree → Bool
has_region (object es) = option_map_or (λ t. true) (member (codes "region") es) false
has_region _ = false

-- the arguments set the default of consent for regions
abbrev pub is_regional : Trees → Bool
is_regional (item command (item kind (item settings ts))) =
    is_word (codes "consent") command && is_word (codes "default") kind && has_region settings
is_regional _ = false

-- what a list of arguments says: rule 7 for a default of consent for regions
abbrev pub args_in : Tree → Reading
args_in (list ts) = if is_regional ts then bad 7 else step (args (list ts))
args_in _ = bad 6

-- a whole number from 0 on
abbrev pub natural_in : Tree → Option ℕ
natural_in (whole (pos number)) = Some number
natural_in _ = None

-- a whole number from 1 on
abbrev pub counted_in : Tree → Option ℕ
counted_in (whole (pos (suc number))) = Some (suc number)
counted_in _ = None

-- a truth
abbrev pub truth_in : Tree → Option Bool
truth_in (bool b) = Some b
truth_in _ = None

-- the texts of items, where all are texts
abbrev pub texts_in : Trees → Option (List (List ℕ))
texts_in end = Some []
texts_in (item t ts) =
    option_and_then (λ characters. option_map (λ more. characters ∷ more) (texts_in ts)) (text_in t)

-- the texts of a List of texts
abbrev pub listed_texts : Tree → Option (List (List ℕ))
listed_texts (list ts) = texts_in ts
listed_texts _ = None

-- how something of this number ended
abbrev pub ended : (ℕ → Bool → Step) → Tree → Tree → Reading
ended made number ok =
    step_or_kind (option_and_then (λ n. option_map (made n) (truth_in ok)) (counted_in number))

-- the values of a cookie
abbrev pub cookie_in : Tree → Tree → Reading
cookie_in name values =
    step_or_kind
    (option_and_then (λ n. option_map (λ vs. fact (cookie n vs)) (listed_texts values))
    (text_in name))

-- a global of this key
abbrev pub global_in : (List ℕ → Fact) → Tree → Reading
global_in made key = step_or_kind (option_map (λ k. fact (made k)) (text_in key))

-- the time
abbrev pub time_in : Tree → Reading
time_in t = step_or_kind (option_map (λ n. fact (time (pos n))) (natural_in t))

-- what an object with one member says
abbrev pub single : List ℕ → Tree → Reading
single key t =
    if bytes_eq key (codes "push") then step (push t)
    else if bytes_eq key (codes "args") then args_in t
    else if bytes_eq key (codes "page") then page_in t
    else if bytes_eq key (codes "time") then time_in t
    else bad 5

-- the two keys are these
abbrev pub are_keys : List ℕ → List ℕ → List ℕ → List ℕ → Bool
are_keys first second key other = bytes_eq first key && bytes_eq second other

-- what an object with two members says
abbrev pub pair : List ℕ → Tree → List ℕ → Tree → Reading
pair first t second u =
    if are_keys first second (codes "load") (codes "ok") then ended load t u
    else if are_keys first second (codes "ok") (codes "vendor") then ended vendor u t
    else if are_keys first second (codes "cookie") (codes "values") then cookie_in t u
    else if are_keys first second (codes "global") (codes "value")
    then global_in (λ key. global key u) t
    else if are_keys first second (codes "global") (codes "returns")
    then global_in (λ key. returns key u) t
    else bad 5

-- what a line's value says: rule 5 for one of no form
abbrev pub form_of : Tree → Reading
form_of (object (entry key t none)) = single key t
form_of (object (entry first t (entry second u none))) = pair first t second u
form_of _ = bad 5
