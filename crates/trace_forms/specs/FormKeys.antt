-- The keys of a line's form.
use Rattle.std.specs.Prelude.{ℕ, List, [], ◌∷◌, codes}
use Rattle.gtm_data.specs.Facts.{Fact, page, cookie, global, returns, time, ids}
use Rattle.gtm_data.specs.Tree.{Tree, object, Entries, none, entry}
use Rattle.trace_forms.specs.Steps.{Step, fact, push, args, load, vendor}

-- the keys of members, in their order
abbrev pub keys_of : Entries → List (List ℕ)
keys_of none = []
keys_of (entry key t es) = key ∷ keys_of es

-- the keys of an object; another value has none
abbrev pub keys_in : Tree → List (List ℕ)
keys_in (object es) = keys_of es
keys_in _ = []

-- the keys of the form that tells a fact; no line tells the public name and the version
abbrev pub fact_keys : Fact → List (List ℕ)
fact_keys (page url referrer title charset region url_address referrer_address) = codes "page" ∷ []
fact_keys (cookie name values) = codes "cookie" ∷ codes "values" ∷ []
fact_keys (global key value) = codes "global" ∷ codes "value" ∷ []
fact_keys (returns key value) = codes "global" ∷ codes "returns" ∷ []
fact_keys (time ms) = codes "time" ∷ []
fact_keys (ids public_id version_id) = []

-- the keys of the form that asks for a step
abbrev pub step_keys : Step → List (List ℕ)
step_keys (fact f) = fact_keys f
step_keys (push t) = codes "push" ∷ []
step_keys (args t) = codes "args" ∷ []
step_keys (load number ok) = codes "load" ∷ codes "ok" ∷ []
step_keys (vendor number ok) = codes "ok" ∷ codes "vendor" ∷ []
