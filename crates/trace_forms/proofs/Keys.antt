-- A step that is asked for has the keys of its form.
use Rattle.std.proofs.Common.{◌≡◌, ℕ, List, [], ◌∷◌, Bool, true, false, Option, Some, None, refl}
use Rattle.std.proofs.Common.{ap, ◌∙◌}
use Rattle.std.specs.Prelude.{pos, codes, not, option_map, option_and_then, if◌then◌else◌}
use Rattle.std.specs.Str.{bytes_eq}
use Rattle.std.proofs.lemmas.Slice.Eq.{bytes_eq-Decides}
use Rattle.gtm_base.proofs.Pairs.{and_true}
use Rattle.gtm_data.specs.Facts.{cookie, global, returns, time}
use Rattle.gtm_data.specs.Tree.{Tree, list, object, none, entry, text_in}
use Rattle.trace_forms.specs.FormKeys.{keys_in, step_keys}
use Rattle.trace_forms.specs.Forms.{step_or_kind, are_listed, are_texts, page_fact, page_in}
use Rattle.trace_forms.specs.Forms.{is_regional, args_in, natural_in, counted_in, truth_in}
use Rattle.trace_forms.specs.Forms.{listed_texts, are_keys, single, pair, form_of}
use Rattle.trace_forms.specs.Steps.{fact, Step, push, args, load, vendor, Reading, step, bad}

-- where it is a step, these are the keys of its form
record HasKeys (keys : List (List ℕ)) (reading : Reading) : Type 0 where
  pub asked : (s : Step) → reading ≡ step s → keys ≡ step_keys s

module _ (keys : List (List ℕ)) where
  refused : (rule : ℕ) → HasKeys keys (bad rule)
  refused rule = record { asked = λ s is. absurd (cc) }

  stepped : (s : Step) → keys ≡ step_keys s → HasKeys keys (step s)
  stepped s have =
      record { asked = λ other is. let same : s ≡ other = cc in have ∙ ap step_keys same }

  either : (test : Bool) (some other : Reading) → (test ≡ true → HasKeys keys some)
      → HasKeys keys other → HasKeys keys (if test then some else other)
  either true some other have else_have = have refl
  either false some other have else_have = else_have

  of_one : {A : Type 0} (made : A → Step) (x : Option A) → ((y : A) → keys ≡ step_keys (made y))
      → HasKeys keys (step_or_kind (option_map made x))
  of_one made None have = refused 6
  of_one made (Some y) have = stepped (made y) (have y)

  of_two : {A B : Type 0} (made : A → B → Step) (x : Option A) (y : Option B)
      → ((u : A) (v : B) → keys ≡ step_keys (made u v))
      → HasKeys keys (step_or_kind (option_and_then (λ u. option_map (made u) y) x))
  of_two made None y have = refused 6
  of_two made (Some u) None have = refused 6
  of_two made (Some u) (Some v) have = stepped (made u v) (have u v)

  args_keys : (t : Tree) → keys ≡ codes "args" ∷ [] → HasKeys keys (args_in t)
  args_keys (list ts) have =
      either (is_regional ts) (bad 7) (step (args (list ts))) (λ is. refused 7)
      (stepped (args (list ts)) have)
  args_keys _ have = refused 6

  page_keys : (t : Tree) → keys ≡ codes "page" ∷ [] → HasKeys keys (page_in t)
  page_keys (object es) have =
      either (not (are_listed es)) (bad 5)
      (if are_texts es then step (fact (page_fact es)) else bad 6) (λ is. refused 5)
      (either (are_texts es) (step (fact (page_fact es))) (bad 6)
      (λ is. stepped (fact (page_fact es)) have) (refused 6))
  page_keys _ have = refused 6

same : (some other : List ℕ) → bytes_eq some other ≡ true → some ≡ other
same some other is = (bytes_eq-Decides some other).0 is

alone : (key word : List ℕ) → bytes_eq key word ≡ true → key ∷ [] ≡ word ∷ []
alone key word is = ap (λ k. k ∷ []) (same key word is)

beside : (first second key other : List ℕ) → are_keys first second key other ≡ true
    → first ∷ second ∷ [] ≡ key ∷ other ∷ []
beside first second key other are =
    let parts = and_true (bytes_eq first key) (bytes_eq second other) are in
    ap (λ k. k ∷ second ∷ []) (same first key parts.0)
    ∙ ap (λ k. key ∷ k ∷ []) (same second other parts.1)

single_keys : (key : List ℕ) (t : Tree) → HasKeys (key ∷ []) (single key t)
single_keys key t =
    let keys = key ∷ [] in
    either keys (bytes_eq key (codes "push")) _ _
    (λ is. stepped keys (push t) (alone key (codes "push") is))
    (either keys (bytes_eq key (codes "args")) _ _
    (λ is. args_keys keys t (alone key (codes "args") is))
    (either keys (bytes_eq key (codes "page")) _ _
    (λ is. page_keys keys t (alone key (codes "page") is))
    (either keys (bytes_eq key (codes "time")) _ _
    (λ is. of_one keys (λ n. fact (time (pos n))) (natural_in t)
    (λ n. alone key (codes "time") is))
    (refused keys 5))))

pair_keys : (first second : List ℕ) (t u : Tree)
    → HasKeys (first ∷ second ∷ []) (pair first t second u)
pair_keys first second t u =
    let keys = first ∷ second ∷ [] in
    either keys (are_keys first second (codes "load") (codes "ok")) _ _
    (λ are. of_two keys load (counted_in t) (truth_in u)
    (λ n ok. beside first second (codes "load") (codes "ok") are))
    (either keys (are_keys first second (codes "ok") (codes "vendor")) _ _
    (λ are. of_two keys vendor (counted_in u) (truth_in t)
    (λ n ok. beside first second (codes "ok") (codes "vendor") are))
    (either keys (are_keys first second (codes "cookie") (codes "values")) _ _
    (λ are. of_two keys (λ n vs. fact (cookie n vs)) (text_in t) (listed_texts u)
    (λ n vs. beside first second (codes "cookie") (codes "values") are))
    (either keys (are_keys first second (codes "global") (codes "value")) _ _
    (λ are. of_one keys (λ k. fact (global k u)) (text_in t)
    (λ k. beside first second (codes "global") (codes "value") are))
    (either keys (are_keys first second (codes "global") (codes "returns")) _ _
    (λ are. of_one keys (λ k. fact (returns k u)) (text_in t)
    (λ k. beside first second (codes "global") (codes "returns") are))
    (refused keys 5)))))

form_keys : (t : Tree) → HasKeys (keys_in t) (form_of t)
form_keys (object none) = refused [] 5
form_keys (object (entry key t none)) = single_keys key t
form_keys (object (entry first t (entry second u none))) = pair_keys first second t u
form_keys (object (entry first t (entry second u (entry third v es)))) = refused _ 5
form_keys _ = refused [] 5

pub asked_keys : (t : Tree) (s : Step) → form_of t ≡ step s → keys_in t ≡ step_keys s
asked_keys t = (form_keys t).asked
