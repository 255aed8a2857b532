-- What the reading of a value tells of its form.
use Rattle.std.proofs.Common.{◌≡◌, ℕ, List, Bool, true, false, Option, Some, None, refl}
use Rattle.std.proofs.Common.{ap, inl, inr, sym}
use Rattle.std.specs.Prelude.{◌⊎◌, ◌||◌, pos, codes, not, option_map, option_and_then}
use Rattle.std.specs.Prelude.{if◌then◌else◌}
use Rattle.std.specs.Str.{bytes_eq}
use Rattle.std.proofs.lemmas.Slice.Eq.{bytes_eq-Decides}
use Rattle.gtm_data.specs.Facts.{cookie, global, returns, time}
use Rattle.gtm_data.specs.Tree.{Tree, Entries, list, object, none, entry, text_in}
use Rattle.line_rules.specs.BadForms.{has_form, HasOtherMember, IsRegionalDefault}
use Rattle.trace_forms.specs.Forms.{step_or_kind, are_listed, are_texts, page_fact, page_in}
use Rattle.trace_forms.specs.Forms.{is_regional, args_in, natural_in, counted_in, truth_in}
use Rattle.trace_forms.specs.Forms.{listed_texts, are_keys, single, pair, form_of}
use Rattle.trace_forms.specs.Steps.{fact, Step, push, args, load, vendor, Reading, step, bad}

-- what a reading of a value tells, which has a form or not
pub record Tells (t : Tree) (form : Bool) (reading : Reading) : Type 0 where
  pub formless : form ≡ false → reading ≡ bad 5
  pub five : reading ≡ bad 5 → (form ≡ false) ⊎ HasOtherMember t
  pub six : form ≡ true → (HasOtherMember t → ⊥) → (IsRegionalDefault t → ⊥)
      → ((s : Step) → reading ≡ step s → ⊥) → reading ≡ bad 6
  pub seven : reading ≡ bad 7 → IsRegionalDefault t
  pub only : (rule : ℕ) → reading ≡ bad rule → (rule ≡ 5) ⊎ ((rule ≡ 6) ⊎ (rule ≡ 7))

module _ (t : Tree) where
  no_form : Tells t false (bad 5)
  no_form = record {
    formless = λ is. refl;
    five = λ is. inl refl;
    six = λ is other regional asked. absurd (cc is);
    seven = λ is. absurd (cc is);
    only = λ rule is. let same : 5 ≡ rule = cc is in inl (sym same);
  }

  other_member : HasOtherMember t → Tells t true (bad 5)
  other_member has = record {
    formless = λ is. refl;
    five = λ is. inr has;
    six = λ is other regional asked. absurd (other has);
    seven = λ is. absurd (cc is);
    only = λ rule is. let same : 5 ≡ rule = cc is in inl (sym same);
  }

  other_kind : Tells t true (bad 6)
  other_kind = record {
    formless = λ is. absurd (cc is);
    five = λ is. absurd (cc is);
    six = λ is other regional asked. refl;
    seven = λ is. absurd (cc is);
    only = λ rule is. let same : 6 ≡ rule = cc is in inr (inl (sym same));
  }

  regional_default : IsRegionalDefault t → Tells t true (bad 7)
  regional_default is_one = record {
    formless = λ is. absurd (cc is);
    five = λ is. absurd (cc is);
    six = λ is other regional asked. absurd (regional is_one);
    seven = λ is. is_one;
    only = λ rule is. let same : 7 ≡ rule = cc is in inr (inr (sym same));
  }

  asks : (s : Step) → Tells t true (step s)
  asks s = record {
    formless = λ is. absurd (cc is);
    five = λ is. absurd (cc is);
    six = λ is other regional asked. absurd (asked s refl);
    seven = λ is. absurd (cc is);
    only = λ rule is. absurd (cc is);
  }

  -- the first of the forms, or one of the others
  either : (test more : Bool) (some other : Reading) → (test ≡ true → Tells t true some)
      → Tells t more other → Tells t (test || more) (if test then some else other)
  either true more some other here elsewhere = here refl
  either false more some other here elsewhere = elsewhere

  -- within a form
  within : (test : Bool) (some other : Reading) → (test ≡ true → Tells t true some)
      → (test ≡ false → Tells t true other) → Tells t true (if test then some else other)
  within true some other here elsewhere = here refl
  within false some other here elsewhere = elsewhere refl

  of_one : {A : Type 0} (made : A → Step) (x : Option A)
      → Tells t true (step_or_kind (option_map made x))
  of_one made None = other_kind
  of_one made (Some y) = asks (made y)

  of_two : {A B : Type 0} (made : A → B → Step) (x : Option A) (y : Option B)
      → Tells t true (step_or_kind (option_and_then (λ u. option_map (made u) y) x))
  of_two made None y = other_kind
  of_two made (Some u) None = other_kind
  of_two made (Some u) (Some v) = asks (made u v)

  of_args : (value : Tree) → t ≡ object (entry (codes "args") value none)
      → Tells t true (args_in value)
  of_args (list ts) is =
      within (is_regional ts) (bad 7) (step (args (list ts)))
      (λ regional. regional_default (ts, is, regional)) (λ plain. asks (args (list ts)))
  of_args _ is = other_kind

  of_texts : (es : Entries)
      → Tells t true (if are_texts es then step (fact (page_fact es)) else bad 6)
  of_texts es =
      within (are_texts es) (step (fact (page_fact es))) (bad 6)
      (λ texts. asks (fact (page_fact es))) (λ none. other_kind)

  unlisted : (listed : Bool) → not listed ≡ true → listed ≡ false
  unlisted true is = absurd (cc is)
  unlisted false is = refl

  of_page : (value : Tree) → t ≡ object (entry (codes "page") value none)
      → Tells t true (page_in value)
  of_page (object es) is =
      within (not (are_listed es)) (bad 5)
      (if are_texts es then step (fact (page_fact es)) else bad 6)
      (λ some. other_member (es, is, unlisted (are_listed es) some)) (λ all. of_texts es)
  of_page _ is = other_kind

alone : (key word : List ℕ) (value : Tree) → bytes_eq key word ≡ true
    → object (entry key value none) ≡ object (entry word value none)
alone key word value is = ap (λ k. object (entry k value none)) ((bytes_eq-Decides key word).0 is)

of_single : (key : List ℕ) (value : Tree)
    → Tells (object (entry key value none)) (has_form (object (entry key value none)))
    (single key value)
of_single key value =
    let t = object (entry key value none) in
    either t (bytes_eq key (codes "push")) _ _ _ (λ is. asks t (push value))
    (either t (bytes_eq key (codes "args")) _ _ _
    (λ is. of_args t value (alone key (codes "args") value is))
    (either t (bytes_eq key (codes "page")) _ _ _
    (λ is. of_page t value (alone key (codes "page") value is))
    (either t (bytes_eq key (codes "time")) _ _ _
    (λ is. of_one t (λ n. fact (time (pos n))) (natural_in value)) (no_form t))))

of_pair : (first second : List ℕ) (v u : Tree)
    → Tells (object (entry first v (entry second u none)))
    (has_form (object (entry first v (entry second u none)))) (pair first v second u)
of_pair first second v u =
    let t = object (entry first v (entry second u none)) in
    either t (are_keys first second (codes "load") (codes "ok")) _ _ _
    (λ are. of_two t load (counted_in v) (truth_in u))
    (either t (are_keys first second (codes "ok") (codes "vendor")) _ _ _
    (λ are. of_two t vendor (counted_in u) (truth_in v))
    (either t (are_keys first second (codes "cookie") (codes "values")) _ _ _
    (λ are. of_two t (λ n vs. fact (cookie n vs)) (text_in v) (listed_texts u))
    (either t (are_keys first second (codes "global") (codes "value")) _ _ _
    (λ are. of_one t (λ k. fact (global k u)) (text_in v))
    (either t (are_keys first second (codes "global") (codes "returns")) _ _ _
    (λ are. of_one t (λ k. fact (returns k u)) (text_in v)) (no_form t)))))

pub tells : (t : Tree) → Tells t (has_form t) (form_of t)
tells (object none) = no_form (object none)
tells (object (entry key v none)) = of_single key v
tells (object (entry first v (entry second u none))) = of_pair first second v u
tells (object (entry first v (entry second u (entry third w es)))) = no_form _
tells t = no_form t

-- the two that have a form and are refused
pub told_other_member : (t : Tree) → HasOtherMember t → form_of t ≡ bad 5
told_other_member t (es, is, unlisted) = rw is (rw unlisted refl)

pub told_regional : (t : Tree) → IsRegionalDefault t → form_of t ≡ bad 7
told_regional t (ts, is, regional) = rw is (rw regional refl)
