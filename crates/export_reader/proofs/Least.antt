-- The first broken rule is the least.
use Rattle.std.proofs.Common.{◌≡◌, ◌≤◌, ◌↔◌, ◌∙◌, ℕ, zero, suc, List, [], ◌∷◌, Option, Some}
use Rattle.std.proofs.Common.{None, refl, sym, ap, subst, arith}
use Rattle.std.specs.Prelude.{slice_get}
use Rattle.serde_json.specs.Data as json
use Rattle.gtm_data.specs.Json.{json_of}
use Rattle.export_entries.specs.Entries.{written_entries}
use Rattle.export_entries.specs.declared.entries.WrittenEntries.{WrittenEntries}
use Rattle.export_reader.specs.FirstBroken.{Rule, part_rules, text_rules, container_rules}
use Rattle.export_reader.specs.FirstBroken.{reference_rules, entries_rules}
use Rattle.export_reader.specs.FirstBroken.{version_rules, tree_rules, rules_of, export_rules}
use Rattle.export_reader.specs.FirstBroken.{first_of, first_broken}
use Rattle.export_reader.specs.Breaks.{Breaks}
use Rattle.export_reader.proofs.Listed.{Among, among_breaks, breaks_among}
use Rattle.export_reader.specs.Rules.{version_in}
use Rattle.export_templates.specs.Readings.{readings_of}
use Rattle.export_templates.specs.declared.readings.TemplateReading.{TemplateReading}
use Rattle.std.specs.Option.{option_map_or}

some_same : {A : Type 0} {x y : A} → Some x ≡ Some y → x ≡ y
some_same is = cc

none_some : {A : Type 0} {x : A} → None ≡ Some x → ⊥
none_some is = cc

-- the numbers of the rules rise, from one on and up to another
abbrev Rises : ℕ → ℕ → List Rule → Type 0
Rises from until [] = from ≤ until
Rises from until (rule ∷ rules) = (from ≤ rule.0) × Rises (suc rule.0) until rules

found : (rules : List Rule) (number : ℕ) (path : List ℕ) → first_of rules ≡ Some (number, path)
    → Among rules number path
found [] number path is = absurd (none_some is)
found ((n, None) ∷ rules) number path is = let later = found rules number path is in
    (suc later.0, later.1)
found ((n, Some p) ∷ rules) number path is = let same : (n, p) ≡ (number, path) = some_same is in
    (0, ap (λ r. Some (r.0, Some r.1)) same)

above : (rules : List Rule) (from until at : ℕ) (rule : Rule) → Rises from until rules
    → slice_get rules at ≡ Some rule → from ≤ rule.0
above [] from until at rule rises is = absurd (none_some is)
above (first ∷ rules) from until zero rule rises is = let same : first ≡ rule = some_same is in
    subst (λ r. from ≤ r.0) same rises.0
above (first ∷ rules) from until (suc at) rule rises is =
    let later : suc first.0 ≤ rule.0 = above rules (suc first.0) until at rule rises.1 is in
    let here : from ≤ first.0 = rises.0 in omega arith

least : (rules : List Rule) (from until number : ℕ) (path : List ℕ) → Rises from until rules
    → first_of rules ≡ Some (number, path) → (other : ℕ) (place : List ℕ) → Among rules other place
    → number ≤ other
least [] from until number path rises is other place among = absurd (none_some is)
least ((n, None) ∷ rules) from until number path rises is other place (zero, here) =
    absurd (none_some (ap (λ r. r.1) (some_same here)))
least ((n, None) ∷ rules) from until number path rises is other place (suc at, here) =
    least rules (suc n) until number path rises.1 is other place (at, here)
least ((n, Some p) ∷ rules) from until number path rises is other place (zero, here) =
    let mine : n ≡ number = ap (λ r. r.0) (some_same is) in
    let its : n ≡ other = ap (λ r. r.0) (some_same here) in
    omega arith
least ((n, Some p) ∷ rules) from until number path rises is other place (suc at, here) =
    let mine : n ≡ number = ap (λ r. r.0) (some_same is) in
    let later : suc n ≤ other = above rules (suc n) until at (other, Some place) rises.1 here in
    omega arith

-- a rule of one number is broken at one path
one_path : (rules : List Rule) (from until number : ℕ) (path place : List ℕ)
    → Rises from until rules → Among rules number path → Among rules number place → path ≡ place
one_path [] from until number path place rises (at, here) there = absurd (none_some here)
one_path (first ∷ rules) from until number path place rises (zero, here) (zero, there) =
    some_same (ap (λ r. r.1) (some_same (sym here ∙ there)))
one_path (first ∷ rules) from until number path place rises (zero, here) (suc at, there) =
    let mine : first.0 ≡ number = ap (λ r. r.0) (some_same here) in
    let later : suc first.0 ≤ number =
    above rules (suc first.0) until at (number, Some place) rises.1 there in
    absurd (omega arith)
one_path (first ∷ rules) from until number path place rises (suc at, here) (zero, there) =
    let mine : first.0 ≡ number = ap (λ r. r.0) (some_same there) in
    let later : suc first.0 ≤ number =
    above rules (suc first.0) until at (number, Some path) rises.1 here in
    absurd (omega arith)
one_path (first ∷ rules) from until number path place rises (suc at, here) (suc other, there) =
    one_path rules (suc first.0) until number path place rises.1 (at, here) (other, there)

nothing : (rules : List Rule) → first_of rules ≡ None → (number : ℕ) (path : List ℕ)
    → Among rules number path → ⊥
nothing [] is number path (at, here) = none_some here
nothing ((n, None) ∷ rules) is number path (zero, here) = none_some (ap (λ r. r.1) (some_same here))
nothing ((n, None) ∷ rules) is number path (suc at, here) = nothing rules is number path (at, here)
nothing ((n, Some p) ∷ rules) is number path among = none_some (sym is)

-- what the first broken rule is, from what there may be
abbrev Told : List Rule → Option (ℕ × List ℕ) → Type 0
Told rules first =
    (number : ℕ) (path : List ℕ) → Among rules number path
    → ((other : ℕ) (place : List ℕ) → Among rules other place → number ≤ other)
    → first ≡ Some (number, path)

told : (rules : List Rule) (from until : ℕ) (first : Option (ℕ × List ℕ)) → first_of rules ≡ first
    → Rises from until rules → Told rules first
told rules from until None is rises number path among lowest =
    absurd (nothing rules is number path among)
told rules from until (Some first) is rises number path among lowest =
    let its = found rules first.0 first.1 is in
    let up : number ≤ first.0 = lowest first.0 first.1 its in
    let down : first.0 ≤ number =
    least rules from until first.0 first.1 rises is number path among in
    let same : first.0 ≡ number = omega arith in
    let moved : Among rules number first.1 = subst (λ n. Among rules n first.1) same its in
    λ i. Some (same i, one_path rules from until number first.1 path rises moved among i)

unbroken : (rules : List Rule) (first : Option (ℕ × List ℕ)) → first_of rules ≡ first
    → ((number : ℕ) (path : List ℕ) → Among rules number path → ⊥) → first ≡ None
unbroken rules None is none = refl
unbroken rules (Some first) is none = absurd (none first.0 first.1 (found rules first.0 first.1 is))

parts_rise : (readings : List TemplateReading) (written : WrittenEntries)
    → Rises 22 30 (part_rules readings written)
unfolding part_rules
parts_rise readings written =
    (omega arith, (omega arith, (omega arith, (omega arith, (omega arith, omega arith)))))

texts_rise : (readings : List TemplateReading) (written : WrittenEntries)
    → Rises 19 30 (text_rules readings written)
unfolding text_rules
texts_rise readings written =
    (omega arith, (omega arith, (omega arith, parts_rise readings written)))

entries_rise : (readings : List TemplateReading) (written : WrittenEntries)
    → Rises 9 30 (entries_rules readings written)
unfolding entries_rules reference_rules container_rules
entries_rise readings written = (
  omega arith,
  (
    omega arith,
    (
      omega arith,
      (
        omega arith,
        (omega arith, (omega arith, (omega arith, (omega arith, texts_rise readings written)))),
      ),
    ),
  ),
)

version_rise : (version : Option json.Data) → Rises 7 30 (option_map_or version_rules version [])
unfolding version_rules
version_rise None = omega arith
version_rise (Some version) = let written = written_entries version in
    (omega arith, (omega arith, entries_rise (readings_of written.templates) written))

tree_rise : (tree : Option json.Data) → Rises 3 30 (option_map_or tree_rules tree [])
unfolding tree_rules
tree_rise None = omega arith
tree_rise (Some d) =
    (omega arith, (omega arith, (omega arith, (omega arith, version_rise (version_in d)))))

rise : (bytes : List ℕ) → Rises 1 30 (export_rules bytes)
unfolding export_rules rules_of
rise bytes = (omega arith, (omega arith, tree_rise (json_of bytes)))

pub first_is_least : (bytes path : List ℕ) (rule : ℕ) → (first_broken bytes ≡ Some (rule, path))
    ↔ (Breaks bytes rule path
    × ((other : ℕ) (place : List ℕ) → Breaks bytes other place → rule ≤ other))
first_is_least bytes path rule = (
  (λ is. (
    among_breaks bytes rule path (found (export_rules bytes) rule path is),
    (λ other place breaks. least (export_rules bytes) 1 30 rule path (rise bytes) is other place
        (breaks_among bytes other place breaks)),
  )),
  (λ both. told (export_rules bytes) 1 30 (first_of (export_rules bytes)) refl (rise bytes) rule
      path (breaks_among bytes rule path both.0)
      (λ other place among. both.1 other place (among_breaks bytes other place among))),
)

pub none_is_broken : (bytes : List ℕ) → (first_broken bytes ≡ None)
    ↔ ((rule : ℕ) (path : List ℕ) → Breaks bytes rule path → ⊥)
none_is_broken bytes = (
  (λ is rule path breaks. nothing (export_rules bytes) is rule path
      (breaks_among bytes rule path breaks)),
  (λ none. unbroken (export_rules bytes) (first_of (export_rules bytes)) refl
      (λ rule path among. none rule path (among_breaks bytes rule path among))),
)
