-- What the closure of a graph says is what its references lead to.
use Rattle.std.proofs.Common.{◌≡◌, ◌↔◌, ◌<◌, ◌≤◌, ◌⊎◌, inl, inr, ℕ, zero, suc, List, [], ◌∷◌}
use Rattle.std.proofs.Common.{length, Bool, true, false, true≢false, refl, sym, ap, ◌∙◌, subst}
use Rattle.std.proofs.Common.{arith, slice_get}
use Rattle.std.specs.Prelude.{Option, Some, None, MatchOption, IsSomeAnd, Contains, find, nat_eq}
use Rattle.std.specs.Prelude.{◌&&◌, ◌||◌, if◌then◌else◌}
use Rattle.std.specs.List.{list_any}
use Rattle.std.specs.Option.{option_map_or, option_or}
use Rattle.std.proofs.lemmas.Bool.{eqb-true}
use Rattle.std.specs.Cmp.{nat_eq_equiv}
use Rattle.std.proofs.lemmas.List.Folds.{find-append}
use Rattle.std.proofs.lemmas.Map.Views.{Contains-from_any, list_any-from_Contains}
use Rattle.std.proofs.lemmas.Option.{slice_get_past}
use Rattle.reference_cycles.specs.Closure.{refers, leads_through, is_on_cycle, below, first_cycle}
use Rattle.reference_cycles.specs.Graph.{Refers, Chain, Leads, HasNoCycle, IsFirstOnCycle}

below_or_at : (x y : ℕ) → (x < y) ⊎ ((x ≡ y) ⊎ (y < x))
below_or_at zero zero = inr (inl refl)
below_or_at zero (suc y) = inl (omega arith)
below_or_at (suc x) zero = inr (inr (omega arith))
below_or_at (suc x) (suc y) =
    elim (below_or_at x y) [
      | inl lower ↦ inl (omega (arith, lower))
      | inr at ↦ inr
          (elim at [ inl same ↦ inl (ap suc same) | inr more ↦ inr (omega (arith, more)) ])
    ]

lower_or_last : (x last : ℕ) → x < suc last → (x < last) ⊎ (x ≡ last)
lower_or_last zero zero h = inr refl
lower_or_last zero (suc last) h = inl (omega arith)
lower_or_last (suc x) zero h = absurd (omega arith)
lower_or_last (suc x) (suc last) h =
    elim (lower_or_last x last (omega arith))
    [ inl lower ↦ inl (omega arith) | inr same ↦ inr (ap suc same) ]

either : (a b : Bool) → (a || b) ≡ true → (a ≡ true) ⊎ (b ≡ true)
either true b h = inl refl
either false b h = inr h

both : (a b : Bool) → (a && b) ≡ true → (a ≡ true) × (b ≡ true)
both true b h = (refl, h)
both false b h = absurd cc

by_first : (a b : Bool) → a ≡ true → (a || b) ≡ true
by_first true b h = refl
by_first false b h = absurd cc

by_both : (a b c : Bool) → b ≡ true → c ≡ true → (a || (b && c)) ≡ true
by_both true b c first second = refl
by_both false true c first second = second
by_both false false c first second = absurd cc

module _ (graph : List (List ℕ)) where
  at_place : (to : ℕ) (places : Option (List ℕ))
      → (option_map_or (list_any (nat_eq to)) places false ≡ true)
      ↔ IsSomeAnd places (λ ps. Contains ps to)
  at_place to None = ((λ is. absurd (true≢false (sym is))), (λ h. absurd h))
  at_place to (Some places) =
      (Contains-from_any eqb-true to places, list_any-from_Contains nat_eq_equiv to places)

  -- the test of a reference
  refers_is : (from to : ℕ) → (refers graph from to ≡ true) ↔ Refers graph from to
  refers_is from to = at_place to (slice_get graph from)

  abbrev Through : ℕ → ℕ → ℕ → Type 0
  Through bound from to = leads_through graph bound from to ≡ true

  by_reference : (bound from to : ℕ) → refers graph from to ≡ true → Through bound from to
  by_reference zero from to h = h
  by_reference (suc last) from to h =
      by_first (leads_through graph last from to) _ (by_reference last from to h)

  through_step : (last from next to : ℕ)
      → ((goal : ℕ) → next < last → Through last next goal → Through last from goal)
      → refers graph from next ≡ true
      → (next < last) ⊎ (next ≡ last)
      → (Through last next to) ⊎ ((Through last next last) × (Through last last to))
      → Through (suc last) from to
  through_step last from next to more first (inl lower) (inl h) =
      by_first (leads_through graph last from to) _ (more to lower h)
  through_step last from next to more first (inl lower) (inr h) =
      by_both (leads_through graph last from to) _ _ (more last lower h.0) h.1
  through_step last from next to more first (inr same) (inl h) =
      by_both (leads_through graph last from to) _ _
      (by_reference last from last (subst (λ x. refers graph from x ≡ true) same first))
      (subst (λ x. Through last x to) same h)
  through_step last from next to more first (inr same) (inr h) =
      by_both (leads_through graph last from to) _ _
      (by_reference last from last (subst (λ x. refers graph from x ≡ true) same first)) h.1

  through_cases : (last from to : ℕ) → Through (suc last) from to
      → (Through last from to) ⊎ ((Through last from last) × (Through last last to))
  through_cases last from to h =
      elim (either (leads_through graph last from to) _ h) [
        | inl here ↦ inl here
        | inr there ↦ inr
            (both (leads_through graph last from last) (leads_through graph last last to) there)
      ]

  -- one reference more in front, to a place below the bound
  through_more : (bound from next to : ℕ) → next < bound → refers graph from next ≡ true
      → Through bound next to → Through bound from to
  through_more zero from next to lower first h = absurd (omega (arith, lower))
  through_more (suc last) from next to lower first h =
      through_step last from next to (λ goal small. through_more last from next goal small first)
      first (lower_or_last next last lower) (through_cases last next to h)

  past : (place to : ℕ) → length graph ≤ place → Refers graph place to → ⊥
  past place to beyond h =
      subst (λ places. IsSomeAnd places (λ ps. Contains ps to)) (slice_get_past graph place beyond)
      h

  below_or_past : (place bound : ℕ) → (place < bound) ⊎ (bound ≤ place)
  below_or_past place zero = inr (omega arith)
  below_or_past zero (suc bound) = inl (omega arith)
  below_or_past (suc place) (suc bound) =
      elim (below_or_past place bound)
      [ inl h ↦ inl (omega (arith, h)) | inr h ↦ inr (omega (arith, h)) ]

  -- what refers to something is a place of the graph
  is_place : (place to : ℕ) → Refers graph place to → place < length graph
  is_place place to h =
      elim (below_or_past place (length graph))
      [ inl lower ↦ lower | inr beyond ↦ absurd (past place to beyond h) ]

  -- the closure has every chain
  pub chain_through : (steps from to : ℕ) → Chain graph (suc steps) from to
      → Through (length graph) from to
  chain_through zero from to chain =
      subst (λ x. Through (length graph) from x) chain.2
      (by_reference (length graph) from chain.0 ((refers_is from chain.0).1 chain.1))
  chain_through (suc steps) from to chain =
      through_more (length graph) from chain.0 to (is_place chain.0 chain.2.0 chain.2.1)
      ((refers_is from chain.0).1 chain.1) (chain_through steps chain.0 to chain.2)

  -- one chain and what leads on from its end
  chain_on : (steps from next to : ℕ) → Chain graph steps from next → Leads graph next to
      → Leads graph from to
  chain_on zero from next to chain on = subst (λ x. Leads graph x to) (sym chain) on
  chain_on (suc steps) from next to chain on =
      let rest = chain_on steps chain.0 next to chain.2 on in
      (suc rest.0, (chain.0, chain.1, rest.1))

  -- the closure has chains alone
  pub through_chain : (bound from to : ℕ) → Through bound from to → Leads graph from to
  through_chain zero from to h = (0, (to, (refers_is from to).0 h, refl))
  through_chain (suc last) from to h = elim (through_cases last from to h) [
    | inl here ↦ through_chain last from to here
    | inr there ↦ let first = through_chain last from last there.0 in
        chain_on (suc first.0) from last to first.1 (through_chain last last to there.1)
  ]

  -- a place of the graph leads back to itself exactly where the closure says so
  back : (place : ℕ) → Leads graph place place → is_on_cycle graph place ≡ true
  back place leads = chain_through leads.0 place place leads.1

  from_graph : (place to : ℕ) → Leads graph place to → place < length graph
  from_graph place to leads = is_place place leads.1.0 leads.1.1

-- what the first of the places below a bound that passes a test is
abbrev IsFirstBelow : (ℕ → Bool) → ℕ → ℕ → Type 0
IsFirstBelow test bound place =
    (place < bound) × (test place ≡ true) × ((other : ℕ) → other < place → test other ≡ false)

abbrev FoundBelow : (ℕ → Bool) → ℕ → Option ℕ → Type 0
FoundBelow test bound found =
    MatchOption found ((other : ℕ) → other < bound → test other ≡ false) (IsFirstBelow test bound)

found_last : (test : ℕ → Bool) (last : ℕ) (answer : Bool) → test last ≡ answer → (found : Option ℕ)
    → FoundBelow test last found
    → FoundBelow test (suc last) (option_or found (if answer then Some last else None))
found_last test last answer is (Some place) h = (omega (arith, h.0), h.1, h.2)
found_last test last true is None h = (omega arith, is, h)
found_last test last false is None h =
    λ other lower.
    elim (lower_or_last other last lower)
    [ inl small ↦ h other small | inr same ↦ ap test same ∙ is ]

found_below : (test : ℕ → Bool) (bound : ℕ) → FoundBelow test bound (find test (below bound))
found_below test zero = λ other lower. absurd (omega (arith, lower))
found_below test (suc last) =
    subst (FoundBelow test (suc last)) (sym (find-append test (below last) (last ∷ [])))
    (found_last test last (test last) refl (find test (below last)) (found_below test last))

-- an answer to what the first place on a cycle is
abbrev pub Answers : List (List ℕ) → Option ℕ → Type 0
Answers graph found = MatchOption found (HasNoCycle graph) (IsFirstOnCycle graph)

not_back : (graph : List (List ℕ)) (place : ℕ) → is_on_cycle graph place ≡ false
    → Leads graph place place → ⊥
not_back graph place is leads = true≢false (sym (back graph place leads) ∙ is)

answers_by : (graph : List (List ℕ)) (found : Option ℕ)
    → FoundBelow (is_on_cycle graph) (length graph) found → Answers graph found
answers_by graph None h =
    λ place leads. not_back graph place (h place (from_graph graph place place leads)) leads
answers_by graph (Some place) h =
    record {
      leads =
          through_chain graph (length graph) place place h.1;
      first =
          λ other lower. not_back graph other (h.2 other lower);
    }

-- the first place on a cycle by the closure is that by the chains
pub first_cycle_answers : (graph : List (List ℕ)) → Answers graph (first_cycle graph)
first_cycle_answers graph =
    answers_by graph (first_cycle graph) (found_below (is_on_cycle graph) (length graph))

neither_lower : (some other : ℕ) → (some < other → ⊥) → (other < some → ⊥) → some ≡ other
neither_lower some other first second =
    elim (below_or_at some other) [
      | inl lower ↦ absurd (first lower)
      | inr at ↦ elim at
          [ inl same ↦ same | inr more ↦ absurd (second more) ]
    ]

-- there is one answer
pub one_answer : (graph : List (List ℕ)) (some other : Option ℕ) → Answers graph some
    → Answers graph other → some ≡ other
one_answer graph None None first second = refl
one_answer graph None (Some at) first second = absurd (first at second.leads)
one_answer graph (Some at) None first second = absurd (second at first.leads)
one_answer graph (Some at) (Some place) first second =
    ap Some (neither_lower at place (λ lower. second.first at lower first.leads)
    (λ lower. first.first place lower second.leads))
