-- Recursion along references ends where nothing leads back to itself.
use Rattle.std.proofs.Common.{◌≡◌, ℕ, zero, suc, ◌≤◌, ◌<◌, max, List, [], ◌∷◌, length, Option, Some}
use Rattle.std.proofs.Common.{None, refl, ap, sym, ◌∙◌, subst, arith, slice_get}
use Rattle.std.specs.Prelude.{Contains, IsSomeAnd, slice_index_or}
use Rattle.std.specs.List.{AllByRecursion}
use Rattle.std.specs.Option.{option_map_or}
use Rattle.reference_cycles.specs.Graph.{Refers, Chain, HasNoCycle}
use Rattle.reference_cycles.proofs.Leading.{refers_within}
use Rattle.reference_cycles.proofs.ShortChains.{is_short}
use Rattle.reference_heights.specs.Along.{along, ReadsReferences, greatest, higher, height}

module _ (graph : List (List ℕ)) where
  -- a chain ends with a reference
  last : (steps from to : ℕ) → Chain graph (suc steps) from to
      → (place : ℕ) × Chain graph steps from place × Refers graph place to
  last zero from to chain = (from, refl, subst (Refers graph from) chain.2 chain.1)
  last (suc steps) from to chain =
      let rest = last steps chain.0 to chain.2 in
      (rest.0, (chain.0, chain.1, rest.1), rest.2)

  -- no chain has more references than the graph has places
  pub no_long_chain : HasNoCycle graph → (from to : ℕ)
      → Chain graph (suc (length graph)) from to → ⊥
  no_long_chain none from to chain =
      let end = last (length graph) from to chain in
      let few : length graph < length graph =
      is_short graph none (length graph) from end.0 end.1 (refers_within graph end.0 to end.2) in
      absurd (omega (arith, few))

module _ {A : Type 0} (graph : List (List ℕ)) (step : (ℕ → A) → ℕ → A) (beyond : A)
    (reads : ReadsReferences graph step) where
  -- where no chain is so long, what solves the equations is what the recursion gives
  solved : (m : ℕ → A) → ((at : ℕ) → m at ≡ step m at) → (depth at : ℕ)
      → ((to : ℕ) → Chain graph depth at to → ⊥) → along step beyond depth at ≡ m at
  solved m solves zero at short = absurd (short at refl)
  solved m solves (suc depth) at short =
      reads.same (along step beyond depth) m at
      (λ to refers. solved m solves depth to (λ end chain. short end (to, refers, chain)))
      ∙ sym (solves at)

  -- where no chain is so long, one level more changes nothing
  settled : (depth at : ℕ) → ((to : ℕ) → Chain graph depth at to → ⊥)
      → along step beyond (suc depth) at ≡ along step beyond depth at
  settled zero at short = absurd (short at refl)
  settled (suc depth) at short =
      reads.same (along step beyond (suc depth)) (along step beyond depth) at
      (λ to refers. settled depth to (λ end chain. short end (to, refers, chain)))

  -- the recursion solves the equations
  pub along_unfolds : HasNoCycle graph → (at : ℕ) → along step beyond (suc (length graph)) at
      ≡ step (along step beyond (suc (length graph))) at
  along_unfolds none at =
      reads.same (along step beyond (length graph)) (along step beyond (suc (length graph))) at
      (λ to refers. sym (settled (length graph) to
      (λ end chain. no_long_chain graph none at end (to, refers, chain))))

  -- and nothing else does
  pub along_alone : HasNoCycle graph → (m : ℕ → A) → ((at : ℕ) → m at ≡ step m at) → (at : ℕ)
      → m at ≡ along step beyond (suc (length graph)) at
  along_alone none m solves at =
      sym (solved m solves (suc (length graph)) at
      (λ end chain. no_long_chain graph none at end chain))

greatest_same : (some other : ℕ → ℕ) (places : List ℕ)
    → AllByRecursion (λ place. some place ≡ other place) places
    → greatest some places ≡ greatest other places
greatest_same some other [] same = refl
greatest_same some other (place ∷ places) same =
    λ i. max (same.0 i) (greatest_same some other places same.1 i)

contained : (P : ℕ → Type 0) (places : List ℕ)
    → ((place : ℕ) → Contains places place → P place) → AllByRecursion P places
contained P [] each = tt
contained P (place ∷ places) each = (
  each place (0, omega arith, refl),
  contained P places (λ other has. each other (suc has.0, omega (arith, has.1), has.2)),
)

at_most : (heights : ℕ → ℕ) (places : List ℕ) (place at : ℕ) → at < length places
    → slice_index_or places at place ≡ place → heights place ≤ greatest heights places
at_most heights [] place at within is = absurd (omega arith)
at_most heights (first ∷ places) place zero within is = omega (arith, ap heights is)
at_most heights (first ∷ places) place (suc at) within is =
    omega (arith, at_most heights places place at (omega arith) is)

greatest_within : (heights : ℕ → ℕ) (bound : ℕ) (places : List ℕ)
    → ((place : ℕ) → heights place ≤ bound) → greatest heights places ≤ bound
greatest_within heights bound [] each = omega arith
greatest_within heights bound (place ∷ places) each =
    omega (arith, each place, greatest_within heights bound places each)

pub higher_reads : (graph : List (List ℕ)) → ReadsReferences graph (higher graph)
higher_reads graph = record {
  same = λ some other at same. ap suc (by_places some other (slice_get graph at) same);
} where
  by_places : (some other : ℕ → ℕ) (places : Option (List ℕ))
      → ((to : ℕ) → IsSomeAnd places (λ ps. Contains ps to) → some to ≡ other to)
      → option_map_or (greatest some) places 0 ≡ option_map_or (greatest other) places 0
  by_places some other None same = refl
  by_places some other (Some places) same =
      greatest_same some other places (contained (λ place. some place ≡ other place) places same)

below_higher : (heights : ℕ → ℕ) (to : ℕ) (places : Option (List ℕ))
    → IsSomeAnd places (λ ps. Contains ps to)
    → heights to < suc (option_map_or (greatest heights) places 0)
below_higher heights to None refers = absurd refers
below_higher heights to (Some places) refers =
    omega (arith, at_most heights places to refers.0 refers.1 refers.2)

-- what a place refers to is lower
pub refers_lower : (graph : List (List ℕ)) → HasNoCycle graph → (from to : ℕ)
    → Refers graph from to → height graph to < height graph from
refers_lower graph none from to refers =
    let unfolds = along_unfolds graph (higher graph) 0 (higher_reads graph) none from in
    subst (λ h. height graph to < h) (sym unfolds)
    (below_higher (height graph) to (slice_get graph from) refers)

higher_within : (heights : ℕ → ℕ) (bound : ℕ) (places : Option (List ℕ))
    → ((place : ℕ) → heights place ≤ bound)
    → suc (option_map_or (greatest heights) places 0) ≤ suc bound
higher_within heights bound None each = omega arith
higher_within heights bound (Some places) each =
    omega (arith, greatest_within heights bound places each)

along_within : (graph : List (List ℕ)) (depth at : ℕ) → along (higher graph) 0 depth at ≤ depth
along_within graph zero at = omega arith
along_within graph (suc depth) at =
    higher_within (along (higher graph) 0 depth) depth (slice_get graph at)
    (along_within graph depth)

pub height_within : (graph : List (List ℕ)) (at : ℕ) → height graph at ≤ suc (length graph)
height_within graph at = along_within graph (suc (length graph)) at
