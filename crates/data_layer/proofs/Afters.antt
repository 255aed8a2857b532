-- The merge by recursion is the merge path by path.
use Rattle.std.proofs.Common.{◌≡◌, List, [], ◌∷◌, ◌++◌, Option, Some, None, IsSome, option_and_then}
use Rattle.std.proofs.Common.{◌⊎◌, inl, inr, subst, true≢false, refl, sym, ap, ◌∙◌}
use Rattle.gtm_data.specs.Tree.{Tree, object}
use Rattle.gtm_data.specs.Paths.{Step, step, at}
use Rattle.gtm_data.specs.Distinct.{Distinct}
use Rattle.data_layer.specs.Merge.{merge, merge_members}
use Rattle.data_layer.specs.After.{kind, Meet, MeetDownTo, After}
use Rattle.data_layer.proofs.Steps.{none_some, some_same, merged, cases, step_distinct}
use Rattle.data_layer.proofs.Shapes.{leaf_stays, kind_stays, map_onto_map, keys_merged}

-- what is at the rest of a path, below what was found by its first step
abbrev pub below : List Step → Option Tree → Option Tree
below path found = option_and_then (at path) found

-- ---- what n has at a path is there afterwards, or was merged into what m had there
module _ (path : List Step) (v : Tree) where
  abbrev Found : Option Tree → Option Tree → Type 0
  Found o u =
      (below path (merged o u) ≡ Some v)
      ⊎ ((w : Tree) × ((below path u ≡ Some w) × (below path (merged o u) ≡ Some (merge v w))))

  found_below : (o u : Option Tree)
      → ((t m : Tree) → o ≡ Some t → at path t ≡ Some v
      → (at path (merge t m) ≡ Some v)
      ⊎ ((w : Tree)
      × ((at path m ≡ Some w)
      × (at path (merge t m) ≡ Some (merge v w))))) → below path o ≡ Some v → Found o u
  found_below None u deeper is = absurd (none_some is)
  found_below (Some t) None deeper is = inl is
  found_below (Some t) (Some m) deeper is = deeper t m refl is

pub found : (path : List Step) (n m v : Tree) → Distinct n → at path n ≡ Some v
    → (at path (merge n m) ≡ Some v)
    ⊎ ((w : Tree) × ((at path m ≡ Some w) × (at path (merge n m) ≡ Some (merge v w))))
found [] n m v distinct is = inr (m, (refl, ap (λ x. Some (merge x m)) (some_same is)))
found (s ∷ path) n m v distinct is =
    elim (cases n m) [
      | inl c ↦ rw (c.1 distinct s)
          (found_below path v (step s n) (step s m)
          (λ t u there e. found path t u v (step_distinct s n t distinct there) e) is)
      | inr c ↦ inl (rw c.1 is)
    ]

-- ---- where the two do not meet, the result is that of n from there on
apart_below : (path front : List Step) (o u : Option Tree)
    → ((t m : Tree) → o ≡ Some t → IsSome (at front t)
    → (Meet (kind (at front t)) (kind (at front m)) → ⊥) → at path (merge t m) ≡ at path t)
    → IsSome (below front o) → (Meet (kind (below front o)) (kind (below front u)) → ⊥)
    → below path (merged o u) ≡ below path o
apart_below path front None u deeper some not_met = absurd (true≢false (sym some))
apart_below path front (Some t) None deeper some not_met = refl
apart_below path front (Some t) (Some m) deeper some not_met = deeper t m refl some not_met

pub apart : (front rest : List Step) (n m : Tree) → Distinct n → IsSome (at front n)
    → (Meet (kind (at front n)) (kind (at front m)) → ⊥)
    → at (front ++ rest) (merge n m) ≡ at (front ++ rest) n
apart [] rest n m distinct some not_met =
    elim (cases n m) [
      | inl c ↦ absurd (not_met c.0)
      | inr c ↦ ap (at rest) c.1
    ]
apart (s ∷ front) rest n m distinct some not_met =
    elim (cases n m) [
      | inl c ↦ rw (c.1 distinct s)
          (apart_below (front ++ rest) front (step s n) (step s m)
          (λ t u there. apart front rest t u (step_distinct s n t distinct there)) some not_met)
      | inr c ↦ ap (at (s ∷ front ++ rest)) c.1
    ]

-- ---- where all that n has above it meets, what n lacks is that of m
abbrev Meets : List Step → Option Tree → Option Tree → Type 0
Meets path o u =
    (front rest : List Step) → front ++ rest ≡ path → IsSome (below front o)
    → Meet (kind (below front o)) (kind (below front u))

kept_below : (path : List Step) (o u : Option Tree)
    → ((t m : Tree) → o ≡ Some t → at path t ≡ None
    → ((front rest : List Step) → front ++ rest ≡ path → IsSome (at front t)
    → Meet (kind (at front t)) (kind (at front m))) → at path (merge t m) ≡ at path m)
    → below path o ≡ None → Meets path o u → below path (merged o u) ≡ below path u
kept_below path None u deeper lacks meets = refl
kept_below path (Some t) None deeper lacks meets = lacks
kept_below path (Some t) (Some m) deeper lacks meets = deeper t m refl lacks meets

pub kept_by_merge : (path : List Step) (n m : Tree) → Distinct n → at path n ≡ None
    → ((front rest : List Step) → front ++ rest ≡ path → IsSome (at front n)
    → Meet (kind (at front n)) (kind (at front m))) → at path (merge n m) ≡ at path m
kept_by_merge [] n m distinct lacks meets = absurd (none_some (sym lacks))
kept_by_merge (s ∷ path) n m distinct lacks meets =
    elim (cases n m) [
      | inl c ↦ rw (c.1 distinct s)
          (kept_below path (step s n) (step s m)
          (λ t u there. kept_by_merge path t u (step_distinct s n t distinct there)) lacks
          (λ front rest e. meets (s ∷ front) rest (ap (λ steps. s ∷ steps) e)))
      | inr c ↦ absurd (c.0 (meets [] (s ∷ path) refl refl))
    ]

-- ---- where the two meet all the way down, both values are merged
both_below : (path : List Step) (v w : Tree) (o u : Option Tree)
    → ((t m : Tree) → o ≡ Some t → at path t ≡ Some v → at path m ≡ Some w → MeetDownTo path t m
    → at path (merge t m) ≡ Some (merge v w))
    → below path o ≡ Some v → below path u ≡ Some w
    → ((front rest : List Step) → front ++ rest ≡ path
    → Meet (kind (below front o)) (kind (below front u))) → below path (merged o
    u) ≡ Some (merge v w)
both_below path v w None u deeper in_n in_m meets = absurd (none_some in_n)
both_below path v w (Some t) None deeper in_n in_m meets = absurd (none_some in_m)
both_below path v w (Some t) (Some m) deeper in_n in_m meets = deeper t m refl in_n in_m meets

pub both : (path : List Step) (n m v w : Tree) → Distinct n → at path n ≡ Some v
    → at path m ≡ Some w → MeetDownTo path n m → at path (merge n m) ≡ Some (merge v w)
both [] n m v w distinct in_n in_m meets = λ i. Some (merge (some_same in_n i) (some_same in_m i))
both (s ∷ path) n m v w distinct in_n in_m meets =
    elim (cases n m) [
      | inl c ↦ rw (c.1 distinct s)
          (both_below path v w (step s n) (step s m)
          (λ t u there. both path t u v w (step_distinct s n t distinct there)) in_n in_m
          (λ front rest e. meets (s ∷ front) rest (ap (λ steps. s ∷ steps) e)))
      | inr c ↦ absurd (c.0 (meets [] (s ∷ path) refl))
    ]

-- ---- what n has along a path
distinct_below : (path : List Step) (v : Tree) (o : Option Tree)
    → ((t : Tree) → o ≡ Some t → at path t ≡ Some v → Distinct v) → below path o ≡ Some v
    → Distinct v
distinct_below path v None deeper is = absurd (none_some is)
distinct_below path v (Some t) deeper is = deeper t refl is

distinct_at : (path : List Step) (n v : Tree) → Distinct n → at path n ≡ Some v → Distinct v
distinct_at [] n v distinct is = subst Distinct (some_same is) distinct
distinct_at (s ∷ path) n v distinct is =
    distinct_below path v (step s n)
    (λ t there. distinct_at path t v (step_distinct s n t distinct there)) is

above_below : (path front : List Step) (v : Tree) (o : Option Tree)
    → ((t : Tree) → at path t ≡ Some v → IsSome (at front t)) → below path o ≡ Some v
    → IsSome (below front o)
above_below path front v None deeper is = absurd (none_some is)
above_below path front v (Some t) deeper is = deeper t is

above_some : (front rest : List Step) (n v : Tree) → at (front ++ rest) n ≡ Some v
    → IsSome (at front n)
above_some [] rest n v is = refl
above_some (s ∷ front) rest n v is =
    above_below (front ++ rest) front v (step s n) (λ t. above_some front rest t v) is

pub merge_After : (n m : Tree) → Distinct n → After n m (merge n m)
merge_After n m distinct = record {
  value =
      λ path v is plain.
      elim (found path n m v distinct is)
      [ inl h ↦ h | inr h ↦ h.1.1 ∙ ap Some (leaf_stays v h.0 plain) ];
  container =
      λ path v is.
      elim (found path n m v distinct is)
      [ inl h ↦ ap kind h | inr h ↦ ap kind h.1.1 ∙ kind_stays v h.0 ];
  kept = λ path. kept_by_merge path n m distinct;
  lost = λ front rest lacks some not_met. apart front rest n m distinct some not_met ∙ lacks;
  merged_keys =
      λ path es ms in_n in_m meets. (
        merge_members es ms,
        (
          both path n m (object es) (object ms) distinct in_n in_m meets
              ∙ ap Some (map_onto_map es ms),
          keys_merged es ms (distinct_at path n (object es) distinct in_n),
        ),
      );
  other_keys =
      λ front rest es is not_met.
      apart front rest n m distinct (above_some front rest n (object es) is) not_met ∙ is;
}
