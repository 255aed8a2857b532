-- What a command does to a model, path by path, and that the paths determine it.
use Rattle.std.proofs.Common.{◌≡◌, ℕ, List, [], ◌∷◌, ◌++◌, Option, Some, None, ◌⊎◌, inl, inr, refl}
use Rattle.std.proofs.Common.{sym, ap, subst, ◌∙◌}
use Rattle.std.specs.Prelude.{option_and_then}
use Rattle.std.proofs.lemmas.Option.{option_and_then_some}
use Rattle.gtm_data.specs.Distinct.{Distinct}
use Rattle.gtm_data.specs.Paths.{Step, step, at, named, walk, Writes}
use Rattle.gtm_data.specs.Tree.{Tree, list, trees}
use Rattle.data_layer.specs.Change.{change_named, changed_at}
use Rattle.data_layer.specs.Command.{Command, command_in, commanded, model_after, after_method}
use Rattle.data_layer.specs.Command.{HasListAt, AfterCommand}
use Rattle.data_layer.specs.Shown.{shown}
use Rattle.data_layer.proofs.Afters.{below}
use Rattle.data_layer.proofs.OnePart.{same_step, StepThere, step_there}
use Rattle.data_layer.proofs.CommandRuns.{runs}
use Rattle.data_layer.proofs.Determined.{agree}
use Rattle.data_layer.proofs.Steps.{some_same}

-- ---- a change at the end of a walk
-- the other path does not begin with this one
abbrev IsNoFront : List Step → List Step → Type 0
IsNoFront path other = (rest : List Step) → path ++ rest ≡ other → ⊥

-- the walk is a path to v, the changed tree has the changed v there, and at every path that does
-- not begin with it the same shows
record PathThere (parts : List (List ℕ)) (change : Tree → Tree) (t v : Tree) : Type 0 where
  path : List Step
  writes : Writes path parts
  found : at path t ≡ Some v
  changed : at path (changed_at parts change t) ≡ Some (change v)
  others : (other : List Step) → IsNoFront path other
      → shown (at other (changed_at parts change t)) ≡ shown (at other t)

-- the last of these, one part further up
others_behind : (part : List ℕ) (change : Tree → Tree) (t u : Tree)
    (there : StepThere part change t u) (path : List Step)
    → ((other : List Step) → IsNoFront path other
    → shown (at other (change u)) ≡ shown (at other u))
    → (other : List Step) → IsNoFront (there.place ∷ path) other
    → shown (at other (change_named part change t)) ≡ shown (at other t)
others_behind part change t u there path deeper [] apart = there.shows
others_behind part change t u there path deeper (s ∷ other) apart =
    elim (same_step there.place s) [
      | inl same ↦
          ap (λ r. shown (below other (step r (change_named part change t)))) (sym same)
          ∙ ap (λ o. shown (below other o)) there.changed
          ∙ deeper other (λ rest e. apart rest (λ i. same i ∷ e i))
          ∙ ap (λ o. shown (below other o)) (sym there.found)
          ∙ ap (λ r. shown (below other (step r t))) same
      | inr unlike ↦ ap (λ o. shown (below other o)) (there.others s unlike)
    ]

path_there : (parts : List (List ℕ)) (change : Tree → Tree) (t v : Tree) → walk parts t ≡ Some v
    → PathThere parts change t v
path_there [] change t v is = record {
  path = [];
  writes = record { each = refl };
  found = is;
  changed = ap (λ u. Some (change u)) (some_same is);
  others = λ other apart. absurd (apart other refl);
}
path_there (part ∷ parts) change t v is =
    option_and_then_some (walk parts) (named part t) v is (λ u first later.
    let there = step_there part (changed_at parts change) t u first in
    let rest = path_there parts change u v later in
    record {
      path = there.place ∷ rest.path;
      writes = record { each = λ i. there.is_written i ∷ rest.writes.each i };
      found = ap (below rest.path) there.found ∙ rest.found;
      changed = ap (below rest.path) there.changed ∙ rest.changed;
      others = others_behind part (changed_at parts change) t u there rest.path rest.others;
    })

-- ---- a command
pub command_After : (pushed model changed : Tree) (command : Command)
    → command_in pushed ≡ Some command → commanded pushed model ≡ Some changed
    → AfterCommand command model changed
command_After pushed model changed command asks does =
    let run =
    runs command model changed
    (ap (option_and_then (λ other. model_after other model)) (sym asks) ∙ does) in
    let items = after_method command.method command.items run.old in
    let there =
    path_there command.path (λ _. list (trees items)) model (list (trees run.old)) run.was in
    record {
      path = there.path;
      writes = there.writes;
      old = run.old;
      was = there.found;
      is =
          subst (HasListAt there.path items model) run.is
          (record { there = there.changed; others = there.others });
    }

-- ---- a path begins with another or not
abbrev Begins : List Step → List Step → Type 0
Begins path other = ((rest : List Step) × (path ++ rest ≡ other)) ⊎ IsNoFront path other

begins_more : (s u : Step) (path other : List Step) → (s ≡ u) ⊎ (s ≡ u → ⊥) → Begins path other
    → Begins (s ∷ path) (u ∷ other)
begins_more s u path other (inl same) (inl it) = inl (it.0, λ i. same i ∷ it.1 i)
begins_more s u path other (inl same) (inr apart) = inr (λ rest e. apart rest (cc))
begins_more s u path other (inr unlike) _ = inr (λ rest e. unlike (cc))

begins : (path other : List Step) → Begins path other
begins [] other = inl (other, refl)
begins (s ∷ path) [] = inr (λ rest e. cc)
begins (s ∷ path) (u ∷ other) = begins_more s u path other (same_step s u) (begins path other)

-- ---- what is behind a path is at the rest of it, from the value there
behind_below : (path rest : List Step) (o : Option Tree)
    → ((t : Tree) → at (path ++ rest) t ≡ below rest (at path t))
    → below (path ++ rest) o ≡ below rest (below path o)
behind_below path rest None deeper = refl
behind_below path rest (Some t) deeper = deeper t

behind : (path rest : List Step) (t : Tree) → at (path ++ rest) t ≡ below rest (at path t)
behind [] rest t = refl
behind (s ∷ path) rest t = behind_below path rest (step s t) (behind path rest)

-- ---- two trees of which the paths say the same
same_shown : (path : List Step) (items : List Tree) (m r s : Tree) → HasListAt path items m r
    → HasListAt path items m s → (other : List Step) → shown (at other r) ≡ shown (at other s)
same_shown path items m r s one two other =
    elim (begins path other) [
      | inl it ↦
          ap (λ p. shown (at p r)) (sym it.1)
          ∙ ap shown
          (behind path it.0 r ∙ ap (below it.0) (one.there ∙ sym two.there)
          ∙ sym (behind path it.0 s))
          ∙ ap (λ p. shown (at p s)) it.1
      | inr apart ↦ one.others other apart ∙ sym (two.others other apart)
    ]

pub HasListAt_determines : (path : List Step) (items : List Tree) (m r s : Tree) → Distinct r
    → Distinct s → HasListAt path items m r → HasListAt path items m s → r ≡ s
HasListAt_determines path items m r s distinct_r distinct_s one two =
    agree r s distinct_r distinct_s (same_shown path items m r s one two)
