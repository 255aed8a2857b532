-- What is in the way to a path.
use Rattle.std.proofs.Common.{◌≡◌, ℕ, List, [], ◌∷◌, ◌++◌, Option, Some, None, true, false}
use Rattle.std.proofs.Common.{true≢false, refl, sym, ap, ◌∙◌, subst}
use Rattle.std.specs.Prelude.{option_and_then}
use Rattle.std.specs.Option.{option_map_or}
use Rattle.gtm_data.specs.Paths.{member, walk}
use Rattle.gtm_data.specs.Tree.{Tree, object}
use Rattle.data_layer.proofs.Steps.{none_some, some_same}
use Rattle.data_layer.specs.Rows.{IsNoMap}
use Rattle.page_world.specs.Globals.{is_in_the_way}
use Rattle.page_world.specs.Parts.{LeadsThroughOther}

-- where the way leads on behind a member, so it does from the Map
from_member : (part : List ℕ) (parts : List (List ℕ)) (t : Tree) (found : Option Tree)
    → option_map_or (is_in_the_way parts) found false ≡ true
    → ((front : List (List ℕ)) → walk (part ∷ front) t ≡ option_and_then (walk front) found)
    → ((m : Tree) → is_in_the_way parts m ≡ true → LeadsThroughOther parts m)
    → LeadsThroughOther (part ∷ parts) t
from_member part parts t None is leads later = absurd (true≢false (sym is))
from_member part parts t (Some m) is leads later =
    let it = later m is in
    record {
      front = part ∷ it.front;
      part = it.part;
      rest = it.rest;
      split = ap (λ ps. part ∷ ps) it.split;
      value = it.value;
      there = leads it.front ∙ it.there;
      no_map = it.no_map;
    }

pub leads_through : (parts : List (List ℕ)) (t : Tree) → is_in_the_way parts t ≡ true
    → LeadsThroughOther parts t
leads_through [] t is = absurd (true≢false (sym is))
leads_through (part ∷ parts) (object es) is =
    from_member part parts (object es) (member part es) is (λ front. refl) (leads_through parts)
leads_through (part ∷ parts) t is = record {
  front = [];
  part = part;
  rest = parts;
  split = refl;
  value = t;
  there = refl;
  no_map = tt;
}

here : (part : List ℕ) (rest : List (List ℕ)) (t : Tree) → IsNoMap t
    → is_in_the_way (part ∷ rest) t ≡ true
here part rest (object es) other = absurd other
here part rest _ other = refl

behind_member : (parts front : List (List ℕ)) (value : Tree) (found : Option Tree)
    → option_and_then (walk front) found ≡ Some value
    → ((m : Tree) → walk front m ≡ Some value → is_in_the_way parts m ≡ true)
    → option_map_or (is_in_the_way parts) found false ≡ true
behind_member parts front value None leads later = absurd (none_some leads)
behind_member parts front value (Some m) leads later = later m leads

stops : (front : List (List ℕ)) (part : List ℕ) (rest : List (List ℕ)) (t value : Tree)
    → walk front t ≡ Some value → IsNoMap value → is_in_the_way (front ++ part ∷ rest) t ≡ true
stops [] part rest t value leads other =
    here part rest t (subst IsNoMap (sym (some_same leads)) other)
stops (first ∷ front) part rest (object es) value leads other =
    behind_member (front ++ part ∷ rest) front value (member first es) leads
    (λ m there. stops front part rest m value there other)
stops (first ∷ front) part rest _ value leads other = refl

pub is_stopped : (parts : List (List ℕ)) (t : Tree) → LeadsThroughOther parts t
    → is_in_the_way parts t ≡ true
is_stopped parts t it =
    ap (λ ps. is_in_the_way ps t) it.split
    ∙ stops it.front it.part it.rest t it.value it.there it.no_map
