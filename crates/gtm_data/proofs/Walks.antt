-- A walk by the parts of a text, beside a path of steps.
use Rattle.std.proofs.Common.{◌≡◌, ℕ, zero, suc, ◌<◌, ◌+◌, ◌^◌, ◌↔◌, List, [], ◌∷◌, ◌++◌, map}
use Rattle.std.proofs.Common.{Option, Some, None, Bool, true, false, if◌then◌else◌, refl, ap, sym}
use Rattle.std.proofs.Common.{◌∙◌, arith}
use Rattle.std.specs.Prelude.{option_and_then, decimal}
use Rattle.std.specs.Str.{bytes_eq}
use Rattle.std.proofs.lemmas.Fmt.{decimal_injective}
use Rattle.std.proofs.lemmas.Slice.Eq.{bytes_eq-Decides}
use Rattle.gtm_data.specs.Tree.{Tree, undefined, null, bool, whole, text, list, object, foreign}
use Rattle.gtm_data.specs.Tree.{callback, Trees, end, item}
use Rattle.gtm_data.specs.Paths.{Step, key, index, nth, step, at, numbered, named, walk, written}
use Rattle.gtm_data.specs.Paths.{Writes, IsIndexed}

-- the place of the item that was found by its number
found_at : (b : Bool) (from : ℕ) (name : List ℕ) (t : Tree) (ts : Trees) (u : Tree)
    → bytes_eq (decimal from) name ≡ b
    → (if b then Some t else numbered (from + 1) name ts) ≡ Some u
    → (numbered (from + 1) name ts ≡ Some u
    → (place : ℕ) × (decimal (from + 1 + place) ≡ name) × (nth place ts ≡ Some u))
    → (place : ℕ) × (decimal (from + place) ≡ name) × (nth place (item t ts) ≡ Some u)
found_at true from name t ts u e is later =
    (0, ap decimal (omega arith) ∙ (bytes_eq-Decides (decimal from) name).0 e, is)
found_at false from name t ts u e is later = let it = later is in
    (suc it.0, ap decimal (omega arith) ∙ it.1, it.2)

place_of : (ts : Trees) (from : ℕ) (name : List ℕ) (u : Tree) → numbered from name ts ≡ Some u
    → (place : ℕ) × (decimal (from + place) ≡ name) × (nth place ts ≡ Some u)
place_of end from name u is = cc
place_of (item t ts) from name u is =
    found_at (bytes_eq (decimal from) name) from name t ts u refl is (place_of ts (from + 1) name u)

-- one part, as a step
step_of : (t : Tree) (name : List ℕ) (u : Tree) → named name t ≡ Some u
    → (s : Step) × (written s ≡ name) × (step s t ≡ Some u)
step_of (object es) name u is = (key name, refl, is)
step_of (list ts) name u is = let it = place_of ts 0 name u is in
    (index it.0, ap decimal (omega arith) ∙ it.1, it.2)
step_of undefined name u is = cc
step_of null name u is = cc
step_of (bool b) name u is = cc
step_of (whole number) name u is = cc
step_of (text characters) name u is = cc
step_of foreign name u is = cc
step_of (callback number) name u is = cc

numbered_at : (b : Bool) (from place : ℕ) (t : Tree) (ts : Trees) (u : Tree)
    → bytes_eq (decimal from) (decimal (from + place)) ≡ b → from + place < 2 ^ 64
    → nth place (item t ts) ≡ Some u
    → ((before : ℕ) → suc before ≡ place → nth before ts ≡ Some u
    → numbered (from + 1) (decimal (from + place)) ts ≡ Some u)
    → (if b then Some t else numbered (from + 1) (decimal (from + place)) ts) ≡ Some u
numbered_at true from zero t ts u e fits is later = is
numbered_at true from (suc place) t ts u e fits is later =
    let same : from ≡ from + suc place =
    decimal_injective from (from + suc place) (omega arith) fits
    ((bytes_eq-Decides (decimal from) (decimal (from + suc place))).0 e) in absurd (omega arith)
numbered_at false from zero t ts u e fits is later =
    let same : bytes_eq (decimal from) (decimal (from + 0)) ≡ true =
    (bytes_eq-Decides (decimal from) (decimal (from + 0))).1 (ap decimal (omega arith)) in cc
numbered_at false from (suc place) t ts u e fits is later = later place refl is

-- the item at a place, by the digits of the place
numbered-nth : (ts : Trees) (from place : ℕ) (u : Tree) → from + place < 2 ^ 64
    → nth place ts ≡ Some u → numbered from (decimal (from + place)) ts ≡ Some u
numbered-nth end from place u fits is = cc
numbered-nth (item t ts) from place u fits is =
    numbered_at (bytes_eq (decimal from) (decimal (from + place))) from place t ts u refl fits is
    (λ before e found. let same : from + 1 + before ≡ from + place = omega arith in
    ap (λ number. numbered (from + 1) (decimal number) ts) (sym same)
    ∙ numbered-nth ts (from + 1) before u (omega arith) found)

named-step : (s : Step) (t u : Tree) → ((place : ℕ) → s ≡ index place → place < 2 ^ 64)
    → step s t ≡ Some u → named (written s) t ≡ Some u
named-step (key name) (object es) u fits is = is
named-step (key name) _ u fits is = cc
named-step (index place) (list ts) u fits is =
    ap (λ number. numbered 0 (decimal number) ts) (omega arith)
    ∙ numbered-nth ts 0 place u (let below = fits place refl in omega arith) is
named-step (index place) _ u fits is = cc

chained : (f : Tree → Option Tree) (found : Option Tree) (v : Tree)
    → option_and_then f found ≡ Some v → (u : Tree) × (found ≡ Some u) × (f u ≡ Some v)
chained f None v is = cc
chained f (Some u) v is = (u, refl, is)

path_of : (parts : List (List ℕ)) (t v : Tree) → walk parts t ≡ Some v
    → (path : List Step) × Writes path parts × (at path t ≡ Some v)
path_of [] t v is = ([], record { each = refl }, is)
path_of (part ∷ parts) t v is =
    let first = chained (walk parts) (named part t) v is in
    let s = step_of t part first.0 first.1 in
    let rest = path_of parts first.0 v first.2 in (
      s.0 ∷ rest.0,
      record { each = λ i. s.1 i ∷ rest.1.each i },
      ap (option_and_then (at rest.0)) s.2 ∙ rest.2,
    )

-- the tree behind a step
indexed_behind : (s : Step) (t u : Tree) → IsIndexed t → step s t ≡ Some u → IsIndexed u
indexed_behind s t u indexed is =
    record {
      below =
          λ path place v e.
          indexed.below (s ∷ path) place v (ap (option_and_then (at (path ++ index place ∷ []))) is ∙ e);
    }

walked : (path : List Step) (t v : Tree) → IsIndexed t → at path t ≡ Some v
    → walk (map written path) t ≡ Some v
walked [] t v indexed is = is
walked (s ∷ path) t v indexed is =
    let first = chained (at path) (step s t) v is in
    let fits : (place : ℕ) → s ≡ index place → place < 2 ^ 64 =
    λ place e.
    indexed.below [] place first.0
    (ap (λ r. option_and_then (at []) (step r t)) (sym e)
    ∙ ap (option_and_then (at [])) first.1) in
    ap (option_and_then (walk (map written path))) (named-step s t first.0 fits first.1)
    ∙ walked path first.0 v (indexed_behind s t first.0 indexed first.1) first.2

pub walk-at : (parts : List (List ℕ)) (t v : Tree) → IsIndexed t → (walk parts t ≡ Some v)
    ↔ ((path : List Step) × Writes path parts × (at path t ≡ Some v))
walk-at parts t v indexed = (
  path_of parts t v,
  λ led. ap (λ ps. walk ps t) (sym led.1.each) ∙ walked led.0 t v indexed led.2,
)
