-- What the items of a command array ask for, beside the trees that they stand for.
use Rattle.std.proofs.Common.{◌≡◌, ◌-◌, ◌≤◌, ℕ, List, [], ◌∷◌, ◌++◌, length, get_or, take, drop}
use Rattle.std.proofs.Common.{map, Option, Some, option_map, refl, sym, ap, ◌∙◌, arith}
use Rattle.std.specs.Prelude.{slice_get, option_and_then}
use Rattle.std.proofs.Math.Seq.{take-append_seam}
use Rattle.std.proofs.lemmas.List.{length-append}
use Rattle.gtm_data.proofs.Lists.{take_all}
use Rattle.gtm_data.specs.declared.data.Data.{Data}
use Rattle.gtm_data.specs.Paths.{dotted}
use Rattle.gtm_data.specs.Tree.{Tree, text, list, Trees, item, trees, tree_of, trees_of, text_in}
use Rattle.data_layer.specs.Command.{Command, listed, command_in, command_of, method_named}
use Rattle.data_layer.specs.Target.{with_items}

pub listed-trees : (ts : List Tree) → listed (trees ts) ≡ ts
listed-trees [] = refl
listed-trees (t ∷ ts) = ap (λ rest. t ∷ rest) (listed-trees ts)

-- a List whose items were changed
pub list_changed : (change : List Tree → List Tree) (old new : List Data)
    → map tree_of new ≡ change (map tree_of old)
    → list (trees_of new) ≡ with_items change (list (trees_of old))
list_changed change old new made =
    ap (λ ts. list (trees ts)) (made ∙ ap change (sym (listed-trees (map tree_of old))))

-- ---- the first item and the others
words_in : (t : Tree) (words : List ℕ) (ts : Trees) → text_in t ≡ Some words
    → command_in (list (item t ts)) ≡ command_of (dotted words) (listed ts)
words_in (text other) words ts is = let same : other ≡ words = cc in
    ap (λ w. command_of (dotted w) (listed ts)) same
words_in _ words ts is = cc

pub words_first : (items : List Data) (first : Data) (words : List ℕ) → 1 ≤ length items
    → first ≡ get_or items 0 first → text_in (tree_of first) ≡ Some words
    → command_in (list (trees_of items))
    ≡ command_of (dotted words) (map tree_of (take (length items - 1) (drop 1 items)))
words_first [] first words some same is = absurd (omega arith)
words_first (x ∷ items) first words some same is =
    words_in (tree_of x) words (trees_of items) (ap (λ d. text_in (tree_of d)) (sym same) ∙ is)
    ∙ ap (command_of (dotted words))
    (listed-trees (map tree_of items)
    ∙ ap (map tree_of) (sym (take_all (length (x ∷ items) - 1) items (omega arith))))

-- ---- the last part and the others
last_of : (front : List (List ℕ)) (name : List ℕ)
    → slice_get (front ++ name ∷ []) (length front) ≡ Some name
last_of [] name = refl
last_of (part ∷ front) name = last_of front name

abbrev asks : List Tree → List (List ℕ) → Option (List ℕ) → Option Command
asks items path name =
    option_map (λ method. record { path = path; method = method; items = items })
    (option_and_then method_named name)

pub command_last : (front : List (List ℕ)) (name : List ℕ) (items : List Tree)
    → command_of (front ++ name ∷ []) items
    ≡ option_map (λ method. record { path = front; method = method; items = items })
    (method_named name)
command_last front name items =
    let short : length (front ++ name ∷ []) - 1 ≡ length front =
    (let whole = length-append front (name ∷ []) in omega arith) in
    ap (λ n. asks items (take n (front ++ name ∷ [])) (slice_get (front ++ name ∷ []) n)) short
    ∙ (λ i. asks items (take-append_seam front (name ∷ []) i) (last_of front name i))
