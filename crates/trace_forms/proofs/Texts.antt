-- The texts of items, from the last one on.
use Rattle.std.proofs.Common.{◌≡◌, ℕ, List, [], ◌∷◌, ◌++◌, Option, Some, None, refl, sym, ap, ◌∙◌}
use Rattle.std.proofs.Common.{append_assoc}
use Rattle.std.specs.Prelude.{option_map, option_and_then, reverse}
use Rattle.std.proofs.lemmas.List.{reverse-append}
use Rattle.gtm_data.specs.Tree.{tree_of, trees_of, text_in}
use Rattle.gtm_data.specs.declared.data.Data.{Data}
use Rattle.trace_forms.specs.Forms.{texts_in}

-- a text more behind texts
abbrev pub with_last : Option (List (List ℕ)) → Option (List ℕ) → Option (List (List ℕ))
with_last front last = option_and_then (λ texts. option_map (λ text. texts ++ text ∷ []) last) front

-- a text more before texts
abbrev pub with_first : Option (List ℕ) → Option (List (List ℕ)) → Option (List (List ℕ))
with_first first rest = option_and_then (λ text. option_map (λ texts. text ∷ texts) rest) first

one : (last : Option (List ℕ)) → with_first last (Some []) ≡ with_last (Some []) last
one None = refl
one (Some text) = refl

both : (first : Option (List ℕ)) (between : Option (List (List ℕ))) (last : Option (List ℕ))
    → with_first first (with_last between last) ≡ with_last (with_first first between) last
both None between last = refl
both (Some text) None last = refl
both (Some text) (Some texts) None = refl
both (Some text) (Some texts) (Some other) = refl

pub texts_in-last : (items : List Data) (last : Data)
    → texts_in (trees_of (items ++ last ∷ []))
    ≡ with_last (texts_in (trees_of items)) (text_in (tree_of last))
texts_in-last [] last = one (text_in (tree_of last))
texts_in-last (first ∷ items) last =
    ap (with_first (text_in (tree_of first))) (texts_in-last items last)
    ∙ both (text_in (tree_of first)) (texts_in (trees_of items)) (text_in (tree_of last))

moved : (front : Option (List (List ℕ))) (text : List ℕ) (texts : List (List ℕ))
    → option_map (λ before. before ++ reverse (texts ++ text ∷ [])) front
    ≡ option_map (λ before. before ++ reverse texts) (with_last front (Some text))
moved None text texts = refl
moved (Some before) text texts = ap Some (simp (append_assoc, reverse-append))

-- the last item is a text, which goes behind the texts of those that stood behind it
pub texts_in-text : (left front : List Data) (last : Data) (text : List ℕ)
    (texts more : List (List ℕ))
    → left ≡ front ++ last ∷ [] → text_in (tree_of last) ≡ Some text → more ≡ texts ++ text ∷ []
    → option_map (λ before. before ++ reverse more) (texts_in (trees_of front))
    ≡ option_map (λ before. before ++ reverse texts) (texts_in (trees_of left))
texts_in-text left front last text texts more all is added =
    ap (λ ts. option_map (λ before. before ++ reverse ts) (texts_in (trees_of front))) added
    ∙ moved (texts_in (trees_of front)) text texts
    ∙ ap (λ t.
    option_map (λ before. before ++ reverse texts)
    (with_last (texts_in (trees_of front)) t)) (sym is)
    ∙ ap (option_map (λ before. before ++ reverse texts))
    (sym (ap (λ items. texts_in (trees_of items)) all ∙ texts_in-last front last))

nothing : (front : Option (List (List ℕ))) → with_last front None ≡ None
nothing None = refl
nothing (Some texts) = refl

-- the last item is no text
pub texts_in-other : (left front : List Data) (last : Data) (behind : List (List ℕ))
    → left ≡ front ++ last ∷ [] → text_in (tree_of last) ≡ None
    → option_map (λ before. before ++ behind) (texts_in (trees_of left)) ≡ None
texts_in-other left front last behind all is =
    ap (option_map (λ before. before ++ behind))
    (ap (λ items. texts_in (trees_of items)) all ∙ texts_in-last front last
    ∙ ap (with_last (texts_in (trees_of front))) is ∙ nothing (texts_in (trees_of front)))
