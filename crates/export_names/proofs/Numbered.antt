-- The pieces of a text, name by name.
use Rattle.std.proofs.Common.{◌≡◌, ℕ, List, [], ◌∷◌, ◌++◌, Some, None, map, ap, sym, ◌∙◌}
use Rattle.std.proofs.Common.{append_assoc}
use Rattle.std.proofs.lemmas.List.{map-append}
use Rattle.export_model.specs.declared.params.Piece.{Piece}
use Rattle.export_model.specs.declared.params.Piece.TheVariants.{Name}
use Rattle.export_names.specs.Cut.{first_name, literal_of, cut, name}
use Rattle.export_names.specs.Names.{NameLists, name_ref, numbered, pieces_of}
use Rattle.export_names.proofs.Cuts.{cut_named, cut_plain}

-- what a turn of the loop puts behind is what the text has up to what is left
pub one_more : (names : NameLists) (text : List ℕ) (found : List ℕ × List ℕ × List ℕ)
    (made with_literal with_name : List Piece) → first_name text ≡ Some found
    → with_literal ≡ made ++ map (numbered names) (literal_of found.0)
    → with_name ≡ with_literal ++ Name (name_ref names found.1) ∷ []
    → with_name ++ pieces_of names found.2 ≡ made ++ pieces_of names text
one_more names text found made with_literal with_name e first second =
    let front = map (numbered names) (literal_of found.0) in
    let here = Name (name_ref names found.1) in
    let rest = pieces_of names found.2 in
    ap (λ ps. ps ++ rest) (second ∙ ap (λ ps. ps ++ here ∷ []) first)
    ∙ append_assoc (made ++ front) (here ∷ []) rest
    ∙ append_assoc made front (here ∷ rest)
    ∙ ap (λ ps. made ++ ps)
    (sym (map-append (numbered names) (literal_of found.0) (name found.1 ∷ cut found.2))
    ∙ ap (map (numbered names)) (sym (cut_named text found e)))

-- behind the last name stands a literal, or nothing
pub last_one : (names : NameLists) (text : List ℕ) (made all : List Piece) → first_name text ≡ None
    → all ≡ made ++ map (numbered names) (literal_of text) → all ≡ made ++ pieces_of names text
last_one names text made all e is =
    is ∙ ap (λ ps. made ++ map (numbered names) ps) (sym (cut_plain text e))
