-- Pieces that are written one after the other, with a comma between two.
use Rattle.std.proofs.Common.{◌≡◌, ℕ, ◌<◌, ◌+◌, List, [], ◌∷◌, ◌++◌, take, length, get_or, map}
use Rattle.std.proofs.Common.{refl, ap, sym, ◌∙◌, append_assoc, arith}
use Rattle.std.proofs.lemmas.List.{take_more, length-map, map-append, length-take-le}
use Rattle.std.proofs.lemmas.Bool.Decides.{nat_tests}
use Rattle.std.specs.List.{join_with_byte}
use Rattle.gtm_data.specs.declared.data.Data.{Data}
use Rattle.gtm_data.specs.JsonText.{json_text, quoted, item_texts, member_texts, comma_before}
use Rattle.gtm_data.specs.TextOf.{text_of, texts_of}
use Rattle.gtm_data.specs.Tree.{tree_of, trees_of, entries_of}

abbrev pub text_of_item : Data → List ℕ
text_of_item item = json_text (tree_of item)

abbrev pub text_of_member : List ℕ × Data → List ℕ
text_of_member member = quoted member.0 ++ 58 ∷ json_text (tree_of member.1)

pub item_texts-of : (items : List Data) → map text_of_item items ≡ item_texts (trees_of items)
unfolding item_texts
item_texts-of [] = refl
item_texts-of (first ∷ items) = ap (λ texts. text_of_item first ∷ texts) (item_texts-of items)

pub member_texts-of : (members : List (List ℕ × Data))
    → map text_of_member members ≡ member_texts (entries_of members)
unfolding member_texts
member_texts-of [] = refl
member_texts-of (first ∷ members) =
    ap (λ texts. text_of_member first ∷ texts) (member_texts-of members)

abbrev pub word_of_item : Data → List ℕ
word_of_item item = text_of (tree_of item)

pub texts_of-map : (items : List Data) → map word_of_item items ≡ texts_of (trees_of items)
unfolding texts_of
texts_of-map [] = refl
texts_of-map (first ∷ items) = ap (λ texts. word_of_item first ∷ texts) (texts_of-map items)

join-push : (p : List ℕ) (ps : List (List ℕ)) (q : List ℕ)
    → join_with_byte 44 ((p ∷ ps) ++ q ∷ []) ≡ join_with_byte 44 (p ∷ ps) ++ 44 ∷ q
join-push p [] q = refl
join-push p (r ∷ rs) q =
    rw (join-push r rs q) (sym (append_assoc p (44 ∷ join_with_byte 44 (r ∷ rs)) (44 ∷ q)))

join-more : (ps : List (List ℕ)) (q : List ℕ)
    → join_with_byte 44 (ps ++ q ∷ []) ≡ (join_with_byte 44 ps ++ comma_before (length ps)) ++ q
join-more [] q = refl
join-more (p ∷ ps) q =
    let e : comma_before (length (p ∷ ps)) ≡ 44 ∷ [] = grind (arith, nat_tests) in
    rw e (join-push p ps q ∙ sym (append_assoc (join_with_byte 44 (p ∷ ps)) (44 ∷ []) q))

-- one turn of a loop that writes pieces
pub one_more : {X : Type 0} (piece : X → List ℕ) (items : List X) (at : ℕ) (x : X)
    (before o o1 o2 : List ℕ)
    → at < length items → x ≡ get_or items at x
    → o ≡ before ++ join_with_byte 44 (map piece (take at items)) → o1 ≡ o ++ comma_before at
    → o2 ≡ o1 ++ piece x
    → o2 ≡ before ++ join_with_byte 44 (map piece (take (at + 1) items))
one_more piece items at x before o o1 o2 within is e p q =
    let n : length (map piece (take at items)) ≡ at =
    length-map (take at items) piece ∙ length-take-le at items (omega arith) in
    rw (
      q,
      p,
      e,
      take_more items at x within,
      ← is,
      map-append piece (take at items) (x ∷ []),
      join-more (map piece (take at items)) (piece x),
      n,
    )
    (simp append_assoc)

-- a key and its value
pub key_value : (key value o1 o2 o3 : List ℕ) → o2 ≡ o1 ++ (key ++ 58 ∷ []) → o3 ≡ o2 ++ value
    → o3 ≡ o1 ++ (key ++ 58 ∷ value)
key_value key value o1 o2 o3 e f = rw (f, e) (simp append_assoc)
