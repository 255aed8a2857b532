-- Only one list of pieces is the cut of a text.
use Rattle.std.proofs.Common.{◌≡◌, ◌≢◌, ℕ, ◌<◌, List, [], ◌∷◌, ◌++◌, length, take, drop, Option}
use Rattle.std.proofs.Common.{Some, None, option_map, refl, ap, sym, ◌∙◌, arith, append-nil}
use Rattle.std.proofs.Common.{append_assoc, length-drop}
use Rattle.std.specs.Prelude.{option_and_then}
use Rattle.std.specs.List.{flat_map}
use Rattle.std.proofs.lemmas.List.{take-append-drop, drop-append-le}
use Rattle.std.proofs.lemmas.List.Elements.{All-head, All-tail}
use Rattle.export_names.specs.Cut.{WrittenPiece, literal, name, written_again, around_twice}
use Rattle.export_names.specs.Cut.{first_name, literal_of, cut}
use Rattle.export_names.specs.Whole.{NeverTwice, HasNoName, IsWhole, IsCut}
use Rattle.export_names.proofs.Twice.{around_first}
use Rattle.export_names.proofs.Cuts.{first_parts, cut_named, cut_plain}

module _ (c : ℕ) where
  -- where the two begin before the end, so they do with the first of the two behind
  sooner : (ds behind rest : List ℕ) → 0 < length ds → ds ++ c ∷ c ∷ behind ≡ c ∷ c ∷ rest
      → (more : List ℕ) × (ds ++ c ∷ [] ≡ c ∷ c ∷ more)
  sooner [] behind rest some e = absurd (omega arith)
  sooner (d ∷ []) behind rest some e = let first : d ≡ c = cc in ([], ap (λ x. x ∷ c ∷ []) first)
  sooner (d ∷ b ∷ ds) behind rest some e =
      let first : d ≡ c = cc in
      let second : b ≡ c = cc in
      (ds ++ c ∷ [], λ i. first i ∷ second i ∷ (ds ++ c ∷ []))

  not_sooner : (before behind : List ℕ) → NeverTwice c (before ++ c ∷ []) → (k : ℕ) (rest : List ℕ)
      → k < length before → drop k (before ++ c ∷ c ∷ behind) ≢ c ∷ c ∷ rest
  not_sooner before behind never k rest less e =
      let found =
      sooner (drop k before) behind rest (omega (arith, length-drop k before))
      (sym (drop-append-le k before (c ∷ c ∷ behind) (omega arith)) ∙ e) in
      never.nowhere (take k before) found.0
      (ap (λ t. t ++ c ∷ []) (sym (take-append-drop k before))
      ∙ append_assoc (take k before) (drop k before) (c ∷ [])
      ∙ ap (λ t. take k before ++ t) found.1)

  around_is : (before behind : List ℕ) → NeverTwice c (before ++ c ∷ [])
      → around_twice c (before ++ c ∷ c ∷ behind) ≡ Some (before, behind)
  around_is before behind never = around_first c before behind (not_sooner before behind never)

-- a name that nothing before it opens and nothing in it closes is the first
first_is : (before word behind : List ℕ) → NeverTwice 123 (before ++ 123 ∷ [])
    → NeverTwice 125 (word ++ 125 ∷ [])
    → first_name (before ++ 123 ∷ 123 ∷ (word ++ 125 ∷ 125 ∷ behind)) ≡ Some (before, word, behind)
unfolding first_name
first_is before word behind opens closes =
    ap (option_and_then {T = List ℕ × List ℕ} {U = List ℕ × List ℕ × List ℕ}
    (λ opened.
    option_map (λ closed. (opened.0, closed.0, closed.1))
    (around_twice 125 opened.1))) (around_is 123 before (word ++ 125 ∷ 125 ∷ behind) opens)
    ∙ ap (option_map {T = List ℕ × List ℕ} {U = List ℕ × List ℕ × List ℕ}
    (λ closed. (before, closed.0, closed.1))) (around_is 125 word behind closes)

nothing_found : (text : List ℕ) → HasNoName text → (o : Option (List ℕ × List ℕ × List ℕ))
    → first_name text ≡ o → o ≡ None
nothing_found text none None is = refl
nothing_found text none (Some found) is =
    absurd (none.nowhere found.0 found.1 found.2 (first_parts text found is))

one_apart : (before behind : List ℕ) → 123 ∷ [] ≢ before ++ 123 ∷ 123 ∷ behind
one_apart [] behind e = cc
one_apart (b ∷ []) behind e = cc
one_apart (b ∷ d ∷ before) behind e = cc

empty_apart : (before word behind : List ℕ)
    → [] ≢ before ++ 123 ∷ 123 ∷ (word ++ 125 ∷ 125 ∷ behind)
empty_apart [] word behind e = cc
empty_apart (b ∷ before) word behind e = cc

one_never : NeverTwice 123 (123 ∷ [])
one_never = record { nowhere = one_apart }

some_literal : (text : List ℕ) → text ≢ [] → literal_of text ≡ literal text ∷ []
some_literal [] h = absurd (h refl)
some_literal (c ∷ cs) h = refl

-- what holds of the pieces behind the first
tail_cut : (piece : WrittenPiece) (pieces : List WrittenPiece) (text : List ℕ)
    → IsCut text (piece ∷ pieces) → IsCut (flat_map written_again pieces) pieces
tail_cut piece pieces text h = record {
  together = refl;
  each = All-tail IsWhole piece pieces h.each;
  next =
      λ before behind characters next e.
      h.next (piece ∷ before) behind characters next (ap (λ ps. piece ∷ ps) e);
}

-- the text of a name and what stands behind it
name_text : (word : List ℕ) (pieces : List WrittenPiece)
    → flat_map written_again (name word ∷ pieces)
    ≡ 123 ∷ 123 ∷ (word ++ 125 ∷ 125 ∷ flat_map written_again pieces)
name_text word pieces =
    ap (λ t. 123 ∷ 123 ∷ t) (append_assoc word (125 ∷ 125 ∷ []) (flat_map written_again pieces))

named_is : (before word : List ℕ) (pieces : List WrittenPiece) (text : List ℕ)
    → text ≡ before ++ flat_map written_again (name word ∷ pieces)
    → NeverTwice 123 (before ++ 123 ∷ []) → IsWhole (name word)
    → pieces ≡ cut (flat_map written_again pieces)
    → literal_of before ++ name word ∷ pieces ≡ cut text
named_is before word pieces text whole opens closes rest =
    let split : text ≡ before ++ 123 ∷ 123 ∷ (word ++ 125 ∷ 125 ∷ flat_map written_again pieces) =
    whole ∙ ap (λ t. before ++ t) (name_text word pieces) in
    ap (λ ps. literal_of before ++ name word ∷ ps) rest
    ∙ sym (cut_named text (before, word, flat_map written_again pieces)
    (ap first_name split ∙ first_is before word (flat_map written_again pieces) opens closes))

-- a list of pieces that keeps to all that a cut keeps to is the cut
pub only_cut : (pieces : List WrittenPiece) (text : List ℕ) → IsCut text pieces → pieces ≡ cut text
only_cut [] text h =
    sym (cut_plain [] (nothing_found [] (record { nowhere = empty_apart }) (first_name []) refl))
    ∙ ap cut h.together
only_cut (name word ∷ pieces) text h =
    named_is [] word pieces text (sym h.together) one_never
    (All-head IsWhole (name word) pieces h.each)
    (only_cut pieces (flat_map written_again pieces) (tail_cut (name word) pieces text h))
only_cut (literal characters ∷ []) text h =
    let whole = All-head IsWhole (literal characters) [] h.each in
    sym (some_literal characters whole.0)
    ∙ sym (cut_plain characters (nothing_found characters whole.1 (first_name characters) refl))
    ∙ ap cut (sym (append-nil characters) ∙ h.together)
only_cut (literal characters ∷ literal other ∷ pieces) text h =
    absurd (h.next [] pieces characters (literal other) refl)
only_cut (literal characters ∷ name word ∷ pieces) text h =
    let whole = All-head IsWhole (literal characters) (name word ∷ pieces) h.each in
    let behind = tail_cut (literal characters) (name word ∷ pieces) text h in
    ap (λ ps. ps ++ name word ∷ pieces) (sym (some_literal characters whole.0))
    ∙ named_is characters word pieces text (sym h.together)
    (h.next [] pieces characters (name word) refl)
    (All-head IsWhole (name word) pieces behind.each)
    (only_cut pieces (flat_map written_again pieces)
    (tail_cut (name word) pieces (flat_map written_again (name word ∷ pieces)) behind))
