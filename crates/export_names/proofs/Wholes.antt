-- A text cut into pieces is cut whole.
use Rattle.std.proofs.Common.{◌≡◌, ◌≢◌, ℕ, zero, suc, ◌≤◌, ◌+◌, List, [], ◌∷◌, ◌++◌, length, drop}
use Rattle.std.proofs.Common.{eqb, Bool, true, false, Option, Some, None, option_map, refl, ap, sym}
use Rattle.std.proofs.Common.{◌∙◌, subst, arith, append-nil, append_assoc}
use Rattle.std.specs.Prelude.{◌&&◌, option_and_then, All}
use Rattle.std.specs.List.{flat_map}
use Rattle.std.specs.Option.{option_map_or}
use Rattle.std.proofs.lemmas.Grind.{flat_map-append}
use Rattle.std.proofs.lemmas.List.{drop-drop}
use Rattle.std.proofs.lemmas.List.Elements.{All-nil, All-cons, All-append}
use Rattle.std.proofs.lemmas.Option.{none-some}
use Rattle.std.proofs.Math.Seq.{drop-append_seam}
use Rattle.export_names.specs.Cut.{WrittenPiece, literal, name, written_again, begins_with}
use Rattle.export_names.specs.Cut.{around_twice, first_name, literal_of, cut_within, cut}
use Rattle.export_names.specs.Whole.{NeverTwice, HasNoName, IsWhole, MayFollow, IsCut}
use Rattle.export_names.proofs.Twice.{same_within, stands_at}
use Rattle.export_names.proofs.Lacks.{LacksTwice, step, head_tests, nothing_lacks, front_lacks}
use Rattle.export_names.proofs.Lacks.{lacks_front, lacks_parts}
use Rattle.export_names.proofs.Cuts.{IsAround, first_parts, shorter}

-- no `{{` has a `}}` behind it, by places
abbrev NoName : List ℕ → Type 0
NoName text = (k m : ℕ) (r s : List ℕ) → drop k text ≡ 123 ∷ 123 ∷ r → drop m r ≢ 125 ∷ 125 ∷ s

never_twice : (c : ℕ) (text : List ℕ) → LacksTwice c text → NeverTwice c text
never_twice c text h = record { nowhere = λ before behind e. lacks_parts c text before behind h e }

has_no_name : (text : List ℕ) → NoName text → HasNoName text
has_no_name text h = record {
  nowhere = λ before word behind e.
      h (length before) (length word) (word ++ 125 ∷ 125 ∷ behind) behind
      (ap (drop (length before)) e
      ∙ drop-append_seam before (123 ∷ 123 ∷ (word ++ 125 ∷ 125 ∷ behind)))
      (drop-append_seam word (125 ∷ 125 ∷ behind));
}

-- behind the first `{{` of a text stands what stands behind any other
behind_first : (text inner r : List ℕ) (k : ℕ) → text ≡ 123 ∷ 123 ∷ inner
    → drop k text ≡ 123 ∷ 123 ∷ r → r ≡ drop k inner
behind_first text inner r k first e =
    ap (drop 2) (sym e)
    ∙ drop-drop 2 k text
    ∙ ap (λ n. drop n text) (let sum : k + 2 ≡ 2 + k = omega arith in sum)
    ∙ sym (drop-drop k 2 text)
    ∙ ap (λ t. drop k (drop 2 t)) first

named_later : (d : ℕ) (rest : List ℕ) → (eqb d 123 && begins_with 123 rest) ≡ false
    → (o : Option (List ℕ × List ℕ))
    → ((p : List ℕ × List ℕ) → o ≡ Some p → LacksTwice 125 p.1 → NoName rest)
    → (found : List ℕ × List ℕ) → step d rest false o ≡ Some found → LacksTwice 125 found.1
    → NoName (d ∷ rest)
named_later d rest is None h found e lacks k m r s at = absurd (none-some found e)
named_later d rest is (Some p) h found e lacks zero m r s at =
    absurd (let yes = head_tests 123 d rest r at in cc)
named_later d rest is (Some p) h found e lacks (suc k) m r s at =
    h p refl (subst (LacksTwice 125) (sym (ap (λ f. f.1) (same_within (d ∷ p.0, p.1) found e)))
    lacks) k m r s at

named_here : (d : ℕ) (rest : List ℕ) (test : Bool) → (eqb d 123 && begins_with 123 rest) ≡ test
    → (o : Option (List ℕ × List ℕ))
    → ((p : List ℕ × List ℕ) → o ≡ Some p → LacksTwice 125 p.1 → NoName rest)
    → (found : List ℕ × List ℕ) → step d rest test o ≡ Some found → LacksTwice 125 found.1
    → NoName (d ∷ rest)
named_here d rest false is o h found e lacks = named_later d rest is o h found e lacks
named_here d rest true is o h found e lacks = λ k m r s at close.
    (let inner : drop 1 rest ≡ found.1 = ap (λ f. f.1) (same_within ([], drop 1 rest) found e) in
    let behind : r ≡ drop k (drop 1 rest) =
    behind_first (d ∷ rest) (drop 1 rest) r k (stands_at 123 d rest is) at in
    lacks (k + m) s
    (sym (drop-drop m k found.1) ∙ ap (λ t. drop m (drop k t)) (sym inner)
    ∙ ap (drop m) (sym behind) ∙ close))

-- where no `}}` stands behind the first `{{`, there is no name
unclosed : (text : List ℕ) (opened : List ℕ × List ℕ) → around_twice 123 text ≡ Some opened
    → LacksTwice 125 opened.1 → NoName text
unclosed [] opened e lacks = absurd (none-some opened e)
unclosed (d ∷ text) opened e lacks =
    named_here d text (eqb d 123 && begins_with 123 text) refl (around_twice 123 text)
    (unclosed text) opened e lacks

never_opened : (text : List ℕ) → LacksTwice 123 text → NoName text
never_opened text lacks k m r s at close = lacks k r at

none_closed : (text : List ℕ) (opened : List ℕ × List ℕ) → around_twice 123 text ≡ Some opened
    → (o : Option (List ℕ × List ℕ)) → o ≡ around_twice 125 opened.1
    → option_map {T = List ℕ × List ℕ} {U = List ℕ × List ℕ × List ℕ}
    (λ closed. (opened.0, closed.0, closed.1)) o ≡ None → NoName text
none_closed text opened is None at e = unclosed text opened is (nothing_lacks 125 opened.1 (sym at))
none_closed text opened is (Some closed) at e = absurd (none-some _ (sym e))

none_opened : (text : List ℕ) (o : Option (List ℕ × List ℕ)) → o ≡ around_twice 123 text
    → option_and_then {T = List ℕ × List ℕ} {U = List ℕ × List ℕ × List ℕ}
    (λ opened.
    option_map (λ closed. (opened.0, closed.0, closed.1))
    (around_twice 125 opened.1)) o ≡ None → NoName text
none_opened text None is e = never_opened text (nothing_lacks 123 text (sym is))
none_opened text (Some opened) is e =
    none_closed text opened (sym is) (around_twice 125 opened.1) refl e

-- where no name is found, there is none
no_name : (text : List ℕ) → first_name text ≡ None → NoName text
unfolding first_name
no_name text e = none_opened text (around_twice 123 text) refl e

-- what is found is the first: nothing before it opens a name, and nothing in it closes one
record IsFirst (found : List ℕ × List ℕ × List ℕ) : Type 0 where
  before : LacksTwice 123 (found.0 ++ 123 ∷ [])
  within : LacksTwice 125 (found.1 ++ 125 ∷ [])

first_closed : (text : List ℕ) (opened : List ℕ × List ℕ) → around_twice 123 text ≡ Some opened
    → (o : Option (List ℕ × List ℕ)) → o ≡ around_twice 125 opened.1
    → (found : List ℕ × List ℕ × List ℕ)
    → option_map {T = List ℕ × List ℕ} {U = List ℕ × List ℕ × List ℕ}
    (λ closed. (opened.0, closed.0, closed.1)) o ≡ Some found → IsFirst found
first_closed text opened is None at found e = absurd (none-some found e)
first_closed text opened is (Some closed) at found e =
    subst IsFirst (same_within (opened.0, closed.0, closed.1) found e)
    (record {
      before =
          front_lacks 123 text opened is;
      within = front_lacks 125 opened.1 closed (sym at);
    })

first_opened : (text : List ℕ) (o : Option (List ℕ × List ℕ)) → o ≡ around_twice 123 text
    → (found : List ℕ × List ℕ × List ℕ)
    → option_and_then {T = List ℕ × List ℕ} {U = List ℕ × List ℕ × List ℕ}
    (λ opened.
    option_map (λ closed. (opened.0, closed.0, closed.1))
    (around_twice 125 opened.1)) o ≡ Some found → IsFirst found
first_opened text None is found e = absurd (none-some found e)
first_opened text (Some opened) is found e =
    first_closed text opened (sym is) (around_twice 125 opened.1) refl found e

found_first : (text : List ℕ) (found : List ℕ × List ℕ × List ℕ) → first_name text ≡ Some found
    → IsFirst found
unfolding first_name
found_first text found e = first_opened text (around_twice 123 text) refl found e

literal_together : (text : List ℕ) → flat_map written_again (literal_of text) ≡ text
literal_together [] = refl
literal_together (c ∷ cs) = append-nil (c ∷ cs)

literal_each : (text : List ℕ) → HasNoName text → All IsWhole (literal_of text)
literal_each [] h = All-nil IsWhole
literal_each (c ∷ cs) h = All-cons IsWhole (literal (c ∷ cs)) [] (λ e. cc, h) (All-nil IsWhole)

-- what stands behind a literal may stand there
abbrev NextMay : List WrittenPiece → Type 0
NextMay pieces =
    (before behind : List WrittenPiece) (characters : List ℕ) (piece : WrittenPiece)
    → pieces ≡ before ++ literal characters ∷ piece ∷ behind → MayFollow characters piece

empty_next : NextMay []
empty_next [] behind characters piece e = absurd cc
empty_next (p ∷ before) behind characters piece e = absurd cc

literal_next : (text : List ℕ) → NextMay (literal_of text)
literal_next [] before behind characters piece e = empty_next before behind characters piece e
literal_next (c ∷ cs) [] behind characters piece e = absurd cc
literal_next (c ∷ cs) (p ∷ before) behind characters piece e =
    empty_next before behind characters piece (ap (drop 1) e)

name_next : (word : List ℕ) (rest : List WrittenPiece) → NextMay rest → NextMay (name word ∷ rest)
name_next word rest h [] behind characters piece e = absurd cc
name_next word rest h (p ∷ before) behind characters piece e =
    h before behind characters piece (ap (drop 1) e)

named_next : (text word : List ℕ) (rest : List WrittenPiece) → NeverTwice 123 (text ++ 123 ∷ [])
    → NextMay rest → NextMay (literal_of text ++ name word ∷ rest)
named_next [] word rest never h before behind characters piece e =
    name_next word rest h before behind characters piece e
named_next (c ∷ cs) word rest never h [] behind characters piece e =
    let same : c ∷ cs ≡ characters = cc in
    let follows : name word ≡ piece = cc in
    let P : List ℕ → Type 0 = λ t. NeverTwice 123 (t ++ 123 ∷ []) in
    subst (MayFollow characters) follows (subst P same never)
named_next (c ∷ cs) word rest never h (p ∷ before) behind characters piece e =
    name_next word rest h before behind characters piece (ap (drop 1) e)

plain_cut : (text : List ℕ) → NoName text → IsCut text (literal_of text)
plain_cut text h =
    record {
      together =
          literal_together text;
      each = literal_each text (has_no_name text h);
      next = literal_next text;
    }

named_cut : (text : List ℕ) (found : List ℕ × List ℕ × List ℕ) (rest : List WrittenPiece)
    → IsAround text found → IsFirst found → IsCut found.2 rest
    → IsCut text (literal_of found.0 ++ name found.1 ∷ rest)
named_cut text found rest around first h = record {
  together =
      flat_map-append written_again (literal_of found.0) (name found.1 ∷ rest)
      ∙ (λ i. literal_together found.0 i ++ 123 ∷ 123
      ∷ ((found.1 ++ 125 ∷ 125 ∷ []) ++ h.together i))
      ∙ ap (λ t. found.0 ++ 123 ∷ 123 ∷ t) (append_assoc found.1 (125 ∷ 125 ∷ []) found.2)
      ∙ sym around;
  each =
      All-append IsWhole (literal_of found.0) (name found.1 ∷ rest)
      (literal_each found.0
      (has_no_name found.0
      (never_opened found.0 (lacks_front 123 found.0 (123 ∷ []) first.before))))
      (All-cons IsWhole (name found.1) rest (never_twice 125 (found.1 ++ 125 ∷ []) first.within)
      h.each);
  next =
      named_next found.0 found.1 rest (never_twice 123 (found.0 ++ 123 ∷ []) first.before) h.next;
}

cut_further : (n : ℕ) (text : List ℕ) (o : Option (List ℕ × List ℕ × List ℕ)) → first_name text ≡ o
    → length text ≤ suc n → ((rest : List ℕ) → length rest ≤ n → IsCut rest (cut_within n rest))
    → IsCut text
    (option_map_or (λ found. literal_of found.0 ++ name found.1 ∷ cut_within n found.2) o
    (literal_of text))
cut_further n text None is within h = plain_cut text (no_name text is)
cut_further n text (Some found) is within h =
    let less = shorter text found is in
    named_cut text found (cut_within n found.2) (first_parts text found is)
    (found_first text found is) (h found.2 (omega arith))

empty_no_name : NoName []
empty_no_name zero m r s at close = cc
empty_no_name (suc k) m r s at close = cc

cut_within_whole : (n : ℕ) (text : List ℕ) → length text ≤ n → IsCut text (cut_within n text)
unfolding cut_within
cut_within_whole zero [] within = plain_cut [] empty_no_name
cut_within_whole zero (c ∷ text) within = absurd (omega arith)
cut_within_whole (suc n) text within =
    cut_further n text (first_name text) refl within (cut_within_whole n)

-- a text is cut whole
pub cut_whole : (text : List ℕ) → IsCut text (cut text)
unfolding cut
cut_whole text = cut_within_whole (length text) text (omega arith)
