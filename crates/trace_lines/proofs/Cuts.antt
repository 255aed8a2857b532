-- Bytes cut at their LFs.
use Rattle.std.proofs.Common.{◌≡◌, ◌∙◌, ap, sym, refl, ℕ, zero, suc, ◌<◌, List, [], ◌∷◌, ◌++◌}
use Rattle.std.proofs.Common.{length, append_assoc, append-nil, subst, Bool, true, false, not}
use Rattle.std.proofs.Common.{arith, inl, inr}
use Rattle.std.specs.Prelude.{◌⊎◌, ◌==◌, ◌&&◌, All, Contains, IsTrue, if◌then◌else◌}
use Rattle.std.specs.List.{flat_map, list_all, onto_first, slice_split}
use Rattle.std.proofs.lemmas.Bool.{eqb-true}
use Rattle.std.proofs.lemmas.List.Elements.{All-cons, All-nil}
use Rattle.trace_lines.specs.Lines.{TraceLine, AllButLastEnded, bytes_of_line, last_line, lines}
use Rattle.trace_lines.specs.Lines.{lines_in}

-- no LF is among these bytes
abbrev pub is_bare : List ℕ → Bool
is_bare text = list_all (λ b. not (b == 10)) text

-- the pieces between the LFs of these bytes
abbrev pieces_of : List ℕ → List (List ℕ)
pieces_of bytes = slice_split (λ b. b == 10) bytes

both_parts : (test rest : Bool) → (not test && rest) ≡ true → (test ≡ false) × (rest ≡ true)
both_parts true rest is = absurd cc
both_parts false rest is = (refl, is)

bare_parts : (b : ℕ) (text : List ℕ) → is_bare (b ∷ text) ≡ true
    → ((b == 10) ≡ false) × (is_bare text ≡ true)
bare_parts b text bare = both_parts (b == 10) (is_bare text) bare

bare_more : (b : ℕ) (text : List ℕ) → (b == 10) ≡ false → is_bare text ≡ true
    → is_bare (b ∷ text) ≡ true
bare_more b text here bare = rw here bare

pub bare-append : (text more : List ℕ) → is_bare text ≡ true → is_bare more ≡ true
    → is_bare (text ++ more) ≡ true
bare-append [] more bare others = others
bare-append (b ∷ text) more bare others =
    let parts = bare_parts b text bare in
    bare_more b (text ++ more) parts.0 (bare-append text more parts.1 others)

-- bytes with no LF are one piece
pieces_bare : (text : List ℕ) → is_bare text ≡ true → pieces_of text ≡ text ∷ []
pieces_bare [] bare = refl
pieces_bare (b ∷ text) bare =
    let parts = bare_parts b text bare in
    let here : (b == 10) ≡ false = parts.0 in
    rw here (ap (onto_first b) (pieces_bare text parts.1))

-- an LF ends the first piece
pieces_ended : (text rest : List ℕ) → is_bare text ≡ true
    → pieces_of (text ++ 10 ∷ rest) ≡ text ∷ pieces_of rest
pieces_ended [] rest bare = refl
pieces_ended (b ∷ text) rest bare =
    let parts = bare_parts b text bare in
    let here : (b == 10) ≡ false = parts.0 in
    rw here (ap (onto_first b) (pieces_ended text rest parts.1))

-- there is always a piece
onto_some : (b : ℕ) (pieces : List (List ℕ)) → onto_first b pieces ≡ [] → ⊥
onto_some b [] e = cc
onto_some b (piece ∷ pieces) e = cc

some_piece_at : (test : Bool) (b : ℕ) (pieces : List (List ℕ))
    → (if test then [] ∷ pieces else onto_first b pieces) ≡ [] → ⊥
some_piece_at true b pieces e = cc
some_piece_at false b pieces e = onto_some b pieces e

some_piece : (bytes : List ℕ) → pieces_of bytes ≡ [] → ⊥
some_piece [] e = cc
some_piece (b ∷ bytes) e = some_piece_at (b == 10) b (pieces_of bytes) e

-- a piece that has an LF behind it is a line
line_before : (text : List ℕ) (pieces : List (List ℕ)) → (pieces ≡ [] → ⊥)
    → lines_in (text ∷ pieces) ≡ record { text = text; ended = true } ∷ lines_in pieces
line_before text [] some = absurd (some refl)
line_before text (piece ∷ pieces) some = refl

-- the first LF ends the first line
pub lines_ended : (text rest : List ℕ) → is_bare text ≡ true
    → lines (text ++ 10 ∷ rest) ≡ record { text = text; ended = true } ∷ lines rest
unfolding lines
lines_ended text rest bare =
    ap lines_in (pieces_ended text rest bare) ∙ line_before text (pieces_of rest) (some_piece rest)

-- bytes with no LF are the last line
pub lines_bare : (text : List ℕ) → is_bare text ≡ true → lines text ≡ last_line text
unfolding lines
lines_bare text bare = ap lines_in (pieces_bare text bare)

pub lines-nil : lines [] ≡ []
unfolding lines
lines-nil = refl

-- bytes up to their first LF, and those behind it
pub record Parts (bytes : List ℕ) : Type 0 where
  pub text : List ℕ
  pub rest : List ℕ
  pub bare : is_bare text ≡ true
  pub whole : bytes ≡ text ++ 10 ∷ rest

is_lf : (b : ℕ) → (b == 10) ≡ true → b ≡ 10
is_lf b is = eqb-true b 10 is

parts_more : (b : ℕ) (bytes : List ℕ) → (b == 10) ≡ false → (is_bare bytes ≡ true) ⊎ Parts bytes
    → (is_bare (b ∷ bytes) ≡ true) ⊎ Parts (b ∷ bytes)
parts_more b bytes here (inl bare) = inl (bare_more b bytes here bare)
parts_more b bytes here (inr parts) =
    inr (record {
      text =
          b ∷ parts.text;
      rest =
          parts.rest;
      bare =
          bare_more b parts.text here parts.bare;
      whole = ap (λ bs. b ∷ bs) parts.whole;
    })

parts_at : (test : Bool) (b : ℕ) (bytes : List ℕ) → (b == 10) ≡ test
    → (is_bare bytes ≡ true) ⊎ Parts bytes → (is_bare (b ∷ bytes) ≡ true) ⊎ Parts (b ∷ bytes)
parts_at true b bytes is others =
    inr (record { text = []; rest = bytes; bare = refl; whole = ap (λ c. c ∷ bytes) (is_lf b is) })
parts_at false b bytes is others = parts_more b bytes is others

-- bytes have an LF or none
pub parts_of : (bytes : List ℕ) → (is_bare bytes ≡ true) ⊎ Parts bytes
parts_of [] = inl refl
parts_of (b ∷ bytes) = parts_at (b == 10) b bytes refl (parts_of bytes)

-- what the first line of these bytes is
pub data FirstOf (bytes : List ℕ) (line : TraceLine) (others : List TraceLine) : Type 0 where
  ended : (rest : List ℕ) → is_bare line.text ≡ true → line.ended ≡ true
      → bytes ≡ line.text ++ 10 ∷ rest → lines rest ≡ others → FirstOf bytes line others
  last : is_bare line.text ≡ true → line.ended ≡ false → bytes ≡ line.text → 0 < length bytes
      → others ≡ [] → FirstOf bytes line others

first_bare : (bytes : List ℕ) (line : TraceLine) (others : List TraceLine) → is_bare bytes ≡ true
    → last_line bytes ≡ line ∷ others → FirstOf bytes line others
first_bare [] line others bare is = absurd cc
first_bare (b ∷ bytes) line others bare is =
    let same : record { text = b ∷ bytes; ended = false } ≡ line = cc in
    let none : others ≡ [] = cc in
    last (subst (λ l. is_bare l.text ≡ true) same bare) (sym (ap (λ l. l.ended) same))
    (ap (λ l. l.text) same) (omega arith) none

first_at : (bytes : List ℕ) (line : TraceLine) (others : List TraceLine)
    → lines bytes ≡ line ∷ others → (is_bare bytes ≡ true) ⊎ Parts bytes → FirstOf bytes line others
first_at bytes line others is (inl bare) =
    first_bare bytes line others bare (sym (lines_bare bytes bare) ∙ is)
first_at bytes line others is (inr parts) =
    let both : record { text = parts.text; ended = true } ∷ lines parts.rest ≡ line ∷ others =
    sym (ap lines parts.whole ∙ lines_ended parts.text parts.rest parts.bare) ∙ is in
    let same : record { text = parts.text; ended = true } ≡ line = cc in
    let behind : lines parts.rest ≡ others = cc in
    ended parts.rest (subst (λ l. is_bare l.text ≡ true) same parts.bare)
    (sym (ap (λ l. l.ended) same)) (parts.whole ∙ ap (λ l. l.text ++ 10 ∷ parts.rest) same)
    behind

pub first_of : (bytes : List ℕ) (line : TraceLine) (others : List TraceLine)
    → lines bytes ≡ line ∷ others → FirstOf bytes line others
first_of bytes line others is = first_at bytes line others is (parts_of bytes)

none_bare : (bytes : List ℕ) → last_line bytes ≡ [] → bytes ≡ []
none_bare [] is = refl
none_bare (b ∷ bytes) is = absurd cc

none_at : (bytes : List ℕ) → lines bytes ≡ [] → (is_bare bytes ≡ true) ⊎ Parts bytes → bytes ≡ []
none_at bytes is (inl bare) = none_bare bytes (sym (lines_bare bytes bare) ∙ is)
none_at bytes is (inr parts) =
    let both : record { text = parts.text; ended = true } ∷ lines parts.rest ≡ [] =
    sym (ap lines parts.whole ∙ lines_ended parts.text parts.rest parts.bare) ∙ is in
    absurd cc

-- bytes without a line are none
pub no_lines : (bytes : List ℕ) → lines bytes ≡ [] → bytes ≡ []
no_lines bytes is = none_at bytes is (parts_of bytes)

-- the bytes of an ended line
pub bytes_ended : (line : TraceLine) (rest : List ℕ) → line.ended ≡ true
    → bytes_of_line line ++ rest ≡ line.text ++ 10 ∷ rest
bytes_ended line rest is = rw is (append_assoc line.text (10 ∷ []) rest)

pub bytes_last : (line : TraceLine) → line.ended ≡ false → bytes_of_line line ≡ line.text
bytes_last line is = rw is (append-nil line.text)

mutual_join : (bytes : List ℕ) (line : TraceLine) (others : List TraceLine)
    → FirstOf bytes line others
    → ((rest : List ℕ) → lines rest ≡ others → flat_map bytes_of_line others ≡ rest)
    → flat_map bytes_of_line (line ∷ others) ≡ bytes
mutual_join bytes line others (ended rest bare is whole behind) joins =
    ap (λ bs. bytes_of_line line ++ bs) (joins rest behind) ∙ bytes_ended line rest is ∙ sym whole
mutual_join bytes line others (last bare is whole some none) joins =
    rw none (append-nil (bytes_of_line line) ∙ bytes_last line is ∙ sym whole)

join_to : (ls : List TraceLine) (bytes : List ℕ) → lines bytes ≡ ls
    → flat_map bytes_of_line ls ≡ bytes
join_to [] bytes is = sym (no_lines bytes is)
join_to (line ∷ others) bytes is =
    mutual_join bytes line others (first_of bytes line others is) (join_to others)

-- the bytes of the lines of these bytes are these bytes
pub lines_join : (bytes : List ℕ) → flat_map bytes_of_line (lines bytes) ≡ bytes
lines_join bytes = join_to (lines bytes) bytes refl

lf_elsewhere : (b : ℕ) (text : List ℕ) → is_bare (b ∷ text) ≡ true → b ≡ 10 → ⊥
lf_elsewhere b text bare is =
    let here : (10 == 10) ≡ false = subst (λ c. (c == 10) ≡ false) is (bare_parts b text bare).0 in
    cc

-- no LF is among bytes that are bare
pub bare_lacks : (text : List ℕ) → is_bare text ≡ true → ¬ Contains text 10
bare_lacks [] bare found = absurd (omega (arith, found.1))
bare_lacks (b ∷ text) bare (zero, low, is) = lf_elsewhere b text bare is
bare_lacks (b ∷ text) bare (suc k, low, is) =
    bare_lacks text (bare_parts b text bare).1 (k, omega (arith, low), is)

texts_of : (bytes : List ℕ) (line : TraceLine) (others : List TraceLine) → FirstOf bytes line others
    → ((rest : List ℕ) → lines rest ≡ others → All (λ l. ¬ Contains l.text 10) others)
    → All (λ l. ¬ Contains l.text 10) (line ∷ others)
texts_of bytes line others (ended rest bare is whole behind) more =
    All-cons (λ l. ¬ Contains l.text 10) line others (bare_lacks line.text bare) (more rest behind)
texts_of bytes line others (last bare is whole some none) more =
    All-cons (λ l. ¬ Contains l.text 10) line others (bare_lacks line.text bare)
    (subst (λ ls. All (λ l. ¬ Contains l.text 10) ls) (sym none)
    (All-nil (λ l. ¬ Contains l.text 10)))

-- no line has an LF in it
pub texts_lack : (ls : List TraceLine) (bytes : List ℕ) → lines bytes ≡ ls
    → All (λ l. ¬ Contains l.text 10) ls
texts_lack [] bytes is = All-nil (λ l. ¬ Contains l.text 10)
texts_lack (line ∷ others) bytes is =
    texts_of bytes line others (first_of bytes line others is) (texts_lack others)

last_is_some : (bytes : List ℕ) (line : TraceLine) (others : List TraceLine)
    → FirstOf bytes line others → line.ended ≡ false → line.text ≡ [] → ⊥
last_is_some bytes line others (ended rest bare is whole behind) not_ended none =
    let never : true ≡ false = sym is ∙ not_ended in cc
last_is_some bytes line others (last bare is whole some all) not_ended none =
    let empty : bytes ≡ [] = whole ∙ none in absurd (omega (arith, ap length empty))

next_is_ended : (bytes : List ℕ) (line next : TraceLine) (others : List TraceLine)
    → FirstOf bytes line (next ∷ others)
    → ((rest : List ℕ) → lines rest ≡ next ∷ others → AllButLastEnded (next ∷ others))
    → IsTrue line.ended × AllButLastEnded (next ∷ others)
next_is_ended bytes line next others (ended rest bare is whole behind) more = (is, more rest behind)
next_is_ended bytes line next others (last bare is whole some none) more = absurd cc

-- each line but the last has an LF behind it
pub all_but_last : (ls : List TraceLine) (bytes : List ℕ) → lines bytes ≡ ls → AllButLastEnded ls
all_but_last [] bytes is = tt
all_but_last (line ∷ []) bytes is = last_is_some bytes line [] (first_of bytes line [] is)
all_but_last (line ∷ next ∷ others) bytes is =
    next_is_ended bytes line next others (first_of bytes line (next ∷ others) is)
    (all_but_last (next ∷ others))
