-- When bytes show that a line is too long.
use Rattle.std.proofs.Common.{◌≡◌, ◌∙◌, ap, sym, refl, ℕ, suc, ◌+◌, ◌-◌, ◌≤◌, ◌<◌, List, [], ◌∷◌}
use Rattle.std.proofs.Common.{◌++◌, length, take, append_assoc, append-nil, length-append}
use Rattle.std.proofs.Common.{length-take, subst, Bool, true, false, arith, inl, inr}
use Rattle.std.specs.Prelude.{◌⊎◌, ◌||◌, ◌&&◌, nat_lt, filter, if◌then◌else◌}
use Rattle.std.specs.List.{flat_map}
use Rattle.std.proofs.lemmas.Bool.Decides.{nat_tests}
use Rattle.std.proofs.lemmas.List.{append_cancel_left}
use Rattle.std.proofs.lemmas.List.Elements.{filter-append}
use Rattle.std.proofs.Math.Seq.{take-append-add}
use Rattle.trace_lines.specs.Lines.{TraceLine, are_ended, bytes_of_line, finished, is_too_long}
use Rattle.trace_lines.specs.Lines.{last_line, lines, size_of, some_too_long}
use Rattle.trace_lines.specs.declared.lines.TheConstants.{MAX_LINE, MAX_TRACE}
use Rattle.trace_lines.proofs.Cuts.{is_bare, FirstOf, ended, last, first_of, bytes_ended}
use Rattle.trace_lines.proofs.Cuts.{lines_bare, lines_ended, lines_join}

or_parts : (a b : Bool) → (a || b) ≡ false → (a ≡ false) × (b ≡ false)
or_parts true b is = absurd cc
or_parts false b is = (refl, is)

or_both : (a b : Bool) → a ≡ false → b ≡ false → (a || b) ≡ false
or_both a b one other = rw one other

-- what a line has at most that is not too long
pub fits_within : (before : ℕ) (line : TraceLine) → is_too_long before line ≡ false
    → (length line.text ≤ MAX_LINE) × (before + size_of line ≤ MAX_TRACE)
fits_within before line fits =
    let parts =
    or_parts (nat_lt MAX_LINE (length line.text)) (nat_lt MAX_TRACE (before + size_of line))
    fits in
    (grind (arith, nat_tests, parts.0), grind (arith, nat_tests, parts.1))

pub within_fits : (before : ℕ) (line : TraceLine) → length line.text ≤ MAX_LINE
    → before + size_of line ≤ MAX_TRACE → is_too_long before line ≡ false
within_fits before line few ends =
    or_both (nat_lt MAX_LINE (length line.text)) (nat_lt MAX_TRACE (before + size_of line))
    (grind (arith, nat_tests)) (grind (arith, nat_tests))

text_least : (line : TraceLine) → length line.text ≤ size_of line
text_least line = omega (arith, length-append {A = ℕ})

few_fit : (ls : List TraceLine) (before : ℕ) → length (flat_map bytes_of_line ls) ≤ MAX_LINE
    → before + length (flat_map bytes_of_line ls) ≤ MAX_TRACE → some_too_long before ls ≡ false
few_fit [] before few ends = refl
few_fit (line ∷ ls) before few ends =
    let long = length-append (bytes_of_line line) (flat_map bytes_of_line ls) in
    let least = text_least line in
    or_both (is_too_long before line) (some_too_long (before + size_of line) ls)
    (within_fits before line (omega arith) (omega arith))
    (few_fit ls (before + size_of line) (omega arith) (omega arith))

-- few bytes show nothing
pub few_show : (bytes : List ℕ) (before : ℕ) → length bytes ≤ MAX_LINE
    → before + length bytes ≤ MAX_TRACE → some_too_long before (lines bytes) ≡ false
few_show bytes before few ends =
    let same = ap length (lines_join bytes) in
    few_fit (lines bytes) before (omega arith) (omega arith)

-- the lines before others are not too long, and the others are not too long behind them
pub some_too_long-append : (ls others : List TraceLine) (before : ℕ)
    → some_too_long before ls ≡ false
    → some_too_long (before + length (flat_map bytes_of_line ls)) others ≡ false
    → some_too_long before (ls ++ others) ≡ false
some_too_long-append [] others before fit rest =
    subst (λ n. some_too_long n others ≡ false) (omega arith) rest
some_too_long-append (line ∷ ls) others before fit rest =
    let parts = or_parts (is_too_long before line) (some_too_long (before + size_of line) ls) fit in
    let long = length-append (bytes_of_line line) (flat_map bytes_of_line ls) in
    let same : before + length (flat_map bytes_of_line (line ∷ ls))
    ≡ before + size_of line + length (flat_map bytes_of_line ls) = omega arith in
    or_both (is_too_long before line) (some_too_long (before + size_of line) (ls ++ others)) parts.0
    (some_too_long-append ls others (before + size_of line) parts.1
    (subst (λ n. some_too_long n others ≡ false) same rest))

-- all bytes but the last
abbrev pub front_of : List ℕ → List ℕ
front_of bytes = take (length bytes - 1) bytes

front_few : (bytes : List ℕ) → length (front_of bytes) ≡ length bytes - 1
front_few bytes = length-take (length bytes - 1) bytes ∙ omega arith

-- the front of few bytes shows nothing
front_shows : (bytes : List ℕ) (before : ℕ) → length bytes ≤ MAX_LINE + 1
    → before + length bytes ≤ MAX_TRACE + 1 → before ≤ MAX_TRACE
    → some_too_long before (lines (front_of bytes)) ≡ false
front_shows bytes before few ends within =
    let long = front_few bytes in
    few_show (front_of bytes) before (omega arith) (omega arith)

front_behind : (text more : List ℕ) (b : ℕ) → 0 < length more
    → front_of (text ++ b ∷ more) ≡ text ++ b ∷ front_of more
front_behind text more b some =
    let long = length-append text (b ∷ more) in
    let count : length (text ++ b ∷ more) - 1 ≡ length text + suc (length more - 1) = omega arith in
    ap (λ n. take n (text ++ b ∷ more)) count
    ∙ take-append-add text (b ∷ more) (suc (length more - 1))

some_or_none : (bytes : List ℕ) → (bytes ≡ []) ⊎ (0 < length bytes)
some_or_none [] = inl refl
some_or_none (b ∷ bytes) = inr (omega arith)

as_ended : (line : TraceLine) → line.ended ≡ true → record { text = line.text; ended = true } ≡ line
as_ended line is = λ i. record { text = line.text; ended = sym is i }

-- the bytes of an ended line and of those behind it
flat_ended : (line : TraceLine) (ls : List TraceLine) (more : List ℕ) → line.ended ≡ true
    → flat_map bytes_of_line (line ∷ ls) ++ more
    ≡ line.text ++ 10 ∷ (flat_map bytes_of_line ls ++ more)
flat_ended line ls more is =
    append_assoc (bytes_of_line line) (flat_map bytes_of_line ls) more
    ∙ bytes_ended line (flat_map bytes_of_line ls ++ more) is

behind_same : (text rest more : List ℕ) → text ++ 10 ∷ rest ≡ text ++ 10 ∷ more → rest ≡ more
behind_same text rest more same =
    let both : 10 ∷ rest ≡ 10 ∷ more = append_cancel_left text (10 ∷ rest) (10 ∷ more) same in cc

-- the bytes behind the first of these lines
rest_is : (bytes : List ℕ) (line : TraceLine) (ls : List TraceLine) (rest more : List ℕ)
    → line.ended ≡ true → bytes ≡ line.text ++ 10 ∷ rest
    → bytes ≡ flat_map bytes_of_line (line ∷ ls) ++ more → rest ≡ flat_map bytes_of_line ls ++ more
rest_is bytes line ls rest more is whole all =
    behind_same line.text rest (flat_map bytes_of_line ls ++ more)
    (sym whole ∙ all ∙ flat_ended line ls more is)

-- lines were handed out of these bytes, and so many are held
pub record IsHeld (handed : List TraceLine) (before : ℕ) (held left bytes : List ℕ) : Type 0 where
  pub lines_are : lines bytes ≡ handed ++ lines (held ++ left)
  pub whole : bytes ≡ flat_map bytes_of_line handed ++ (held ++ left)
  pub fit : some_too_long before handed ≡ false
  pub within : before ≤ MAX_TRACE
  pub few : length held ≤ MAX_LINE + 1
  pub ends : before + (length (flat_map bytes_of_line handed) + length held) ≤ MAX_TRACE + 1

held_behind : (line : TraceLine) (ls : List TraceLine) (before : ℕ) (held left bytes rest : List ℕ)
    → line.ended ≡ true → bytes ≡ line.text ++ 10 ∷ rest → lines rest ≡ ls ++ lines (held ++ left)
    → IsHeld (line ∷ ls) before held left bytes → IsHeld ls (before + size_of line) held left rest
held_behind line ls before held left bytes rest is whole behind it =
    let parts =
    or_parts (is_too_long before line) (some_too_long (before + size_of line) ls) it.fit in
    let most = fits_within before line parts.0 in
    let long = length-append (bytes_of_line line) (flat_map bytes_of_line ls) in
    let ends = it.ends in
    record {
      lines_are = behind;
      whole = rest_is bytes line ls rest (held ++ left) is whole it.whole;
      fit = parts.1;
      within = omega arith;
      few = it.few;
      ends = omega arith;
    }

shows_last : (line : TraceLine) (ls : List TraceLine) (before : ℕ) (held left bytes : List ℕ)
    → bytes ≡ line.text → IsHeld (line ∷ ls) before held left bytes
    → some_too_long before (lines (front_of (flat_map bytes_of_line (line ∷ ls) ++ held))) ≡ false
shows_last line ls before held left bytes is it =
    let parts =
    or_parts (is_too_long before line) (some_too_long (before + size_of line) ls) it.fit in
    let most = fits_within before line parts.0 in
    let least = text_least line in
    let read : List ℕ = flat_map bytes_of_line (line ∷ ls) ++ held in
    let all = ap length it.whole in
    let same = ap length is in
    let one = length-append (flat_map bytes_of_line (line ∷ ls)) (held ++ left) in
    let two = length-append held left in
    let three = length-append (flat_map bytes_of_line (line ∷ ls)) held in
    let within = it.within in
    front_shows read before (omega arith) (omega arith) within

shows_ended : (line : TraceLine) (ls : List TraceLine) (before : ℕ) (held more : List ℕ)
    → is_bare line.text ≡ true → line.ended ≡ true → is_too_long before line ≡ false
    → before ≤ MAX_TRACE
    → flat_map bytes_of_line ls ++ held ≡ more
    → some_too_long (before + size_of line) (lines (front_of more)) ≡ false
    → (more ≡ []) ⊎ (0 < length more)
    → some_too_long before (lines (front_of (flat_map bytes_of_line (line ∷ ls) ++ held))) ≡ false
shows_ended line ls before held more bare is fits within same later (inl none) =
    let read : flat_map bytes_of_line (line ∷ ls) ++ held ≡ line.text ++ 10 ∷ [] =
    flat_ended line ls held is ∙ ap (λ bs. line.text ++ 10 ∷ bs) (same ∙ none) in
    let most = fits_within before line fits in
    let least = ap length (bytes_ended line [] is) in
    let size : length (bytes_of_line line ++ []) ≡ size_of line =
    ap length (append-nil (bytes_of_line line)) in
    let long = length-append line.text (10 ∷ []) in
    subst (λ bs. some_too_long before (lines (front_of bs)) ≡ false) (sym read)
    (front_shows (line.text ++ 10 ∷ []) before (omega arith) (omega arith) within)
shows_ended line ls before held more bare is fits within same later (inr some) =
    let read : flat_map bytes_of_line (line ∷ ls) ++ held ≡ line.text ++ 10 ∷ more =
    flat_ended line ls held is ∙ ap (λ bs. line.text ++ 10 ∷ bs) same in
    let lines_are : lines (front_of (line.text ++ 10 ∷ more)) ≡ line ∷ lines (front_of more) =
    ap lines (front_behind line.text more 10 some) ∙ lines_ended line.text (front_of more) bare
    ∙ ap (λ l. l ∷ lines (front_of more)) (as_ended line is) in
    subst (λ bs. some_too_long before (lines (front_of bs)) ≡ false) (sym read)
    (subst (λ ls. some_too_long before ls ≡ false) (sym lines_are)
    (or_both (is_too_long before line)
    (some_too_long (before + size_of line) (lines (front_of more))) fits later))

shows_by : (line : TraceLine) (ls : List TraceLine) (before : ℕ) (held left bytes : List ℕ)
    → FirstOf bytes line (ls ++ lines (held ++ left)) → IsHeld (line ∷ ls) before held left bytes
    → ((rest : List ℕ) → IsHeld ls (before + size_of line) held left rest
    → some_too_long (before + size_of line)
    (lines (front_of (flat_map bytes_of_line ls ++ held))) ≡ false)
    → some_too_long before (lines (front_of (flat_map bytes_of_line (line ∷ ls) ++ held))) ≡ false
shows_by line ls before held left bytes (last bare is whole some none) it later =
    shows_last line ls before held left bytes whole it
shows_by line ls before held left bytes (ended rest bare is whole behind) it later =
    let parts =
    or_parts (is_too_long before line) (some_too_long (before + size_of line) ls) it.fit in
    shows_ended line ls before held (flat_map bytes_of_line ls ++ held) bare is parts.0 it.within
    refl (later rest (held_behind line ls before held left bytes rest is whole behind it))
    (some_or_none (flat_map bytes_of_line ls ++ held))

-- the bytes that were handed out and those that are held show nothing without the last
pub held_shows : (handed : List TraceLine) (before : ℕ) (held left bytes : List ℕ)
    → IsHeld handed before held left bytes
    → some_too_long before (lines (front_of (flat_map bytes_of_line handed ++ held))) ≡ false
held_shows [] before held left bytes it = let ends = it.ends in
    front_shows held before it.few (omega arith) it.within
held_shows (line ∷ ls) before held left bytes it =
    shows_by line ls before held left bytes
    (first_of bytes line (ls ++ lines (held ++ left)) it.lines_are) it
    (λ rest more. held_shows ls (before + size_of line) held left rest more)

and_parts : (a b : Bool) → (a && b) ≡ true → (a ≡ true) × (b ≡ true)
and_parts true b is = (refl, is)
and_parts false b is = absurd cc

front_by : (line : TraceLine) (ls : List TraceLine) (held left bytes : List ℕ)
    → FirstOf bytes line (ls ++ lines (held ++ left))
    → bytes ≡ flat_map bytes_of_line (line ∷ ls) ++ (held ++ left) → line.ended ≡ true
    → ((rest : List ℕ) → lines rest ≡ ls ++ lines (held ++ left)
    → rest ≡ flat_map bytes_of_line ls ++ (held ++ left)
    → lines (flat_map bytes_of_line ls ++ held) ≡ ls ++ lines held)
    → lines (flat_map bytes_of_line (line ∷ ls) ++ held) ≡ line ∷ (ls ++ lines held)
front_by line ls held left bytes (last bare not_ended whole some none) all is later =
    let never : true ≡ false = sym is ∙ not_ended in absurd cc
front_by line ls held left bytes (ended rest bare same whole behind) all is later =
    ap lines (flat_ended line ls held is)
    ∙ lines_ended line.text (flat_map bytes_of_line ls ++ held) bare
    ∙ (λ i. as_ended line is i
    ∷ later rest behind (rest_is bytes line ls rest (held ++ left) is whole all) i)

-- where an LF stands behind each line that was handed out, these are the lines of their bytes
-- whatever stands behind
pub front_lines : (handed : List TraceLine) (held left bytes : List ℕ)
    → lines bytes ≡ handed ++ lines (held ++ left)
    → bytes ≡ flat_map bytes_of_line handed ++ (held ++ left) → are_ended handed ≡ true
    → lines (flat_map bytes_of_line handed ++ held) ≡ handed ++ lines held
front_lines [] held left bytes lines_are whole is = refl
front_lines (line ∷ ls) held left bytes lines_are whole is =
    let parts = and_parts line.ended (are_ended ls) is in
    front_by line ls held left bytes (first_of bytes line (ls ++ lines (held ++ left)) lines_are)
    whole parts.0 (λ rest behind all. front_lines ls held left rest behind all parts.1)

ended_stay : (ls : List TraceLine) → are_ended ls ≡ true → filter (λ line. line.ended) ls ≡ ls
ended_stay [] is = refl
ended_stay (line ∷ ls) is =
    let parts = and_parts line.ended (are_ended ls) is in
    ap (λ test. if test then line ∷ filter (λ l. l.ended) ls else filter (λ l. l.ended) ls) parts.0
    ∙ ap (λ more. line ∷ more) (ended_stay ls parts.1)

last_goes : (bytes : List ℕ) → filter (λ line. line.ended) (last_line bytes) ≡ []
last_goes [] = refl
last_goes (b ∷ bytes) = refl

-- bytes with no LF behind ended lines finish no other line
pub finished_are : (handed : List TraceLine) (held read : List ℕ)
    → lines read ≡ handed ++ lines held → are_ended handed ≡ true → is_bare held ≡ true
    → finished read ≡ handed
finished_are handed held read lines_are is bare =
    ap (filter (λ line. line.ended)) lines_are
    ∙ filter-append (λ line. line.ended) handed (lines held)
    ∙ (λ i. ended_stay handed is i
    ++ (ap (filter (λ line. line.ended)) (lines_bare held bare) ∙ last_goes held) i)
    ∙ append-nil handed
