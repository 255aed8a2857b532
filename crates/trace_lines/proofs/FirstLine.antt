-- The first line of the bytes that are held.
use Rattle.std.proofs.Common.{◌≡◌, ◌∙◌, ap, sym, refl, ℕ, zero, suc, ◌+◌, ◌≤◌, ◌<◌, List, [], ◌∷◌}
use Rattle.std.proofs.Common.{◌++◌, length, take, drop, append_assoc, append-nil, length-append}
use Rattle.std.proofs.Common.{length-take, add-one, subst, Bool, true, false, arith, inl, inr}
use Rattle.std.specs.Prelude.{◌⊎◌, ◌==◌, ◌||◌, nat_lt, IsTrue}
use Rattle.std.proofs.lemmas.Bool.{eqb-true}
use Rattle.std.proofs.lemmas.Bool.Decides.{nat_tests}
use Rattle.std.proofs.Math.Seq.{take-length, drop-length}
use Rattle.memchr.specs.Find.{Passes, NoneBefore, is_byte}
use Rattle.trace_lines.specs.Holding.{HasNoEnd, first_line}
use Rattle.trace_lines.specs.Lines.{TraceLine, bytes_of_line, is_too_long, last_line, lines}
use Rattle.trace_lines.specs.Lines.{size_of}
use Rattle.trace_lines.specs.Reading.{Position}
use Rattle.trace_lines.specs.declared.lines.TheConstants.{MAX_LINE, MAX_TRACE}
use Rattle.trace_lines.proofs.Cuts.{Parts, bare-append, is_bare, lines_bare, lines_ended, lines-nil}
use Rattle.trace_lines.proofs.Cuts.{parts_of}

not_true : (test : Bool) → (test ≡ true → ⊥) → test ≡ false
not_true true untrue = absurd (untrue refl)
not_true false untrue = refl

-- no LF is in front of where none was found
pub bare_front : (at : ℕ) (held : List ℕ) → at ≤ length held → HasNoEnd held at
    → is_bare (take at held) ≡ true
bare_front zero held within none = refl
bare_front (suc at) [] within none = absurd (omega arith)
bare_front (suc at) (b ∷ held) within none =
    let here : (b == 10) ≡ false = not_true (b == 10) (none 0 (omega arith) (omega arith)) in
    let later : HasNoEnd held at =
    λ k low high passes. none (suc k) (omega arith) (omega arith) passes in
    rw here (bare_front at held (omega arith) later)

pub bare_whole : (held : List ℕ) → HasNoEnd held (length held) → is_bare held ≡ true
bare_whole held none =
    subst (λ bytes. is_bare bytes ≡ true) (take-length held)
    (bare_front (length held) held (omega arith) none)

-- the bytes round an LF
cut_at : (at : ℕ) (held : List ℕ) → at < length held → Passes (is_byte 10) held at
    → held ≡ take at held ++ 10 ∷ drop (suc at) held
cut_at at [] within is = absurd (omega arith)
cut_at zero (b ∷ held) within is = ap (λ c. c ∷ held) (eqb-true b 10 is)
cut_at (suc at) (b ∷ held) within is = ap (λ bytes. b ∷ bytes) (cut_at at held (omega arith) is)

-- what is held begins with this line
pub record Begins (position : Position) (len size : ℕ) : Type 0 where
  pub lines_are : (rest : List ℕ) → (IsTrue position.at_end → rest ≡ [])
      → lines (position.held ++ rest)
      ≡ first_line position len size ∷ lines (drop size position.held ++ rest)
  pub bytes_are : position.held
      ≡ bytes_of_line (first_line position len size) ++ drop size position.held
  pub len_is : length (take len position.held) ≡ len
  pub size_is : size_of (first_line position len size) ≡ size
  pub some : 0 < size
  pub ended : (IsTrue (nat_lt len size)) ⊎ (IsTrue position.at_end × (drop size position.held ≡ []))

length_front : (at : ℕ) (held : List ℕ) → at ≤ length held → length (take at held) ≡ at
length_front at held within = length-take at held ∙ omega arith

less_more : (n : ℕ) → nat_lt n (n + 1) ≡ true
less_more n = grind (arith, nat_tests)

less_same : (n : ℕ) → nat_lt n n ≡ false
less_same n = grind (arith, nat_tests)

ended_bytes : (text : List ℕ) (test : Bool) → test ≡ true
    → bytes_of_line (record { text = text; ended = test }) ≡ text ++ 10 ∷ []
ended_bytes text test is = rw is refl

last_bytes : (text : List ℕ) (test : Bool) → test ≡ false
    → bytes_of_line (record { text = text; ended = test }) ≡ text
last_bytes text test is = rw is (append-nil text)

-- the first LF ends the first line
pub ended_line : (at : ℕ) (position : Position)
    → NoneBefore (Passes (is_byte 10) position.held) 0 (length position.held) at
    × Passes (is_byte 10) position.held at → Begins position at (at + 1)
ended_line at position found =
    let held = position.held in
    let within : at < length held = omega (arith, found.0.high) in
    let bare : is_bare (take at held) ≡ true = bare_front at held (omega arith) found.0.before in
    let cut : held ≡ take at held ++ 10 ∷ drop (at + 1) held =
    subst (λ n. held ≡ take at held ++ 10 ∷ drop n held) (sym (add-one at))
    (cut_at at held within found.1) in
    let long : length (take at held) ≡ at = length_front at held (omega arith) in
    let is_ended : nat_lt at (at + 1) ≡ true = less_more at in
    let bytes : bytes_of_line (first_line position at (at + 1)) ≡ take at held ++ 10 ∷ [] =
    ended_bytes (take at held) (nat_lt at (at + 1)) is_ended in
    record {
      lines_are = λ rest end.
          ap (λ bs. lines (bs ++ rest)) cut
          ∙ ap lines (append_assoc (take at held) (10 ∷ drop (at + 1) held) rest)
          ∙ lines_ended (take at held) (drop (at + 1) held ++ rest) bare
          ∙ ap (λ e. record { text = take at held; ended = e } ∷ lines (drop (at + 1) held ++ rest))
          (sym is_ended);
      bytes_are =
          cut ∙ sym (ap (λ bs. bs ++ drop (at + 1) held) bytes
          ∙ append_assoc (take at held) (10 ∷ []) (drop (at + 1) held));
      len_is = long;
      size_is = ap length bytes ∙ length-append (take at held) (10 ∷ []) ∙ ap (λ n. n + 1) long;
      some = omega arith;
      ended = inl is_ended;
    }

last_is : (bytes : List ℕ) → 0 < length bytes
    → last_line bytes ≡ record { text = bytes; ended = false } ∷ []
last_is [] some = absurd (omega arith)
last_is (b ∷ bytes) some = refl

only_line : (held rest : List ℕ) → rest ≡ [] → 0 < length held → is_bare held ≡ true
    → lines (held ++ rest) ≡ record { text = held; ended = false } ∷ lines ([] ++ rest)
only_line held rest none some bare =
    rw none
    (ap lines (append-nil held) ∙ lines_bare held bare ∙ last_is held some
    ∙ ap (λ ls. record { text = held; ended = false } ∷ ls) (sym lines-nil))

-- behind the end of the file, bytes with no LF are the last line
pub last_begins : (position : Position) (len : ℕ) → IsTrue position.at_end
    → len ≡ length position.held → 0 < len → HasNoEnd position.held (length position.held)
    → Begins position len len
last_begins position len at_end is some none =
    let held = position.held in
    let bare = bare_whole held none in
    let front : take len held ≡ held = ap (λ n. take n held) is ∙ take-length held in
    let behind : drop len held ≡ [] = ap (λ n. drop n held) is ∙ drop-length held in
    let not_ended : nat_lt len len ≡ false = less_same len in
    let bytes : bytes_of_line (first_line position len len) ≡ take len held =
    last_bytes (take len held) (nat_lt len len) not_ended in
    record {
      lines_are = λ rest end.
          only_line held rest (end at_end) (omega arith) bare
          ∙ (λ i. record { text = sym front i; ended = sym not_ended i }
          ∷ lines (sym behind i ++ rest));
      bytes_are = sym (append-nil held) ∙ (λ i. sym (bytes ∙ front) i ++ sym behind i);
      len_is = ap length front ∙ sym is;
      size_is = ap length (bytes ∙ front) ∙ sym is;
      some = some;
      ended = inr (at_end, behind);
    }

-- the first of these lines begins with so many bytes
pub record IsLong (front : List ℕ) (all : List TraceLine) : Type 0 where
  pub line : TraceLine
  pub others : List TraceLine
  pub first : all ≡ line ∷ others
  pub text : length front ≤ length line.text

long_last : (front rest : List ℕ) → 0 < length front → is_bare front ≡ true → is_bare rest ≡ true
    → IsLong front (lines (front ++ rest))
long_last front rest some bare others =
    let long = length-append front rest in
    record {
      line = record { text = front ++ rest; ended = false };
      others = [];
      first =
          lines_bare (front ++ rest) (bare-append front rest bare others)
          ∙ last_is (front ++ rest) (omega (arith, long));
      text = omega (arith, long);
    }

long_ended : (front rest : List ℕ) → is_bare front ≡ true → Parts rest
    → IsLong front (lines (front ++ rest))
long_ended front rest bare parts =
    let long = length-append front parts.text in
    record {
      line = record { text = front ++ parts.text; ended = true };
      others = lines parts.rest;
      first =
          ap (λ bytes. lines (front ++ bytes)) parts.whole
          ∙ ap lines (sym (append_assoc front parts.text (10 ∷ parts.rest)))
          ∙ lines_ended (front ++ parts.text) parts.rest
          (bare-append front parts.text bare parts.bare);
      text = omega (arith, long);
    }

long_at : (front rest : List ℕ) → 0 < length front → is_bare front ≡ true
    → (is_bare rest ≡ true) ⊎ Parts rest → IsLong front (lines (front ++ rest))
long_at front rest some bare (inl others) = long_last front rest some bare others
long_at front rest some bare (inr parts) = long_ended front rest bare parts

-- bytes with no LF begin the first line, whatever stands behind them
pub begins_long : (front rest : List ℕ) → 0 < length front → HasNoEnd front (length front)
    → IsLong front (lines (front ++ rest))
begins_long front rest some none = long_at front rest some (bare_whole front none) (parts_of rest)

or_true : (a b : Bool) → b ≡ true → (a || b) ≡ true
or_true true b is = refl
or_true false b is = is

true_or : (a b : Bool) → a ≡ true → (a || b) ≡ true
true_or a b is = ap (λ x. x || b) is

size_least : (line : TraceLine) → length line.text ≤ size_of line
size_least line = omega (arith, length-append {A = ℕ})

-- a line that begins with too many bytes is too long
pub long_line : (before : ℕ) (front : List ℕ) (line : TraceLine) → length front ≤ length line.text
    → (MAX_LINE < length front) ⊎ (MAX_TRACE < before + length front)
    → is_too_long before line ≡ true
long_line before front line text (inl much) =
    true_or (nat_lt MAX_LINE (length line.text)) (nat_lt MAX_TRACE (before + size_of line))
    (grind (arith, nat_tests))
long_line before front line text (inr much) =
    let least = size_least line in
    or_true (nat_lt MAX_LINE (length line.text)) (nat_lt MAX_TRACE (before + size_of line))
    (grind (arith, nat_tests))
