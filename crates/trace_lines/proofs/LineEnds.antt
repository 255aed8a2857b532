-- Bytes among which there is no LF, and the first LF behind them.
use Rattle.std.proofs.Common.{◌≡◌, ◌∙◌, ap, sym, ℕ, ◌+◌, ◌-◌, ◌≤◌, List, length, get_or, drop}
use Rattle.std.proofs.Common.{length-drop, ⊎_elim, arith}
use Rattle.std.specs.Prelude.{◌==◌}
use Rattle.std.proofs.lemmas.Bool.{cases_lt}
use Rattle.std.proofs.lemmas.List.{get_or-drop}
use Rattle.memchr.specs.Find.{Passes, NoneBefore, is_byte}
use Rattle.trace_lines.specs.Holding.{HasNoEnd}

index_behind : (bytes : List ℕ) (start n k : ℕ)
    → get_or (drop (start + n) bytes) k 0 ≡ get_or (drop start bytes) (n + k) 0
index_behind bytes start n k =
    let same : start + n + k ≡ start + (n + k) = omega arith in
    get_or-drop (start + n) bytes k 0 ∙ ap (λ i. get_or bytes i 0) same
    ∙ sym (get_or-drop start bytes (n + k) 0)

-- a place counted from further behind
place_behind : (bytes : List ℕ) (start n k : ℕ) → n ≤ k → Passes (is_byte 10) (drop start bytes) k
    → Passes (is_byte 10) (drop (start + n) bytes) (k - n)
place_behind bytes start n k from passes =
    let same : n + (k - n) ≡ k = omega arith in
    ap (λ b. b == 10)
    (index_behind bytes start n (k - n) ∙ ap (λ i. get_or (drop start bytes) i 0) same) ∙ passes

-- no LF among the first bytes, nor among those behind them
pub none_behind : (bytes : List ℕ) (start n m : ℕ) → HasNoEnd (drop start bytes) n
    → HasNoEnd (drop (start + n) bytes) m → HasNoEnd (drop start bytes) (n + m)
none_behind bytes start n m front back k low high passes =
    ⊎_elim
    (λ below. front k low below passes)
    (λ from. back (k - n) (omega arith) (omega arith) (place_behind bytes start n k from passes))
    (cases_lt k n)

-- the first LF, where it was looked for behind bytes that have none
pub found_behind : (bytes hay : List ℕ) (start n at : ℕ) → start + n ≤ length bytes
    → HasNoEnd (drop start bytes) n → hay ≡ drop (start + n) bytes
    → NoneBefore (Passes (is_byte 10) hay) 0 (length hay) at × Passes (is_byte 10) hay at
    → NoneBefore (Passes (is_byte 10) (drop start bytes)) 0 (length (drop start bytes)) (n + at)
    × Passes (is_byte 10) (drop start bytes) (n + at)
found_behind bytes hay start n at within none is found =
    let none_before : HasNoEnd (drop (start + n) bytes) at = rw (← is) found.0.before in
    let long : length hay ≡ length bytes - (start + n) = rw is (length-drop (start + n) bytes) in (
      record {
        low = omega arith;
        high = omega (arith, found.0.high, length-drop start bytes);
        before = none_behind bytes start n at none none_before;
      },
      ap (λ b. b == 10) (sym (index_behind bytes start n at) ∙ ap (λ xs. get_or xs at 0) (sym is))
          ∙ found.1,
    )

-- no LF anywhere, where none was found behind bytes that have none
pub none_at_all : (bytes hay : List ℕ) (start n m : ℕ) → start + n ≤ length bytes
    → HasNoEnd (drop start bytes) n → hay ≡ drop (start + n) bytes
    → HasNoEnd hay (length hay) → m ≡ length bytes - start → HasNoEnd (drop start bytes) m
none_at_all bytes hay start n m within none is not_found all =
    let long : length hay ≡ length bytes - (start + n) = rw is (length-drop (start + n) bytes) in
    let count : n + length hay ≡ m = omega arith in
    let none_later : HasNoEnd (drop (start + n) bytes) (length hay) =
    λ k low high passes.
    not_found k low high (ap (λ b. b == 10) (ap (λ xs. get_or xs k 0) is) ∙ passes) in
    rw (← count) (none_behind bytes start n (length hay) none none_later)
