-- The first line of a text.
use Rattle.std.proofs.Common.{◌≡◌, ◌∙◌, ℕ, suc, ◌+◌, ◌<◌, List, [], ◌∷◌, length, take, drop}
use Rattle.std.proofs.Common.{true, false, refl, sym, ap, arith}
use Rattle.std.specs.Prelude.{◌==◌, if◌then◌else◌}
use Rattle.template_sections.specs.Headings.{heading_name}
use Rattle.template_sections.specs.Lines.{lines, line_len, put_before}
use Rattle.template_sections.specs.Scan.{headings_from, put_heading}

pub line_is_some : (c : ℕ) (cs : List ℕ) → 0 < line_len (c ∷ cs)
line_is_some c cs =
    elim (c == 10) as (λ b. 0 < (if b then 1 else suc (line_len cs)))
    [ true ↦ omega arith | false ↦ omega arith ]

pub first_line : (c : ℕ) (cs : List ℕ)
    → lines (c ∷ cs)
    ≡ take (line_len (c ∷ cs)) (c ∷ cs) ∷ lines (drop (line_len (c ∷ cs)) (c ∷ cs))
first_line c [] =
    elim (c == 10) as
    (λ b. (if b then (c ∷ []) ∷ [] else (c ∷ []) ∷ [])
    ≡ take (if b then 1 else 1) (c ∷ []) ∷ lines (drop (if b then 1 else 1) (c ∷ [])))
    [ true ↦ refl | false ↦ refl ]
first_line c (d ∷ ds) =
    let n = line_len (d ∷ ds) in
    elim (c == 10) as
    (λ b. (if b then (c ∷ []) ∷ lines (d ∷ ds) else put_before c (lines (d ∷ ds)))
    ≡ take (if b then 1 else suc n) (c ∷ d ∷ ds)
    ∷ lines (drop (if b then 1 else suc n) (c ∷ d ∷ ds))) [
      | true ↦ refl
      | false ↦ ap (put_before c) (first_line d ds)
    ]

-- one line more
pub scan_step : (at : ℕ) (left : List ℕ) → 0 < length left
    → let line = take (line_len left) left in
    headings_from at (lines left)
    ≡ put_heading (heading_name line) at (at + length line)
    (headings_from (at + length line) (lines (drop (line_len left) left)))
scan_step at [] some = absurd (omega arith)
scan_step at (c ∷ cs) some = ap (headings_from at) (first_line c cs)

-- the same of a line that was split off
pub scan_line : (at : ℕ) (left line rest : List ℕ) → 0 < length left
    → line ≡ take (line_len left) left → rest ≡ drop (line_len left) left
    → headings_from at (lines left)
    ≡ put_heading (heading_name line) at (at + length line)
    (headings_from (at + length line) (lines rest))
scan_line at left line rest some front back =
    scan_step at left some
    ∙ ap
    (λ l. put_heading (heading_name l) at (at + length l)
    (headings_from (at + length l) (lines (drop (line_len left) left))))
    (sym front)
    ∙ ap
    (λ r. put_heading (heading_name line) at (at + length line)
    (headings_from (at + length line) (lines r)))
    (sym back)

pub some_line : (text : List ℕ) → 0 < length text → 0 < line_len text
some_line [] some = absurd (omega arith)
some_line (c ∷ cs) some = line_is_some c cs
