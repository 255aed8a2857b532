-- The open file of files in memory, read on.
use Rattle.std.proofs.Common.{◌≡◌, ℕ, ◌+◌, List, take, drop, refl, ap, sym}
use Rattle.std.specs.Prelude.{Option, Some, None, option_map, option_and_then, slice_get}
use Rattle.std.proofs.lemmas.List.{take-append-drop, drop-drop}
use Rattle.gtm_base.specs.Outside.{followed_by}

read_pair : (pair : Option (List ℕ × List ℕ)) (done count : ℕ) (left piece : List ℕ)
    → option_map (λ p. drop done p.1) pair ≡ Some left → take count piece ≡ take count left
    → option_map (λ p. drop done p.1) pair
    ≡ followed_by (take count piece) (option_map (λ p. drop (done + count) p.1) pair)
read_pair None done count left piece is front = refl
read_pair (Some pair) done count left piece is front =
    let same : drop done pair.1 ≡ left = cc in
    ap Some (rw (front, ← same, ← drop-drop) (sym (take-append-drop count (drop done pair.1))))

pub read_on : (held : List (List ℕ × List ℕ)) (file : Option ℕ) (place done count : ℕ)
    (left piece : List ℕ) → file ≡ Some place
    → option_map (λ p. drop done p.1) (slice_get held place) ≡ Some left
    → take count piece ≡ take count left
    → option_and_then (λ at. option_map (λ p. drop done p.1) (slice_get held at)) file
    ≡ followed_by (take count piece)
    (option_and_then (λ at. option_map (λ p. drop (done + count) p.1) (slice_get held at)) file)
read_on held file place done count left piece opened is front =
    rw opened (read_pair (slice_get held place) done count left piece is front)
