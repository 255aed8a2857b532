-- A key without a dot is one part, and no key has many more parts than bytes.
use Rattle.std.proofs.Common.{◌≡◌, ◌≤◌, ◌+◌, ◌∙◌, ℕ, suc, List, [], ◌∷◌, length, map, Bool, true}
use Rattle.std.proofs.Common.{false, eqb, refl, sym, ap, arith}
use Rattle.std.specs.Prelude.{if◌then◌else◌}
use Rattle.std.specs.List.{slice_split, onto_first}
use Rattle.std.specs.Str.{chars, IsUtf8}
use Rattle.memchr.specs.Find.{Nowhere, Passes, is_byte}
use Rattle.gtm_data.specs.Paths.{dotted}
use Rattle.data_layer.proofs.Parts.{dotted_parts, dotted_count}

not_true : (test : Bool) → (test ≡ true → ⊥) → test ≡ false
not_true true untrue = absurd (untrue refl)
not_true false untrue = refl

-- bytes without a dot are one piece
one_piece : (bytes : List ℕ) → Nowhere (Passes (is_byte 46) bytes) 0 (length bytes)
    → slice_split (λ b. eqb b 46) bytes ≡ bytes ∷ []
one_piece [] none = refl
one_piece (b ∷ bytes) none =
    let first : eqb b 46 ≡ false = not_true (eqb b 46) (none 0 (omega arith) (omega arith)) in
    rw first (ap (onto_first b)
    (one_piece bytes (λ k low high passes. none (suc k) (omega arith) (omega arith) passes)))

-- and so one part
pub one_part : (bytes : List ℕ) → IsUtf8 bytes
    → Nowhere (Passes (is_byte 46) bytes) 0 (length bytes) → dotted (chars bytes) ≡ chars bytes ∷ []
one_part bytes utf8 none = sym (dotted_parts bytes utf8) ∙ ap (map chars) (one_piece bytes none)

onto_few : (b n : ℕ) (pieces : List (List ℕ)) → length pieces ≤ suc n
    → length (onto_first b pieces) ≤ suc (suc n)
onto_few b n [] few = omega arith
onto_few b n (piece ∷ pieces) few = omega arith

pieces_at : (test : Bool) (b n : ℕ) (pieces : List (List ℕ)) → length pieces ≤ suc n
    → length (if test then [] ∷ pieces else onto_first b pieces) ≤ suc (suc n)
pieces_at true b n pieces few = omega arith
pieces_at false b n pieces few = onto_few b n pieces few

few_pieces : (bytes : List ℕ) → length (slice_split (λ b. eqb b 46) bytes) ≤ suc (length bytes)
few_pieces [] = omega arith
few_pieces (b ∷ bytes) =
    pieces_at (eqb b 46) b (length bytes) (slice_split (λ c. eqb c 46) bytes) (few_pieces bytes)

-- at most one part more than bytes
pub few_parts : (bytes : List ℕ) → IsUtf8 bytes → length (dotted (chars bytes)) ≤ length bytes + 1
few_parts bytes utf8 = let same = dotted_count bytes utf8 in let few = few_pieces bytes in
    omega arith
