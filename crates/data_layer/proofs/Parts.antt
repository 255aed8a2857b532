-- The parts of a dotted text are the pieces between its dots.
use Rattle.std.proofs.Common.{◌≡◌, ℕ, suc, ◌<◌, List, [], ◌∷◌, ◌++◌, length, get_or, map, Bool}
use Rattle.std.proofs.Common.{true, false, ◌&&◌, eqb, if◌then◌else◌, refl, sym, ap, ◌∙◌, append-nil}
use Rattle.std.proofs.Common.{arith, lit<}
use Rattle.std.specs.Prelude.{encode_utf8, encode_utf8_all}
use Rattle.std.specs.Borrow.{Bor}
use Rattle.std.specs.Str.{chars, IsUtf8, all_scalars, NoCharPasses}
use Rattle.std.specs.List.{slice_split}
use Rattle.std.proofs.lemmas.Str.{encode_ascii, chars-nil, chars-append, chars-encodes}
use Rattle.std.proofs.lemmas.Str.{scalars-chars, encodes-chars, NoCharPasses-byte}
use Rattle.std.proofs.lemmas.List.{map-append}
use Rattle.std.proofs.lemmas.Simd.{map-map}
use Rattle.std.proofs.lemmas.Bool.Decides.{nat_tests}
use Rattle.gtm_data.proofs.Lists.{and_true}
use Rattle.gtm_data.specs.Paths.{dotted, onto_first}

-- whether a byte or a character is a dot
abbrev is_dot : ℕ → Bool
is_dot c = eqb c 46

-- the first of the parts, with these before it
abbrev behind : List ℕ → List (List ℕ) → List (List ℕ)
behind front [] = front ∷ []
behind front (part ∷ parts) = (front ++ part) ∷ parts

behind_nothing_at : (test : Bool) (b : ℕ) (parts : List (List ℕ))
    → behind [] (if test then [] ∷ parts else onto_first b parts)
    ≡ (if test then [] ∷ parts else onto_first b parts)
behind_nothing_at true b parts = refl
behind_nothing_at false b [] = refl
behind_nothing_at false b (part ∷ parts) = refl

behind_nothing : (bytes : List ℕ) → behind [] (slice_split is_dot bytes) ≡ slice_split is_dot bytes
behind_nothing [] = refl
behind_nothing (b ∷ bytes) = behind_nothing_at (is_dot b) b (slice_split is_dot bytes)

behind_one : (b : ℕ) (front : List ℕ) (parts : List (List ℕ))
    → onto_first b (behind front parts) ≡ behind (b ∷ front) parts
behind_one b front [] = refl
behind_one b front (part ∷ parts) = refl

split_behind : (front bytes : List ℕ)
    → ((at : ℕ) → at < length front → is_dot (get_or front at 0) ≡ false)
    → slice_split is_dot (front ++ bytes) ≡ behind front (slice_split is_dot bytes)
split_behind [] bytes other = sym (behind_nothing bytes)
split_behind (b ∷ front) bytes other =
    ap (λ test. if test then [] ∷ slice_split is_dot (front ++ bytes)
    else onto_first b (slice_split is_dot (front ++ bytes))) (other 0 (omega arith))
    ∙ ap (onto_first b) (split_behind front bytes (λ at within. other (suc at) (omega arith)))
    ∙ behind_one b front (slice_split is_dot bytes)

-- no byte of another character is a dot
no_dot_at : (b : ℕ) → (b < 128 → is_dot b ≡ false) → is_dot b ≡ false
no_dot_at b small = grind (arith, nat_tests)

no_dot : (c : ℕ) → is_dot c ≡ false → (at : ℕ) → at < length (encode_utf8 c)
    → is_dot (get_or (encode_utf8 c) at 0) ≡ false
no_dot c other at within =
    let alone : NoCharPasses is_dot (encode_utf8 c) =
    (c ∷ [], append-nil (encode_utf8 c), (other, tt)) in
    no_dot_at (get_or (encode_utf8 c) at 0)
    (λ small. NoCharPasses-byte is_dot (encode_utf8 c) at alone within small)

-- the characters of a text that begins with this one
chars_first : (c : ℕ) (bytes : List ℕ) → all_scalars (c ∷ []) ≡ true
    → chars (encode_utf8 c ++ bytes) ≡ c ∷ chars bytes
chars_first c bytes scalar =
    let utf8 : IsUtf8 (encode_utf8 c) = (c ∷ [], (scalar, append-nil (encode_utf8 c))) in
    chars-append (encode_utf8 c) bytes utf8
    ∙ ap (λ cs. cs ++ chars bytes) (rw append-nil at (chars-encodes (c ∷ []) scalar))

chars_behind : (c : ℕ) (parts : List (List ℕ)) → all_scalars (c ∷ []) ≡ true
    → map chars (behind (encode_utf8 c) parts) ≡ onto_first c (map chars parts)
chars_behind c [] scalar = ap (λ cs. cs ∷ []) (rw append-nil at (chars-encodes (c ∷ []) scalar))
chars_behind c (part ∷ parts) scalar = ap (λ cs. cs ∷ map chars parts) (chars_first c part scalar)

parts_at : (test : Bool) (c : ℕ) (cs : List ℕ) → is_dot c ≡ test → all_scalars (c ∷ []) ≡ true
    → map chars (slice_split is_dot (encode_utf8_all cs)) ≡ dotted cs
    → map chars (slice_split is_dot (encode_utf8 c ++ encode_utf8_all cs))
    ≡ (if test then [] ∷ dotted cs else onto_first c (dotted cs))
parts_at true c cs is scalar later =
    let dot : c ≡ 46 = grind (arith, nat_tests) in
    ap (λ d. map chars (slice_split is_dot (encode_utf8 d ++ encode_utf8_all cs))) dot
    ∙ ap (λ bytes. map chars (slice_split is_dot (bytes ++ encode_utf8_all cs)))
    (encode_ascii 46 (lit< tt))
    ∙ (λ i. chars-nil i ∷ later i)
parts_at false c cs is scalar later =
    ap (map chars) (split_behind (encode_utf8 c) (encode_utf8_all cs) (no_dot c is))
    ∙ chars_behind c (slice_split is_dot (encode_utf8_all cs)) scalar
    ∙ ap (onto_first c) later

one_scalar : (c : ℕ) (cs : List ℕ) → all_scalars (c ∷ cs) ≡ true
    → (all_scalars (c ∷ []) ≡ true) × (all_scalars cs ≡ true)
one_scalar c cs scalars = let both = and_true _ (all_scalars cs) scalars in
    (ap (λ b. b && true) both.0, both.1)

parts_of : (cs : List ℕ) → all_scalars cs ≡ true
    → map chars (slice_split is_dot (encode_utf8_all cs)) ≡ dotted cs
parts_of [] scalars = ap (λ first. first ∷ []) chars-nil
parts_of (c ∷ cs) scalars =
    let both = one_scalar c cs scalars in
    parts_at (is_dot c) c cs refl both.0 (parts_of cs both.1)

pub dotted_parts : (bytes : List ℕ) → IsUtf8 bytes
    → map chars (slice_split (λ b. eqb b 46) bytes) ≡ dotted (chars bytes)
dotted_parts bytes utf8 =
    ap (λ bs. map chars (slice_split is_dot bs)) (sym (encodes-chars bytes utf8))
    ∙ parts_of (chars bytes) (scalars-chars bytes utf8)

pub length_map : {A B : Type 0} (f : A → B) (xs : List A) → length (map f xs) ≡ length xs
length_map f [] = refl
length_map f (x ∷ xs) = ap suc (length_map f xs)

pub dotted_count : (bytes : List ℕ) → IsUtf8 bytes
    → length (slice_split (λ b. eqb b 46) bytes) ≡ length (dotted (chars bytes))
dotted_count bytes utf8 =
    sym (length_map chars (slice_split is_dot bytes)) ∙ ap length (dotted_parts bytes utf8)

-- ---- what a loop over the pieces has put together
abbrev pub texts : List (Bor (List ℕ)) → List (List ℕ)
texts pieces = map (λ piece. chars piece.now) pieces

pub texts-push : (pieces : List (Bor (List ℕ))) (piece : Bor (List ℕ))
    → texts (pieces ++ piece ∷ []) ≡ texts pieces ++ chars piece.now ∷ []
texts-push pieces piece = map-append (λ p. chars p.now) pieces (piece ∷ [])

pub all_texts : (pieces : List (Bor (List ℕ))) (bytes : List ℕ) → IsUtf8 bytes
    → map (λ piece. piece.now) pieces ≡ slice_split (λ b. eqb b 46) bytes
    → texts pieces ≡ dotted (chars bytes)
all_texts pieces bytes utf8 are =
    sym (map-map chars (λ piece. piece.now) pieces) ∙ ap (map chars) are ∙ dotted_parts bytes utf8
