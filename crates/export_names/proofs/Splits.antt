-- What `split_once` makes of a text, by characters.
use Rattle.std.proofs.Common.{◌≡◌, ◌≢◌, ℕ, ◌<◌, ◌≤◌, ◌+◌, List, [], ◌∷◌, ◌++◌, length, get_or, take}
use Rattle.std.proofs.Common.{drop, Option, Some, None, MatchOption, option_map, refl, ap, sym, ◌∙◌}
use Rattle.std.proofs.Common.{subst, arith, length-append, length-drop}
use Rattle.std.specs.Prelude.{encode_utf8_all}
use Rattle.std.specs.Str.{chars, IsUtf8}
use Rattle.std.specs.Str.Pattern.{FindsText}
use Rattle.std.proofs.lemmas.List.{take-append-drop, take-append-le, get_or-drop}
use Rattle.std.proofs.lemmas.Str.{chars-append, IsUtf8-take, IsCharBoundary-before_ascii}
use Rattle.std.proofs.lemmas.Str.{encodes-append, encodes-chars, encode_ascii, length-le-encodes}
use Rattle.std.proofs.Math.Seq.{drop-append_seam}
use Rattle.export_names.specs.Cut.{around_twice}
use Rattle.export_names.proofs.Twice.{around_first, around_nothing}
use denote.Ref.{Bor}

pub open_chars : (rest : List ℕ) → chars (123 ∷ 123 ∷ rest) ≡ 123 ∷ 123 ∷ chars rest
unfolding chars
open_chars [] = refl
open_chars (b ∷ rest) = refl

pub close_chars : (rest : List ℕ) → chars (125 ∷ 125 ∷ rest) ≡ 125 ∷ 125 ∷ chars rest
unfolding chars
close_chars [] = refl
close_chars (b ∷ rest) = refl

module _ (c : ℕ) (low : c < 128)
    (by_chars : (rest : List ℕ) → chars (c ∷ c ∷ rest) ≡ c ∷ c ∷ chars rest) where
  encodes_twice : (rest : List ℕ) → encode_utf8_all (c ∷ c ∷ rest) ≡ c ∷ c ∷ encode_utf8_all rest
  encodes_twice rest = λ i. encode_ascii c low i ++ (encode_ascii c low i ++ encode_utf8_all rest)

  -- where the characters have it twice, so have the bytes
  in_bytes : (bytes : List ℕ) (k : ℕ) (rest : List ℕ) → IsUtf8 bytes
      → drop k (chars bytes) ≡ c ∷ c ∷ rest
      → bytes ≡ encode_utf8_all (take k (chars bytes)) ++ c ∷ c ∷ encode_utf8_all rest
  in_bytes bytes k rest utf8 e =
      sym (encodes-chars bytes utf8)
      ∙ ap encode_utf8_all
      (sym (take-append-drop k (chars bytes)) ∙ ap (λ r. take k (chars bytes) ++ r) e)
      ∙ encodes-append (take k (chars bytes)) (c ∷ c ∷ rest)
      ∙ ap (λ r. encode_utf8_all (take k (chars bytes)) ++ r) (encodes_twice rest)

  dropped : (bytes : List ℕ) (k : ℕ) (rest : List ℕ) → IsUtf8 bytes
      → drop k (chars bytes) ≡ c ∷ c ∷ rest
      → drop (length (encode_utf8_all (take k (chars bytes)))) bytes ≡ c ∷ c ∷ encode_utf8_all rest
  dropped bytes k rest utf8 e =
      let front = encode_utf8_all (take k (chars bytes)) in
      ap (drop (length front)) (in_bytes bytes k rest utf8 e)
      ∙ drop-append_seam front (c ∷ c ∷ encode_utf8_all rest)

  within_bytes : (bytes : List ℕ) (k : ℕ) (rest : List ℕ) → IsUtf8 bytes
      → drop k (chars bytes) ≡ c ∷ c ∷ rest
      → length (encode_utf8_all (take k (chars bytes))) ≤ length bytes
  within_bytes bytes k rest utf8 e =
      let front = encode_utf8_all (take k (chars bytes)) in
      omega (
        arith,
        ap length (in_bytes bytes k rest utf8 e),
        length-append front (c ∷ c ∷ encode_utf8_all rest),
      )

  -- fewer characters take fewer bytes
  fewer_bytes : (cs more : List ℕ) (k : ℕ) → k < length cs
      → length (encode_utf8_all (take k (cs ++ more))) < length (encode_utf8_all cs)
  fewer_bytes cs more k less =
      let front = encode_utf8_all (take k cs) in
      let back = encode_utf8_all (drop k cs) in
      let whole : encode_utf8_all cs ≡ front ++ back =
      ap encode_utf8_all (sym (take-append-drop k cs))
      ∙ encodes-append (take k cs) (drop k cs) in
      let same : take k (cs ++ more) ≡ take k cs = take-append-le k cs more (omega arith) in
      omega (
        arith,
        ap length whole,
        length-append front back,
        length-le-encodes (drop k cs),
        length-drop k cs,
        ap (λ t. length (encode_utf8_all t)) same,
      )

  not_in_text : (bytes : List ℕ) → IsUtf8 bytes → FindsText (c ∷ c ∷ []) bytes None
      → around_twice c (chars bytes) ≡ None
  not_in_text bytes utf8 none =
      around_nothing c (chars bytes)
      (λ k rest e.
      none (length (encode_utf8_all (take k (chars bytes)))) (within_bytes bytes k rest utf8 e)
      (encode_utf8_all rest) (dropped bytes k rest utf8 e))

  in_text : (bytes front back : List ℕ) (i j : ℕ) → IsUtf8 bytes
      → FindsText (c ∷ c ∷ []) bytes (Some (i, j)) → front ≡ take i bytes → back ≡ drop j bytes
      → length back + j ≡ length bytes → length front ≡ i
      → around_twice c (chars bytes) ≡ Some (chars front, chars back)
  in_text bytes front back i j utf8 found in_front behind lengths wide =
      let ends : j ≡ i + 2 = found.1.ends in
      let split : drop i bytes ≡ c ∷ c ∷ back = found.1.split ∙ ap (λ b. c ∷ c ∷ b) (sym behind) in
      let within : i < length bytes = omega arith in
      let at : get_or bytes i 0 ≡ c =
      ap (λ n. get_or bytes n 0) (let sum : i ≡ i + 0 = omega arith in sum)
      ∙ sym (get_or-drop i bytes 0 0) ∙ ap (λ bs. get_or bs 0 0) split in
      let front_utf8 : IsUtf8 front =
      subst IsUtf8 (sym in_front)
      (IsUtf8-take bytes i utf8 (IsCharBoundary-before_ascii bytes i within (omega arith))) in
      let whole : bytes ≡ front ++ c ∷ c ∷ back =
      sym (take-append-drop i bytes) ∙ (λ k. sym in_front k ++ split k) in
      let by_character : chars bytes ≡ chars front ++ c ∷ c ∷ chars back =
      ap chars whole ∙ chars-append front (c ∷ c ∷ back) front_utf8
      ∙ ap (λ cs. chars front ++ cs) (by_chars back) in
      let none : (k : ℕ) (rest : List ℕ) → k < length (chars front)
      → drop k (chars front ++ c ∷ c ∷ chars back) ≢ c ∷ c ∷ rest = λ k rest less e.
      (let here : drop k (chars bytes) ≡ c ∷ c ∷ rest = ap (drop k) by_character ∙ e in
      let shorter : length (encode_utf8_all (take k (chars bytes))) < i =
      omega (
        arith,
        fewer_bytes (chars front) (c ∷ c ∷ chars back) k less,
        ap (λ t. length (encode_utf8_all (take k t))) by_character,
        ap length (encodes-chars front front_utf8),
      ) in
      found.0 (length (encode_utf8_all (take k (chars bytes)))) shorter (encode_utf8_all rest)
      (dropped bytes k rest utf8 here)) in
      ap (around_twice c) by_character ∙ around_first c (chars front) (chars back) none

  -- `split_once` cuts a text as `around_twice` does its characters
  pub splits : (bytes : List ℕ) (r : Option (Bor (List ℕ) × Bor (List ℕ))) → IsUtf8 bytes
      → MatchOption r (FindsText (c ∷ c ∷ []) bytes None)
      (λ x. (i : ℕ) × (j : ℕ) × FindsText (c ∷ c ∷ []) bytes (Some (i, j))
      × (x.0.now ≡ take i bytes) × (x.1.now ≡ drop j bytes) × (i ≤ j) × (length x.0.now ≡ i)
      × (length x.1.now + j ≡ length bytes))
      → option_map (λ parts. (chars parts.0.now, chars parts.1.now)) r
      ≡ around_twice c (chars bytes)
  splits bytes None utf8 h = sym (not_in_text bytes utf8 h)
  splits bytes (Some x) utf8 h =
      sym (in_text bytes x.0.now x.1.now h.0 h.1 utf8 h.2 h.3 h.4 h.7 h.6)
