-- A text by its characters and by its bytes.
use Rattle.std.proofs.Common.{◌≡◌, ℕ, ◌-◌, ◌+◌, List, ◌++◌, length, take, drop, sym, ap, subst, ◌∙◌}
use Rattle.std.proofs.Common.{arith}
use Rattle.std.specs.Prelude.{encode_utf8_all}
use Rattle.std.specs.Str.{chars, IsUtf8, IsCharBoundary}
use Rattle.std.proofs.Math.Seq.{drop-append_seam}
use Rattle.std.proofs.lemmas.List.{length-append, take-append-drop}
use Rattle.std.proofs.lemmas.Str.{encodes-chars, encodes-append, chars-append}
use Rattle.std.proofs.lemmas.Str.{IsCharBoundary-at_seam, IsUtf8-take}

-- what stands before the rest, in bytes
pub split_bytes : (text word rest : List ℕ) → IsUtf8 text → IsUtf8 rest
    → chars text ≡ word ++ chars rest → text ≡ encode_utf8_all word ++ rest
split_bytes text word rest utf8 utf8_rest split =
    sym (encodes-chars text utf8)
    ∙ ap encode_utf8_all split
    ∙ encodes-append word (chars rest)
    ∙ ap (λ t. encode_utf8_all word ++ t) (encodes-chars rest utf8_rest)

pub split_length : (text word rest : List ℕ) → IsUtf8 text → IsUtf8 rest
    → chars text ≡ word ++ chars rest → length text ≡ length (encode_utf8_all word) + length rest
split_length text word rest utf8 utf8_rest split =
    ap length (split_bytes text word rest utf8 utf8_rest split)
    ∙ length-append (encode_utf8_all word) rest

pub front_boundary : (text word rest : List ℕ) → IsUtf8 text → IsUtf8 rest
    → chars text ≡ word ++ chars rest → IsCharBoundary text (length text - length rest)
front_boundary text word rest utf8 utf8_rest split =
    let size : length text - length rest ≡ length (encode_utf8_all word) =
    omega (arith, split_length text word rest utf8 utf8_rest split) in
    let P : ℕ → Type 0 = λ n. IsCharBoundary text n in
    subst P (sym size)
    (IsCharBoundary-at_seam text (encode_utf8_all word) rest
    (split_bytes text word rest utf8 utf8_rest split) utf8_rest)

pub front_chars : (text word rest : List ℕ) → IsUtf8 text → IsUtf8 rest
    → chars text ≡ word ++ chars rest
    → chars text ≡ chars (take (length text - length rest) text) ++ chars rest
front_chars text word rest utf8 utf8_rest split =
    let n = length text - length rest in
    let size : n ≡ length (encode_utf8_all word) =
    omega (arith, split_length text word rest utf8 utf8_rest split) in
    let behind : drop n text ≡ rest =
    ap (λ k. drop k text) size
    ∙ ap (λ t. drop (length (encode_utf8_all word)) t)
    (split_bytes text word rest utf8 utf8_rest split)
    ∙ drop-append_seam (encode_utf8_all word) rest in
    ap chars (sym (take-append-drop n text))
    ∙ chars-append (take n text) (drop n text)
    (IsUtf8-take text n utf8 (front_boundary text word rest utf8 utf8_rest split))
    ∙ ap (λ t. chars (take n text) ++ chars t) behind
