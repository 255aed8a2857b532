-- Words of ASCII characters that texts begin with.
use Rattle.std.proofs.Common.{◌≡◌, ℕ, List, [], ◌∷◌, ◌++◌, length, take, drop, eqb, Bool, true}
use Rattle.std.proofs.Common.{false, true≢false, ltb, ◌&&◌, refl, ap, sym, ◌∙◌}
use Rattle.std.specs.List.{starts_with}
use Rattle.std.specs.Str.{bytes_eq}
use Rattle.std.proofs.Math.Seq.{take-append_seam}
use Rattle.std.proofs.Math.Utf8.{encodes}
use Rattle.std.proofs.lemmas.Bool.{ltb-true}
use Rattle.std.proofs.lemmas.Bool.Decides.{same_from_decides}
use Rattle.std.proofs.lemmas.List.{take-append-drop}
use Rattle.std.proofs.lemmas.Slice.Eq.{bytes_eq-Decides}
use Rattle.std.proofs.lemmas.Str.{encode_ascii, encodes-append, cons_from_encodes}
use Rattle.gtm_base.specs.Ascii.{is_all_ascii}

both : (a b : Bool) → (a && b) ≡ true → (a ≡ true) × (b ≡ true)
both true b is = (refl, is)
both false b is = absurd (true≢false (sym is))

-- the bytes of a word are the word
encodes_word : (word : List ℕ) → is_all_ascii word ≡ true → encodes word ≡ word
encodes_word [] ascii = refl
encodes_word (b ∷ bs) ascii =
    let parts = both (ltb b 128) (is_all_ascii bs) ascii in
    ap (λ front. front ++ encodes bs) (encode_ascii b (ltb-true b 128 parts.0))
    ∙ ap (λ rest. b ∷ rest) (encodes_word bs parts.1)

-- a text whose bytes begin with a word begins with it
by_bytes : (word cs rest : List ℕ) → is_all_ascii word ≡ true → encodes cs ≡ word ++ rest
    → take (length word) cs ≡ word
by_bytes [] cs rest ascii is = refl
by_bytes (b ∷ bs) cs rest ascii is =
    let parts = both (ltb b 128) (is_all_ascii bs) ascii in
    let found =
    cons_from_encodes cs (bs ++ rest) b
    (is ∙ ap (λ front. front ++ (bs ++ rest)) (sym (encode_ascii b (ltb-true b 128 parts.0))))
    in
    ap (take (length (b ∷ bs))) found.1
    ∙ ap (λ front. b ∷ front) (by_bytes bs found.0 rest parts.1 found.2)

-- and the other way round
by_text : (word cs : List ℕ) → is_all_ascii word ≡ true → take (length word) cs ≡ word
    → take (length word) (encodes cs) ≡ word
by_text word cs ascii is =
    let rest = encodes (drop (length word) cs) in
    let whole : encodes cs ≡ word ++ rest =
    ap encodes (sym (take-append-drop (length word) cs))
    ∙ encodes-append (take (length word) cs) (drop (length word) cs)
    ∙ ap (λ front. encodes front ++ rest) is
    ∙ ap (λ front. front ++ rest) (encodes_word word ascii) in
    ap (take (length word)) whole ∙ take-append_seam word rest

-- the bytes of a text begin with a word exactly where the text does
pub begins_alike : (word cs : List ℕ) → is_all_ascii word ≡ true
    → starts_with eqb (encodes cs) word ≡ bytes_eq (take (length word) cs) word
begins_alike word cs ascii =
    let bytes = encodes cs in
    let front = take (length word) bytes in
    let rest = drop (length word) bytes in
    same_from_decides {P = take (length word) cs ≡ word} _ _ (
      (λ is. by_bytes word cs rest ascii
          (sym (take-append-drop (length word) bytes)
          ∙ ap (λ part. part ++ rest) (sym ((bytes_eq-Decides word front).0 is)))),
      (λ is. (bytes_eq-Decides word front).1 (sym (by_text word cs ascii is))),
    )
    (bytes_eq-Decides (take (length word) cs) word)
