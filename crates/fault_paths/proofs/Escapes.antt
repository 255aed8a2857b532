-- What a key is written as in a pointer is read back as the key.
use Rattle.std.proofs.Common.{◌≡◌, ◌≢◌, ℕ, suc, ◌<◌, List, [], ◌∷◌, ◌++◌, Bool, true, false, eqb}
use Rattle.std.proofs.Common.{refl, sym, ap, ◌∙◌, subst, arith, get_or, append-nil, ne_eqb, eq-eqb}
use Rattle.std.proofs.Common.{eqb-true, encode_utf8, encode_utf8_all}
use Rattle.std.specs.List.{flat_map}
use Rattle.std.specs.Prelude.{if◌then◌else◌, codes}
use Rattle.std.specs.Str.{NonePass}
use Rattle.std.proofs.lemmas.Grind.{flat_map-append}
use Rattle.std.proofs.lemmas.Str.{NoCharPasses-byte, encode_ascii}
use Rattle.gtm_data.specs.Plain.{pointer_char}
use Rattle.serde_json.proofs.Paths.{Lacks}
use Rattle.serde_json.specs.Find.{unescape}

pub encoded-append : (some more : List ℕ)
    → encode_utf8_all (some ++ more) ≡ encode_utf8_all some ++ encode_utf8_all more
encoded-append some more = flat_map-append encode_utf8 some more

-- characters among which there is not this one of ASCII
pub lacks : (n : ℕ) (cs : List ℕ) → n < 128 → NonePass (λ c. eqb c n) cs
    → Lacks n (encode_utf8_all cs)
lacks n cs small none i less is =
    let byte = get_or (encode_utf8_all cs) i 0 in
    let fails : eqb byte n ≡ false =
    NoCharPasses-byte (λ c. eqb c n) (encode_utf8_all cs) i (cs, refl, none) less
    (subst (λ b. b < 128) (sym is) small)
    in
    let same : eqb byte n ≡ true = eq-eqb byte n is in
    let wrong : false ≡ true = sym fails ∙ same in cc wrong

-- a byte that begins no escape
plain_byte : (x : ℕ) (rest : List ℕ) → x ≢ 126 → unescape (x ∷ rest) ≡ x ∷ unescape rest
unfolding unescape
plain_byte x [] differs = refl
plain_byte x (y ∷ rest) differs = rw (ne_eqb x 126 differs) refl

plain_bytes : (bs rest : List ℕ) → Lacks 126 bs → unescape (bs ++ rest) ≡ bs ++ unescape rest
plain_bytes [] rest none = refl
plain_bytes (x ∷ bs) rest none =
    plain_byte x (bs ++ rest) (none 0 (omega arith))
    ∙ ap (λ l. x ∷ l) (plain_bytes bs rest (λ i less. none (suc i) (omega arith)))

module _ (c : ℕ) (rest : List ℕ) where
  tilde : c ≡ 126 → unescape (encode_utf8_all (codes "~0") ++ rest) ≡ encode_utf8 c ++ unescape rest
  unfolding unescape
  tilde is = rw (is, encode_ascii 126 (omega arith), encode_ascii 48 (omega arith)) refl

  slash : c ≡ 47 → unescape (encode_utf8_all (codes "~1") ++ rest) ≡ encode_utf8 c ++ unescape rest
  unfolding unescape
  slash is =
      rw (
        is,
        encode_ascii 126 (omega arith),
        encode_ascii 47 (omega arith),
        encode_ascii 49 (omega arith),
      ) refl

  other : eqb c 126 ≡ false
      → unescape (encode_utf8_all (c ∷ []) ++ rest) ≡ encode_utf8 c ++ unescape rest
  other differs =
      plain_bytes (encode_utf8_all (c ∷ [])) rest (lacks 126 (c ∷ []) (omega arith) (differs, tt))
      ∙ ap (λ bs. bs ++ unescape rest) (append-nil (encode_utf8 c))

  by_char : (a b : Bool) → eqb c 126 ≡ a → eqb c 47 ≡ b
      → unescape (encode_utf8_all (if a then codes "~0" else if b then codes "~1" else c ∷ []) ++ rest)
      ≡ encode_utf8 c ++ unescape rest
  by_char true b is slashes = tilde (eqb-true c 126 is)
  by_char false true is slashes = slash (eqb-true c 47 slashes)
  by_char false false is slashes = other is

pub read_back : (cs : List ℕ)
    → unescape (encode_utf8_all (flat_map pointer_char cs)) ≡ encode_utf8_all cs
unfolding unescape
read_back [] = refl
read_back (c ∷ cs) =
    ap unescape (encoded-append (pointer_char c) (flat_map pointer_char cs))
    ∙ by_char c (encode_utf8_all (flat_map pointer_char cs)) (eqb c 126) (eqb c 47) refl refl
    ∙ ap (λ l. encode_utf8 c ++ l) (read_back cs)

none_append : (p : ℕ → Bool) (some more : List ℕ) → NonePass p some → NonePass p more
    → NonePass p (some ++ more)
none_append p [] more none others = others
none_append p (c ∷ some) more none others = (none.0, none_append p some more none.1 others)

no_slash_in : (c : ℕ) (a b : Bool) → eqb c 47 ≡ b
    → NonePass (λ x. eqb x 47) (if a then codes "~0" else if b then codes "~1" else c ∷ [])
no_slash_in c true b is = (refl, (refl, tt))
no_slash_in c false true is = (refl, (refl, tt))
no_slash_in c false false is = (is, tt)

-- the part of a key has no slash
pub no_slash : (cs : List ℕ) → NonePass (λ x. eqb x 47) (flat_map pointer_char cs)
no_slash [] = tt
no_slash (c ∷ cs) =
    none_append (λ x. eqb x 47) (pointer_char c) (flat_map pointer_char cs)
    (no_slash_in c (eqb c 126) (eqb c 47) refl) (no_slash cs)
