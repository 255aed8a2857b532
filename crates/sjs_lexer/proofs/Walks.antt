-- From one place of a text to another, over tokens and what stands between them.
use Rattle.std.proofs.Common.{◌≡◌, ◌≢◌, ℕ, ◌+◌, ◌-◌, ◌<◌, ◌==◌, ◌||◌, List, [], ◌∷◌, ◌++◌, length}
use Rattle.std.proofs.Common.{Bool, true, false, Option, Some, None, refl, sym, ap, subst, ◌∙◌}
use Rattle.std.proofs.Common.{arith, append_assoc}
use Rattle.std.specs.Prelude.{encode_utf8_all}
use Rattle.std.specs.Bool.{OnTrue, OnFalse}
use Rattle.std.specs.List.{list_any}
use Rattle.std.specs.Str.{chars, IsUtf8}
use denote.Ref.{Bor}
use Rattle.std.proofs.lemmas.Bool.Decides.{nat_tests}
use Rattle.std.proofs.lemmas.List.{length-append}
use Rattle.std.proofs.lemmas.Str.{encodes-chars, encodes-append, chars-nil}
use Rattle.sjs_lexer.specs.declared.token.Token.{Token}
use Rattle.sjs_lexer.specs.declared.token.TokenKind.{TokenKind}
use Rattle.sjs_lexer.specs.Characters.{is_line_end}
use Rattle.sjs_lexer.specs.Found.{Finds, HasToken, HasNoToken}
use Rattle.sjs_lexer.specs.Reading.{past_gap}
use Rattle.sjs_lexer.specs.Tokens.{IsToken, Skips, skips_none, skips_more, TokenAt, TokensTo}
use Rattle.sjs_lexer.specs.Tokens.{tokens_none, tokens_more, bytes_in, IsRefusedAt, AreTokens}
use Rattle.sjs_lexer.proofs.GapsRead.{no_gap, gap_of, gap_split, gap_is_some, or_false, or_assoc}
use Rattle.sjs_lexer.proofs.TokensFound.{token_begins}

-- one gap more
pub skips_push : (text here : List ℕ) (broken : Bool) (found : Bool × List ℕ)
    → Skips text broken here → past_gap here ≡ Some found → Skips text (broken || found.0) found.1
skips_push text here _ found skips_none read =
    let gap = gap_of here found read in
    let P : Bool → Type 0 = λ b. Skips here b found.1 in
    subst P (or_false (list_any is_line_end gap.gap) ∙ sym gap.breaks)
    (skips_more gap.gap found.1 false gap.is skips_none)
skips_push text here _ found (skips_more gap next broken is more) read =
    let P : Bool → Type 0 = λ b. Skips text b found.1 in
    subst P (sym (or_assoc (list_any is_line_end gap) broken found.0))
    (skips_more gap next (broken || found.0) is (skips_push next here broken found more read))

pub gap_shorter : (text : List ℕ) (found : Bool × List ℕ) → past_gap text ≡ Some found
    → length found.1 < length text
gap_shorter text found read =
    let gap = gap_of text found read in
    let some : 0 < length gap.gap = gap_is_some text gap.gap found.1 gap.is in
    omega (arith, simp length-append at (ap length (gap_split text gap.gap found.1 gap.is)))

-- what stands before
pub skips_front : (text here : List ℕ) (broken : Bool) → Skips text broken here
    → (front : List ℕ) × (text ≡ front ++ here)
skips_front text here _ skips_none = ([], refl)
skips_front text here _ (skips_more gap next broken is more) =
    let behind = skips_front next here broken more in (
      gap ++ behind.0,
      gap_split text gap next is ∙ ap (λ t. gap ++ t) behind.1
          ∙ sym (append_assoc gap behind.0 here),
    )

pub fronts_join : (text left here one two : List ℕ) → text ≡ one ++ left → left ≡ two ++ here
    → text ≡ (one ++ two) ++ here
fronts_join text left here one two first second =
    first ∙ ap (λ t. one ++ t) second ∙ sym (append_assoc one two here)

pub tokens_front : (whole : ℕ) (text left : List ℕ) (ts : List Token) → TokensTo whole text ts left
    → (front : List ℕ) × (text ≡ front ++ left)
tokens_front whole text left _ tokens_none = ([], refl)
tokens_front whole text left _ (tokens_more here word rest {broken = broken} skips at more) =
    let gaps = skips_front text here broken skips in
    let behind = tokens_front whole rest left _ more in
    let first : text ≡ (gaps.0 ++ word) ++ rest =
    fronts_join text here rest gaps.0 word gaps.1 at.split in (
      (gaps.0 ++ word) ++ behind.0,
      fronts_join text rest left (gaps.0 ++ word) behind.0 first behind.1,
    )

-- one token more
pub tokens_push : (whole : ℕ) (text left here word rest : List ℕ) (ts : List Token) (broken : Bool)
    (k : TokenKind) → TokensTo whole text ts left → Skips left broken here
    → TokenAt here word rest k
    → TokensTo whole text
    (ts ++ record {
      kind =
          k;
      from = whole - bytes_in here;
      to = whole - bytes_in rest;
      after_break = broken;
    } ∷ []) rest
tokens_push whole text left here word rest _ broken k tokens_none skips at =
    tokens_more here word rest skips at tokens_none
tokens_push whole text left here word rest _ broken k
    (tokens_more here_too word_too rest_too skips_too at_too more) skips at =
    tokens_more here_too word_too rest_too skips_too at_too
    (tokens_push whole rest_too left here word rest _ broken k more skips at)

-- the bytes of a text
pub bytes_of : (bytes : List ℕ) → IsUtf8 bytes → bytes_in (chars bytes) ≡ length bytes
bytes_of bytes utf8 = ap length (encodes-chars bytes utf8)

pub bytes-append : (xs ys : List ℕ) → bytes_in (xs ++ ys) ≡ bytes_in xs + bytes_in ys
bytes-append xs ys =
    ap length (encodes-append xs ys) ∙ length-append (encode_utf8_all xs) (encode_utf8_all ys)

-- before what stands behind tokens and a gap
pub gap_front : (whole : ℕ) (text left here : List ℕ) (ts : List Token) (broken : Bool)
    → TokensTo whole text ts left → Skips left broken here
    → (front : List ℕ) × (text ≡ front ++ here)
gap_front whole text left here ts broken tokens skips =
    let one = tokens_front whole text left ts tokens in
    let two = skips_front left here broken skips in
    (one.0 ++ two.0, fronts_join text left here one.0 two.0 one.1 two.1)

-- before what stands behind one token more
pub token_front : (whole : ℕ) (text left here rest : List ℕ) (ts : List Token) (broken : Bool)
    (k : TokenKind) → TokensTo whole text ts left → Skips left broken here → HasToken here k rest
    → (front : List ℕ) × (text ≡ front ++ rest)
token_front whole text left here rest ts broken k tokens skips (word, at) =
    let one = gap_front whole text left here ts broken tokens skips in
    (one.0 ++ word, fronts_join text here rest one.0 word one.1 at.split)

-- no token is empty
pub token_is_some : (word : List ℕ) (k : TokenKind) → IsToken word k → 0 < length word
token_is_some word k is = let begins = token_begins word k is in omega (arith, ap length begins.is)

pub token_shorter : (left here rest : List ℕ) (broken : Bool) (k : TokenKind)
    → Skips left broken here → HasToken here k rest → length rest < length left
token_shorter left here rest broken k skips (word, at) =
    let front = skips_front left here broken skips in
    let some : 0 < length word = token_is_some word k at.is in
    omega (
      arith,
      simp length-append at (ap length front.1),
      simp length-append at (ap length at.split),
    )

pub none_found : (text : List ℕ) (o : Option (TokenKind × Bor (List ℕ))) → o ≡ None → Finds text o
    → HasNoToken text
none_found text o none finds =
    let P : Option (TokenKind × Bor (List ℕ)) → Type 0 = λ o. Finds text o in subst P none finds

pub some_found : (text : List ℕ) (o : Option (TokenKind × Bor (List ℕ)))
    (found : TokenKind × Bor (List ℕ)) → o ≡ Some found → Finds text o
    → HasToken text found.0 (chars found.1.now)
some_found text o found some finds =
    let P : Option (TokenKind × Bor (List ℕ)) → Type 0 = λ o. Finds text o in subst P some finds

pub empty_chars : (bytes : List ℕ) → length bytes ≡ 0 → chars bytes ≡ []
empty_chars [] none = chars-nil
empty_chars (b ∷ bs) none = absurd (omega arith)

pub some_chars : (bytes : List ℕ) → IsUtf8 bytes → 0 < length bytes → chars bytes ≡ [] → ⊥
some_chars bytes utf8 some none =
    let bytes_are : length bytes ≡ 0 = sym (bytes_of bytes utf8) ∙ ap bytes_in none in omega arith

pub refused_at : (text left here : List ℕ) (place : ℕ) (ts : List Token) (broken : Bool)
    → TokensTo (bytes_in text) text ts left → Skips left broken here → past_gap here ≡ None
    → (here ≡ [] → ⊥) → HasNoToken here → place ≡ bytes_in text - bytes_in here
    → IsRefusedAt text place
refused_at text left here place ts broken tokens skips stands more none at = record {
  before = ts;
  last = left;
  broken = broken;
  here = here;
  tokens = tokens;
  behind = skips;
  stuck =
      record {
        more =
            more;
        no_gap = λ gap rest is. no_gap here gap rest stands is;
        no_token = none;
      };
  at = at;
}

pub all_tokens : (text left here : List ℕ) (ts : List Token) (broken : Bool)
    → TokensTo (bytes_in text) text ts left → Skips left broken here → here ≡ [] → AreTokens text ts
all_tokens text left here ts broken tokens skips end =
    let P : List ℕ → Type 0 = λ h. Skips left broken h in
    record { last = left; broken = broken; tokens = tokens; behind = subst P end skips }

pub one_more : (text left here rest : List ℕ) (from to : ℕ) (ts : List Token) (broken : Bool)
    (k : TokenKind) → TokensTo (bytes_in text) text ts left → Skips left broken here
    → HasToken here k rest → from ≡ bytes_in text - bytes_in here
    → to ≡ bytes_in text - bytes_in rest
    → TokensTo (bytes_in text) text
    (ts ++ record { kind = k; from = from; to = to; after_break = broken } ∷ []) rest
one_more text left here rest from to ts broken k tokens skips (word, at) from_is to_is =
    let P : ℕ → Type 0 =
    λ n. TokensTo (bytes_in text) text
    (ts ++ record { kind = k; from = n; to = to; after_break = broken } ∷ []) rest in
    let Q : ℕ → Type 0 =
    λ n. TokensTo (bytes_in text) text
    (ts ++ record {
      kind =
          k;
      from = bytes_in text - bytes_in here;
      to = n;
      after_break = broken;
    } ∷ []) rest in
    subst P (sym from_is)
    (subst Q (sym to_is)
    (tokens_push (bytes_in text) text left here word rest ts broken k tokens skips at))

pub empty_length : (bytes : List ℕ) → (length bytes == 0) ≡ true → length bytes ≡ 0
empty_length bytes test = grind (arith, nat_tests)

pub some_length : (bytes : List ℕ) → (length bytes == 0) ≡ false → 0 < length bytes
some_length bytes test = grind (arith, nat_tests)

pub end_of : (bytes : List ℕ) (r : Bool) → r ≡ (length bytes == 0) → OnTrue r (chars bytes ≡ [])
end_of bytes true is = empty_chars bytes (empty_length bytes (sym is))
end_of bytes false is = tt

pub more_of : (bytes : List ℕ) (r : Bool) → IsUtf8 bytes → r ≡ (length bytes == 0)
    → OnFalse r (chars bytes ≢ [])
more_of bytes true utf8 is = tt
more_of bytes false utf8 is = some_chars bytes utf8 (some_length bytes (sym is))
