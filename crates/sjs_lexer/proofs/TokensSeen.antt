-- What the code saw at the front of a text, as tokens.
use Rattle.std.proofs.Common.{◌≡◌, ℕ, ◌≤◌, ◌<◌, ◌^◌, List, [], ◌∷◌, ◌++◌, length, true, false}
use Rattle.std.proofs.Common.{Option, Some, None, refl, sym, ap, subst, ◌∙◌, arith, w64, to_z}
use Rattle.std.specs.Prelude.{option_map, ℤ}
use Rattle.std.specs.Char.{is_ascii_digit}
use Rattle.std.specs.List.{list_all}
use Rattle.std.specs.Str.{chars, IsUtf8}
use denote.Ref.{Bor}
use Rattle.std.proofs.lemmas.Int.{to_z_pos}
use Rattle.std.proofs.lemmas.Bool.Decides.{nat_tests}
use Rattle.std.proofs.lemmas.Str.{encodes-chars, encodes-IsAscii}
use Rattle.gtm_base.specs.Ascii.{is_all_ascii}
use Rattle.gtm_base.proofs.Characters.{IsAscii-from_test}
use Rattle.sjs_syntax.specs.Words.{is_word, IsLongestSign, BeginsWithNoSign}
use Rattle.sjs_lexer.specs.declared.token.TokenKind.{TokenKind}
use Rattle.sjs_lexer.specs.declared.token.TokenKind.TheVariants as kind
use Rattle.sjs_lexer.specs.Characters.{is_name_start, is_name_char}
use Rattle.sjs_lexer.specs.Found.{BeginsWith, HasNoToken, HasToken, begins_sign}
use Rattle.sjs_lexer.specs.Reading.{number_at, skip_while, behind, behind_char}
use Rattle.sjs_lexer.specs.TextEnds.{EndsAt}
use Rattle.sjs_lexer.specs.Tokens.{begins_gap, is_apart, is_name, is_quote, IsToken, name, reserved}
use Rattle.sjs_lexer.proofs.Runs.{run_of}
use Rattle.sjs_lexer.proofs.TokensFound.{name_found, number_found, no_number, text_found, no_text}
use Rattle.sjs_lexer.proofs.TokensFound.{sign_found, no_sign, remaining_class, class_of, remaining}
use Rattle.sjs_lexer.proofs.TokensFound.{append_cancel, behind_is}

-- names

char_is_ascii : (c : ℕ) → is_name_char c ≡ true → c < 128
unfolding is_name_char
char_is_ascii c is = grind (arith, nat_tests)

names_are_ascii : (word : List ℕ) → list_all is_name_char word ≡ true → is_all_ascii word ≡ true
names_are_ascii [] all = refl
names_are_ascii (c ∷ cs) all =
    let first : c < 128 = char_is_ascii c (grind (arith, nat_tests)) in
    let behind_all : is_all_ascii cs ≡ true = names_are_ascii cs (grind (arith, nat_tests)) in
    grind (arith, nat_tests)

-- the bytes of a name are its characters
name_bytes : (bytes : List ℕ) → IsUtf8 bytes → list_all is_name_char (chars bytes) ≡ true
    → bytes ≡ chars bytes
name_bytes bytes utf8 all =
    sym (encodes-chars bytes utf8)
    ∙ encodes-IsAscii (chars bytes)
    (IsAscii-from_test (chars bytes) (names_are_ascii (chars bytes) all))

pub name_split : (text rest : List ℕ) → rest ≡ skip_while is_name_char text
    → (word : List ℕ) × (text ≡ word ++ rest)
name_split text rest same = let run = run_of is_name_char text in
    (run.word, run.split ∙ ap (λ t. run.word ++ t) (sym same))

front_is_name : (text front rest : List ℕ) → rest ≡ skip_while is_name_char text
    → text ≡ front ++ rest → list_all is_name_char front ≡ true
front_is_name text front rest same split =
    let run = run_of is_name_char text in
    let other : front ≡ run.word =
    append_cancel front run.word rest
    (sym split ∙ run.split ∙ ap (λ t. run.word ++ t) (sym same)) in
    ap (list_all is_name_char) other ∙ run.all

named : (text word rest : List ℕ) (k : TokenKind) → BeginsWith is_name_start text
    → begins_gap text ≡ false → rest ≡ skip_while is_name_char text → text ≡ word ++ rest
    → (is_name word ≡ true → IsToken word k) → ((t : List ℕ) → is_apart k t ≡ true)
    → HasToken text k rest
named text word rest k (c, cs, front, start) clear same split is apart =
    let P : List ℕ → Type 0 = λ t. begins_gap t ≡ false in
    let Q : List ℕ → Type 0 = λ t. HasToken t k rest in
    let R : List ℕ → Type 0 = λ r. HasToken (c ∷ cs) k r in
    let here : skip_while is_name_char text ≡ skip_while is_name_char (c ∷ cs) =
    ap (skip_while is_name_char) front in
    subst Q (sym front)
    (subst R (sym (same ∙ here)) (
      word,
      name_found c cs k word start (subst P front clear)
          (sym front ∙ split ∙ ap (λ r. word ++ r) (same ∙ here)) is
          (apart (skip_while is_name_char (c ∷ cs))),
    ))

pub known_name : (text bytes rest : List ℕ) → IsUtf8 bytes → BeginsWith is_name_start text
    → begins_gap text ≡ false → rest ≡ skip_while is_name_char text → text ≡ chars bytes ++ rest
    → is_word bytes ≡ true → HasToken text kind.Reserved rest
known_name text bytes rest utf8 start clear same split known =
    let all : list_all is_name_char (chars bytes) ≡ true =
    front_is_name text (chars bytes) rest same split in
    let word_is : is_word (chars bytes) ≡ true =
    ap is_word (sym (name_bytes bytes utf8 all)) ∙ known in
    named text (chars bytes) rest kind.Reserved start clear same split (λ is. reserved is word_is)
    (λ t. refl)

pub unknown_name : (text bytes rest : List ℕ) → IsUtf8 bytes → BeginsWith is_name_start text
    → begins_gap text ≡ false → rest ≡ skip_while is_name_char text → text ≡ chars bytes ++ rest
    → is_word bytes ≡ false → HasToken text kind.Name rest
unknown_name text bytes rest utf8 start clear same split unknown =
    let all : list_all is_name_char (chars bytes) ≡ true =
    front_is_name text (chars bytes) rest same split in
    let word_is : is_word (chars bytes) ≡ false =
    ap is_word (sym (name_bytes bytes utf8 all)) ∙ unknown in
    named text (chars bytes) rest kind.Name start clear same split (λ is. name is word_is)
    (λ t. refl)

-- numbers

pub seen_number : (text rest : List ℕ) (n : ℕ) → BeginsWith is_ascii_digit text
    → begins_gap text ≡ false → number_at text ≡ Some (n, rest) → n ≤ 9007199254740991
    → HasToken text (kind.Number (to_z w64 n)) rest
seen_number text rest n (c, cs, front, start) clear read small =
    let P : List ℕ → Type 0 = λ t. begins_gap t ≡ false in
    let Q : List ℕ → Type 0 = λ t. HasToken t (kind.Number (to_z w64 n)) rest in
    let R : ℤ → Type 0 = λ z. HasToken (c ∷ cs) (kind.Number z) rest in
    let low : n < 2 ^ 63 = omega arith in
    subst Q (sym front)
    (subst R (sym (to_z_pos w64 n low))
    (number_found c cs (n, rest) start (subst P front clear) (ap number_at (sym front) ∙ read)))

pub unseen_number : (text : List ℕ) → BeginsWith is_ascii_digit text → number_at text ≡ None
    → HasNoToken text
unseen_number text (c, cs, front, start) none =
    let Q : List ℕ → Type 0 = λ t. HasNoToken t in
    subst Q (sym front) (no_number c cs start (ap number_at (sym front) ∙ none))

-- texts

pub seen_text : (quote : ℕ) (start value : List ℕ) (o : Option (Bor (List ℕ))) (rest : Bor (List ℕ))
    → is_quote quote ≡ true → begins_gap (quote ∷ start) ≡ false → o ≡ Some rest
    → EndsAt quote start value o → HasToken (quote ∷ start) (kind.Text value) (chars rest.now)
seen_text quote start value o rest is clear some ends =
    let closed : behind_char quote ends.here ≡ Some (chars rest.now) =
    sym ends.closed ∙ ap (λ o. option_map (λ r. chars r.now) o) some in
    text_found quote start value ends.here (chars rest.now) is clear ends.pieces
    (behind_is quote ends.here (chars rest.now) closed)

pub unseen_text : (quote : ℕ) (start value : List ℕ) (o : Option (Bor (List ℕ)))
    → is_quote quote ≡ true → o ≡ None → EndsAt quote start value o → HasNoToken (quote ∷ start)
unseen_text quote start value o is none ends =
    no_text quote start value ends.here is ends.pieces ends.last
    (sym ends.closed ∙ ap (λ o. option_map (λ r. chars r.now) o) none)

-- signs

behind_all : (sign rest : List ℕ) → behind (length sign) (sign ++ rest) ≡ Some rest
behind_all [] rest = refl
behind_all (c ∷ cs) rest = behind_all cs rest

class_is : (c : ℕ) → begins_sign c ≡ true → class_of c ≡ remaining
class_is c is =
    remaining_class c (grind (arith, nat_tests)) (grind (arith, nat_tests))
    (grind (arith, nat_tests))

pub seen_sign : (text sign rest : List ℕ) → BeginsWith begins_sign text → begins_gap text ≡ false
    → IsLongestSign text sign → behind (length sign) text ≡ Some rest → HasToken text kind.Sign rest
seen_sign text sign rest (c, cs, front, start) clear longest left =
    let all : behind (length sign) text ≡ Some longest.begins.0 =
    ap (behind (length sign)) longest.begins.1 ∙ behind_all sign longest.begins.0 in
    let both : Some rest ≡ Some longest.begins.0 = sym left ∙ all in
    let same : rest ≡ longest.begins.0 = cc in
    let P : List ℕ → Type 0 = λ t. begins_gap t ≡ false in
    let Q : List ℕ → Type 0 = λ t. HasToken t kind.Sign rest in
    let S : List ℕ → Type 0 = λ t. IsLongestSign t sign in
    subst Q (sym front)
    (sign_found c cs sign rest (class_is c start) (subst P front clear) (subst S front longest)
    (sym front ∙ longest.begins.1 ∙ ap (λ r. sign ++ r) (sym same)))

pub sign_is_there : (text sign : List ℕ) → IsLongestSign text sign
    → behind (length sign) text ≡ None → ⊥
sign_is_there text sign longest none =
    let all : behind (length sign) text ≡ Some longest.begins.0 =
    ap (behind (length sign)) longest.begins.1 ∙ behind_all sign longest.begins.0 in
    cc

pub unseen_sign : (text : List ℕ) → BeginsWith begins_sign text → BeginsWithNoSign text
    → HasNoToken text
unseen_sign text (c, cs, front, start) none =
    let Q : List ℕ → Type 0 = λ t. HasNoToken t in
    let S : List ℕ → Type 0 = λ t. BeginsWithNoSign t in
    subst Q (sym front) (no_sign c cs (class_is c start) (subst S front none))
