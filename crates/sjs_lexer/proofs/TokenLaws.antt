-- One text is made tokens in one way, or refused at one place.
use Rattle.std.proofs.Common.{◌≡◌, ℕ, ◌+◌, ◌-◌, ◌≤◌, ◌<◌, ◌||◌, List, [], ◌∷◌, ◌++◌, length, Bool}
use Rattle.std.proofs.Common.{true, false, Some, refl, sym, ap, subst, ◌∙◌, arith}
use Rattle.std.specs.Prelude.{pos}
use Rattle.std.specs.List.{list_any}
use Rattle.std.proofs.lemmas.List.{length-append}
use Rattle.sjs_lexer.specs.declared.token.Token.{Token}
use Rattle.sjs_lexer.specs.declared.token.TokenKind.{TokenKind}
use Rattle.sjs_lexer.specs.declared.token.TokenKind.TheVariants as kind
use Rattle.sjs_lexer.specs.Characters.{is_line_end}
use Rattle.sjs_lexer.specs.Tokens.{Spells, IsToken, name, reserved, number, quoted, sign}
use Rattle.sjs_lexer.specs.Tokens.{begins_gap, GapAt, Skips, skips_none, skips_more, TokenAt}
use Rattle.sjs_lexer.specs.Tokens.{TokensTo, tokens_none, tokens_more, bytes_in, AreTokens}
use Rattle.sjs_lexer.specs.Tokens.{IsRefusedAt, IsStuck}
use Rattle.sjs_lexer.proofs.GapsRead.{gap_is_read, gap_begins, gap_split, no_gap}
use Rattle.sjs_lexer.proofs.PiecesRead.{written_are_read, one_reading, quote_is_no_piece}
use Rattle.sjs_lexer.proofs.TokensFound.{class_of_kind, letter, digit, quotes, remaining}
use Rattle.sjs_lexer.proofs.TokensFound.{number_class, text_class, sign_class, same_class}
use Rattle.sjs_lexer.proofs.TokensFound.{append_cancel}
use Rattle.sjs_lexer.proofs.Walks.{token_is_some}

-- a gap is read in one way
one_gap : (text gap gap_too rest rest_too : List ℕ) → GapAt text gap rest
    → GapAt text gap_too rest_too → (gap ≡ gap_too) × (rest ≡ rest_too)
one_gap text gap gap_too rest rest_too is too =
    let one : Bool × List ℕ = (list_any is_line_end gap, rest) in
    let two : Bool × List ℕ = (list_any is_line_end gap_too, rest_too) in
    let both : Some one ≡ Some two =
    sym (gap_is_read text gap rest is) ∙ gap_is_read text gap_too rest_too too in
    let same : one ≡ two = cc in
    let tails : rest ≡ rest_too = ap (λ f. f.1) same in
    let whole : gap ++ rest ≡ gap_too ++ rest =
    sym (gap_split text gap rest is) ∙ gap_split text gap_too rest_too too
    ∙ ap (λ r. gap_too ++ r) (sym tails) in
    (append_cancel gap gap_too rest whole, tails)

clear_stands : (here : List ℕ) → begins_gap here ≡ false → (gap rest : List ℕ) → GapAt here gap rest
    → ⊥
clear_stands here clear gap rest is =
    let begins : begins_gap here ≡ true = gap_begins here gap rest is in
    let no : true ≡ false = sym begins ∙ clear in cc

-- all white space and comments are passed in one way
one_skip : (text here there : List ℕ) (broken broken_too : Bool) → Skips text broken here
    → Skips text broken_too there → ((gap rest : List ℕ) → GapAt here gap rest → ⊥)
    → ((gap rest : List ℕ) → GapAt there gap rest → ⊥) → (broken ≡ broken_too) × (here ≡ there)
one_skip text here there _ _ skips_none skips_none stands stands_too = (refl, refl)
one_skip text here there _ _ skips_none (skips_more gap next broken is more) stands stands_too =
    absurd (stands gap next is)
one_skip text here there _ _ (skips_more gap next broken is more) skips_none stands stands_too =
    absurd (stands_too gap next is)
one_skip text here there _ _ (skips_more gap next broken is more)
    (skips_more gap_too next_too broken_too is_too more_too) stands stands_too =
    let gaps = one_gap text gap gap_too next next_too is is_too in
    let P : List ℕ → Type 0 = λ t. Skips t broken_too there in
    let rest =
    one_skip next here there broken broken_too more (subst P (sym gaps.1) more_too) stands
    stands_too in (
      ap (λ g. list_any is_line_end g || broken) gaps.0
          ∙ ap (λ b. list_any is_line_end gap_too || b) rest.0,
      rest.1,
    )

-- characters are one kind of token
letter_kind : (word : List ℕ) (j k : TokenKind) → class_of_kind j ≡ letter
    → class_of_kind k ≡ letter → IsToken word j → IsToken word k → j ≡ k
letter_kind word _ _ first second (name is unknown) (name is_too unknown_too) = refl
letter_kind word _ _ first second (name is unknown) (reserved is_too known_too) =
    let no : true ≡ false = sym known_too ∙ unknown in cc
letter_kind word _ _ first second (reserved is known) (name is_too unknown_too) =
    let no : true ≡ false = sym known ∙ unknown_too in cc
letter_kind word _ _ first second (reserved is known) (reserved is_too known_too) = refl
letter_kind word _ _ first second (name is unknown) (number is_too) = cc
letter_kind word _ _ first second (name is unknown) (sign is_too) = cc
letter_kind word _ _ first second (reserved is known) (number is_too) = cc
letter_kind word _ _ first second (reserved is known) (sign is_too) = cc
letter_kind word _ _ first second (number is) is_too = cc
letter_kind word _ _ first second (sign is) is_too = cc
letter_kind _ _ _ first second (quoted w is spells) is_too = cc
letter_kind _ _ k first second (name is unknown) (quoted w is_too spells) = cc
letter_kind _ _ k first second (reserved is known) (quoted w is_too spells) = cc

number_kind : (word : List ℕ) (j k : TokenKind) → class_of_kind j ≡ digit → class_of_kind k ≡ digit
    → IsToken word j → IsToken word k → j ≡ k
number_kind word j k first second is is_too =
    let one = number_class word j first is in
    let two = number_class word k second is_too in
    let both : Some one.0 ≡ Some two.0 = sym one.2 ∙ two.2 in
    let same : one.0 ≡ two.0 = cc in
    one.1 ∙ ap (λ n. kind.Number (pos n)) same ∙ sym two.1

text_kind : (word : List ℕ) (j k : TokenKind) → class_of_kind j ≡ quotes → class_of_kind k ≡ quotes
    → IsToken word j → IsToken word k → j ≡ k
text_kind word j k first second is is_too =
    let one = text_class word j first is in
    let two = text_class word k second is_too in
    let whole : one.0 ∷ (one.1 ++ one.0 ∷ []) ≡ two.0 ∷ (two.1 ++ two.0 ∷ []) = sym one.3 ∙ two.3 in
    let same_quote : one.0 ≡ two.0 = cc in
    let bodies : one.1 ++ one.0 ∷ [] ≡ two.1 ++ two.0 ∷ [] = cc in
    let bodies_too : one.1 ++ one.0 ∷ [] ≡ two.1 ++ one.0 ∷ [] =
    bodies ∙ ap (λ q. two.1 ++ q ∷ []) (sym same_quote) in
    let same_body : one.1 ≡ two.1 = append_cancel one.1 two.1 (one.0 ∷ []) bodies_too in
    let P : ℕ → Type 0 = λ q. Spells q two.1 two.2 in
    let Q : List ℕ → Type 0 = λ w. Spells one.0 w two.2 in
    let spells : Spells one.0 one.1 two.2 =
    subst Q (sym same_body) (subst P (sym same_quote) two.6) in
    let last = quote_is_no_piece one.0 [] in
    let value =
    one_reading one.0 (one.1 ++ one.0 ∷ []) one.2 two.2 (one.0 ∷ []) (one.0 ∷ [])
    (written_are_read one.0 one.1 one.2 (one.0 ∷ []) one.5 one.6)
    (written_are_read one.0 one.1 two.2 (one.0 ∷ []) one.5 spells) last last in
    one.4 ∙ ap (λ v. kind.Text v) value.0 ∙ sym two.4

sign_kind : (word : List ℕ) (j k : TokenKind) → class_of_kind j ≡ remaining
    → class_of_kind k ≡ remaining → IsToken word j → IsToken word k → j ≡ k
sign_kind word j k first second is is_too =
    (sign_class word j first is).0 ∙ sym (sign_class word k second is_too).0

pub one_kind : (word : List ℕ) (j k : TokenKind) → IsToken word j → IsToken word k → j ≡ k
one_kind word j k is is_too =
    let same : class_of_kind j ≡ class_of_kind k = same_class word [] word [] j k refl is is_too in
    elim (class_of_kind j) as (λ c. class_of_kind j ≡ c → j ≡ k) [
      | letter ↦ λ class. letter_kind word j k class (sym same ∙ class) is is_too
      | digit ↦ λ class. number_kind word j k class (sym same ∙ class) is is_too
      | quotes ↦ λ class. text_kind word j k class (sym same ∙ class) is is_too
      | remaining ↦ λ class. sign_kind word j k class (sym same ∙ class) is is_too
    ] refl

same_front : (xs ys rest more : List ℕ) → xs ++ rest ≡ ys ++ more → length xs ≡ length ys
    → (xs ≡ ys) × (rest ≡ more)
same_front [] [] rest more whole size = (refl, whole)
same_front [] (y ∷ ys) rest more whole size = absurd (omega arith)
same_front (x ∷ xs) [] rest more whole size = absurd (omega arith)
same_front (x ∷ xs) (y ∷ ys) rest more whole size =
    let first : x ≡ y = cc in
    let tails : xs ++ rest ≡ ys ++ more = cc in
    let behind = same_front xs ys rest more tails (omega arith) in
    (ap (λ z. z ∷ xs) first ∙ ap (λ zs. y ∷ zs) behind.0, behind.1)

-- one token can be read here at most
pub one_token : (text word word_too rest rest_too : List ℕ) (j k : TokenKind)
    → TokenAt text word rest j → TokenAt text word_too rest_too k
    → (word ≡ word_too) × (rest ≡ rest_too) × (j ≡ k)
one_token text word word_too rest rest_too j k at at_too =
    let less : length word_too ≤ length word =
    at.longest word_too rest_too k at_too.split at_too.is in
    let more : length word ≤ length word_too = at_too.longest word rest j at.split at.is in
    let size : length word ≡ length word_too = omega arith in
    let front = same_front word word_too rest rest_too (sym at.split ∙ at_too.split) size in
    let P : List ℕ → Type 0 = λ w. IsToken w k in
    (front.0, front.1, one_kind word j k at.is (subst P (sym front.0) at_too.is))

-- white space and comments lead from here to where nothing can be read
pub record IsLast (left : List ℕ) : Type 0 where
  pub broken : Bool
  pub here : List ℕ
  pub skips : Skips left broken here
  pub no_gap : (gap rest : List ℕ) → GapAt here gap rest → ⊥
  pub no_token : (word rest : List ℕ) (k : TokenKind) → TokenAt here word rest k → ⊥

not_last : (left here word rest : List ℕ) (broken : Bool) (k : TokenKind) → IsLast left
    → Skips left broken here → TokenAt here word rest k → ⊥
not_last left here word rest broken k last skips at =
    let same =
    one_skip left last.here here last.broken broken last.skips skips last.no_gap
    (clear_stands here at.clear) in
    let P : List ℕ → Type 0 = λ h. TokenAt h word rest k in
    last.no_token word rest k (subst P (sym same.1) at)

same_tokens : (whole : ℕ) (here here_too rest rest_too : List ℕ) (broken broken_too : Bool)
    (j k : TokenKind) (ts us : List Token) → here ≡ here_too → rest ≡ rest_too → broken ≡ broken_too
    → j ≡ k → ts ≡ us → let one : List Token =
    record {
      kind =
          j;
      from =
          whole - bytes_in here;
      to =
          whole - bytes_in rest;
      after_break =
          broken;
    } ∷ ts in let two : List Token = record {
      kind =
          k;
      from =
          whole - bytes_in here_too;
      to =
          whole - bytes_in rest_too;
      after_break = broken_too;
    } ∷ us in one ≡ two
same_tokens whole here here_too rest rest_too broken broken_too j k ts us same_here same_rest
    same_broken same_kind same_more =
    let P : List ℕ → List ℕ → Bool → TokenKind → List Token → List Token =
    λ h r b c t.
    record { kind = c; from = whole - bytes_in h; to = whole - bytes_in r; after_break = b }
    ∷ t in
    ap (λ h. P h rest broken j ts) same_here ∙ ap (λ r. P here_too r broken j ts) same_rest
    ∙ ap (λ b. P here_too rest_too b j ts) same_broken
    ∙ ap (λ c. P here_too rest_too broken_too c ts) same_kind
    ∙ ap (λ t. P here_too rest_too broken_too k t) same_more

pub one_walk : (whole : ℕ) (text left left_too : List ℕ) (ts us : List Token)
    → TokensTo whole text ts left → TokensTo whole text us left_too → IsLast left → IsLast left_too
    → (ts ≡ us) × (left ≡ left_too)
one_walk whole text left left_too _ _ tokens_none tokens_none last last_too = (refl, refl)
one_walk whole text left left_too _ _ tokens_none
    (tokens_more here word rest {broken = broken} {k = k} skips at more) last last_too =
    absurd (not_last text here word rest broken k last skips at)
one_walk whole text left left_too _ _
    (tokens_more here word rest {broken = broken} {k = k} skips at more) tokens_none last last_too =
    absurd (not_last text here word rest broken k last_too skips at)
one_walk whole text left left_too _ _
    (tokens_more here word rest {broken = broken} {k = j} {ts = ts} skips at more)
    (tokens_more here_too word_too rest_too {broken = broken_too} {k = k} {ts = us} skips_too at_too
    more_too) last last_too =
    let spot =
    one_skip text here here_too broken broken_too skips skips_too (clear_stands here at.clear)
    (clear_stands here_too at_too.clear) in
    let P : List ℕ → Type 0 = λ h. TokenAt h word_too rest_too k in
    let token = one_token here word word_too rest rest_too j k at (subst P (sym spot.1) at_too) in
    let Q : List ℕ → Type 0 = λ t. TokensTo whole t us left_too in
    let behind =
    one_walk whole rest left left_too ts us more (subst Q (sym token.1) more_too) last last_too
    in (
      same_tokens whole here here_too rest rest_too broken broken_too j k ts us spot.1 token.1 spot.0
          token.2 behind.0,
      behind.1,
    )

-- nothing is read at the end
end_is_last : (left : List ℕ) (broken : Bool) → Skips left broken [] → IsLast left
end_is_last left broken skips = record {
  broken = broken;
  here = [];
  skips = skips;
  no_gap = λ gap rest is. no_gap [] gap rest refl is;
  no_token = λ word rest k at. let some : 0 < length word = token_is_some word k at.is in
      let none : length word + length rest ≡ 0 = sym (simp length-append at (ap length at.split)) in
      absurd (omega arith);
}

stuck_is_last : (left here : List ℕ) (broken : Bool) → Skips left broken here → IsStuck here
    → IsLast left
stuck_is_last left here broken skips stuck =
    record {
      broken =
          broken;
      here = here;
      skips = skips;
      no_gap = stuck.no_gap;
      no_token = stuck.no_token;
    }

pub tokens_are_one : (text : List ℕ) (ts us : List Token) → AreTokens text ts → AreTokens text us
    → ts ≡ us
tokens_are_one text ts us are are_too =
    (one_walk (bytes_in text) text are.last are_too.last ts us are.tokens are_too.tokens
    (end_is_last are.last are.broken are.behind)
    (end_is_last are_too.last are_too.broken are_too.behind)).0

-- where two walks end, the same is left
last_spot : (left left_too : List ℕ) → left ≡ left_too → (one : IsLast left)
    → (two : IsLast left_too) → one.here ≡ two.here
last_spot left left_too same one two =
    let P : List ℕ → Type 0 = λ l. Skips l two.broken two.here in
    (one_skip left one.here two.here one.broken two.broken one.skips (subst P (sym same) two.skips)
    one.no_gap two.no_gap).1

pub tokens_or_refusal : (text : List ℕ) (ts : List Token) (place : ℕ) → AreTokens text ts
    → IsRefusedAt text place → ⊥
unfolding stuck_is_last end_is_last
tokens_or_refusal text ts place are refused =
    let one = end_is_last are.last are.broken are.behind in
    let two = stuck_is_last refused.last refused.here refused.broken refused.behind refused.stuck in
    let walk =
    one_walk (bytes_in text) text are.last refused.last ts refused.before are.tokens
    refused.tokens one two in
    refused.stuck.more (sym (last_spot are.last refused.last walk.1 one two))

pub one_refusal : (text : List ℕ) (place place_too : ℕ) → IsRefusedAt text place
    → IsRefusedAt text place_too → place ≡ place_too
unfolding stuck_is_last
one_refusal text place place_too refused refused_too =
    let one = stuck_is_last refused.last refused.here refused.broken refused.behind refused.stuck in
    let two =
    stuck_is_last refused_too.last refused_too.here refused_too.broken refused_too.behind
    refused_too.stuck in
    let walk =
    one_walk (bytes_in text) text refused.last refused_too.last refused.before
    refused_too.before refused.tokens refused_too.tokens one two in
    refused.at
    ∙ ap (λ h. bytes_in text - bytes_in h)
    (last_spot refused.last refused_too.last walk.1 one two) ∙ sym refused_too.at
