-- White space and comments, as they are read and as they are defined.
use Rattle.std.proofs.Common.{◌≡◌, ℕ, ◌<◌, ◌==◌, ◌&&◌, ◌||◌, not, List, [], ◌∷◌, ◌++◌, length, Bool}
use Rattle.std.proofs.Common.{true, false, Some, None, refl, sym, ap, subst, ◌∙◌, arith}
use Rattle.std.proofs.Common.{append_assoc}
use Rattle.std.specs.Prelude.{if◌then◌else◌}
use Rattle.std.specs.List.{list_all, list_any}
use Rattle.std.proofs.lemmas.Bool.Decides.{nat_tests}
use Rattle.sjs_lexer.specs.Characters.{is_line_end, is_in_line, is_white}
use Rattle.sjs_lexer.specs.Reading.{skip_while, behind_char, read_or, past_block, past_comment}
use Rattle.sjs_lexer.specs.Reading.{past_gap}
use Rattle.sjs_lexer.specs.Tokens.{begins_with, has_close, is_at_end_of_line, GapAt, white, line}
use Rattle.sjs_lexer.specs.Tokens.{block, begins_gap}
use Rattle.sjs_lexer.proofs.Options.{if_some}
use Rattle.sjs_lexer.proofs.Runs.{run_of, fails_first}

-- the body of a comment that ends here
pub record IsBody (broken : Bool) (text : List ℕ) (found : Bool × List ℕ) : Type 0 where
  pub body : List ℕ
  pub split : text ≡ body ++ 42 ∷ 47 ∷ found.1
  pub first : has_close (body ++ 42 ∷ []) ≡ false
  pub breaks : found.0 ≡ (broken || list_any is_line_end body)

slash_behind : (cs rest : List ℕ) → behind_char 47 cs ≡ Some rest → cs ≡ 47 ∷ rest
slash_behind [] rest h = cc
slash_behind (c ∷ cs) rest h =
    let both = if_some (c == 47) (Some cs) rest h in
    let first : c ≡ 47 = grind (arith, nat_tests) in
    let last : cs ≡ rest = let e : Some cs ≡ Some rest = both.1 in cc in
    cc

no_slash : (cs : List ℕ) → behind_char 47 cs ≡ None → begins_with 47 cs ≡ false
no_slash [] h = refl
no_slash (c ∷ cs) h =
    elim (c == 47) as (λ b. (if b then Some cs else None) ≡ None → b ≡ false)
    [ true ↦ λ k. cc | false ↦ λ k. refl ] h

-- whether a slash stands first does not depend on what stands behind the star
seam : (body rest : List ℕ) → begins_with 47 (body ++ 42 ∷ rest) ≡ begins_with 47 (body ++ 42 ∷ [])
seam [] rest = refl
seam (c ∷ cs) rest = refl

pub or_false : (b : Bool) → (b || false) ≡ b
or_false true = refl
or_false false = refl

pub or_assoc : (b x y : Bool) → ((b || x) || y) ≡ (b || (x || y))
or_assoc true x y = refl
or_assoc false x y = refl

-- one character more in front, at which the comment does not end
longer : (broken : Bool) (c : ℕ) (cs : List ℕ) (found : Bool × List ℕ)
    → (c == 42 && begins_with 47 cs) ≡ false → IsBody (broken || is_line_end c) cs found
    → IsBody broken (c ∷ cs) found
longer broken c cs found goes_on more =
    let same : begins_with 47 cs ≡ begins_with 47 (more.body ++ 42 ∷ []) =
    ap (begins_with 47) more.split ∙ seam more.body (47 ∷ found.1) in
    let apart : (c == 42 && begins_with 47 (more.body ++ 42 ∷ [])) ≡ false = rw (← same) goes_on in
    record {
      body = c ∷ more.body;
      split = ap (λ t. c ∷ t) more.split;
      first = rw (apart, more.first);
      breaks = more.breaks ∙ or_assoc broken (is_line_end c) (list_any is_line_end more.body);
    }

ends_here : (broken : Bool) (c : ℕ) (cs rest : List ℕ) (found : Bool × List ℕ) → (c == 42) ≡ true
    → behind_char 47 cs ≡ Some rest → Some (broken, rest) ≡ Some found
    → IsBody broken (c ∷ cs) found
ends_here broken c cs rest found star slash h =
    let star_is : c ≡ 42 = grind (arith, nat_tests) in
    let tail : cs ≡ 47 ∷ rest = slash_behind cs rest slash in
    let same : (broken, rest) ≡ found = cc in
    record {
      body = [];
      split = ap (λ x. x ∷ cs) star_is ∙ ap (λ t. 42 ∷ t) tail ∙ ap (λ f. 42 ∷ 47 ∷ f.1) same;
      first = refl;
      breaks = ap (λ f. f.0) (sym same) ∙ sym (or_false broken);
    }

pub body_of : (broken : Bool) (text : List ℕ) (found : Bool × List ℕ)
    → past_block broken text ≡ Some found → IsBody broken text found
body_of broken [] found h = cc
body_of broken (c ∷ cs) found h =
    elim (c == 42) as
    (λ b. (c == 42) ≡ b
    → read_or (if b then behind_char 47 cs else None) broken
    (past_block (broken || is_line_end c) cs) ≡ Some found → IsBody broken (c ∷ cs) found) [
      | true ↦ λ star h.
          elim (behind_char 47 cs) as
          (λ o. behind_char 47 cs ≡ o
          → read_or o broken (past_block (broken || is_line_end c) cs) ≡ Some found
          → IsBody broken (c ∷ cs) found) [
            | Some rest ↦ λ slash h. ends_here broken c cs rest found star slash h
            | None ↦ λ slash h.
                longer broken c cs found (rw (star, no_slash cs slash))
                (body_of (broken || is_line_end c) cs found h)
          ] refl h
      | false ↦ λ star h.
          longer broken c cs found (rw star) (body_of (broken || is_line_end c) cs found h)
    ] refl h

slashed : (cs : List ℕ) → begins_with 47 cs ≡ false → behind_char 47 cs ≡ None
slashed [] h = refl
slashed (c ∷ cs) h = rw h

-- each body is read to its end
pub past_body : (broken : Bool) (body rest : List ℕ) → has_close (body ++ 42 ∷ []) ≡ false
    → past_block broken (body ++ 42 ∷ 47 ∷ rest) ≡ Some (broken || list_any is_line_end body, rest)
past_body broken [] rest first = ap (λ b. Some (b, rest)) (sym (or_false broken))
past_body broken (c ∷ cs) rest first =
    let goes_on : (c == 42 && begins_with 47 (cs ++ 42 ∷ [])) ≡ false = grind (arith, nat_tests) in
    let later : has_close (cs ++ 42 ∷ []) ≡ false = grind (arith, nat_tests) in
    let reads : past_block (broken || is_line_end c) (cs ++ 42 ∷ 47 ∷ rest)
    ≡ Some ((broken || is_line_end c) || list_any is_line_end cs, rest) =
    past_body (broken || is_line_end c) cs rest later in
    let ends : read_or (if c == 42 then behind_char 47 (cs ++ 42 ∷ 47 ∷ rest) else None) broken
    (past_block (broken || is_line_end c) (cs ++ 42 ∷ 47 ∷ rest))
    ≡ past_block (broken || is_line_end c) (cs ++ 42 ∷ 47 ∷ rest)
    =
    elim (c == 42) as
    (λ b. (b && begins_with 47 (cs ++ 42 ∷ [])) ≡ false
    → read_or (if b then behind_char 47 (cs ++ 42 ∷ 47 ∷ rest) else None) broken
    (past_block (broken || is_line_end c) (cs ++ 42 ∷ 47 ∷ rest))
    ≡ past_block (broken || is_line_end c) (cs ++ 42 ∷ 47 ∷ rest)) [
      | true ↦ λ no. rw (slashed (cs ++ 42 ∷ 47 ∷ rest) (seam cs (47 ∷ rest) ∙ no))
      | false ↦ λ no. refl
    ] goes_on in
    ends ∙ reads
    ∙ ap (λ b. Some (b, rest)) (or_assoc broken (is_line_end c) (list_any is_line_end cs))

no_break : (body : List ℕ) → list_all is_in_line body ≡ true → list_any is_line_end body ≡ false
no_break [] all = refl
no_break (c ∷ cs) all =
    let here : is_line_end c ≡ false = grind (arith, nat_tests) in
    let later : list_any is_line_end cs ≡ false = no_break cs (grind (arith, nat_tests)) in
    rw (here, later)

stops_at_end : (rest : List ℕ) → is_at_end_of_line rest ≡ fails_first is_in_line rest
stops_at_end [] = refl
stops_at_end (c ∷ cs) =
    elim (is_line_end c) as (λ b. b ≡ not (not b)) [ true ↦ refl | false ↦ refl ]

skip_run : (body rest : List ℕ) → list_all is_in_line body ≡ true
    → fails_first is_in_line rest ≡ true → skip_while is_in_line (body ++ rest) ≡ rest
skip_run [] [] all stops = refl
skip_run [] (c ∷ cs) all stops = let fails : is_in_line c ≡ false = grind (arith, nat_tests) in
    rw fails
skip_run (c ∷ cs) rest all stops =
    let here : is_in_line c ≡ true = grind (arith, nat_tests) in
    rw here (skip_run cs rest (grind (arith, nat_tests)) stops)

slash_is_not_white : is_white 47 ≡ false
unfolding is_white
slash_is_not_white = refl

comments_break_no_line : (is_line_end 47 ≡ false) × (is_line_end 42 ≡ false)
unfolding is_line_end
comments_break_no_line = (refl, refl)

any-append : (xs ys : List ℕ)
    → list_any is_line_end (xs ++ ys) ≡ (list_any is_line_end xs || list_any is_line_end ys)
any-append [] ys = refl
any-append (x ∷ xs) ys =
    rw (any-append xs ys)
    (sym (or_assoc (is_line_end x) (list_any is_line_end xs) (list_any is_line_end ys)))

-- what is defined is read
pub gap_is_read : (text gap rest : List ℕ) → GapAt text gap rest
    → past_gap text ≡ Some (list_any is_line_end gap, rest)
gap_is_read _ _ _ (white {c} {rest} is) = rw (is, or_false (is_line_end c))
gap_is_read _ _ _ (line body {rest} all ends) =
    rw (
      slash_is_not_white,
      comments_break_no_line.0,
      no_break body all,
      skip_run body rest all (sym (stops_at_end rest) ∙ ends),
    )
gap_is_read _ _ _ (block body {rest} first) =
    rw (
      slash_is_not_white,
      past_body false body rest first,
      comments_break_no_line.0,
      comments_break_no_line.1,
      any-append body (42 ∷ 47 ∷ []),
      comments_break_no_line.0,
      comments_break_no_line.1,
      or_false (list_any is_line_end body),
    )

-- what is read is defined
pub record IsGap (text : List ℕ) (found : Bool × List ℕ) : Type 0 where
  pub gap : List ℕ
  pub is : GapAt text gap found.1
  pub breaks : found.0 ≡ list_any is_line_end gap

white_gap : (c : ℕ) (cs : List ℕ) (found : Bool × List ℕ) → is_white c ≡ true
    → Some (is_line_end c, cs) ≡ Some found → IsGap (c ∷ cs) found
white_gap c cs found is h =
    let same : (is_line_end c, cs) ≡ found = cc in
    let P : Bool × List ℕ → Type 0 = λ f. IsGap (c ∷ cs) f in
    subst P same (record { gap = c ∷ []; is = white is; breaks = sym (or_false (is_line_end c)) })

line_gap : (cs : List ℕ) (found : Bool × List ℕ)
    → Some (false, skip_while is_in_line cs) ≡ Some found → IsGap (47 ∷ 47 ∷ cs) found
line_gap cs found h =
    let run = run_of is_in_line cs in
    let same : (false, skip_while is_in_line cs) ≡ found = cc in
    let P : Bool × List ℕ → Type 0 = λ f. IsGap (47 ∷ 47 ∷ cs) f in
    let Q : List ℕ → Type 0 =
    λ t. GapAt (47 ∷ 47 ∷ t) (47 ∷ 47 ∷ run.word) (skip_while is_in_line cs) in
    subst P same (record {
      gap = 47 ∷ 47 ∷ run.word;
      is =
          subst Q (sym run.split)
          (line run.word run.all (stops_at_end (skip_while is_in_line cs) ∙ run.stops));
      breaks = rw (comments_break_no_line.0, no_break run.word run.all);
    })

block_gap : (cs : List ℕ) (found : Bool × List ℕ) → past_block false cs ≡ Some found
    → IsGap (47 ∷ 42 ∷ cs) found
block_gap cs found h =
    let body = body_of false cs found h in
    let Q : List ℕ → Type 0 =
    λ t. GapAt (47 ∷ 42 ∷ t) (47 ∷ 42 ∷ (body.body ++ 42 ∷ 47 ∷ [])) found.1 in
    record {
      gap = 47 ∷ 42 ∷ (body.body ++ 42 ∷ 47 ∷ []);
      is = subst Q (sym body.split) (block body.body body.first);
      breaks =
          body.breaks
          ∙ sym (rw (
            comments_break_no_line.0,
            comments_break_no_line.1,
            any-append body.body (42 ∷ 47 ∷ []),
            comments_break_no_line.0,
            comments_break_no_line.1,
            or_false (list_any is_line_end body.body),
          ));
    }

comment_gap : (cs : List ℕ) (found : Bool × List ℕ) → past_comment cs ≡ Some found
    → IsGap (47 ∷ cs) found
comment_gap [] found h = cc
comment_gap (c ∷ cs) found h =
    elim (c == 47) as
    (λ b. (c == 47) ≡ b
    → (if b then Some (false, skip_while is_in_line cs)
    else (if c == 42 then past_block false cs else None)) ≡ Some found → IsGap (47 ∷ c
    ∷ cs) found) [
      | true ↦ λ slash h. let is : 47 ≡ c = grind (arith, nat_tests) in
          let P : ℕ → Type 0 = λ x. IsGap (47 ∷ x ∷ cs) found in subst P is (line_gap cs found h)
      | false ↦ λ slash h.
          let both = if_some (c == 42) (past_block false cs) found h in
          let star : (c == 42) ≡ true = both.0 in
          let is : 42 ≡ c = grind (arith, nat_tests) in
          let P : ℕ → Type 0 = λ x. IsGap (47 ∷ x ∷ cs) found in
          subst P is (block_gap cs found both.1)
    ] refl h

pub gap_of : (text : List ℕ) (found : Bool × List ℕ) → past_gap text ≡ Some found → IsGap text found
gap_of [] found h = cc
gap_of (c ∷ cs) found h =
    elim (is_white c) as
    (λ b. is_white c ≡ b
    → (if b then Some (is_line_end c, cs) else (if c == 47 then past_comment cs else None))
    ≡ Some found → IsGap (c ∷ cs) found) [
      | true ↦ λ is h. white_gap c cs found is h
      | false ↦ λ no h.
          let both = if_some (c == 47) (past_comment cs) found h in
          let slash : (c == 47) ≡ true = both.0 in
          let is : 47 ≡ c = grind (arith, nat_tests) in
          let P : ℕ → Type 0 = λ x. IsGap (x ∷ cs) found in
          subst P is (comment_gap cs found both.1)
    ] refl h

pub no_gap : (text gap rest : List ℕ) → past_gap text ≡ None → GapAt text gap rest → ⊥
no_gap text gap rest none is = let found : Bool × List ℕ = (list_any is_line_end gap, rest) in
    let read : past_gap text ≡ Some found = gap_is_read text gap rest is in cc

-- a gap, and then what stands behind it
pub gap_split : (text gap rest : List ℕ) → GapAt text gap rest → text ≡ gap ++ rest
gap_split _ _ _ (white is) = refl
gap_split _ _ _ (line body all ends) = refl
gap_split _ _ _ (block body {rest} first) =
    ap (λ t. 47 ∷ 42 ∷ t) (sym (append_assoc body (42 ∷ 47 ∷ []) rest))

pub gap_is_some : (text gap rest : List ℕ) → GapAt text gap rest → 0 < length gap
gap_is_some _ _ _ (white is) = omega arith
gap_is_some _ _ _ (line body all ends) = omega arith
gap_is_some _ _ _ (block body first) = omega arith

pub gap_begins : (text gap rest : List ℕ) → GapAt text gap rest → begins_gap text ≡ true
gap_begins _ _ _ (white is) = rw is
gap_begins _ _ _ (line body all ends) = rw slash_is_not_white
gap_begins _ _ _ (block body first) = rw slash_is_not_white
