-- A heading is a framed name.
use Rattle.std.proofs.Common.{◌≡◌, ◌≢◌, ◌∙◌, ℕ, suc, ◌+◌, ◌-◌, ◌<◌, ◌&&◌, ◌||◌, List, []}
use Rattle.std.proofs.Common.{◌∷◌, ◌++◌, ◌⊎◌, inl, inr, length, take, drop, Bool, true, false}
use Rattle.std.proofs.Common.{Some, None, refl, sym, ap, arith, subst, append_assoc, length-append}
use Rattle.std.proofs.Common.{cond, nat_lt}
use Rattle.std.specs.Prelude.{if◌then◌else◌}
use Rattle.std.specs.List.{list_all, prefix_len}
use Rattle.std.specs.Str.{bytes_eq}
use Rattle.std.proofs.Math.Seq.{take-append_seam, drop-append_seam}
use Rattle.std.proofs.lemmas.Bool.Decides.{nat_tests}
use Rattle.std.proofs.lemmas.List.{take-append-drop}
use Rattle.std.proofs.lemmas.Slice.Eq.{bytes_eq-Decides}
use Rattle.template_sections.specs.Headings.{IsHeading, heading_name, name_within, is_end, frame}
use Rattle.template_sections.specs.Headings.{is_name_char}
use Rattle.template_sections.proofs.PartsFound.{text_and}

all_append : (p : ℕ → Bool) (xs ys : List ℕ) → list_all p xs ≡ true → list_all p ys ≡ true
    → list_all p (xs ++ ys) ≡ true
all_append p [] ys some more = more
all_append p (x ∷ xs) ys some more =
    let both = text_and (p x) (list_all p xs) some in
    ap (λ b. b && list_all p (xs ++ ys)) both.0 ∙ all_append p xs ys both.1 more

all_front : (p : ℕ → Bool) (xs ys : List ℕ) → list_all p (xs ++ ys) ≡ true
    → list_all p xs ≡ true
all_front p [] ys all = refl
all_front p (x ∷ xs) ys all =
    let both = text_and (p x) (list_all p (xs ++ ys)) all in
    ap (λ b. b && list_all p xs) both.0 ∙ all_front p xs ys both.1

all_prefix : (p : ℕ → Bool) (xs : List ℕ) → list_all p (take (prefix_len p xs) xs) ≡ true
all_prefix p [] = refl
all_prefix p (x ∷ xs) =
    elim (p x) as
    (λ b. p x ≡ b → list_all p (take (cond b (1 + prefix_len p xs) 0) (x ∷ xs)) ≡ true) [
      | true ↦ λ is.
          let n : 1 + prefix_len p xs ≡ suc (prefix_len p xs) = omega arith in
          subst (λ (k : ℕ). list_all p (take k (x ∷ xs)) ≡ true) (sym n)
          (ap (λ b. b && list_all p (take (prefix_len p xs) xs)) is ∙ all_prefix p xs)
      | false ↦ λ is. refl
    ] refl

-- what three underscores and three stand round
record IsFramed (word name : List ℕ) : Type 0 where
  pub split : word ≡ frame ++ (name ++ frame)
  pub long : 6 < length word

within_of : (word name : List ℕ) → name_within word ≡ Some name → IsFramed word name
within_of word name is =
    let rest = drop 3 word in
    let k = length rest - 3 in
    elim (nat_lt 6 (length word)) as
    (λ b. nat_lt 6 (length word) ≡ b
    → (if b then
    (if bytes_eq (take 3 word) frame && bytes_eq (drop k rest) frame
    then Some (take k rest) else None)
    else None) ≡ Some name → IsFramed word name) [
      | true ↦ λ long is.
          elim (bytes_eq (take 3 word) frame && bytes_eq (drop k rest) frame) as
          (λ b. (bytes_eq (take 3 word) frame && bytes_eq (drop k rest) frame) ≡ b
          → (if b then Some (take k rest) else None) ≡ Some name → IsFramed word name) [
            | true ↦ λ framed is.
                let both =
                text_and (bytes_eq (take 3 word) frame) (bytes_eq (drop k rest) frame) framed in
                let front : take 3 word ≡ frame = (bytes_eq-Decides (take 3 word) frame).0 both.0 in
                let back : drop k rest ≡ frame = (bytes_eq-Decides (drop k rest) frame).0 both.1 in
                let same : take k rest ≡ name = cc in
                record {
                  split =
                      sym (take-append-drop 3 word)
                      ∙ ap (λ t. t ++ rest) front
                      ∙ ap (λ t. frame ++ t)
                      (sym (take-append-drop k rest)
                      ∙ ap (λ t. t ++ drop k rest) same ∙ ap (λ t. name ++ t) back);
                  long = grind (arith, nat_tests);
                }
            | false ↦ λ framed is. cc
          ] refl is
      | false ↦ λ short is. cc
    ] refl is

framed_length : (name : List ℕ) → length (frame ++ (name ++ frame)) ≡ length name + 6
framed_length name = simp (length-append) (omega arith)

pub heading_of : (line name : List ℕ) → heading_name line ≡ Some name → IsHeading line name
heading_of line name is =
    let n = prefix_len is_name_char line in
    let word = take n line in
    let end = drop n line in
    elim (is_end end) as
    (λ b. is_end end ≡ b → (if b then name_within word else None) ≡ Some name
    → IsHeading line name) [
      | true ↦ λ ends is.
          let framed = within_of word name is in
          let long : 6 < length name + 6 =
          omega (arith, framed.long, ap length framed.split, framed_length name) in
          let all : list_all is_name_char (frame ++ (name ++ frame)) ≡ true =
          subst (λ w. list_all is_name_char w ≡ true) framed.split (all_prefix is_name_char line) in
          record {
            end = end;
            split =
                sym (take-append-drop n line)
                ∙ ap (λ w. w ++ end) framed.split
                ∙ append_assoc frame (name ++ frame) end
                ∙ ap (λ t. frame ++ t) (append_assoc name frame end);
            some = λ none. let no : length name ≡ 0 = ap length none in omega arith;
            chars = all_front is_name_char name frame all;
            ends = ends;
          }
      | false ↦ λ ends is. cc
    ] refl is

within_found : (name : List ℕ) → name ≢ [] → name_within (frame ++ (name ++ frame)) ≡ Some name
within_found [] some = absurd (some refl)
within_found (c ∷ cs) some =
    let name = c ∷ cs in
    let rest = name ++ frame in
    let len : length rest ≡ length name + 3 = length-append name frame in
    let k : length rest - 3 ≡ length name = omega arith in
    let long : nat_lt 6 (length (frame ++ rest)) ≡ true = grind (arith, nat_tests, len) in
    let back : bytes_eq (drop (length rest - 3) rest) frame ≡ true =
    (bytes_eq-Decides (drop (length rest - 3) rest) frame).1
    (ap (λ n. drop n rest) k ∙ drop-append_seam name frame) in
    let front : take (length rest - 3) rest ≡ name =
    ap (λ n. take n rest) k ∙ take-append_seam name frame in
    ap
    (λ b. if b then
    (if bytes_eq frame frame && bytes_eq (drop (length rest - 3) rest) frame
    then Some (take (length rest - 3) rest) else None)
    else None)
    long
    ∙ ap
    (λ b. if bytes_eq frame frame && b then Some (take (length rest - 3) rest) else None)
    back
    ∙ ap (λ t. Some t) front

or_cases : (a b : Bool) → (a || b) ≡ true → (a ≡ true) ⊎ (b ≡ true)
or_cases true b is = inl refl
or_cases false b is = inr is

prefix_of_end : (end : List ℕ) → is_end end ≡ true → prefix_len is_name_char end ≡ 0
prefix_of_end end is =
    elim (or_cases (bytes_eq end [] || bytes_eq end (10 ∷ [])) (bytes_eq end (13 ∷ 10 ∷ [])) is) [
      | inl some ↦
          elim (or_cases (bytes_eq end []) (bytes_eq end (10 ∷ [])) some) [
            | inl none ↦ ap (prefix_len is_name_char) ((bytes_eq-Decides end []).0 none)
            | inr feed ↦ ap (prefix_len is_name_char) ((bytes_eq-Decides end (10 ∷ [])).0 feed)
          ]
      | inr both ↦
          ap (prefix_len is_name_char) ((bytes_eq-Decides end (13 ∷ 10 ∷ [])).0 both)
    ]

prefix_of_all : (p : ℕ → Bool) (xs ys : List ℕ) → list_all p xs ≡ true → prefix_len p ys ≡ 0
    → prefix_len p (xs ++ ys) ≡ length xs
prefix_of_all p [] ys all none = none
prefix_of_all p (x ∷ xs) ys all none =
    let both = text_and (p x) (list_all p xs) all in
    let rest = prefix_of_all p xs ys both.1 none in
    ap (λ b. cond b (1 + prefix_len p (xs ++ ys)) 0) both.0 ∙ omega (arith, rest)

named : (word end name : List ℕ) (n : ℕ) → n ≡ length word → is_end end ≡ true
    → name_within word ≡ Some name
    → (if is_end (drop n (word ++ end)) then name_within (take n (word ++ end)) else None)
    ≡ Some name
named word end name n same ends within =
    ap
    (λ m. if is_end (drop m (word ++ end)) then name_within (take m (word ++ end)) else None)
    same
    ∙ ap
    (λ e. if is_end e then name_within (take (length word) (word ++ end)) else None)
    (drop-append_seam word end)
    ∙ ap (λ w. if is_end end then name_within w else None) (take-append_seam word end)
    ∙ ap (λ b. if b then name_within word else None) ends ∙ within

pub heading_found : (line name : List ℕ) → IsHeading line name → heading_name line ≡ Some name
heading_found line name is =
    let word = frame ++ (name ++ frame) in
    let split : line ≡ word ++ is.end =
    is.split
    ∙ ap (λ t. frame ++ t) (sym (append_assoc name frame is.end))
    ∙ sym (append_assoc frame (name ++ frame) is.end) in
    let all : list_all is_name_char word ≡ true =
    all_append is_name_char frame (name ++ frame) refl
    (all_append is_name_char name frame is.chars refl) in
    subst (λ l. heading_name l ≡ Some name) (sym split)
    (named word is.end name (prefix_len is_name_char (word ++ is.end))
    (prefix_of_all is_name_char word is.end all (prefix_of_end is.end is.ends))
    is.ends (within_found name is.some))
