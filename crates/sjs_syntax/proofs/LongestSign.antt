-- The first text of a table with which a text begins; where the texts of the table never grow, it
-- is the longest.
use Rattle.std.proofs.Common.{◌≡◌, ℕ, ◌≤◌, ◌&&◌, List, [], ◌∷◌, ◌++◌, length, take, drop, Bool}
use Rattle.std.proofs.Common.{true, false, Option, Some, None, refl, sym, ap, ◌∙◌, arith, nat_eq}
use Rattle.std.proofs.Common.{nat_le}
use Rattle.std.specs.Prelude.{if◌then◌else◌, option_map, IfSome, IfNone, encode_utf8_all}
use Rattle.std.specs.List.{starts_with, list_all}
use Rattle.std.specs.Str.{bytes_eq, chars, IsUtf8}
use denote.Ref.{Bor}
use Rattle.std.proofs.Math.Seq.{take-append_seam}
use Rattle.std.proofs.lemmas.Slice.Eq.{bytes_eq-Decides}
use Rattle.std.proofs.lemmas.Bool.Decides.{nat_tests}
use Rattle.std.proofs.lemmas.List.{take-append-drop}
use Rattle.std.proofs.lemmas.Str.{chars-append, encodes-chars, encodes-append, encodes-IsAscii}
use Rattle.std.proofs.lemmas.Str.{IsUtf8-from_ascii}
use Rattle.gtm_base.specs.Ascii.{is_all_ascii}
use Rattle.gtm_base.proofs.Characters.{IsAscii-from_test, chars-ascii}
use Rattle.sjs_syntax.specs.Words.{Entry, is_entry, first_entry, signs, is_sign, IsLongestSign}
use Rattle.sjs_syntax.specs.Words.{BeginsWithNoSign}

-- a test that passes at each text of a table passes at a text of it
pub entry_passes : (P : List ℕ → Bool) (es : List Entry) (s : List ℕ)
    → list_all (λ e. P e.0) es ≡ true → is_entry es s ≡ true → P s ≡ true
entry_passes P [] s all is = cc
entry_passes P (e ∷ es) s all is =
    let front : P e.0 ≡ true = grind (arith, nat_tests) in
    let others : list_all (λ e. P e.0) es ≡ true = grind (arith, nat_tests) in
    elim (bytes_eq e.0 s) as
    (λ b. bytes_eq e.0 s ≡ b → (if b then true else is_entry es s) ≡ true → P s ≡ true) [
      | true ↦ λ same is. ap P (sym ((bytes_eq-Decides e.0 s).0 same)) ∙ front
      | false ↦ λ other is. entry_passes P es s others is
    ] refl is

pub begins_from_append : (text front rest : List ℕ) → text ≡ front ++ rest
    → starts_with nat_eq text front ≡ true
begins_from_append text front rest split =
    (bytes_eq-Decides front (take (length front) text)).1
    (sym (ap (λ t. take (length front) t) split ∙ take-append_seam front rest))

pub append_from_begins : (text front : List ℕ) → starts_with nat_eq text front ≡ true
    → text ≡ front ++ drop (length front) text
append_from_begins text front begins =
    sym (take-append-drop (length front) text)
    ∙ ap (λ t. t ++ drop (length front) text)
    (sym ((bytes_eq-Decides front (take (length front) text)).0 begins))

-- no text of the table is longer than one before it
pub falls : List Entry → Bool
falls [] = true
falls (e ∷ es) = list_all (λ other. nat_le (length other.0) (length e.0)) es && falls es

-- what was found first
pub record IsFirst (es : List Entry) (text found : List ℕ) : Type 0 where
  pub is : is_entry es found ≡ true
  pub begins : starts_with nat_eq text found ≡ true
  pub longest : (other : List ℕ) → is_entry es other ≡ true → starts_with nat_eq text other ≡ true
      → length other ≤ length found

not_longer : (es : List Entry) (e : Entry) (other : List ℕ)
    → list_all (λ o. nat_le (length o.0) (length e.0)) es ≡ true → is_entry (e ∷ es) other ≡ true
    → length other ≤ length e.0
not_longer es e other all is =
    elim (bytes_eq e.0 other) as
    (λ b. bytes_eq e.0 other ≡ b → (if b then true else is_entry es other) ≡ true
    → length other ≤ length e.0) [
      | true ↦ λ same is. let e : e.0 ≡ other = (bytes_eq-Decides e.0 other).0 same in
          omega (arith, ap length e)
      | false ↦ λ differs is. let test : nat_le (length other) (length e.0) ≡ true =
          entry_passes (λ o. nat_le (length o) (length e.0)) es other all is in
          grind (arith, nat_tests)
    ] refl is

pub first_is : (es : List Entry) (text found : List ℕ) → falls es ≡ true
    → first_entry es text ≡ Some found → IsFirst es text found
unfolding falls
first_is [] text found fall is = cc
first_is (e ∷ es) text found fall is =
    let shorter : list_all (λ other. nat_le (length other.0) (length e.0)) es ≡ true =
    grind (arith, nat_tests) in
    let falling : falls es ≡ true = grind (arith, nat_tests) in
    elim (starts_with nat_eq text e.0) as
    (λ b. starts_with nat_eq text e.0 ≡ b
    → (if b then Some e.0 else first_entry es text) ≡ Some found
    → IsFirst (e ∷ es) text found) [
      | true ↦ λ begins is.
          let same : e.0 ≡ found = cc in
          record {
            is = rw ((bytes_eq-Decides e.0 found).1 same);
            begins = rw (← same) begins;
            longest = λ other among starts. rw (← same) (not_longer es e other shorter among);
          }
      | false ↦ λ differs is.
          let rest = first_is es text found falling is in
          record {
            is =
                elim (bytes_eq e.0 found) as (λ b. (if b then true else is_entry es found) ≡ true)
                [ true ↦ refl | false ↦ rest.is ];
            begins = rest.begins;
            longest = λ other among starts.
                elim (bytes_eq e.0 other) as
                (λ b. bytes_eq e.0 other ≡ b → (if b then true else is_entry es other) ≡ true
                → length other ≤ length found) [
                  | true ↦ λ same is.
                      absurd (let front : e.0 ≡ other = (bytes_eq-Decides e.0 other).0 same in
                      let q : starts_with nat_eq text e.0 ≡ true = rw front starts in
                      let no : true ≡ false = sym q ∙ differs in cc)
                  | false ↦ λ away is. rest.longest other is starts
                ] refl among;
          }
    ] refl is

pub none_begins : (es : List Entry) (text other : List ℕ) → first_entry es text ≡ None
    → is_entry es other ≡ true → starts_with nat_eq text other ≡ true → ⊥
none_begins [] text other none among starts = cc
none_begins (e ∷ es) text other none among starts =
    elim (starts_with nat_eq text e.0) as
    (λ b. starts_with nat_eq text e.0 ≡ b → (if b then Some e.0 else first_entry es text) ≡ None
    → ⊥) [
      | true ↦ λ begins none. cc
      | false ↦ λ differs none.
          elim (bytes_eq e.0 other) as
          (λ b. bytes_eq e.0 other ≡ b → (if b then true else is_entry es other) ≡ true → ⊥) [
            | true ↦ λ same is. let front : e.0 ≡ other = (bytes_eq-Decides e.0 other).0 same in
                let q : starts_with nat_eq text e.0 ≡ true = rw front starts in
                let no : true ≡ false = sym q ∙ differs in cc
            | false ↦ λ away is. none_begins es text other none is starts
          ] refl among
    ] refl none

signs_fall : falls signs ≡ true
unfolding falls signs
signs_fall = refl

signs_are_ascii : list_all (λ e. is_all_ascii e.0) signs ≡ true
unfolding signs
signs_are_ascii = refl

-- between the bytes of a text and its characters
pub to_chars : (bytes sign rest : List ℕ) → is_sign sign ≡ true → bytes ≡ sign ++ rest
    → chars bytes ≡ sign ++ chars rest
to_chars bytes sign rest is split =
    let ascii : is_all_ascii sign ≡ true =
    entry_passes is_all_ascii signs sign signs_are_ascii is in
    ap chars split ∙ chars-append sign rest (IsUtf8-from_ascii sign (IsAscii-from_test sign ascii))
    ∙ ap (λ s. s ++ chars rest) (chars-ascii sign ascii)

pub to_bytes : (bytes sign rest : List ℕ) → IsUtf8 bytes → is_sign sign ≡ true
    → chars bytes ≡ sign ++ rest → bytes ≡ sign ++ encode_utf8_all rest
to_bytes bytes sign rest utf8 is split =
    let ascii : is_all_ascii sign ≡ true =
    entry_passes is_all_ascii signs sign signs_are_ascii is in
    sym (encodes-chars bytes utf8) ∙ ap encode_utf8_all split ∙ encodes-append sign rest
    ∙ ap (λ s. s ++ encode_utf8_all rest) (encodes-IsAscii sign (IsAscii-from_test sign ascii))

longest_of : (bytes sign : List ℕ) → IsUtf8 bytes → first_entry signs bytes ≡ Some sign
    → IsLongestSign (chars bytes) sign
longest_of bytes sign utf8 found =
    let first = first_is signs bytes sign signs_fall found in
    record {
      is = first.is;
      begins = (
        chars (drop (length sign) bytes),
        to_chars bytes sign _ first.is (append_from_begins bytes sign first.begins),
      );
      longest =
          λ other rest is split.
          first.longest other is
          (begins_from_append bytes other _ (to_bytes bytes other rest utf8 is split));
    }

pub found_sign : (bytes : List ℕ) (r : Option (Bor (List ℕ))) → IsUtf8 bytes
    → option_map (λ f. f.now) r ≡ first_entry signs bytes
    → IfSome r (λ sign. IsLongestSign (chars bytes) sign.now)
found_sign bytes None utf8 found = tt
found_sign bytes (Some sign) utf8 found = longest_of bytes sign.now utf8 (sym found)

pub found_none : (bytes : List ℕ) (r : Option (Bor (List ℕ))) → IsUtf8 bytes
    → option_map (λ f. f.now) r ≡ first_entry signs bytes
    → IfNone r (BeginsWithNoSign (chars bytes))
found_none bytes None utf8 found =
    λ sign rest is split.
    none_begins signs bytes sign (sym found) is
    (begins_from_append bytes sign _ (to_bytes bytes sign rest utf8 is split))
found_none bytes (Some sign) utf8 found = tt
