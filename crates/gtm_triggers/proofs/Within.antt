-- Bytes that begin with others, or have them somewhere; a call that asks after one that left all.
use Rattle.std.proofs.Common.{◌≡◌, ◌⊎◌, inl, inr, ℕ, List, [], ◌∷◌, ◌++◌, Bool, true}
use Rattle.std.proofs.Common.{false, refl, ap, sym, ◌∙◌, subst, Result, Ok, Err}
use Rattle.std.specs.Prelude.{◌||◌, ◌&&◌, nat_eq, Contains}
use Rattle.std.specs.List as list
use Rattle.std.specs.Str.Iter.{HasSubslice}
use Rattle.std.proofs.lemmas.Bool.{eqb-true, eq-eqb}
use Rattle.gtm_base.specs.Engines.{EnginesState, HandsOn}
use Rattle.gtm_triggers.specs.Texts.{have}
use Rattle.variable_kinds.specs.Ends.{Asks, RefusesOnly, value_refusal}
use Rattle.variable_kinds.specs.declared.value_end.ValueEnd.{ValueEnd}
use Rattle.variable_kinds.specs.declared.value_end.ValueEnd.TheVariants.{OutOfMemory, EngineRefused}

one_holds : (first later : Bool) → (first || later) ≡ true → (first ≡ true) ⊎ (later ≡ true)
one_holds true later is = inl refl
one_holds false later is = inr is

both_hold : (first later : Bool) → (first && later) ≡ true → (first ≡ true) × (later ≡ true)
both_hold true later is = (refl, is)
both_hold false later is = absurd (cc is)

or_right : (first later : Bool) → later ≡ true → (first || later) ≡ true
or_right true later is = refl
or_right false later is = is

or_left : (first later : Bool) → first ≡ true → (first || later) ≡ true
or_left true later is = refl
or_left false later is = absurd (cc is)

-- bytes that begin with others have a rest
begin_to : (part bytes : List ℕ) → list.starts_with nat_eq bytes part ≡ true
    → (rest : List ℕ) × (bytes ≡ part ++ rest)
begin_to [] bytes is = (bytes, refl)
begin_to (p ∷ ps) [] is = absurd (cc is)
begin_to (p ∷ ps) (b ∷ bs) is =
    let both = both_hold (nat_eq p b) (list.starts_with nat_eq bs ps) is in
    let later = begin_to ps bs both.1 in
    (later.0, λ i. sym (eqb-true p b both.0) i ∷ later.1 i)

begin_from : (part rest : List ℕ) → list.starts_with nat_eq (part ++ rest) part ≡ true
begin_from [] rest = refl
begin_from (p ∷ ps) rest =
    (λ i. eq-eqb p p refl i && list.starts_with nat_eq (ps ++ rest) ps) ∙ begin_from ps rest

have_here : (part bytes : List ℕ) → list.starts_with nat_eq bytes part ≡ true
    → have bytes part ≡ true
have_here part [] is = is
have_here part (b ∷ bs) is =
    or_left (list.starts_with nat_eq (b ∷ bs) part) (have bs part) is

have_to : (part bytes : List ℕ) → have bytes part ≡ true → HasSubslice bytes part
have_to part [] is = let found = begin_to part [] is in ([], found.0, found.1)
have_to part (b ∷ bs) is =
    elim (one_holds (list.starts_with nat_eq (b ∷ bs) part) (have bs part) is) [
      | inl here ↦ (let found = begin_to part (b ∷ bs) here in ([], found.0, found.1))
      | inr later ↦
          (let found = have_to part bs later in
          (b ∷ found.0, found.1, ap (λ rest. b ∷ rest) found.2))
    ]

have_from : (part front rest : List ℕ) → have (front ++ (part ++ rest)) part ≡ true
have_from part [] rest = have_here part (part ++ rest) (begin_from part rest)
have_from part (b ∷ front) rest =
    or_right (list.starts_with nat_eq (b ∷ (front ++ (part ++ rest))) part)
    (have (front ++ (part ++ rest)) part) (have_from part front rest)

same_tests : (a b : Bool) → (a ≡ true → b ≡ true) → (b ≡ true → a ≡ true) → a ≡ b
same_tests true true to from = refl
same_tests true false to from = sym (to refl)
same_tests false true to from = from refl
same_tests false false to from = refl

-- a test that tells whether bytes have others
pub is_have : (test : Bool) (bytes part : List ℕ)
    → ((test ≡ true) → HasSubslice bytes part) → (HasSubslice bytes part → (test ≡ true))
    → test ≡ have bytes part
is_have test bytes part to from =
    same_tests test (have bytes part)
    (λ is.
    let found = to is in
    ap (λ bs. have bs part) found.2 ∙ have_from part found.0 found.1)
    (λ is. from (have_to part bytes is))

-- ---- asking

among_more : (texts more : List (List ℕ)) (end : ValueEnd)
    → ((text : List ℕ) → Contains texts text → Contains more text)
    → RefusesOnly texts end → RefusesOnly more end
among_more texts more OutOfMemory within only = tt
among_more texts more (EngineRefused text) within only = within text only

-- a call after one that left the engines, among more texts
pub asks_after : {T : Type 0} (texts more : List (List ℕ)) (result : Result T ValueEnd)
    (old mid new : EnginesState) → mid ≡ old
    → ((text : List ℕ) → Contains texts text → Contains more text)
    → Asks texts result mid new → Asks more result old new
asks_after {T = T} texts more (Ok value) old mid new same within asks = record {
  engines = subst (λ s. HandsOn {T = T} value_refusal (Ok value) s new) same asks.engines;
  asked = tt;
}
asks_after {T = T} texts more (Err end) old mid new same within asks = record {
  engines = subst (λ s. HandsOn {T = T} value_refusal (Err end) s new) same asks.engines;
  asked = among_more texts more end within asks.asked;
}
