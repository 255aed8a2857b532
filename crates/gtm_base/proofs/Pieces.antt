-- Pieces that are taken or read one after the other.
use Rattle.std.proofs.Common.{◌≡◌, ◌≤◌, ◌-◌, ◌+◌, ℕ, List, [], ◌++◌, take, drop, length, refl, ap}
use Rattle.std.proofs.Common.{sym, ◌∙◌, append_assoc, append-nil, arith, length-append}
use Rattle.std.specs.Prelude.{Option, Some, None}
use Rattle.std.proofs.lemmas.Grind.{common_steps}
use Rattle.std.proofs.lemmas.List.{take-append-drop, take-take, drop-take, take-append-le}
use Rattle.std.proofs.Math.Seq.{take-append-add, take-length}
use Rattle.gtm_base.specs.Outside.{and_then, followed_by, TookFront}

take-add : {A : Type 0} (m n : ℕ) (xs : List A) → take (m + n) xs ≡ take m xs ++ take n (drop m xs)
take-add m n xs =
    sym (take-append-drop m (take (m + n) xs))
    ∙ rw (take-take m (m + n) xs (omega arith)) (ap (λ rest. take m xs ++ rest) (drop-take m n xs))

pub and_then-append : (taken : Option (List ℕ)) (piece more : List ℕ)
    → and_then (and_then taken piece) more ≡ and_then taken (piece ++ more)
and_then-append None piece more = refl
and_then-append (Some bytes) piece more = rw append_assoc

pub and_then-nil : (taken : Option (List ℕ)) → taken ≡ and_then taken []
and_then-nil None = refl
and_then-nil (Some bytes) = ap Some (sym (append-nil bytes))

pub slice_to_end : {A : Type 0} (m : ℕ) (xs : List A) → take (length xs - m) (drop m xs) ≡ drop m xs
slice_to_end m xs = grind (arith, common_steps)

-- what was taken of the rest of a piece makes the front longer
pub taken_further : (old before now : Option (List ℕ)) (piece : List ℕ) (m n : ℕ)
    → before ≡ and_then old (take m piece)
    → now ≡ and_then before (take n (take (length piece - m) (drop m piece)))
    → now ≡ and_then old (take (m + n) piece)
taken_further old before now piece m n front more =
    rw (more, front, slice_to_end m piece, take-add m n piece)
    (and_then-append old (take m piece) (take n (drop m piece)))

-- nothing was taken
pub front_none : (taken : Option (List ℕ)) (piece : List ℕ) → TookFront taken taken piece
front_none taken piece = record { count = 0; within = omega arith; front = and_then-nil taken }

-- all was taken
pub front_all : (old new : Option (List ℕ)) (piece : List ℕ) → new ≡ and_then old piece
    → TookFront old new piece
front_all old new piece all =
    record { count = length piece; within = omega arith; front = rw (take-length piece) all }

pub front_of_more : (old new : Option (List ℕ)) (piece more : List ℕ) → TookFront old new piece
    → TookFront old new (piece ++ more)
front_of_more old new piece more some = record {
  count = some.count;
  within = omega (arith, length-append piece more, some.within);
  front = let within : some.count ≤ length piece = some.within in
      rw (take-append-le some.count piece more within) some.front;
}

-- a piece was taken whole, and then a front of the next
pub front_after : (old middle new : Option (List ℕ)) (piece more : List ℕ)
    → middle ≡ and_then old piece → TookFront middle new more → TookFront old new (piece ++ more)
front_after old middle new piece more whole some = record {
  count = length piece + some.count;
  within = omega (arith, length-append piece more, some.within);
  front =
      rw (take-append-add piece more some.count)
      (some.front ∙ ap (λ taken. and_then taken (take some.count more)) whole
      ∙ and_then-append old piece (take some.count more));
}

pub followed_by-append : (piece more : List ℕ) (left : Option (List ℕ))
    → followed_by piece (followed_by more left) ≡ followed_by (piece ++ more) left
followed_by-append piece more None = refl
followed_by-append piece more (Some bytes) = rw append_assoc

pub followed_by-nil : (left : Option (List ℕ)) → followed_by [] left ≡ left
followed_by-nil None = refl
followed_by-nil (Some bytes) = refl

-- a further piece was read
pub read_further : (old before now : Option (List ℕ)) (piece more : List ℕ)
    → old ≡ followed_by piece before → before ≡ followed_by more now
    → old ≡ followed_by (piece ++ more) now
read_further old before now piece more front next =
    front ∙ ap (followed_by piece) next ∙ followed_by-append piece more now
