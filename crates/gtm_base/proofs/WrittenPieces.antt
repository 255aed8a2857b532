-- A text that is written piece by piece.
use Rattle.std.proofs.Common.{◌≡◌, ◌∙◌, ap, sym, subst, refl, ℕ, ◌+◌, ◌-◌, List, [], ◌++◌, length}
use Rattle.std.proofs.Common.{take, drop, append_assoc, append-nil, arith}
use Rattle.std.specs.Prelude.{Bool, false, Result, Ok, Err, OnOk}
use Rattle.gtm_base.specs.Causes.{Counts, has_failed}
use Rattle.gtm_base.specs.Outside.{SinkState, OnTheWay, Writes, and_then}
use Rattle.std.proofs.lemmas.Grind.{common_steps}
use Rattle.std.proofs.lemmas.List.{take-append-drop}
use Rattle.gtm_base.proofs.Pieces.{and_then-append, and_then-nil, front_none, front_all}
use Rattle.gtm_base.proofs.Pieces.{front_of_more, front_after, slice_to_end}

on_ok : {T E P Q : Type 0} (result : Result T E) → (P → Q) → OnOk result P → OnOk result Q
on_ok (Ok value) so p = so p
on_ok (Err error) so p = p

-- nothing was written, and the sink did not fail
pub writes_nothing : {T E : Type 0} (is_fault : E → Bool) (error : E) (out : SinkState)
    (text : List ℕ) → is_fault error ≡ false
    → Writes {T = T} is_fault (Err error) out out text
writes_nothing is_fault error out text not_fault = record {
  whole = tt;
  front = front_none out.taken text;
  counted = subst (λ failed. Counts failed out.faults out.faults) (sym not_fault) refl;
}

-- the first piece was not written whole
pub writes_part : {T U E : Type 0} (is_fault : E → Bool) (error : E) (old new : SinkState)
    (piece more : List ℕ)
    → Writes {T = T} is_fault (Err error) old new piece
    → Writes {T = U} is_fault (Err error) old new (piece ++ more)
writes_part is_fault error old new piece more part = record {
  whole = tt;
  front = front_of_more old.taken new.taken piece more part.front;
  counted = part.counted;
}

-- a piece was written, and then the next one was to be
pub writes_then : {T U E F : Type 0} (first_fault : F → Bool) (value : U) (is_fault : E → Bool)
    (result : Result T E) (old middle new : SinkState) (piece more : List ℕ)
    → Writes first_fault (Ok value) old middle piece → Writes is_fault result middle new more
    → Writes is_fault result old new (piece ++ more)
writes_then first_fault value is_fault result old middle new piece more first next = record {
  whole =
      on_ok result
      (λ all. all ∙ ap (λ taken. and_then taken more) first.whole
      ∙ and_then-append old.taken piece more) next.whole;
  front = front_after old.taken middle.taken new.taken piece more first.whole next.front;
  counted =
      subst (λ faults. Counts (has_failed is_fault result) faults new.faults) first.counted
      next.counted;
}

-- the same error, told by another type
pub writes_as : {T U E F : Type 0} (is_fault : E → Bool) (error : E) (other_fault : F → Bool)
    (other : F) (old new : SinkState) (text : List ℕ)
    → other_fault other ≡ is_fault error → Writes {T = T} is_fault (Err error) old new text
    → Writes {T = U} other_fault (Err other) old new text
writes_as is_fault error other_fault other old new text same part = record {
  whole = tt;
  front = part.front;
  counted = subst (λ failed. Counts failed old.faults new.faults) (sym same) part.counted;
}

-- nothing is written yet
pub way_start : (out : SinkState) (rest text : List ℕ) → text ≡ rest → OnTheWay out out rest text
way_start out rest text is =
    record { done = []; taken = and_then-nil out.taken; kept = refl; whole = is }

-- a piece further
pub way_on : {T E : Type 0} (is_fault : E → Bool) (value : T) (old now new : SinkState)
    (left piece rest text : List ℕ)
    → left ≡ piece ++ rest → OnTheWay old now left text → Writes is_fault (Ok value) now new piece
    → OnTheWay old new rest text
way_on is_fault value old now new left piece rest text is way wrote = record {
  done = way.done ++ piece;
  taken =
      wrote.whole ∙ ap (λ t. and_then t piece) way.taken ∙ and_then-append old.taken way.done piece;
  kept = wrote.counted ∙ way.kept;
  whole = way.whole ∙ ap (λ t. way.done ++ t) is ∙ sym (append_assoc way.done piece rest);
}

-- the rest was to be written
pub way_end : {T E : Type 0} (is_fault : E → Bool) (result : Result T E) (old now new : SinkState)
    (rest text : List ℕ)
    → OnTheWay old now rest text → Writes is_fault result now new rest
    → Writes is_fault result old new text
way_end is_fault result old now new rest text way wrote =
    subst (λ whole. Writes is_fault result old new whole) (sym way.whole) (record {
      whole =
          on_ok result
          (λ all. all ∙ ap (λ taken. and_then taken rest) way.taken
          ∙ and_then-append old.taken way.done rest) wrote.whole;
      front = front_after old.taken now.taken new.taken way.done rest way.taken wrote.front;
      counted =
          subst (λ faults. Counts (has_failed is_fault result) faults new.faults) way.kept
          wrote.counted;
    })

-- the next piece was not written whole
pub way_part : {T U E : Type 0} (is_fault : E → Bool) (error : E) (old now new : SinkState)
    (left piece rest text : List ℕ)
    → left ≡ piece ++ rest → OnTheWay old now left text
    → Writes {T = T} is_fault (Err error) now new piece
    → Writes {T = U} is_fault (Err error) old new text
way_part {T} {U} {E} is_fault error old now new left piece rest text is way part =
    way_end is_fault (Err error) old now new left text way
    (subst (λ all. Writes {T = U} is_fault (Err error) now new all) (sym is)
    (writes_part is_fault error now new piece rest part))

-- nothing more was written, and the sink did not fail
pub way_stop : {T E : Type 0} (is_fault : E → Bool) (error : E) (old now : SinkState)
    (rest text : List ℕ)
    → OnTheWay old now rest text → is_fault error ≡ false
    → Writes {T = T} is_fault (Err error) old now text
way_stop is_fault error old now rest text way not_fault =
    way_end is_fault (Err error) old now now rest text way
    (writes_nothing is_fault error now rest not_fault)

-- all is written
pub way_all : {T E : Type 0} (is_fault : E → Bool) (value : T) (old now : SinkState)
    (rest text : List ℕ)
    → OnTheWay old now rest text → rest ≡ [] → Writes is_fault (Ok value) old now text
way_all is_fault value old now rest text way none =
    let same : now.taken ≡ and_then old.taken text =
    way.taken ∙ ap (and_then old.taken)
    (sym (append-nil way.done) ∙ ap (λ r. way.done ++ r) (sym none) ∙ sym way.whole) in
    record { whole = same; front = front_all old.taken now.taken text same; counted = way.kept }

-- the same, said otherwise of what is left
pub way_is : (old now : SinkState) (left rest text : List ℕ) → left ≡ rest
    → OnTheWay old now left text → OnTheWay old now rest text
way_is old now left rest text is way = record {
  done = way.done;
  taken = way.taken;
  kept = way.kept;
  whole = way.whole ∙ ap (λ r. way.done ++ r) is;
}

drop-drop : {A : Type 0} (m n : ℕ) (xs : List A) → drop n (drop m xs) ≡ drop (m + n) xs
drop-drop m n xs = grind (arith, common_steps)

-- a front of what is left from this place on was taken
pub way_front : (old now new : SinkState) (text : List ℕ) (m n : ℕ)
    → OnTheWay old now (drop m text) text
    → new.taken ≡ and_then now.taken (take n (take (length text - m) (drop m text)))
    → new.faults ≡ now.faults → OnTheWay old new (drop (m + n) text) text
way_front old now new text m n way taken kept =
    let cut : drop m text ≡ take n (drop m text) ++ drop (m + n) text =
    sym (take-append-drop n (drop m text))
    ∙ ap (λ more. take n (drop m text) ++ more) (drop-drop m n text) in
    record {
      done = way.done ++ take n (drop m text);
      taken =
          taken ∙ ap (λ all. and_then now.taken (take n all)) (slice_to_end m text)
          ∙ ap (λ t. and_then t (take n (drop m text))) way.taken
          ∙ and_then-append old.taken way.done (take n (drop m text));
      kept = kept ∙ way.kept;
      whole =
          way.whole ∙ ap (λ left. way.done ++ left) cut
          ∙ sym (append_assoc way.done (take n (drop m text)) (drop (m + n) text));
    }
