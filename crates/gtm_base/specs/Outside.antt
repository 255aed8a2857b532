-- What files hold and what a sink took, where this is told, and what a call did to them.
use Rattle.std.specs.Prelude.{◌≡◌, ◌⊎◌, ℕ, ◌≤◌, List, [], ◌∷◌, ◌++◌, length, take, Bool, false}
use Rattle.std.specs.Prelude.{IsTrue, Option, Some, None, option_map, IsSome, IfSome, Result, IsErr}
use Rattle.std.specs.Prelude.{OnOk, OnErr}
use Rattle.gtm_base.specs.Causes.{Rose, Counts, has_failed}

-- what each name holds
abbrev pub Holdings : Type 0
Holdings = List ℕ → Option (List ℕ)

-- files, of which one may be open
pub record FilesState : Type 0 where
  -- what each name holds, where this is told
  pub held : Option Holdings
  -- whether a file is open
  pub is_open : Bool
  -- the name of the open file, where this is told
  pub open_name : Option (List ℕ)
  -- the bytes of the open file that were not read yet, where this is told
  pub left : Option (List ℕ)
  -- the names that `open` was handed so far, where this is told
  pub names : Option (List (List ℕ))
  -- how often a call has failed
  pub faults : ℕ

-- where bytes are written
pub record SinkState : Type 0 where
  -- the bytes taken so far, where this is told
  pub taken : Option (List ℕ)
  -- how often a call has failed
  pub faults : ℕ

-- the files tell that this name holds these bytes
pub record Holds (held : Option Holdings) (name bytes : List ℕ) : Type 0 where
  pub holdings : Holdings
  pub told : held ≡ Some holdings
  pub bytes_are : holdings name ≡ Some bytes

-- the files tell that they hold no such name
pub record Lacks (held : Option Holdings) (name : List ℕ) : Type 0 where
  pub holdings : Holdings
  pub told : held ≡ Some holdings
  pub absent : holdings name ≡ None

-- the bytes so far, with these behind them
abbrev pub and_then : Option (List ℕ) → List ℕ → Option (List ℕ)
and_then taken piece = option_map (λ bytes. bytes ++ piece) taken

-- these bytes, and then what is left
abbrev pub followed_by : List ℕ → Option (List ℕ) → Option (List ℕ)
followed_by piece left = option_map (λ bytes. piece ++ bytes) left

-- the list of names, where it is still told, is the old one with this name behind
abbrev pub AddsName : Option (List (List ℕ)) → Option (List (List ℕ)) → List ℕ → Type 0
AddsName old new name =
    IfSome new
    (λ names. (before : List (List ℕ)) × (old ≡ Some before) × (names ≡ before ++ name ∷ []))

-- a file was opened at its first byte, or could not be
pub record Opens {T E : Type 0} (result : Result T E) (old new : FilesState) (name : List ℕ) : Type
    0 where
  pub opened : OnOk result (IsTrue new.is_open)
  pub closed : OnErr result ((new.is_open ≡ false) × (new.open_name ≡ None))
  pub held : new.held ≡ old.held
  pub bytes : OnOk result
      (IfSome old.held
      (λ held. (new.left ≡ held name) × IsSome (held name) × (new.open_name ≡ Some name)))
  pub names : AddsName old.names new.names name
  pub absent : Lacks old.held name → IsErr result × (new.faults ≡ old.faults)
  pub later : old.faults ≤ new.faults
  pub failed : OnErr result (Rose old.faults new.faults ⊎ Lacks old.held name)
  pub kept : OnOk result (new.faults ≡ old.faults)

-- some bytes were read: what was left is those, and then what is left now
pub record ReadSome (old new : Option (List ℕ)) : Type 0 where
  pub bytes : List ℕ
  pub left : old ≡ followed_by bytes new

-- no more bytes than these were read
pub record ReadWithin (most : ℕ) (old new : Option (List ℕ)) : Type 0 where
  pub bytes : List ℕ
  pub few : length bytes ≤ most
  pub left : old ≡ followed_by bytes new

-- a call read on in the open file, by some bytes or none, and changed nothing else; where a read
-- failed, the count rose
pub record ReadsOn {T E : Type 0} (is_fault : E → Bool) (result : Result T E)
    (old new : FilesState) : Type 0 where
  pub opened : IsTrue new.is_open
  pub held : new.held ≡ old.held
  pub open_name : new.open_name ≡ old.open_name
  pub names : new.names ≡ old.names
  pub read : ReadSome old.left new.left
  pub counted : Counts (has_failed is_fault result) old.faults new.faults

-- a front of the piece was taken
pub record TookFront (old new : Option (List ℕ)) (piece : List ℕ) : Type 0 where
  pub count : ℕ
  pub within : count ≤ length piece
  pub front : new ≡ and_then old (take count piece)

-- a call was to write this text: it wrote the whole where it answered Ok, and a front of it
-- whatever it answered; where the sink failed, the count rose, and else it stayed
pub record Writes {T E : Type 0} (is_fault : E → Bool) (result : Result T E) (old new : SinkState)
    (text : List ℕ) : Type 0 where
  pub whole : OnOk result (new.taken ≡ and_then old.taken text)
  pub front : TookFront old.taken new.taken text
  pub counted : Counts (has_failed is_fault result) old.faults new.faults

-- some of the text was written, and this is left of it; no write has failed
pub record OnTheWay (old now : SinkState) (rest text : List ℕ) : Type 0 where
  pub done : List ℕ
  pub taken : now.taken ≡ and_then old.taken done
  pub kept : now.faults ≡ old.faults
  pub whole : text ≡ done ++ rest
