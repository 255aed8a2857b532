-- The first fault of a JSON tree, and what a reader says of it.
use Rattle.std.specs.Prelude.{◌≡◌, ℕ, List, [], ◌∷◌, ◌++◌, Option, Some, None, Result, Ok, Err}
use Rattle.std.specs.Str.{chars}
use Rattle.std.specs.Fmt.{decimal}
use Rattle.export_fields.specs.declared.fault.ReadEnd.{ReadEnd}
use Rattle.export_fields.specs.declared.fault.ReadEnd.TheVariants.{OutOfMemory, Broken}

-- the JSON pointer (RFC 6901) that goes to the member with this key, a word without `~` and `/`,
-- and on from there
abbrev pub in_key : List ℕ → List ℕ → List ℕ
in_key key path = 47 ∷ chars key ++ path

-- the JSON pointer that goes to the item at this place, and on from there
abbrev pub in_index : ℕ → List ℕ → List ℕ
in_index place path = 47 ∷ decimal place ++ path

-- the first of two faults
infixr 5 ◌then◌
abbrev pub ◌then◌ : Option (List ℕ) → Option (List ℕ) → Option (List ℕ)
None then later = later
(Some path) then later = Some path

-- the fault of a value that has to have a kind: none where it has it, else the value itself
abbrev pub fault_without : {A : Type 0} → Option A → Option (List ℕ)
fault_without None = Some []
fault_without (Some x) = None

-- a reader that ended so tells this first fault, unless memory ran out
abbrev pub Fails : ReadEnd → Option (List ℕ) → Type 0
Fails OutOfMemory fault = Unit {0}
Fails (Broken path) fault = fault ≡ Some path

-- a reader gives this value only where there is no fault, and else tells this first fault, unless
-- memory ran out
abbrev pub Reads : {A : Type 0} → Result A ReadEnd → Option (List ℕ) → A → Type 0
Reads (Ok x) fault value = (fault ≡ None) × (x ≡ value)
Reads (Err end) fault value = Fails end fault

-- memory was wanting
abbrev pub IsOutOfMemory : ReadEnd → Type 0
IsOutOfMemory end = end ≡ OutOfMemory
