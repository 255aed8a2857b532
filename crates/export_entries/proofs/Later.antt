-- How a reader of several fields ends at one of them.
use Rattle.std.proofs.Common.{◌≡◌, ℕ, List, Option, ap, sym, subst}
use Rattle.std.specs.Prelude.{Result, Ok, Err, IsErrAnd}
use Rattle.export_fields.specs.Fault.{Fails, Reads, ◌then◌}
use Rattle.export_fields.specs.declared.fault.ReadEnd.{ReadEnd}
use Rattle.export_fields.specs.declared.fault.ReadEnd.TheVariants.{OutOfMemory, Broken}

-- a reader that tells a fault tells the first of that and any later one
pub fails_then : (end : ReadEnd) (fault later : Option (List ℕ)) → Fails end fault
    → Fails end (fault then later)
fails_then OutOfMemory fault later fails = tt
fails_then (Broken path) fault later fails = ap (λ f. f then later) fails

-- a reader that ends as one of its fields did
pub ends_as : {A : Type 0} (result : Result A ReadEnd) (end : ReadEnd) (fault : Option (List ℕ))
    (value : A) → IsErrAnd result (λ e. e ≡ end) → Fails end fault → Reads result fault value
ends_as (Ok x) end fault value is fails = absurd is
ends_as (Err e) end fault value is fails = subst (λ e. Fails e fault) (sym is) fails
