-- Pieces of a file that are read one after the other.
use Rattle.std.proofs.Common.{◌≡◌, ◌∙◌, sym, subst, refl, ℕ, ◌+◌, ◌≤◌, List, [], ◌++◌, length}
use Rattle.std.proofs.Common.{length-append, arith}
use Rattle.std.specs.Prelude.{Bool, false, IsTrue, Option, Result, Ok}
use Rattle.gtm_base.specs.Causes.{Counts, has_failed}
use Rattle.gtm_base.specs.Outside.{FilesState, ReadsOn, ReadSome, ReadWithin, followed_by}
use Rattle.gtm_base.proofs.Pieces.{followed_by-nil, read_further}

read_none : (left : Option (List ℕ)) → ReadSome left left
read_none left = record { bytes = []; left = sym (followed_by-nil left) }

-- nothing was read, and no read failed
pub reads_nothing : {T E : Type 0} (is_fault : E → Bool) (result : Result T E) (files : FilesState)
    → IsTrue files.is_open → has_failed is_fault result ≡ false
    → ReadsOn is_fault result files files
reads_nothing is_fault result files is_open not_failed = record {
  opened = is_open;
  held = refl;
  open_name = refl;
  names = refl;
  read = read_none files.left;
  counted = subst (λ failed. Counts failed files.faults files.faults) (sym not_failed) refl;
}

-- one read after the other
pub reads_then : {T U V E F G : Type 0} (first_fault : F → Bool) (value : V) (is_fault : E → Bool)
    (result : Result T E) (other_fault : G → Bool) (other : Result U G)
    (old middle new : FilesState)
    → has_failed other_fault other ≡ has_failed is_fault result
    → ReadsOn first_fault (Ok value) old middle → ReadsOn is_fault result middle new
    → ReadsOn other_fault other old new
reads_then first_fault value is_fault result other_fault other old middle new same first next =
    record {
      opened = next.opened;
      held = next.held ∙ first.held;
      open_name = next.open_name ∙ first.open_name;
      names = next.names ∙ first.names;
      read = record { bytes = _; left = read_further _ _ _ _ _ first.read.left next.read.left };
      counted =
          subst (λ failed. Counts failed old.faults new.faults) (sym same)
          (subst (λ faults. Counts (has_failed is_fault result) faults new.faults) first.counted
          next.counted);
    }

-- the same answer, told by another type
pub reads_as : {T U E G : Type 0} (is_fault : E → Bool) (result : Result T E)
    (other_fault : G → Bool) (other : Result U G) (old new : FilesState)
    → has_failed other_fault other ≡ has_failed is_fault result → ReadsOn is_fault result old new
    → ReadsOn other_fault other old new
reads_as is_fault result other_fault other old new same reads = record {
  opened = reads.opened;
  held = reads.held;
  open_name = reads.open_name;
  names = reads.names;
  read = reads.read;
  counted = subst (λ failed. Counts failed old.faults new.faults) (sym same) reads.counted;
}

-- these bytes were read, and then no more than so many
pub within_further : (old middle new : Option (List ℕ)) (bytes : List ℕ) (most limit : ℕ)
    → old ≡ followed_by bytes middle → length bytes + most ≤ limit → ReadWithin most middle new
    → ReadWithin limit old new
within_further old middle new bytes most limit first room next = record {
  bytes = bytes ++ next.bytes;
  few = omega (arith, length-append bytes next.bytes, next.few);
  left = read_further _ _ _ _ _ first next.left;
}
