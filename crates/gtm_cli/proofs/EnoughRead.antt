-- What was read of an export is enough to know its first broken rule.
use Rattle.std.proofs.Common.{◌≡◌, ◌∙◌, ap, sym, refl, ℕ, ◌<◌, ◌+◌, List, [], ◌++◌, length}
use Rattle.std.proofs.Common.{length-append, append-nil, Bool, true, false, Option, Some, None}
use Rattle.std.proofs.Common.{arith}
use Rattle.std.specs.Prelude.{IfSome, IsSome, nat_lt, Result, Ok, Err, IfOk, OnOk}
use Rattle.std.specs.Result.{is_err}
use Rattle.std.proofs.lemmas.Bool.Decides.{nat_tests}
use Rattle.gtm_cli.proofs.Sames.{some_same}
use Rattle.export_reader.specs.FirstBroken.{first_broken, export_rules, rules_of}
use Rattle.export_reader.specs.declared.top.TheConstants.{MAX_EXPORT}
use Rattle.gtm_base.specs.Outside.{FilesState, Holdings, Holds, Opens, followed_by}
use Rattle.gtm_cli.specs.Running.{EnoughOf}

too_large : (bytes : List ℕ) → nat_lt MAX_EXPORT (length bytes) ≡ true
    → first_broken bytes ≡ Some (1, [])
unfolding export_rules rules_of
too_large bytes is = rw is refl

longer : (bytes more : List ℕ) → nat_lt MAX_EXPORT (length bytes) ≡ true
    → nat_lt MAX_EXPORT (length (bytes ++ more)) ≡ true
longer bytes more is = let all = length-append bytes more in grind (arith, nat_tests, all)

short : (bytes : List ℕ) → nat_lt MAX_EXPORT (length bytes) ≡ false → length bytes < MAX_EXPORT + 1
short bytes is = grind (arith, nat_tests)

same_at : (test : Bool) (bytes more : List ℕ) → nat_lt MAX_EXPORT (length bytes) ≡ test
    → (length bytes < MAX_EXPORT + 1 → more ≡ [])
    → first_broken bytes ≡ first_broken (bytes ++ more)
same_at true bytes more is end =
    too_large bytes is ∙ sym (too_large (bytes ++ more) (longer bytes more is))
same_at false bytes more is end =
    ap first_broken
    (sym (append-nil bytes) ∙ ap (λ rest. bytes ++ rest) (sym (end (short bytes is))))

all_at : (test : Bool) (bytes more : List ℕ) → nat_lt MAX_EXPORT (length bytes) ≡ test
    → (length bytes < MAX_EXPORT + 1 → more ≡ []) → first_broken bytes ≡ None
    → bytes ≡ bytes ++ more
all_at true bytes more is end unbroken =
    let never : Some (1, []) ≡ None = sym (too_large bytes is) ∙ unbroken in absurd (cc never)
all_at false bytes more is end unbroken =
    sym (append-nil bytes) ∙ ap (λ rest. bytes ++ rest) (sym (end (short bytes is)))

-- it was read to its end, or to the byte that makes it too large
pub enough_read : (export bytes : List ℕ) (left : Option (List ℕ))
    → Some export ≡ followed_by bytes left
    → (length bytes < MAX_EXPORT + 1 → IfSome left (λ rest. rest ≡ [])) → EnoughOf export bytes
enough_read export bytes None is end = absurd (cc)
enough_read export bytes (Some rest) is end = record {
  broken =
      same_at (nat_lt MAX_EXPORT (length bytes)) bytes rest refl end
      ∙ ap first_broken (sym (some_same is));
  whole =
      λ unbroken.
      all_at (nat_lt MAX_EXPORT (length bytes)) bytes rest refl end unbroken ∙ sym (some_same is);
}

opened_in : {T E : Type 0} (result : Result T E) (held : Option Holdings) (name bytes : List ℕ)
    (left open_name : Option (List ℕ)) → false ≡ is_err result → Holds held name bytes
    → OnOk result (IfSome held (λ h. (left ≡ h name) × IsSome (h name) × (open_name ≡ Some name)))
    → left ≡ Some bytes
opened_in (Err error) held name bytes left open_name ok holds found = absurd (cc ok)
opened_in (Ok value) None name bytes left open_name ok holds found =
    absurd (let none = holds.told in cc)
opened_in (Ok value) (Some h) name bytes left open_name ok holds found =
    found.0 ∙ ap (λ f. f name) (some_same holds.told) ∙ holds.bytes_are

-- a file that was opened has the bytes that its name holds
pub opened : {T E : Type 0} (result : Result T E) (old new : FilesState) (name bytes : List ℕ)
    → false ≡ is_err result → Holds old.held name bytes → Opens result old new name
    → new.left ≡ Some bytes
opened result old new name bytes ok holds opens =
    opened_in result old.held name bytes new.left new.open_name ok holds opens.bytes

-- two facts of the value that a call answered
pub if_ok_both : {T E : Type 0} (result : Result T E) (P Q R : T → Type 0)
    → ((value : T) → P value → Q value → R value) → IfOk result P → IfOk result Q → IfOk result R
if_ok_both (Ok value) P Q R both p q = both value p q
if_ok_both (Err error) P Q R both p q = p
