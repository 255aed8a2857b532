-- What a value says of the parts that made it.
use Rattle.std.proofs.Common.{◌≡◌, List, ℕ, Bool, true, false, Option, Some, None, refl}
use Rattle.std.specs.Prelude.{if◌then◌else◌}
use Rattle.sjs_lexer.specs.Digits.{then_with}
use Rattle.sjs_lexer.specs.Reading.{Read, read_on}

pub then_some : {A B : Type 0} (o : Option A) (f : A → Option B) (r : B) → then_with o f ≡ Some r
    → (x : A) × (o ≡ Some x) × (f x ≡ Some r)
then_some None f r h = cc
then_some (Some x) f r h = (x, refl, h)

pub read_some : {A B : Type 0} (o : Read A) (f : A → List ℕ → Read B) (r : B × List ℕ)
    → read_on o f ≡ Some r → (x : A × List ℕ) × (o ≡ Some x) × (f x.0 x.1 ≡ Some r)
read_some None f r h = cc
read_some (Some x) f r h = (x, refl, h)

pub if_some : {A : Type 0} (b : Bool) (x : Option A) (r : A) → (if b then x else None) ≡ Some r
    → (b ≡ true) × (x ≡ Some r)
if_some true x r h = (refl, h)
if_some false x r h = cc

pub if_none : {A : Type 0} (b : Bool) (y : Option A) (r : A) → (if b then None else y) ≡ Some r
    → (b ≡ false) × (y ≡ Some r)
if_none true y r h = cc
if_none false y r h = (refl, h)
