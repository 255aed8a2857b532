-- The first parameter with a key.
use Rattle.std.proofs.Common.{◌≡◌, ◌≢◌, ◌<◌, ◌∙◌, ℕ, zero, suc, List, [], ◌∷◌, Bool, true, false}
use Rattle.std.proofs.Common.{Option, Some, None, refl, sym, ap, arith, inl, inr}
use Rattle.std.specs.Prelude.{slice_get, find, if◌then◌else◌}
use Rattle.std.specs.Str.{bytes_eq}
use Rattle.std.proofs.lemmas.Bool.{cases_order}
use Rattle.std.proofs.lemmas.Slice.Eq.{bytes_eq-Decides}
use Rattle.export_model.specs.declared.params.Param.{Param}
use Rattle.export_model.specs.Keys.{first_of_key, IsFirstOfKey, LacksKey}

some_same : {A : Type 0} {x y : A} → Some x ≡ Some y → x ≡ y
some_same is = cc

none_some : {A : Type 0} {x : A} → None ≡ Some x → ⊥
none_some is = cc

neither_lower : (m n : ℕ) → (m < n → ⊥) → (n < m → ⊥) → m ≡ n
neither_lower m n not_lower not_higher =
    elim (cases_order m n) [
      | inl same ↦ same
      | inr apart ↦ elim apart
          [ inl lower ↦ absurd (not_lower lower) | inr higher ↦ absurd (not_higher higher) ]
    ]

module _ (key : List ℕ) where
  -- a parameter has the key where the test says so
  has : (p : Param) → bytes_eq p.key key ≡ true → p.key ≡ key
  has p is = (bytes_eq-Decides p.key key).0 is

  test_of : (p : Param) → p.key ≡ key → bytes_eq p.key key ≡ true
  test_of p is = (bytes_eq-Decides p.key key).1 is

  has_not : (p : Param) → bytes_eq p.key key ≡ false → p.key ≢ key
  has_not p isnt is = let both : false ≡ true = sym isnt ∙ test_of p is in cc both

  -- one parameter more before, without the key
  one_before : (p : Param) (params : List Param) (param : Param) → p.key ≢ key
      → IsFirstOfKey key params param → IsFirstOfKey key (p ∷ params) param
  one_before p params param other is = record {
    place = suc is.place;
    stands = is.stands;
    key_is = is.key_is;
    first = none_earlier;
  }
    where
      none_earlier : (earlier : ℕ) (before : Param) → earlier < suc is.place
          → slice_get (p ∷ params) earlier ≡ Some before → before.key ≢ key
      none_earlier zero before lower at same = other (ap (λ q. q.key) (some_same at) ∙ same)
      none_earlier (suc n) before lower at same = is.first n before (omega arith) at same

  found_by : (p : Param) (params : List Param) (param : Param) (test : Bool)
      → bytes_eq p.key key ≡ test
      → (find (λ q. bytes_eq q.key key) params ≡ Some param → IsFirstOfKey key params param)
      → (if test then Some p else find (λ q. bytes_eq q.key key) params) ≡ Some param
      → IsFirstOfKey key (p ∷ params) param
  found_by p params param true is later at = record {
    place = 0;
    stands = at;
    key_is = ap (λ q. q.key) (sym (some_same at)) ∙ has p is;
    first = λ earlier other lower stands. absurd (omega arith);
  }
  found_by p params param false is later at =
      one_before p params param (has_not p is) (later at)

  pub found : (params : List Param) (param : Param) → first_of_key key params ≡ Some param
      → IsFirstOfKey key params param
  found [] param at = absurd (none_some at)
  found (p ∷ params) param at =
      found_by p params param (bytes_eq p.key key) refl (found params param) at

  -- where none has the key, none is found
  none_by : (p : Param) (params : List Param) (test : Bool) → bytes_eq p.key key ≡ test
      → (find (λ q. bytes_eq q.key key) params ≡ None → LacksKey key params)
      → (if test then Some p else find (λ q. bytes_eq q.key key) params) ≡ None
      → LacksKey key (p ∷ params)
  none_by p params true is later at = absurd (none_some (sym at))
  none_by p params false is later at = record { nowhere = nowhere }
    where
      nowhere : (place : ℕ) (param : Param) → slice_get (p ∷ params) place ≡ Some param
          → param.key ≢ key
      nowhere zero param stands same =
          has_not p is (ap (λ q. q.key) (some_same stands) ∙ same)
      nowhere (suc n) param stands same = (later at).nowhere n param stands same

  pub lacks : (params : List Param) → first_of_key key params ≡ None → LacksKey key params
  lacks [] at = record { nowhere = λ place param stands. absurd (none_some stands) }
  lacks (p ∷ params) at = none_by p params (bytes_eq p.key key) refl (lacks params) at

  -- what is first is found, and nothing where none has the key
  pub told : (params : List Param) (answer : Option Param) → first_of_key key params ≡ answer
      → LacksKey key params → answer ≡ None
  told params None is none = refl
  told params (Some p) is none =
      let first = found params p is in
      absurd (none.nowhere first.place p first.stands first.key_is)

  pub same_first : (params : List Param) (answer : Option Param) (param : Param)
      → first_of_key key params ≡ answer → IsFirstOfKey key params param → answer ≡ Some param
  same_first params None param is first =
      absurd ((lacks params is).nowhere first.place param first.stands first.key_is)
  same_first params (Some p) param is first =
      let its = found params p is in
      let same : its.place ≡ first.place =
      neither_lower its.place first.place
      (λ lower. first.first its.place p lower its.stands its.key_is)
      (λ lower. its.first first.place param lower first.stands first.key_is) in
      sym its.stands ∙ ap (slice_get params) same ∙ first.stands
