-- Every number of a container is a place in the list that it names.
use Rattle.std.proofs.Common.{◌≡◌, ◌<◌, ℕ, suc, List, [], ◌∷◌, length, map, Bool, true, false, refl}
use Rattle.std.proofs.Common.{ap, subst, arith}
use Rattle.std.specs.Prelude.{Option, Some, None, IfSome, option_map, if◌then◌else◌}
use Rattle.std.specs.List.{zip}
use Rattle.std.specs.Str.{bytes_eq}
use Rattle.text_places.specs.Places.{place_of, lower_place}

-- a place is below a bound, where there is one
abbrev pub Within : ℕ → Option ℕ → Type 0
Within bound place = IfSome place (λ at. at < bound)

within_step : (bound : ℕ) (test : Bool) (later : Option ℕ) → Within bound later
    → Within (suc bound) (if test then Some 0 else option_map suc later)
within_step bound true later h = omega arith
within_step bound false None h = tt
within_step bound false (Some at) h = omega (arith, h)

-- the place of a text is one of the list
pub place_within : (text : List ℕ) (texts : List (List ℕ))
    → Within (length texts) (place_of text texts)
place_within text [] = tt
place_within text (t ∷ texts) =
    within_step (length texts) (bytes_eq t text) (place_of text texts) (place_within text texts)

-- of two places that are below a bound, the lower is
pub lower_within : (bound : ℕ) (some other : Option ℕ) → Within bound some → Within bound other
    → Within bound (lower_place some other)
lower_within bound None other first second = second
lower_within bound (Some at) None first second = first
lower_within bound (Some at) (Some place) first second = omega (arith, first, second)

-- the same of a list of as many
pub within_same : (bound other : ℕ) (place : Option ℕ) → bound ≡ other → Within bound place
    → Within other place
within_same bound other place same h = subst (λ n. Within n place) same h

-- two lists made item by item of one have one length
pub same_length : {A B C : Type 0} (f : A → B) (g : A → C) (items : List A)
    → length (map f items) ≡ length (map g items)
same_length f g [] = refl
same_length f g (x ∷ items) = ap suc (same_length f g items)

suc_same : (m n : ℕ) → suc m ≡ suc n → m ≡ n
suc_same m n is = omega arith

-- a list made of two lists of one length has that length
pub zipped_length : {A B C D : Type 0} (f : A → C) (g : B × A → D) (others : List B)
    (items : List A) → length others ≡ length items
    → length (map f items) ≡ length (map g (zip others items))
zipped_length f g [] [] same = refl
zipped_length f g [] (x ∷ items) same = absurd (omega arith)
zipped_length f g (y ∷ others) [] same = absurd (omega arith)
zipped_length f g (y ∷ others) (x ∷ items) same =
    ap suc (zipped_length f g others items (suc_same _ _ same))
