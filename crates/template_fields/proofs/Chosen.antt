-- The members that were chosen so far have names of earlier fields.
use Rattle.std.proofs.Common.{◌≡◌, ◌∙◌, ℕ, suc, ◌+◌, ◌<◌, ◌||◌, List, [], ◌∷◌, ◌++◌, map}
use Rattle.std.proofs.Common.{true, false, Option, Some, None, refl, sym, ap, arith, subst, length}
use Rattle.std.proofs.Common.{get_or, drop, drop-cons, add-one, append_assoc}
use Rattle.std.specs.Prelude.{option_map, if◌then◌else◌}
use Rattle.std.specs.Str.{bytes_eq}
use Rattle.std.proofs.lemmas.Slice.Eq.{bytes_eq-Decides}
use Rattle.std.proofs.lemmas.Bool.Decides.{nat_tests}
use Rattle.gtm_base.specs.Keys.{has_key}
use Rattle.gtm_base.specs.KeysStay.{on_value}
use Rattle.gtm_data.specs.Paths.{member}
use Rattle.gtm_data.specs.Tree.{Tree, Entries, entries, entries_of, tree_of}
use Rattle.gtm_data.specs.declared.data.Data.{Data}
use Rattle.text_places.specs.Places.{place_of}
use Rattle.export_model.specs.declared.templates.FieldName.{FieldName}
use Rattle.template_fields.specs.Fields.{is_place, chosen, names_of, put_member}
use Rattle.template_fields.specs.Places.{value_found}

-- each key is a name whose first place is below this one
pub record AreEarlier (names : List (List ℕ)) (at : ℕ) (pairs : List (List ℕ × Data)) : Type 0 where
  pub earlier : (key : List ℕ) → has_key key pairs ≡ true
      → (place : ℕ) × (place < at) × (place_of key names ≡ Some place)

pub none_earlier : (names : List (List ℕ)) → AreEarlier names 0 []
none_earlier names = record { earlier = λ key is. absurd (let no : false ≡ true = is in cc) }

pub place_is : (at : ℕ) (o : Option ℕ) → is_place at o ≡ true → o ≡ Some at
place_is at None is = cc
place_is at (Some place) is =
    let same : place ≡ at = grind (arith, nat_tests) in ap (λ p. Some p) same

-- a name whose first place is this one is no key yet
pub is_new : (names : List (List ℕ)) (at : ℕ) (pairs : List (List ℕ × Data)) (name : List ℕ)
    → AreEarlier names at pairs → place_of name names ≡ Some at → has_key name pairs ≡ false
is_new names at pairs name are here =
    elim (has_key name pairs) as (λ b. has_key name pairs ≡ b → b ≡ false) [
      | true ↦ λ has.
          let there = are.earlier name has in
          absurd (let same : Some there.0 ≡ Some at = sym there.2 ∙ here in
          let e : there.0 ≡ at = cc in omega (arith, there.1))
      | false ↦ λ has. refl
    ] refl

pub more_earlier : (names : List (List ℕ)) (at : ℕ) (pairs : List (List ℕ × Data))
    → AreEarlier names at pairs → AreEarlier names (at + 1) pairs
more_earlier names at pairs are = record {
  earlier = λ key has.
      let there = are.earlier key has in (there.0, omega (arith, there.1), there.2);
}

has_key-append : (key name : List ℕ) (pairs : List (List ℕ × Data)) (value : Data)
    → has_key key (pairs ++ (name, value) ∷ []) ≡ (has_key key pairs || bytes_eq name key)
has_key-append key name [] value =
    elim (bytes_eq name key) as (λ b. (b || false) ≡ b) [ true ↦ refl | false ↦ refl ]
has_key-append key name (p ∷ ps) value =
    elim (bytes_eq p.0 key) as
    (λ b. (b || has_key key (ps ++ (name, value) ∷ []))
    ≡ ((b || has_key key ps) || bytes_eq name key)) [
      | true ↦ refl
      | false ↦ has_key-append key name ps value
    ]

pub one_earlier : (names : List (List ℕ)) (at : ℕ) (pairs : List (List ℕ × Data))
    (name : List ℕ) (value : Data) → AreEarlier names at pairs → place_of name names ≡ Some at
    → AreEarlier names (at + 1) (pairs ++ (name, value) ∷ [])
one_earlier names at pairs name value are here = record {
  earlier = λ key has.
      elim (has_key key pairs) as
      (λ b. has_key key pairs ≡ b → (b || bytes_eq name key) ≡ true
      → (place : ℕ) × (place < at + 1) × (place_of key names ≡ Some place)) [
        | true ↦ λ had is.
            let there = are.earlier key had in (there.0, omega (arith, there.1), there.2)
        | false ↦ λ had is.
            let same : name ≡ key = (bytes_eq-Decides name key).0 is in
            (at, omega arith, subst (λ k. place_of k names ≡ Some at) same here)
      ] refl (sym (has_key-append key name pairs value) ∙ has);
}

value_behind : (p : List ℕ × Tree) (ps : List (List ℕ × Tree)) (o : Option ℕ)
    → value_found (p ∷ ps) (option_map suc o) ≡ value_found ps o
value_behind p ps None = refl
value_behind p ps (Some at) = refl

-- a member is at the first place of its key
pub member_at : (name : List ℕ) (ps : List (List ℕ × Tree))
    → value_found ps (place_of name (map (λ p. p.0) ps)) ≡ member name (entries ps)
member_at name [] = refl
member_at name (p ∷ ps) =
    elim (bytes_eq p.0 name) as
    (λ b. value_found (p ∷ ps)
    (if b then Some 0 else option_map suc (place_of name (map (λ q. q.0) ps)))
    ≡ (if b then Some p.1 else member name (entries ps))) [
      | true ↦ refl
      | false ↦
          value_behind p ps (place_of name (map (λ q. q.0) ps)) ∙ member_at name ps
    ]

keys_kept : (pairs : List (List ℕ × Data))
    → map (λ p. p.0) (map (on_value tree_of) pairs) ≡ map (λ p. p.0) pairs
keys_kept [] = refl
keys_kept (p ∷ ps) = ap (λ ks. p.0 ∷ ks) (keys_kept ps)

-- what stands at the place of a name is its member
pub found_value : (name : List ℕ) (pairs : List (List ℕ × Data)) (o : Option ℕ)
    → o ≡ place_of name (map (λ p. p.0) pairs)
    → value_found (map (on_value tree_of) pairs) o ≡ member name (entries_of pairs)
found_value name pairs o is =
    ap (value_found (map (on_value tree_of) pairs))
    (is ∙ ap (place_of name) (sym (keys_kept pairs)))
    ∙ member_at name (map (on_value tree_of) pairs)

-- what a field adds
pub record Adds (names : List (List ℕ)) (at : ℕ) (name : List ℕ) (es : Entries)
    (put : List (List ℕ × Tree)) : Type 0 where
  pub adds : (rest : List (List ℕ × Tree))
      → (if is_place at (place_of name names) then put_member name (member name es) rest else rest)
      ≡ put ++ rest

pub adds_value : (names : List (List ℕ)) (at : ℕ) (name : List ℕ) (es : Entries) (t : Tree)
    → is_place at (place_of name names) ≡ true → member name es ≡ Some t
    → Adds names at name es ((name, t) ∷ [])
adds_value names at name es t here is = record {
  adds = λ rest.
      ap (λ b. if b then put_member name (member name es) rest else rest) here
      ∙ ap (λ o. put_member name o rest) is;
}

pub adds_none : (names : List (List ℕ)) (at : ℕ) (name : List ℕ) (es : Entries)
    → is_place at (place_of name names) ≡ true → member name es ≡ None
    → Adds names at name es []
adds_none names at name es here is = record {
  adds = λ rest.
      ap (λ b. if b then put_member name (member name es) rest else rest) here
      ∙ ap (λ o. put_member name o rest) is;
}

pub adds_nothing : (names : List (List ℕ)) (at : ℕ) (name : List ℕ) (es : Entries)
    → is_place at (place_of name names) ≡ false → Adds names at name es []
adds_nothing names at name es here = record {
  adds = λ rest. ap (λ b. if b then put_member name (member name es) rest else rest) here;
}

-- one field more
pub one_field : (fields : List FieldName) (at : ℕ) (f : FieldName) (es : Entries)
    (old new put all : List (List ℕ × Tree)) → at < length fields → f ≡ get_or fields at f
    → new ≡ old ++ put → Adds (names_of fields) at f.name es put
    → old ++ chosen (names_of fields) at (drop at fields) es ≡ all
    → new ++ chosen (names_of fields) (at + 1) (drop (at + 1) fields) es ≡ all
one_field fields at f es old new put all within is added adds same =
    let names = names_of fields in
    let rest = chosen names (at + 1) (drop (at + 1) fields) es in
    let cons : drop at fields ≡ f ∷ drop (at + 1) fields =
    drop-cons fields at f within
    ∙ ap (λ g. g ∷ drop (suc at) fields) (sym is)
    ∙ ap (λ n. f ∷ drop n fields) (sym (add-one at)) in
    ap (λ t. t ++ rest) added
    ∙ append_assoc old put rest
    ∙ ap (λ t. old ++ t) (sym (adds.adds rest))
    ∙ ap (λ fs. old ++ chosen names at fs es) (sym cons)
    ∙ same

pub mapped_push : (pairs : List (List ℕ × Data)) (name : List ℕ) (value : Data)
    → map (on_value tree_of) (pairs ++ (name, value) ∷ [])
    ≡ map (on_value tree_of) pairs ++ (name, tree_of value) ∷ []
mapped_push [] name value = refl
mapped_push (p ∷ ps) name value = ap (λ t. on_value tree_of p ∷ t) (mapped_push ps name value)
