-- A sound container has sound variables.
use Rattle.std.proofs.Common.{◌≡◌, ◌<◌, ℕ, zero, suc, List, [], ◌∷◌, ◌++◌, length, Option, Some}
use Rattle.std.proofs.Common.{None}
use Rattle.std.proofs.Common.{refl, subst, arith, slice_get}
use Rattle.std.specs.Prelude.{Contains, IsSomeAnd, option_map, slice_index_or, All, IfSome}
use Rattle.std.specs.List.{AllByRecursion, filter_map}
use Rattle.std.proofs.lemmas.List.Elements.{recursion_from_All}
use Rattle.std.proofs.lemmas.Option.{slice_get-map}
use Rattle.export_model.specs.declared.container.Container.{Container}
use Rattle.export_model.specs.declared.params.NameRef.{NameRef}
use Rattle.export_model.specs.declared.params.NameRef.TheVariants as name
use Rattle.export_model.specs.declared.params.Param.{Param}
use Rattle.export_model.specs.declared.variables.Variable.{Variable}
use Rattle.export_model.specs.Graphs.{variable_at}
use Rattle.export_model.specs.Names.{names_in, names_in_all, names_of_format, names_of_option}
use Rattle.export_model.specs.Names.{names_of_variable}
use Rattle.export_model.specs.Params.{params_of, value_of}
use Rattle.export_model.specs.Sound.{Sound, IsNameIn, IsParamIn, IsVariableIn}
use Rattle.gtm_variables.specs.Variables.{HasSoundVariables}

join : {A : Type 0} (P : A → Type 0) (xs ys : List A) → AllByRecursion P xs
    → AllByRecursion P ys → AllByRecursion P (xs ++ ys)
join P [] ys first second = second
join P (x ∷ xs) ys first second = (first.0, join P xs ys first.1 second)

module _ (c : Container) where
  abbrev AllIn : List NameRef → Type 0
  AllIn names = AllByRecursion (IsNameIn c) names

  in_params : (ps : List Param) → AllByRecursion (IsParamIn c) ps
      → AllIn (names_in_all (params_of ps))
  unfolding names_in_all
  in_params [] all = tt
  in_params (p ∷ ps) all =
      join (IsNameIn c) (names_in (value_of p.value)) (names_in_all (params_of ps))
      (recursion_from_All (IsNameIn c) (names_in (value_of p.value)) all.0) (in_params ps all.1)

  in_option : (p : Option Param) → IfSome p (IsParamIn c) → AllIn (names_of_option p)
  in_option None all = tt
  in_option (Some p) all = recursion_from_All (IsNameIn c) (names_in (value_of p.value)) all

  in_variable : (variable : Variable) → IsVariableIn c variable
      → AllIn (names_of_variable variable)
  in_variable variable within =
      let format = variable.format in
      let null = names_of_option format.null in
      let undefined = names_of_option format.undefined in
      let yes = names_of_option format.yes in
      let no = names_of_option format.no in
      let f = within.format in
      join (IsNameIn c) (names_in_all (params_of variable.params)) (names_of_format format)
      (in_params variable.params (recursion_from_All (IsParamIn c) variable.params within.params))
      (join (IsNameIn c) (null ++ undefined ++ yes) no
      (join (IsNameIn c) (null ++ undefined) yes
      (join (IsNameIn c) null undefined (in_option format.null f.null)
      (in_option format.undefined f.undefined))
      (in_option format.yes f.yes))
      (in_option format.no f.no))

  pub named_within : (names : List NameRef) → AllIn names → (to : ℕ)
      → Contains (filter_map variable_at names) to → to < length c.variables
  named_within [] all to has = absurd (omega (arith, has.1))
  named_within (name.Variable at ∷ names) all to has =
      by_place has.0 has.1 has.2 (named_within names all.1 to) where
        by_place : (k : ℕ) → k < length (at ∷ filter_map variable_at names)
            → slice_index_or (at ∷ filter_map variable_at names) k to ≡ to
            → (Contains (filter_map variable_at names) to → to < length c.variables)
            → to < length c.variables
        by_place zero within is later = subst (λ place. place < length c.variables) is all.0
        by_place (suc k) within is later = later (k, omega arith, is)
  named_within (name.BuiltIn at ∷ names) all to has = named_within names all.1 to has
  named_within (name.EventName ∷ names) all to has = named_within names all.1 to has
  named_within (name.Nothing ∷ names) all to has = named_within names all.1 to has

  -- the places that names stand for are there
  pub places_within : (names : List NameRef) → All (IsNameIn c) names → (p : ℕ)
      → Contains (filter_map variable_at names) p → p < length c.variables
  places_within names all p has =
      named_within names (recursion_from_All (IsNameIn c) names all) p has

-- what holds of each entry holds of the one at a place
at_entry : {A : Type 0} (P : A → Type 0) (entries : List A) → AllByRecursion P entries
    → (at : ℕ) (entry : A) → slice_get entries at ≡ Some entry → P entry
at_entry P [] all at entry is = absurd cc
at_entry P (first ∷ entries) all zero entry is =
    let same : first ≡ entry = cc in subst P same all.0
at_entry P (first ∷ entries) all (suc at) entry is = at_entry P entries all.1 at entry is

abbrev named : Variable → List ℕ
named variable = filter_map variable_at (names_of_variable variable)

pub sound_variables : (c : Container) → Sound c → HasSoundVariables c
sound_variables c sound = record {
  small = sound.consistent.small.own.variables;
  closed = λ from to refers.
      by_entry from to (slice_get c.variables from) refl
      (subst (λ places. IsSomeAnd places (λ ps. Contains ps to))
      (slice_get-map named c.variables from) refers);
  acyclic = sound.consistent.no_variable_cycle;
} where
  by_entry : (from to : ℕ) (entry : Option Variable) → slice_get c.variables from ≡ entry
      → IsSomeAnd (option_map named entry) (λ ps. Contains ps to) → to < length c.variables
  by_entry from to None is refers = absurd refers
  by_entry from to (Some variable) is refers =
      let entry : IsVariableIn c variable =
      at_entry (IsVariableIn c) c.variables
      (recursion_from_All (IsVariableIn c) c.variables sound.consistent.in_range.variables)
      from variable is in
      named_within c (names_of_variable variable) (in_variable c variable entry) to refers
