-- The entries of template variables.
use Rattle.std.specs.Prelude.{ℕ, List, [], ◌∷◌, ◌++◌, Bool, true, false}
use Rattle.gtm_data.specs.Tree.{Tree, object, undefined, tree_of}
use Rattle.page_world.specs.World.{WorldState}
use Rattle.perm_model.specs.declared.endings.Outcome.{Outcome}
use Rattle.perm_model.specs.declared.endings.Outcome.TheVariants.{Returned, Denied, Fault}

-- an entry that was answered: of the variable at a place, with its fields
pub record CallRecord : Type 0 where
  pub variable : ℕ
  pub fields : Tree

-- what the templates of variables mean to a caller: what each gives in a world for its fields, the
-- texts that this may hand to the engines, and the entries that were answered so far
pub record Templates : Type 0 where
  pub outcome : ℕ → WorldState → Tree → Outcome
  pub texts : ℕ → WorldState → Tree → List (List ℕ)
  pub calls : List CallRecord

-- the same after more entries
abbrev pub with_calls : List CallRecord → Templates → Templates
with_calls more templates = record {
  outcome = templates.outcome;
  texts = templates.texts;
  calls = templates.calls ++ more;
}

-- the same after an entry of the variable at a place, with its fields
abbrev pub with_call : ℕ → Tree → Templates → Templates
with_call variable fields templates =
    with_calls (record { variable = variable; fields = fields } ∷ []) templates

-- whether a value is a Map
abbrev pub is_map : Tree → Bool
is_map (object es) = true
is_map _ = false

-- what an entry returned; Undefined where it was denied or met a fault
abbrev pub returned : Outcome → Tree
returned (Returned value) = tree_of value
returned (Denied permission place) = undefined
returned (Fault fault place) = undefined
