-- The members of no more parameters.
use Rattle.std.proofs.Common.{◌≡◌, ◌≤◌, ℕ, List, [], drop, length, refl, ap, ◌∙◌}
use Rattle.std.proofs.lemmas.List.{drop_all}
use Rattle.export_model.specs.declared.params.NameRef.{NameRef}
use Rattle.export_model.specs.declared.params.Param.{Param}
use Rattle.export_model.specs.Params.{params_of}
use Rattle.gtm_data.specs.Tree.{Tree, Entries}
use Rattle.variable_kinds.specs.declared.members.Choice.TheVariants.{Last}
use Rattle.variable_kinds.specs.Resolved.{resolved_members}

-- no parameter makes a member
none_more : (m : NameRef → Tree) (before : Entries)
    → resolved_members m Last (params_of []) before ≡ before
unfolding resolved_members
none_more m before = refl

-- the end of a loop that puts each parameter among members
pub members_end : (m : NameRef → Tree) (params : List Param) (at : ℕ) (before : Entries)
    → length params ≤ at
    → resolved_members m Last (params_of (drop at params)) before ≡ before
members_end m params at before within =
    ap (λ ps. resolved_members m Last (params_of ps) before) (drop_all at params within)
    ∙ none_more m before
