use Rattle.std.proofs.Common.{refl, subst}
use Rattle.std.specs.Prelude.{Contains}
use Rattle.gtm_data.specs.Tree.{tree_of}
use Rattle.variable_kinds.proofs.AskedTexts.{asks_on}
use Rattle.gtm_variables.proofs.computing.computed.Goals as goal
use Rattle.gtm_variables.specs.Kept.{moment_of, value_by_kept}
use Rattle.gtm_variables.specs.Meaning.{fields_of, kind_texts}
use Rattle.gtm_variables.specs.Snapshot.{snapshot}

pub returns-in_err-value-clause-asks : goal.returns-in_err-value-clause-asks
returns-in_err-value-clause-asks g c =
    let values = c.args.values.now in
    let variable = c.args.variable.now in
    let s = snapshot (moment_of values) (g.C.TemplateCaller.meaning c.args.caller.now) in
    let texts = kind_texts s c.args.at variable.kind in
    asks_on (texts (tree_of c.in_ok-fields.fields))
    (texts (fields_of (value_by_kept values) variable)) c.from_residual-in_err-value.result
    c.in_err-value.field-0.0 _ _ _ refl
    (λ text has. subst (λ f. Contains (texts f) text) c.in_ok-fields.ensures.value has)
    c.from_residual-in_err-value.ensures.0 c.from_residual-in_err-value.ensures.1
    c.in_err-value.ensures.asks
