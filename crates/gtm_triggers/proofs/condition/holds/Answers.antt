use Rattle.std.proofs.Common.{◌++◌, ℕ, List, refl, subst}
use Rattle.std.specs.Prelude.{Contains}
use Rattle.std.proofs.lemmas.List.Elements.{Contains-append_left, Contains-append_right}
use Rattle.gtm_data.specs.TextOf.{text_of}
use Rattle.gtm_data.specs.Tree.{Tree, tree_of}
use Rattle.variable_kinds.proofs.AskedTexts.{asks_on}
use Rattle.gtm_variables.specs.Asked.{asked, asked_of_condition, asked_of_op, pattern_by}
use Rattle.gtm_variables.specs.Kept.{moment_of}
use Rattle.gtm_variables.specs.Snapshot.{snapshot}
use Rattle.gtm_triggers.proofs.Within.{asks_after}
use Rattle.gtm_triggers.proofs.condition.holds.Goals as goal

pub returns-in_err-left-clause-asks : goal.returns-in_err-left-clause-asks
returns-in_err-left-clause-asks g c =
    let s = snapshot (moment_of c.args.values.now) (g.C.TemplateCaller.meaning c.args.caller.now) in
    let own = asked_of_condition s c.args.condition.now in
    asks_on (asked s) (asked s ++ own) c.from_residual.result c.in_err-left.field-0.0 _ _ _ refl
    (λ text has. Contains-append_left (asked s) own text has) c.from_residual.ensures.0
    c.from_residual.ensures.1 c.in_err-left.ensures.asks

pub returns-clause-asks : goal.returns-clause-asks
returns-clause-asks g c =
    let s = snapshot (moment_of c.args.values.now) (g.C.TemplateCaller.meaning c.args.caller.now) in
    let condition = c.args.condition.now in
    let own = asked_of_condition s condition in
    let texts : Tree → List (List ℕ) =
    λ t. asked_of_op condition.op (pattern_by condition.ignore_case (text_of t)) in
    asks_after (texts (tree_of c.in_ok-left.right)) (asked s ++ own) c.decided.result _ _ _
    c.in_ok-left.ensures.asks.engines.left.kept
    (λ text has. Contains-append_right (asked s) own text
    (subst (λ t. Contains (texts t) text) c.in_ok-left.ensures.right has))
    c.decided.ensures.asks
