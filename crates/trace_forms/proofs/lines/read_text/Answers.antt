use Rattle.std.proofs.Common.{◌≡◌, Some, IfOk, option_map, subst, arith}
use Rattle.std.specs.Prelude.{codes}
use Rattle.std.specs.Str.{chars}
use Rattle.gtm_data.specs.Json.{json_of}
use Rattle.gtm_data.specs.Plain.{plain}
use Rattle.gtm_data.specs.TextRead.{read_tree}
use Rattle.gtm_data.specs.Tree.{tree_of, object, entry, none}
use Rattle.trace_forms.specs.Views.{reading_of}
use Rattle.trace_forms.proofs.Told.{said}
use Rattle.trace_forms.proofs.lines.read_text.Goals as goal

pub returns-in-Ok-Some-Member : goal.returns-in-Ok-Some-Member
unfolding chars
returns-in-Ok-Some-Member c =
    let tree = json_of c.args.text.now in
    let t = object (entry (codes "push") (tree_of c.in-Ok-Some-Member.value) none) in
    let there : Some (Some t) ≡ option_map plain tree = grind arith in
    said tree t there

pub returns-in-Ok-Some-Whole : goal.returns-in-Ok-Some-Whole
returns-in-Ok-Some-Whole c =
    let tree = json_of c.args.text.now in
    let t = tree_of c.in-Ok-Some-Whole.data in
    let there : Some (Some t) ≡ option_map plain tree = grind arith in
    subst (λ r. IfOk c.read_form.result (λ read. reading_of read ≡ r)) (said tree t there)
    c.read_form.ensures
