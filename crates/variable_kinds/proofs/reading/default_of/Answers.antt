use Rattle.std.proofs.Common.{◌≡◌, codes, true, false, refl, sym, ◌∙◌}
use Rattle.gtm_data.specs.Tree.{Tree, undefined, tree_of}
use Rattle.variable_kinds.proofs.Trees.{tree_of-Undefined}
use Rattle.variable_kinds.proofs.reading.default_of.Goals as goal
use Rattle.variable_kinds.specs.Fields.{is_set, default_of}

not_set : (fields : Tree) → is_set (codes "setDefaultValue") fields ≡ false
    → undefined ≡ default_of fields
not_set fields e = rw e refl

pub returns-then-branch : goal.returns-then-branch
returns-then-branch c =
    let e : is_set (codes "setDefaultValue") (tree_of c.args.fields.now) ≡ true =
    sym c.in_ok-is_set.ensures ∙ c.if-branch.true in
    rw e c.field.ensures

pub returns-else-branch : goal.returns-else-branch
returns-else-branch c =
    tree_of-Undefined
    ∙ not_set (tree_of c.args.fields.now) (sym c.in_ok-is_set.ensures ∙ c.if-branch.false)
