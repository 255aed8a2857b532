use Rattle.std.proofs.Common.{◌∙◌, ap}
use Rattle.gtm_base.proofs.Characters.{chars-ascii}
use Rattle.gtm_data.specs.Paths.{member_of}
use Rattle.gtm_data.specs.Tree.{tree_of}
use Rattle.template_fields.proofs.forms.member.Goals as goal

pub returns : goal.returns
returns c =
    c.member.ensures
    ∙ ap (λ key. member_of key (tree_of c.args.value.now))
    (chars-ascii c.args.key.now c.requires)
