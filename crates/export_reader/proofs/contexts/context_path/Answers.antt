use Rattle.std.proofs.Common.{ap, ◌∙◌, codes}
use Rattle.export_fields.specs.Fault.{in_key}
use Rattle.export_reader.proofs.contexts.context_path.Goals as goal

pub returns : goal.returns
returns c =
    c.in_ok-path.ensures
    ∙ ap (in_key (codes "containerVersion"))
    (c.in_ok-container.ensures
    ∙ ap (in_key (codes "container"))
    (c.in_ok-here.ensures ∙ ap (in_key (codes "usageContext")) c.new.ensures))
