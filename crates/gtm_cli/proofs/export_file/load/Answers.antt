use Rattle.std.proofs.Common.{◌∙◌, ap, sym}
use Rattle.export_reader.specs.Container.{container_in}
use Rattle.export_reader.specs.FirstBroken.{first_broken}
use Rattle.gtm_cli.proofs.export_file.load.Goals as goal

pub returns-in-Ok-read_export-clause-answer : goal.returns-in-Ok-read_export-clause-answer
returns-in-Ok-read_export-clause-answer g c = λ bytes holds.
    let enough = c.in-Ok.ensures.bytes bytes holds in
    let unbroken =
    ap first_broken (sym c.as_slice.ensures.value) ∙ c.in-Ok-read_export.ensures.ok in
    record {
      unbroken = sym enough.broken ∙ unbroken;
      container_is =
          ap container_in (sym (enough.whole unbroken) ∙ sym c.as_slice.ensures.value)
          ∙ c.in-Ok-read_export.ensures.container;
    }
