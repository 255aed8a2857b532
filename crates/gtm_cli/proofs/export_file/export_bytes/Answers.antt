use Rattle.std.proofs.Common.{◌∙◌, sym, arith}
use Rattle.gtm_cli.proofs.EnoughRead.{enough_read, if_ok_both, opened}
use Rattle.gtm_cli.proofs.export_file.export_bytes.Goals as goal

pub returns-clause-bytes : goal.returns-clause-bytes
returns-clause-bytes g c =
    if_ok_both c.read_whole.result _ _ _
    (λ read left_is end bytes holds.
    let all = opened c.open.result _ _ _ bytes c.if-is_err.ensures.value holds c.open.ensures in
    enough_read bytes read.items _ (sym all ∙ left_is) (λ few. end (omega (arith, read.ok.0))))
    c.read_whole.ensures.bytes c.read_whole.ensures.end
