use Rattle.std.proofs.Common.{◌≡◌, ◌∙◌, sym}
use Rattle.std.specs.Prelude.{encode_utf8_all}
use Rattle.std.proofs.lemmas.Str.{encodes-IsAscii}
use Rattle.gtm_base.proofs.Characters.{IsAscii-from_test}
use Rattle.gtm_cli.proofs.Unfailed.{took_text}
use Rattle.gtm_cli.proofs.report.put_word.Goals as goal

pub returns : goal.returns
returns g c =
    let bytes : c.as_bytes.result.now ≡ encode_utf8_all c.args.word.now =
    c.as_bytes.ensures.value
    ∙ sym (encodes-IsAscii c.args.word.now (IsAscii-from_test c.args.word.now c.requires.word))
    in
    took_text c.put.result _ _ _ c.requires.err (rw bytes at c.put.ensures)
