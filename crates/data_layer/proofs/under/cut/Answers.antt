use Rattle.std.proofs.Common.{◌≡◌, [], ◌∷◌, length, sym, subst}
use Rattle.std.specs.Option.{IfNone}
use Rattle.std.specs.Str.{chars}
use Rattle.memchr.specs.Find.{Nowhere, Passes, is_byte}
use Rattle.gtm_data.specs.Paths.{dotted}
use Rattle.data_layer.proofs.PartByPart.{cut_parts, cut_shorter, cut_last}
use Rattle.data_layer.proofs.FewParts.{one_part}
use Rattle.data_layer.proofs.under.cut.Goals as goal

pub returns-clause-parts : goal.returns-clause-parts
returns-clause-parts c =
    cut_parts c.args.key.now c.utf8.key c.split_once.result c.split_once.ensures.cases

pub returns-clause-shorter : goal.returns-clause-shorter
returns-clause-shorter c =
    cut_shorter c.args.key.now c.utf8.key c.split_once.result c.split_once.ensures.cases

pub returns-clause-last : goal.returns-clause-last
returns-clause-last c =
    cut_last c.args.key.now c.utf8.key c.split_once.result c.split_once.ensures.cases

pub returns-in_err-_dot-clause-last : goal.returns-in_err-_dot-clause-last
returns-in_err-_dot-clause-last c =
    let key = c.args.key.now in
    let none =
    subst (λ bytes. Nowhere (Passes (is_byte 46) bytes) 0 (length bytes))
    c.as_bytes.ensures.value c.in_err-_dot.ensures in
    subst (λ found. IfNone found (dotted (chars key) ≡ chars key ∷ []))
    (sym c.from_residual.ensures) (one_part key c.utf8.key none)
