use Rattle.std.proofs.Common.{lit<}
use Rattle.export_names.proofs.Splits.{splits, close_chars}
use Rattle.export_names.proofs.pieces.around_close.Goals as goal

pub returns : goal.returns
returns c =
    splits 125 (lit< tt) close_chars c.args.text.now c.split_once.result c.utf8.text
    c.split_once.ensures.cases
