use Rattle.std.proofs.Common.{append-nil}
use Rattle.std.specs.Str.{chars}
use Rattle.perm_match.proofs.pieces.one_piece.Goals as goal

pub returns : goal.returns
unfolding chars
returns c = append-nil (chars c.args.text.now)
