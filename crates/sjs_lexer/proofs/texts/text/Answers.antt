use Rattle.std.proofs.Common.{sym, rules}
use Rattle.std.specs.Str.{chars}
use Rattle.sjs_lexer.proofs.PiecesRead.{pieces_push, piece_shorter}
use Rattle.sjs_lexer.specs.Reading.{pieces_none}
use Rattle.sjs_lexer.proofs.texts.text.Goals as goal

pub loop-c-init : goal.loop-c-init
loop-c-init c = record { pieces = rw c.requires pieces_none; utf8 = c.utf8.start }

pub loop-c-smaller : goal.loop-c-smaller
loop-c-smaller c =
    piece_shorter c.args.quote c.in-Some.c (chars c.loop-c.left.now) (chars c.in-Some.rest.now)
    (sym c.in-Some.ensures)

pub loop-c-preserved : goal.loop-c-preserved
loop-c-preserved c = record {
  pieces =
      rw c.in_ok-push.ensures.ok
      (pieces_push c.args.quote (chars c.args.start.now) _ (chars c.loop-c.left.now)
      (chars c.in-Some.rest.now) c.in-Some.c c.loop-c.invariant.pieces (sym c.in-Some.ensures));
  utf8 = search rules;
}
