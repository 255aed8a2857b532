use Rattle.std.proofs.Common.{sym}
use Rattle.std.specs.Str.{chars}
use Rattle.sjs_lexer.proofs.TokensSeen.{seen_number, unseen_number}
use Rattle.sjs_lexer.proofs.reading.number_token.Goals as goal

pub returns-in-None : goal.returns-in-None
returns-in-None c =
    unseen_number (chars c.args.left.now) c.requires.start (sym c.in-None.ensures.value)

pub returns-in-Some : goal.returns-in-Some
returns-in-Some c =
    seen_number (chars c.args.left.now) (chars c.in-Some.rest.now) c.in-Some.number c.requires.start
    c.requires.clear (sym c.in-Some.ensures.value) c.in-Some.ensures.within
