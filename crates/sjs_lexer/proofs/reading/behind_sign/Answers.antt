use Rattle.std.proofs.Common.{sym}
use Rattle.std.specs.Str.{chars}
use Rattle.sjs_lexer.proofs.TokensSeen.{seen_sign, sign_is_there}
use Rattle.sjs_lexer.proofs.reading.behind_sign.Goals as goal

pub returns-in-None : goal.returns-in-None
returns-in-None c =
    absurd (sign_is_there (chars c.args.left.now) c.args.sign.now c.requires.longest
    (sym c.in-None.ensures))

pub returns-in-Some : goal.returns-in-Some
returns-in-Some c =
    seen_sign (chars c.args.left.now) c.args.sign.now (chars c.in-Some.rest.now) c.requires.start
    c.requires.clear c.requires.longest (sym c.in-Some.ensures)
