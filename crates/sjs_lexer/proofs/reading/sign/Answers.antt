use Rattle.std.specs.Str.{chars}
use Rattle.sjs_lexer.proofs.TokensSeen.{unseen_sign}
use Rattle.sjs_lexer.proofs.reading.sign.Goals as goal

pub returns-in-None : goal.returns-in-None
returns-in-None c = unseen_sign (chars c.args.left.now) c.requires.start c.in-None.ensures.none
