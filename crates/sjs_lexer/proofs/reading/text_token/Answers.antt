use Rattle.std.specs.Str.{chars}
use Rattle.sjs_lexer.proofs.TokensSeen.{seen_text, unseen_text}
use Rattle.sjs_lexer.proofs.reading.text_token.Goals as goal

pub returns-in-None : goal.returns-in-None
returns-in-None c =
    unseen_text c.args.quote (chars c.args.start.now) c.text.new.value c.in_ok-text.field-0
    c.requires.start c.in-None.is c.in_ok-text.ensures

pub returns : goal.returns
returns c =
    seen_text c.args.quote (chars c.args.start.now) c.text.new.value c.in_ok-text.field-0
    c.in-Some.rest c.requires.start c.requires.clear c.in-Some.is c.in_ok-text.ensures
