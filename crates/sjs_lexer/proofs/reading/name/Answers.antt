use Rattle.std.proofs.Common.{sym, ◌∙◌}
use Rattle.std.specs.Str.{chars}
use Rattle.sjs_lexer.proofs.TokensSeen.{name_split, known_name, unknown_name}
use Rattle.sjs_lexer.proofs.reading.name.Goals as goal

pub front-requires : goal.front-requires
front-requires c =
    name_split (chars c.args.left.now) (chars c.skip_name-rest.result.now) c.skip_name-rest.ensures

pub returns-then-is_word : goal.returns-then-is_word
returns-then-is_word c =
    known_name (chars c.args.left.now) c.front.result.now (chars c.skip_name-rest.result.now)
    c.front.utf8 c.requires.start c.requires.clear c.skip_name-rest.ensures c.front.ensures
    (sym c.is_word.ensures ∙ c.if-is_word.true)

pub returns : goal.returns
returns c =
    unknown_name (chars c.args.left.now) c.front.result.now (chars c.skip_name-rest.result.now)
    c.front.utf8 c.requires.start c.requires.clear c.skip_name-rest.ensures c.front.ensures
    (sym c.is_word.ensures ∙ c.if-is_word.false)
