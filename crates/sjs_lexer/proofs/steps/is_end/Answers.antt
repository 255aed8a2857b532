use Rattle.sjs_lexer.proofs.Walks.{end_of, more_of}
use Rattle.sjs_lexer.proofs.steps.is_end.Goals as goal

pub returns-clause-end : goal.returns-clause-end
returns-clause-end c = end_of c.args.left.now c.is_empty.result c.is_empty.ensures

pub returns-clause-more : goal.returns-clause-more
returns-clause-more c = more_of c.args.left.now c.is_empty.result c.utf8.left c.is_empty.ensures
