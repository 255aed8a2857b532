-- Tokens are one script at most.
use Rattle.std.proofs.Common.{◌≡◌, Option, Some, None, sym, ◌∙◌, ap}
use Rattle.sjs_syntax.specs.Tree as tree
use Rattle.sjs_syntax.specs.Tree.{StmtTrees}
use Rattle.sjs_grammar.specs.Grammar.{Reads}
use Rattle.sjs_grammar.specs.Tokens.{Toks}
use Rattle.sjs_table.proofs.Builds.{builds}
use Rattle.sjs_table.specs.Built.{built, script_of}
use Rattle.sjs_table.specs.Notes as note
use Rattle.sjs_table.specs.Notes.{Out}
use Rattle.sjs_table.specs.Runs.{opened}
use Rattle.sjs_complete.proofs.Complete.{complete}

-- the script of what was put out
abbrev script_from : Option Out → StmtTrees
script_from None = tree.no_stmts
script_from (Some o) = script_of (built o)

from_notes : (p : StmtTrees) → script_from (Some (note.stmts p opened)) ≡ p
from_notes p = ap script_of (builds p)

pub one_script : (ts : Toks) (p q : StmtTrees) → Reads ts p → Reads ts q → p ≡ q
one_script ts p q d e =
    sym (from_notes p)
    ∙ ap script_from (sym (complete ts p d) ∙ complete ts q e)
    ∙ from_notes q
