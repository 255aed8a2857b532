-- What is said of the tokens of a text: they are a script, or they are refused at a place and for a
-- cause.
use Rattle.std.specs.Prelude.{◌≡◌, ℕ, true, false, Some, None}
use Rattle.sjs_syntax.specs.Tree.{StmtTrees}
use Rattle.sjs_grammar.specs.Grammar.{Reads}
use Rattle.sjs_grammar.specs.Tokens.{Toks}
use Rattle.sjs_refusal.specs.Refusal.{IsRefused}
use Rattle.sjs_depth.specs.Depth.{too_deep_at}

-- a script; or the place of a token that no script has there, which is of a form that is left out
-- or is unexpected; or the place of a node that is too deep
pub data Verdict : Type 0 where
  Script : StmtTrees → Verdict
  LeftOut Unexpected TooDeep : ℕ → Verdict

-- what each verdict says of tokens with the end of the text
abbrev pub Holds : Toks → Verdict → Type 0
Holds ts (Script p) = Reads ts p × (too_deep_at p ≡ None)
Holds ts (LeftOut at) = IsRefused ts at true
Holds ts (Unexpected at) = IsRefused ts at false
Holds ts (TooDeep at) = (p : StmtTrees) × Reads ts p × (too_deep_at p ≡ Some at)
