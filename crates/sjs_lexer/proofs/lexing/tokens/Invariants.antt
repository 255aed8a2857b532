use Rattle.std.proofs.Common.{length}
use denote.Shadow.{shadow}
use denote.Text.{Utf8}
use Rattle.std.specs.Str.{chars}
use Rattle.sjs_lexer.specs.Tokens.{TokensTo, bytes_in}
use Rattle.sjs_lexer.proofs.lexing.tokens.Given as goal

abbrev pub invariant-tokens : goal.invariant-tokens
invariant-tokens l = record {
  tokens : TokensTo (bytes_in (chars l.text)) (chars l.text) l.tokens (chars l.left);
  utf8 : shadow (Utf8 l.left);
}

abbrev pub decreases-tokens : goal.decreases-tokens
decreases-tokens l = length (chars l.left)
