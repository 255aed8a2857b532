use Rattle.std.proofs.Common.{rules}
use Rattle.std.specs.Str.{chars}
use Rattle.sjs_lexer.specs.Tokens.{tokens_none, bytes_in}
use Rattle.sjs_lexer.proofs.Walks.{gap_front, token_front, token_shorter, none_found, some_found}
use Rattle.sjs_lexer.proofs.Walks.{refused_at, all_tokens, one_more}
use Rattle.sjs_lexer.proofs.lexing.tokens.Goals as goal

pub tokens-init : goal.tokens-init
tokens-init c = record { tokens = rw c.new-tokens.ensures tokens_none; utf8 = c.utf8.text }

pub returns-then-is_end-clause-ok : goal.returns-then-is_end-clause-ok
returns-then-is_end-clause-ok c =
    let here = c.skip_gaps-after_break.result.1.now in
    all_tokens (chars c.args.text.now) (chars c.tokens.left.now) (chars here) c.tokens.tokens
    c.skip_gaps-after_break.result.0 c.tokens.invariant.tokens c.skip_gaps-after_break.ensures.0
    c.if-is_end.ensures.end

pub place-from-requires : goal.place-from-requires
place-from-requires c =
    gap_front (bytes_in (chars c.args.text.now)) (chars c.args.text.now) (chars c.tokens.left.now)
    (chars c.skip_gaps-after_break.result.1.now) c.tokens.tokens c.skip_gaps-after_break.result.0
    c.tokens.invariant.tokens c.skip_gaps-after_break.ensures.0

pub token-requires : goal.token-requires
token-requires c = c.if-is_end.ensures.more

pub returns-in-None-clause-refused : goal.returns-in-None-clause-refused
returns-in-None-clause-refused c =
    let here = c.skip_gaps-after_break.result.1.now in
    refused_at (chars c.args.text.now) (chars c.tokens.left.now) (chars here) c.place-from.result
    c.tokens.tokens c.skip_gaps-after_break.result.0
    c.tokens.invariant.tokens c.skip_gaps-after_break.ensures.0 c.skip_gaps-after_break.ensures.1
    c.if-is_end.ensures.more
    (none_found (chars here) c.in_ok-token.field-0 c.in-None.is c.in_ok-token.ensures)
    c.place-from.ensures

pub place-to-requires : goal.place-to-requires
place-to-requires c =
    token_front (bytes_in (chars c.args.text.now)) (chars c.args.text.now) (chars c.tokens.left.now)
    (chars c.skip_gaps-after_break.result.1.now) (chars c.in-Some.rest.now) c.tokens.tokens
    c.skip_gaps-after_break.result.0 c.in-Some.kind c.tokens.invariant.tokens
    c.skip_gaps-after_break.ensures.0
    (some_found (chars c.skip_gaps-after_break.result.1.now) c.in_ok-token.field-0
    (c.in-Some.kind, c.in-Some.rest) c.in-Some.is c.in_ok-token.ensures)

pub tokens-smaller : goal.tokens-smaller
tokens-smaller c =
    token_shorter (chars c.tokens.left.now) (chars c.skip_gaps-after_break.result.1.now)
    (chars c.in-Some.rest.now) c.skip_gaps-after_break.result.0 c.in-Some.kind
    c.skip_gaps-after_break.ensures.0
    (some_found (chars c.skip_gaps-after_break.result.1.now) c.in_ok-token.field-0
    (c.in-Some.kind, c.in-Some.rest) c.in-Some.is c.in_ok-token.ensures)

pub tokens-preserved : goal.tokens-preserved
tokens-preserved c =
    let here = c.skip_gaps-after_break.result.1.now in
    let found =
    some_found (chars here) c.in_ok-token.field-0 (c.in-Some.kind, c.in-Some.rest) c.in-Some.is
    c.in_ok-token.ensures in
    record {
      tokens =
          rw c.in_ok-push-in-Some.ensures.ok
          (one_more (chars c.args.text.now) (chars c.tokens.left.now) (chars here)
          (chars c.in-Some.rest.now) c.place-from.result c.place-to.result c.tokens.tokens
          c.skip_gaps-after_break.result.0 c.in-Some.kind c.tokens.invariant.tokens
          c.skip_gaps-after_break.ensures.0 found c.place-from.ensures c.place-to.ensures);
      utf8 = search rules;
    }
