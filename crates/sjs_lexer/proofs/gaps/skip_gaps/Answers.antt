use Rattle.std.proofs.Common.{sym, ap, subst, ◌||◌, ◌∙◌, Bool, rules}
use Rattle.std.specs.Str.{chars}
use Rattle.sjs_lexer.specs.Tokens.{Skips, skips_none}
use Rattle.sjs_lexer.proofs.Walks.{skips_push, gap_shorter}
use Rattle.sjs_lexer.proofs.gaps.skip_gaps.Goals as goal

pub loop-breaks-init : goal.loop-breaks-init
loop-breaks-init c = record { skips = skips_none; utf8 = c.utf8.text }

pub loop-breaks-smaller-then-broken : goal.loop-breaks-smaller-then-broken
loop-breaks-smaller-then-broken c =
    gap_shorter (chars c.loop-breaks.left.now) (c.in-Some.breaks, chars c.in-Some.rest.now)
    (sym c.in-Some.ensures)

pub loop-breaks-preserved-then-broken : goal.loop-breaks-preserved-then-broken
loop-breaks-preserved-then-broken c =
    let P : Bool → Type 0 = λ b. Skips (chars c.args.text.now) b (chars c.in-Some.rest.now) in
    record {
      skips =
          subst P (ap (λ b. b || c.in-Some.breaks) c.if-broken.true ∙ sym c.if-broken.true)
          (skips_push (chars c.args.text.now) (chars c.loop-breaks.left.now) c.loop-breaks.broken
          (c.in-Some.breaks, chars c.in-Some.rest.now) c.loop-breaks.invariant.skips
          (sym c.in-Some.ensures));
      utf8 = search rules;
    }

pub loop-breaks-smaller : goal.loop-breaks-smaller
loop-breaks-smaller c =
    gap_shorter (chars c.loop-breaks.left.now) (c.in-Some.breaks, chars c.in-Some.rest.now)
    (sym c.in-Some.ensures)

pub loop-breaks-preserved : goal.loop-breaks-preserved
loop-breaks-preserved c =
    let P : Bool → Type 0 = λ b. Skips (chars c.args.text.now) b (chars c.in-Some.rest.now) in
    record {
      skips =
          subst P (ap (λ b. b || c.in-Some.breaks) c.if-broken.false)
          (skips_push (chars c.args.text.now) (chars c.loop-breaks.left.now) c.loop-breaks.broken
          (c.in-Some.breaks, chars c.in-Some.rest.now) c.loop-breaks.invariant.skips
          (sym c.in-Some.ensures));
      utf8 = search rules;
    }
