use Rattle.std.proofs.Common.{◌≡◌, Some, None, sym, ap, ◌∙◌}
use Rattle.gtm_base.specs.Keys.{place_of}
use Rattle.page_world.specs.Returns.{begins_with}
use Rattle.page_world.proofs.Told.{absent_below, forgotten_within, told_below, value_at-key}
use Rattle.page_world.proofs.returns.+forget.Goals as goal

pub forget_within-returns : goal.forget_within-returns
forget_within-returns t c =
    forgotten_within c.args.part.now c.args.rest.now c.args.returns.now c.forget_below.new.below
    c.forget_below.ensures

pub forget_below-returns-in-Some : goal.forget_below-returns-in-Some
forget_below-returns-in-Some t c other others =
    let part = c.args.part.now in
    let rest = c.args.rest.now in
    let pairs = c.args.below.now.pairs in
    let place : place_of part pairs ≡ Some c.in-Some.at =
    ap (λ key. place_of key pairs) (sym c.as_str.ensures.chars) ∙ sym c.place_of.ensures.place
    ∙ c.in-Some.is in
    told_below part pairs (begins_with rest others) None c.forget.new.returns (Some c.in-Some.at)
    (Some c.value_mut.result.now) other others place
    (value_at-key part pairs c.in-Some.at c.value_mut.result.now place c.value_mut.ensures.value)
    (c.forget.ensures others)

pub forget_below-returns-in_default : goal.forget_below-returns-in_default
forget_below-returns-in_default t c other others =
    let part = c.args.part.now in
    let pairs = c.args.below.now.pairs in
    let place : place_of part pairs ≡ None =
    ap (λ key. place_of key pairs) (sym c.as_str.ensures.chars) ∙ sym c.place_of.ensures.place
    ∙ c.in_default.is in
    absent_below part pairs (begins_with c.args.rest.now others) other others place
