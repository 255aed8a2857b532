use Rattle.std.proofs.Common.{option_map, sym, ap, ◌∙◌}
use Rattle.std.specs.Prelude.{option_and_then}
use Rattle.std.specs.Str.{chars}
use Rattle.gtm_data.specs.Paths.{walk, dotted, named}
use Rattle.gtm_data.specs.Tree.{tree_of}
use Rattle.gtm_data.proofs.Dots.{Cut, cut, one_part, walk_last}
use Rattle.gtm_data.proofs.walking.get.Goals as goal

pub returns-in_err-here : goal.returns-in_err-here
returns-in_err-here c =
    let l = c.loop-part in
    let s = c.in-Some.ensures.cases in
    let parts : Cut l.left.now c.in-Some.part.now c.in-Some.rest.now =
    cut _ _ _ s.0 s.1 l.invariant.text s.2 s.3 s.4 s.7 in
    ap (option_map (λ found. tree_of found.now)) c.from_residual.ensures
    ∙ ap (option_and_then (walk (dotted (chars c.in-Some.rest.now)))) c.in_err-here.ensures
    ∙ ap (λ ps. walk ps (tree_of l.here.now)) (sym parts.parts) ∙ l.invariant.same

pub loop-part-preserved : goal.loop-part-preserved
loop-part-preserved c =
    let l = c.loop-part in
    let s = c.in-Some.ensures.cases in
    let parts : Cut l.left.now c.in-Some.part.now c.in-Some.rest.now =
    cut _ _ _ s.0 s.1 l.invariant.text s.2 s.3 s.4 s.7 in
    record {
      text = parts.text;
      same =
          ap (option_and_then (walk (dotted (chars c.in-Some.rest.now)))) c.in_ok-here.ensures
          ∙ ap (λ ps. walk ps (tree_of l.here.now)) (sym parts.parts) ∙ l.invariant.same;
    }

pub loop-part-smaller : goal.loop-part-smaller
loop-part-smaller c =
    let l = c.loop-part in
    let s = c.in-Some.ensures.cases in
    let parts : Cut l.left.now c.in-Some.part.now c.in-Some.rest.now =
    cut _ _ _ s.0 s.1 l.invariant.text s.2 s.3 s.4 s.7 in
    parts.shorter

pub returns : goal.returns
returns c =
    let l = c.loop-part in
    let found = named (chars l.left.now) (tree_of l.here.now) in
    c.named-2.ensures ∙ sym (walk_last found)
    ∙ ap (λ ps. walk ps (tree_of l.here.now))
    (sym (one_part l.left.now l.invariant.text c.in_default.ensures.cases)) ∙ l.invariant.same
