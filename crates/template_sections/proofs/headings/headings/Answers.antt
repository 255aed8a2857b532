use Rattle.std.proofs.Common.{◌≡◌, ◌∙◌, ◌+◌, ◌<◌, ◌++◌, length, take, drop, sym, ap, arith}
use Rattle.std.proofs.Common.{Some, None, append_assoc}
use Rattle.std.proofs.lemmas.Bool.Decides.{nat_tests}
use Rattle.template_sections.specs.Headings.{heading_name}
use Rattle.template_sections.specs.Lines.{lines, line_len}
use Rattle.template_sections.specs.Scan.{headings_from, put_heading}
use Rattle.template_sections.proofs.LinesRead.{scan_line, some_line}
use Rattle.template_sections.proofs.headings.headings.Goals as goal

pub loop-left-smaller : goal.loop-left-smaller
loop-left-smaller c =
    let some : 0 < length c.loop-left.left.now = grind (arith, nat_tests) in
    let more : 0 < line_len c.loop-left.left.now = some_line c.loop-left.left.now some in
    omega (arith, c.line_len.ensures.value, c.split_at.ensures.back_len)

pub loop-left-preserved : goal.loop-left-preserved
loop-left-preserved c =
    let some : 0 < length c.loop-left.left.now = grind (arith, nat_tests) in
    let at = c.loop-left.at in
    let line = c.split_at.result.0.now in
    let rest = c.split_at.result.1.now in
    let step =
    scan_line at c.loop-left.left.now line rest some
    (c.split_at.ensures.front ∙ ap (λ n. take n c.loop-left.left.now) c.line_len.ensures.value)
    (c.split_at.ensures.back ∙ ap (λ n. drop n c.loop-left.left.now) c.line_len.ensures.value) in
    let none : heading_name line ≡ None = sym c.in_default.ensures in
    record {
      within = omega (arith, c.split_at.ensures.front_len, c.split_at.ensures.back_len);
      same =
          ap (λ hs. c.loop-left.found ++ hs)
          (sym (step ∙ ap
          (λ name. put_heading name at (at + length line)
          (headings_from (at + length line) (lines rest)))
          none))
          ∙ c.loop-left.invariant.same;
    }

pub loop-left-preserved-in_ok-push : goal.loop-left-preserved-in_ok-push
loop-left-preserved-in_ok-push c =
    let some : 0 < length c.loop-left.left.now = grind (arith, nat_tests) in
    let at = c.loop-left.at in
    let line = c.split_at.result.0.now in
    let rest = c.split_at.result.1.now in
    let step =
    scan_line at c.loop-left.left.now line rest some
    (c.split_at.ensures.front ∙ ap (λ n. take n c.loop-left.left.now) c.line_len.ensures.value)
    (c.split_at.ensures.back ∙ ap (λ n. drop n c.loop-left.left.now) c.line_len.ensures.value) in
    let from = at + length line in
    let tail = headings_from from (lines rest) in
    let name = sym c.in-Some.ensures ∙ ap (λ n. Some n) (sym c.in_ok-name.ensures) in
    let put = ap (λ n. put_heading n at from tail) name in
    record {
      within = omega (arith, c.split_at.ensures.front_len, c.split_at.ensures.back_len);
      same =
          ap (λ hs. hs ++ tail) c.in_ok-push.ensures.ok
          ∙ append_assoc c.loop-left.found _ tail
          ∙ ap (λ hs. c.loop-left.found ++ hs) (sym (step ∙ put))
          ∙ c.loop-left.invariant.same;
    }
