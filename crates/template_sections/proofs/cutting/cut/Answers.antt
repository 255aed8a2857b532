use Rattle.std.proofs.Common.{◌≡◌, ◌∙◌, ◌-◌, ℕ, List, Option, ap, sym, subst, length}
use Rattle.std.specs.Prelude.{IfOk}
use Rattle.template_sections.specs.Cut.{by_repeat, sections_in, visible_place, outcome, AreWithin}
use Rattle.template_sections.specs.Lines.{lines}
use Rattle.template_sections.specs.Scan.{headings_from, sections_of}
use Rattle.template_sections.proofs.PartsFound.{cut_from_headings}
use Rattle.template_sections.proofs.Spans.{sections_within, are_sections}
use Rattle.template_sections.proofs.cutting.cut.Goals as goal

pub returns-in-Some : goal.returns-in-Some
unfolding sections_of
returns-in-Some c =
    let text = c.args.text.now in
    let hs = c.as_slice-headings.result.now in
    let found : hs ≡ headings_from 0 (lines text) =
    c.as_slice-headings.ensures ∙ c.in_ok-headings.ensures
    ∙ ap (λ (t : List ℕ). headings_from 0 (lines t)) c.as_bytes.ensures.value in
    let is =
    ap (λ (o : Option ℕ). by_repeat o (length text) (visible_place text) hs)
    (sym c.in-Some.is ∙ c.in_ok-place.ensures) in
    record {
      parts = λ kept. cut_from_headings text hs _ found is;
      exact = sym (is ∙ ap (outcome text) found);
      within = tt;
    }

pub returns : goal.returns
unfolding sections_of
returns c =
    let text = c.args.text.now in
    let hs = c.as_slice-headings.result.now in
    let found : hs ≡ headings_from 0 (lines text) =
    c.as_slice-headings.ensures ∙ c.in_ok-headings.ensures
    ∙ ap (λ (t : List ℕ). headings_from 0 (lines t)) c.as_bytes.ensures.value in
    let is =
    c.sections_in.ensures
    ∙ ap (λ (t : List ℕ). sections_in (length text) (length text - length t) hs) c.trim_start.ensures.trim
    ∙ ap (λ (o : Option ℕ). by_repeat o (length text) (visible_place text) hs)
    (sym c.in_default.is ∙ c.in_ok-place.ensures) in
    record {
      parts = λ kept. cut_from_headings text hs _ found is;
      exact = are_sections text _ (sym (is ∙ ap (outcome text) found));
      within =
          subst (λ r. IfOk r (AreWithin (length text))) (sym (is ∙ ap (outcome text) found))
          (sections_within text);
    }
