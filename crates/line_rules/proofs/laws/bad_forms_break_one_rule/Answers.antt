use Rattle.std.proofs.Common.{◌≡◌, ◌∙◌, inl, inr, sym, refl, Bool, true, false}
use Rattle.std.specs.Prelude.{◌⊎◌}
use Rattle.gtm_data.specs.Tree.{Tree}
use Rattle.line_rules.specs.BadForms.{has_form, HasOtherMember}
use Rattle.line_rules.proofs.Telling.{tells, told_other_member, told_regional}
use Rattle.line_rules.proofs.laws.bad_forms_break_one_rule.Goals as goal
use Rattle.trace_forms.specs.Forms.{form_of}
use Rattle.trace_forms.specs.Steps.{Step, step, bad}

fives : (t : Tree) → (has_form t ≡ false) ⊎ HasOtherMember t → form_of t ≡ bad 5
fives t (inl formless) = (tells t).formless formless
fives t (inr has) = told_other_member t has

apart : (test : Bool) → (test ≡ false → ⊥) → test ≡ true
apart true never = refl
apart false never = absurd (never refl)

pub returns-clause-five : goal.returns-clause-five
returns-clause-five c t = ((tells t).five, fives t)

pub returns-clause-seven : goal.returns-clause-seven
returns-clause-seven c t = ((tells t).seven, told_regional t)

pub returns-clause-only : goal.returns-clause-only
returns-clause-only c t = (tells t).only

never_five : (t : Tree) → form_of t ≡ bad 6 → form_of t ≡ bad 5 → ⊥
never_five t six five = let same : bad 6 ≡ bad 5 = sym six ∙ five in cc same

never_seven : (t : Tree) → form_of t ≡ bad 6 → form_of t ≡ bad 7 → ⊥
never_seven t six seven = let same : bad 6 ≡ bad 7 = sym six ∙ seven in cc same

never_step : (t : Tree) (s : Step) → form_of t ≡ bad 6 → form_of t ≡ step s → ⊥
never_step t s six steps = let same : bad 6 ≡ step s = sym six ∙ steps in cc same

pub returns-clause-six : goal.returns-clause-six
returns-clause-six c t = (
  λ six. (
    apart (has_form t) (λ formless. never_five t six ((tells t).formless formless)),
    λ has. never_five t six (told_other_member t has),
    λ regional. never_seven t six (told_regional t regional),
    λ s steps. never_step t s six steps,
  ),
  λ all. (tells t).six all.0 all.1 all.2 all.3,
)
