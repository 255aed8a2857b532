use Rattle.std.proofs.Common.{◌≡◌, ◌++◌, sym, ap, ◌∙◌, append_assoc}
use Rattle.std.specs.List.{flat_map}
use Rattle.std.specs.Str.{chars}
use Rattle.gtm_data.specs.JsonText.{escaped}
use Rattle.gtm_data.proofs.Quotes.{flat_map-escaped}
use Rattle.gtm_data.proofs.printing.write_quoted.Goals as goal
use Rattle.gtm_data.proofs.printing.write_quoted.Goals.{then-is_plain+in_ok-push_str}
use Rattle.gtm_data.proofs.printing.write_quoted.Goals.{else-is_plain+in_ok-write_characters}

pub returns : goal.returns
returns c =
    let text = c.args.text.now in
    let middle : c.if-is_plain.out ≡ c.push.new.self ++ flat_map escaped (chars text)
    = elim c.if-is_plain.branch [
      | then-is_plain+in_ok-push_str w ↦ w.out-is ∙ w.in_ok-push_str.ensures.ok
          ∙ ap (λ cs. c.push.new.self ++ cs)
          (sym (flat_map-escaped text c.utf8.text (sym c.is_plain.ensures ∙ w.if-is_plain.true)))
      | else-is_plain+in_ok-write_characters w ↦ w.out-is ∙ w.in_ok-write_characters.ensures
    ] in
    rw (c.in_ok-push-2.ensures.ok, middle, c.in_ok-push.ensures.ok) (simp append_assoc)
