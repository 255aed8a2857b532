use Rattle.std.proofs.Common.{sym, ap, ◌∙◌}
use Rattle.std.specs.Prelude.{option_and_then}
use Rattle.gtm_base.proofs.Characters.{chars-ascii}
use Rattle.gtm_data.specs.Tree.{tree_of, text_in}
use Rattle.trace_forms.proofs.Members.{is_place, is_absent}
use Rattle.trace_forms.proofs.pages.take_text.Goals as goal

pub returns-in-Some-clause-taken : goal.returns-in-Some-clause-taken
returns-in-Some-clause-taken c =
    let key = c.args.key.now in
    let place = rw (chars-ascii key c.requires) at c.in-Some.ensures.place in
    let there =
    is_place key c.value_mut.result.now c.args.members.now.pairs c.in-Some.at (sym place) in
    c.into_text.ensures
    ∙ ap (λ value. text_in (tree_of value)) (c.replace.ensures.value ∙ c.value_mut.ensures.value)
    ∙ ap (option_and_then text_in) (sym there.found)

pub returns-in-Some-clause-kept : goal.returns-in-Some-clause-kept
returns-in-Some-clause-kept c other apart =
    let key = c.args.key.now in
    let place = rw (chars-ascii key c.requires) at c.in-Some.ensures.place in
    let there = is_place key c.replace.new.dest c.args.members.now.pairs c.in-Some.at (sym place) in
    ap (option_and_then text_in) (there.others other apart)

pub returns-in-None-clause-taken : goal.returns-in-None-clause-taken
returns-in-None-clause-taken c =
    let key = c.args.key.now in
    let place = rw (chars-ascii key c.requires) at c.in-None.ensures.place in
    ap (option_and_then text_in) (sym (is_absent key c.args.members.now.pairs (sym place)))
