use Rattle.std.proofs.Common.{◌≡◌, ◌<◌, ◌^◌, Some, None, IfOk, length, decimal, sym, subst, ap, ◌∙◌}
use Rattle.std.proofs.Common.{arith}
use Rattle.std.specs.Prelude.{is_some}
use Rattle.gtm_base.specs.Keys.{place_of, has_key}
use Rattle.gtm_data.proofs.Indexes.{numbered-none}
use Rattle.gtm_data.proofs.Levels.{tree_of-List}
use Rattle.gtm_data.specs.Paths.{member, numbered}
use Rattle.gtm_data.specs.Tree.{tree_of, trees_of, entries_of, list}
use Rattle.data_layer.specs.Change.{changed_at, change_named}
use Rattle.data_layer.specs.Target.{items_under, changed_by}
use Rattle.data_layer.proofs.Changes.{absent_stays, past_stays}
use Rattle.data_layer.proofs.Found.{found_member, absent_key, change_found, found_item, change_item}
use Rattle.data_layer.proofs.Results.{on_ok}
use Rattle.data_layer.proofs.changing.+change.Goals as goal

pub change_in_map-returns-in-Some-clause-told : goal.change_in_map-returns-in-Some-clause-told
change_in_map-returns-in-Some-clause-told t c =
    let part = c.args.part.now in
    let model = c.args.model.now.pairs in
    let place : place_of part model ≡ Some c.in-Some.at =
    ap (λ key. place_of key model) (sym c.as_str.ensures.chars) ∙ sym c.place_of.ensures.place
    ∙ c.in-Some.is in
    let found =
    found_member part model c.in-Some.at c.value_mut.result.now place c.value_mut.ensures.value
    in
    subst (λ v. IfOk c.change_at.result (λ ran. ran ≡ is_some (items_under c.args.rest.now v)))
    (sym found) c.change_at.ensures.told

pub change_in_map-returns-in-Some-clause-changed : goal.change_in_map-returns-in-Some-clause-changed
change_in_map-returns-in-Some-clause-changed t c =
    let part = c.args.part.now in
    let model = c.args.model.now.pairs in
    let place : place_of part model ≡ Some c.in-Some.at =
    ap (λ key. place_of key model) (sym c.as_str.ensures.chars) ∙ sym c.place_of.ensures.place
    ∙ c.in-Some.is in
    let change = changed_at c.args.rest.now (changed_by c.args.command.now) in
    on_ok c.change_at.result c.change_at.ensures.changed
    (λ made. change_found part change model c.in-Some.at c.value_mut.result.now
    c.change_at.new.model place c.value_mut.ensures.value made)

pub change_in_map-returns-in-None-clause-told : goal.change_in_map-returns-in-None-clause-told
change_in_map-returns-in-None-clause-told t c =
    let part = c.args.part.now in
    let model = c.args.model.now.pairs in
    let none : member part (entries_of model) ≡ None =
    absent_key part model
    (ap (λ key. has_key key model) (sym c.as_str.ensures.chars) ∙ c.in-None.ensures.absent) in
    ap (λ found. is_some (items_under c.args.rest.now found)) (sym none)

pub change_in_map-returns-in-None-clause-changed : goal.change_in_map-returns-in-None-clause-changed
change_in_map-returns-in-None-clause-changed t c =
    let part = c.args.part.now in
    let model = c.args.model.now.pairs in
    let none : member part (entries_of model) ≡ None =
    absent_key part model
    (ap (λ key. has_key key model) (sym c.as_str.ensures.chars) ∙ c.in-None.ensures.absent) in
    sym (absent_stays part (changed_at c.args.rest.now (changed_by c.args.command.now))
    (entries_of model) none)

pub change_in_list-returns-in-Some-clause-told : goal.change_in_list-returns-in-Some-clause-told
change_in_list-returns-in-Some-clause-told t c =
    let part = c.args.part.now in
    let model = c.args.model.now in
    let told = c.in-Some.ensures in
    let within : c.in-Some.at < length model = omega (arith, c.len.ensures, told.below) in
    let fits : length model < 2 ^ 64 = omega (arith, c.len.ensures) in
    let found =
    found_item model c.in-Some.at part c.get_mut.result.now within fits
    (told.written ∙ c.as_str.ensures.chars) c.get_mut.ensures.value in
    subst (λ v. IfOk c.change_at.result (λ ran. ran ≡ is_some (items_under c.args.rest.now v)))
    (sym found) c.change_at.ensures.told

pub change_in_list-returns-in-Some-clause-changed : goal.change_in_list-returns-in-Some-clause-changed
change_in_list-returns-in-Some-clause-changed t c =
    let part = c.args.part.now in
    let model = c.args.model.now in
    let told = c.in-Some.ensures in
    let within : c.in-Some.at < length model = omega (arith, c.len.ensures, told.below) in
    let fits : length model < 2 ^ 64 = omega (arith, c.len.ensures) in
    let change = changed_at c.args.rest.now (changed_by c.args.command.now) in
    on_ok c.change_at.result c.change_at.ensures.changed
    (λ made. change_item part change model c.in-Some.at c.get_mut.result.now c.change_at.new.model
    within fits (told.written ∙ c.as_str.ensures.chars) c.get_mut.ensures.value made)

pub change_in_list-returns-in-None-clause-told : goal.change_in_list-returns-in-None-clause-told
change_in_list-returns-in-None-clause-told t c =
    let part = c.args.part.now in
    let model = c.args.model.now in
    let none : numbered 0 part (trees_of model) ≡ None =
    numbered-none model 0 part
    (λ at within written.
    c.in-None.ensures.none at (omega (arith, c.len.ensures))
    (ap decimal (omega arith) ∙ written ∙ sym c.as_str.ensures.chars)) in
    ap (λ found. is_some (items_under c.args.rest.now found)) (sym none)

pub change_in_list-returns-in-None-clause-changed : goal.change_in_list-returns-in-None-clause-changed
change_in_list-returns-in-None-clause-changed t c =
    let part = c.args.part.now in
    let model = c.args.model.now in
    let none : numbered 0 part (trees_of model) ≡ None =
    numbered-none model 0 part
    (λ at within written.
    c.in-None.ensures.none at (omega (arith, c.len.ensures))
    (ap decimal (omega arith) ∙ written ∙ sym c.as_str.ensures.chars)) in
    sym (past_stays part (changed_at c.args.rest.now (changed_by c.args.command.now))
    (trees_of model) none)

pub change_inside-returns-in-Some-items_of-clause-changed : goal.change_inside-returns-in-Some-items_of-clause-changed
change_inside-returns-in-Some-items_of-clause-changed t c =
    let change = changed_at c.args.rest.now (changed_by c.args.command.now) in
    on_ok c.change_in_list.result c.change_in_list.ensures.changed
    (λ made.
    tree_of-List c.change_in_list.new.model
    ∙ ap list made
    ∙ ap (change_named c.args.part.now change)
    (sym (ap tree_of c.in-Some-items_of.ensures.items
    ∙ tree_of-List c.in-Some-items_of.items.now)))
