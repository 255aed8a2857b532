use Rattle.std.proofs.Common.{◌≡◌, Some, None, [], ◌∷◌, ◌++◌, refl, sym, ap, ◌∙◌}
use Rattle.std.specs.Prelude.{unwrap_or}
use Rattle.std.specs.Str.{bytes_eq}
use Rattle.data_layer.proofs.Results.{on_ok}
use Rattle.gtm_base.proofs.Lookups.{value_of-absent}
use Rattle.gtm_base.specs.Keys.{place_of}
use Rattle.gtm_triggers.proofs.Kept.{kept_put, value_at_place, value_behind, value_set}
use Rattle.gtm_triggers.proofs.index.push.Goals as goal
use Rattle.gtm_triggers.specs.Indexed.{kept_for}

pub returns-in-Some : goal.returns-in-Some
returns-in-Some c =
    let event = c.args.event.now in
    let pairs = c.args.by_event.now.pairs in
    let old = c.value_mut.result.now in
    let place : place_of event pairs ≡ Some c.in-Some.found =
    ap (λ k. place_of k pairs) (sym c.as_str.ensures.chars) ∙ sym c.place_of.ensures.place
    ∙ c.in-Some.is in
    let was : kept_for pairs event ≡ old =
    ap (λ o. unwrap_or o [])
    (value_at_place event pairs c.in-Some.found old place c.value_mut.ensures.value) in
    on_ok c.push.result c.push.ensures.ok
    (λ made other.
    ap (λ o. unwrap_or o []) (value_set event other c.push.new.self pairs c.in-Some.found place)
    ∙ kept_put pairs event other c.args.at old c.push.new.self (bytes_eq event other) refl was
    made)

pub returns-in_ok-copy-in-None : goal.returns-in_ok-copy-in-None
returns-in_ok-copy-in-None c =
    let event = c.args.event.now in
    let pairs = c.args.by_event.now.pairs in
    let new = c.push-in-None.new.self in
    let place : place_of event pairs ≡ None =
    ap (λ k. place_of k pairs) (sym c.as_str.ensures.chars) ∙ sym c.place_of.ensures.place
    ∙ c.in-None.is in
    let was : kept_for pairs event ≡ [] =
    ap (λ o. unwrap_or o []) (value_of-absent event pairs place) in
    let made : new ≡ [] ++ c.args.at ∷ [] =
    c.in_ok-push-in-None.ensures.ok ∙ ap (λ o. o ++ c.args.at ∷ []) c.new-places.ensures in
    on_ok c.push-in-None-2.result c.push-in-None-2.ensures.ok
    (λ added other.
    ap (λ ps. kept_for ps other)
    (added ∙ ap (λ k. pairs ++ (k, new) ∷ []) c.in_ok-copy-in-None.ensures)
    ∙ ap (λ o. unwrap_or o []) (value_behind event other new pairs place)
    ∙ kept_put pairs event other c.args.at [] new (bytes_eq event other) refl was made)
