use Rattle.std.proofs.Common.{◌≡◌, ◌∙◌, sym, ap, rules, Some, option_and_then, option_map}
use Rattle.std.specs.Str.{chars}
use Rattle.std.proofs.lemmas.Str.{encodes-chars}
use Rattle.gtm_base.specs.KeyPlaces.{kept_place, places_in}
use Rattle.gtm_base.proofs.KeptPlaces.{found_by, found_in_bytes}
use Rattle.gtm_base.proofs.key_places.KeyPlaces.get.Goals as goal

pub returns-in-Some : goal.returns-in-Some
returns-in-Some c =
    let tree = c.deref.result.now in
    let key = c.args.key.now in
    let same : tree ≡ c.in-Some.places.value = search rules in
    c.copied.ensures ∙ c.get.ensures.value ∙ found_in_bytes key tree.entries
    ∙ ap (λ bytes. found_by bytes (places_in tree)) (sym (encodes-chars key c.utf8.key))
    ∙ ap (λ kept. option_and_then (kept_place (chars key)) (Some (places_in kept))) same
    ∙ ap (λ kept. option_and_then (kept_place (chars key))
    (option_map (λ boxed. places_in boxed.value) kept))
    (sym c.in-Some.is)
    ∙ ap (option_and_then (kept_place (chars key))) c.self.view_is
