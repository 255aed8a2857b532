use Rattle.std.proofs.Common.{◌≡◌, ◌∙◌, ◌-◌, ◌+◌, ap, rules, sym, length, arith, Some, option_map}
use Rattle.std.proofs.lemmas.Result.{on_ok_weaker}
use Rattle.gtm_base.specs.KeyPlaces.{places_in, with_place}
use Rattle.gtm_base.proofs.KeptPlaces.{places_of-more}
use Rattle.gtm_base.proofs.key_places.KeyPlaces.follow.Goals as goal

pub returns-in-Some-clause-ok : goal.returns-in-Some-clause-ok
returns-in-Some-clause-ok g c =
    let pairs = c.args.pairs.now in
    let last = length pairs - 1 in
    let tree = c.deref_mut.result.now in
    let kept = places_in tree in
    let same : tree ≡ c.in-Some.places.value = search rules in
    let is = c.index-pairs-last.is in
    let count : length pairs ≡ last + 1 = omega arith in
    on_ok_weaker c.put.result
    (λ put. ap Some (put ∙ ap (λ pair. with_place pair.0 last kept) (sym is))
    ∙ places_of-more pairs last c.index-pairs-last.result kept count is
    (ap (λ kept. Some (places_in kept)) same
    ∙ sym (ap (option_map (λ boxed. places_in boxed.value)) c.in-Some.is)
    ∙ c.self.view_is ∙ c.requires.before))
    c.put.ensures.ok
