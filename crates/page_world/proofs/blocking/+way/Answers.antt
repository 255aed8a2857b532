use Rattle.std.proofs.Common.{◌≡◌, ◌∷◌, Some, None, false, option_map, sym, ap, ◌∙◌}
use Rattle.std.specs.Option.{option_map_or}
use Rattle.gtm_base.specs.Keys.{value_of}
use Rattle.gtm_data.proofs.Levels.{tree_of-Map}
use Rattle.gtm_data.proofs.Members.{got}
use Rattle.gtm_data.specs.Paths.{member}
use Rattle.gtm_data.specs.Tree.{tree_of, entries_of}
use Rattle.page_world.specs.Globals.{is_in_the_way}
use Rattle.page_world.proofs.blocking.+way.Goals as goal

pub stops-returns-in-Some : goal.stops-returns-in-Some
stops-returns-in-Some t c =
    let part = c.args.part.now in
    let rest = c.args.rest.now in
    let members = c.in-Map.members.pairs in
    let found : option_map (λ d. tree_of d.now) c.get.result ≡ member part (entries_of members) =
    got c.get.result part members
    (c.get.ensures ∙ ap (λ key. value_of key members) c.as_str.ensures.chars) in
    let there : Some (tree_of c.in-Some.found.now) ≡ member part (entries_of members) =
    ap (option_map (λ d. tree_of d.now)) (sym c.in-Some.is) ∙ found in
    c.is_in_the_way.ensures
    ∙ ap (λ o. option_map_or (is_in_the_way rest) o false) there
    ∙ sym (ap (is_in_the_way (part ∷ rest)) (ap tree_of c.in-Map.is ∙ tree_of-Map c.in-Map.members))

pub stops-returns-in-None : goal.stops-returns-in-None
stops-returns-in-None t c =
    let part = c.args.part.now in
    let rest = c.args.rest.now in
    let members = c.in-Map.members.pairs in
    let found : option_map (λ d. tree_of d.now) c.get.result ≡ member part (entries_of members) =
    got c.get.result part members
    (c.get.ensures ∙ ap (λ key. value_of key members) c.as_str.ensures.chars) in
    let none : None ≡ member part (entries_of members) =
    ap (option_map (λ d. tree_of d.now)) (sym c.in-None.is) ∙ found in
    ap (λ o. option_map_or (is_in_the_way rest) o false) none
    ∙ sym (ap (is_in_the_way (part ∷ rest)) (ap tree_of c.in-Map.is ∙ tree_of-Map c.in-Map.members))
