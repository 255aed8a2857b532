use Rattle.text_places.proofs.FirstPlaces.{some_place, no_place}
use Rattle.text_places.proofs.laws.a_place_is_the_first.Goals as goal

pub returns-clause-some : goal.returns-clause-some
returns-clause-some c text texts at = some_place text texts at

pub returns-clause-none : goal.returns-clause-none
returns-clause-none c text texts = no_place text texts
