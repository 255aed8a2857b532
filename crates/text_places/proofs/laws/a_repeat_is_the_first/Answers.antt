use Rattle.text_places.proofs.FirstRepeats.{some_repeat, none_repeats}
use Rattle.text_places.proofs.laws.a_repeat_is_the_first.Goals as goal

pub returns-clause-some : goal.returns-clause-some
returns-clause-some c texts at = some_repeat texts at

pub returns-clause-none : goal.returns-clause-none
returns-clause-none c texts = none_repeats texts
