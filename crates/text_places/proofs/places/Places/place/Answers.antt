use Rattle.std.proofs.Common.{◌≡◌, rules, subst, sym}
use Rattle.std.specs.Str.{chars}
use Rattle.text_places.specs.Places.{place_of}
use Rattle.text_places.proofs.FirstPlaces.{Answers, place_of_answers}
use Rattle.text_places.proofs.places.Places.place.Goals as goal

pub returns-clause-first : goal.returns-clause-first
returns-clause-first c =
    let texts = c.args.self.now in
    let text = chars c.args.text.now in
    let is : c.copied.result ≡ place_of text texts = search rules in
    subst (Answers texts text) (sym is) (place_of_answers text texts)
