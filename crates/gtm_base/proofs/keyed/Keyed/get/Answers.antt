use Rattle.std.proofs.Common.{◌∙◌, ap, sym, slice_get, Some}
use Rattle.std.proofs.lemmas.Option.{get_or_from_slice_get}
use Rattle.std.specs.Str.{chars}
use Rattle.gtm_base.proofs.Lookups.{found_at, value_of-absent}
use Rattle.gtm_base.proofs.keyed.Keyed.get.Goals as goal

pub returns-in-Some : goal.returns-in-Some
returns-in-Some g c =
    let pairs = c.args.self.now.pairs in
    let key = chars c.args.key.now in
    let at = c.in-Some.at in
    let found = found_at key pairs at (sym c.place_of.ensures.place ∙ c.in-Some.is) in
    let pair = ap (λ ps. slice_get ps at) c.as_slice.ensures ∙ found.pair in
    ap (λ p. Some p.1)
    (get_or_from_slice_get c.as_slice.result.now at (key, found.value) c.index-as_slice-at.result
    pair) ∙ sym found.value_is

pub returns-in-None : goal.returns-in-None
returns-in-None g c =
    sym (value_of-absent (chars c.args.key.now) c.args.self.now.pairs
    (sym c.place_of.ensures.place ∙ c.in-None.is))
