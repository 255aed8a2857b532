use Rattle.std.proofs.Common.{◌∙◌, ◌<◌, ap, sym, length}
use Rattle.gtm_base.specs.KeyPlaces.{with_place}
use Rattle.gtm_base.proofs.KeptPlaces.{with_places-more}
use Rattle.gtm_base.proofs.key_places.all_places.Goals as goal

pub loop-at-preserved : goal.loop-at-preserved
loop-at-preserved g c =
    let at = c.loop-at.at in
    let pair = c.index-pairs-at.result in
    let within : at < length c.args.pairs.now = c.loop-at-test.true in
    c.in_ok-put.ensures.ok ∙ ap (with_place pair.0 at) c.loop-at.invariant
    ∙ sym (with_places-more c.args.pairs.now at pair within c.index-pairs-at.is)
