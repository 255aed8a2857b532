use Rattle.std.proofs.Common.{◌∙◌, ap, map}
use Rattle.gtm_base.specs.KeyPlaces.{places_in}
use Rattle.gtm_base.proofs.KeptPlaces.{in_bytes, put_in_bytes, put_bytes}
use Rattle.gtm_base.proofs.key_places.put.Goals as goal

pub returns-clause-ok : goal.returns-clause-ok
returns-clause-ok c =
    ap (map in_bytes) c.in_ok-insert.ensures.entries
    ∙ put_in_bytes c.in_ok-key.key c.args.at c.args.places.now.entries
    ∙ ap (put_bytes c.args.at (places_in c.args.places.now))
    (c.in_ok-key.ensures.ok ∙ c.as_str.ensures.bytes)
