use Rattle.std.proofs.Common.{◌∙◌, ap, refl, sym}
use Rattle.gtm_base.specs.KeyPlaces.{places_of}
use Rattle.gtm_base.specs.Keys.{distinct_keys}
use Rattle.gtm_base.specs.KeysStay.{distinct_keys-with_value, places_of-with_value}
use Rattle.gtm_base.proofs.Pairs.{set_is, value_is}
use Rattle.gtm_base.proofs.SameKeyed.{same_keyed}
use Rattle.gtm_base.proofs.keyed.Keyed.value_mut.Goals as goal

pub invariant_of-self-lent : goal.invariant_of-self-lent
invariant_of-self-lent g c w =
    let old = c.args.self.now in (
      ap distinct_keys
          (set_is old.pairs c.args.at c.get_mut-pair.result.now w c.requires
          c.get_mut-pair.ensures.value) ∙ distinct_keys-with_value old.pairs c.args.at w ∙ old.distinct,
      (
        old.kept
            ∙ sym
            (ap places_of
            (set_is old.pairs c.args.at c.get_mut-pair.result.now w c.requires
            c.get_mut-pair.ensures.value) ∙ places_of-with_value old.pairs c.args.at w),
        tt,
      ),
    )

pub returns : goal.returns
returns g c =
    let old = c.args.self.now in (
      (
        refl,
        λ w.
            same_keyed _ _
            (set_is old.pairs c.args.at c.get_mut-pair.result.now w c.requires
            c.get_mut-pair.ensures.value),
      ),
      record {
        writes_back =
            tt;
        value =
            value_is old.pairs c.args.at c.get_mut-pair.result.now c.requires
            c.get_mut-pair.ensures.value;
      },
    )
