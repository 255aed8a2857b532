use Rattle.std.proofs.Common.{Result, Ok, Err, OnOk, OnErr, ap, sym, ◌∙◌, ◌≤◌, length, arith}
use Rattle.gtm_base.specs.KeyPlaces.{places_of}
use Rattle.gtm_base.specs.declared.key_places.TheConstants.{MAX_SCANNED}
use Rattle.gtm_base.proofs.KeptPlaces.{few, few_more}
use Rattle.gtm_base.specs.Keys.{distinct_keys}
use Rattle.gtm_base.proofs.Pairs.{distinct_keys-insert}
use Rattle.gtm_base.proofs.keyed.Keyed.insert.Goals as goal

either : {A E : Type 0} {P Q R : Type 0} (result : Result A E) → OnOk result P → OnErr result Q
    → (P → R) → (Q → R) → R
either (Ok value) ok err from_ok from_err = from_ok ok
either (Err error) ok err from_ok from_err = from_err err

pub invariant_of-self : goal.invariant_of-self
invariant_of-self g c =
    let args = c.args in
    let old = args.self.now in
    let short : length old.pairs ≤ MAX_SCANNED = omega arith in
    record {
      distinct =
          either c.insert.result c.insert.ensures.ok c.insert.ensures.err
          (λ added. ap distinct_keys added
          ∙ distinct_keys-insert args.key args.value old.pairs args.at c.requires.new old.distinct)
          (λ same. ap distinct_keys same ∙ old.distinct);
      kept =
          old.kept ∙ few old.pairs short
          ∙ sym
          (either c.insert.result c.insert.ensures.ok c.insert.ensures.err
          (λ added. ap places_of added
          ∙ few_more old.pairs args.at (args.key, args.value) c.requires.within c.requires.few)
          (λ same. ap places_of same ∙ few old.pairs short));
    }
