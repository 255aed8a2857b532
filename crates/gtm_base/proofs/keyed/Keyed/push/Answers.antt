use Rattle.std.proofs.Common.{Result, Ok, Err, OnOk, OnErr, ap, ◌∙◌}
use Rattle.gtm_base.specs.Keys.{distinct_keys}
use Rattle.gtm_base.proofs.Pairs.{distinct_keys-push}
use Rattle.gtm_base.proofs.keyed.Keyed.push.Goals as goal

either : {A E : Type 0} {P Q R : Type 0} (result : Result A E) → OnOk result P → OnErr result Q
    → (P → R) → (Q → R) → R
either (Ok value) ok err from_ok from_err = from_ok ok
either (Err error) ok err from_ok from_err = from_err err

pub invariant_of-self : goal.invariant_of-self
invariant_of-self g c =
    let old = c.args.self.now in record {
      distinct =
          either c.push_pair.result c.push_pair.ensures.ok c.push_pair.ensures.err
          (λ added. ap distinct_keys added
          ∙ distinct_keys-push c.args.key c.args.value old.pairs c.requires old.distinct)
          (λ same. ap distinct_keys same ∙ old.distinct);
      kept = c.push_pair.ensures.kept;
    }
