-- What a lent value leaves of the pairs.
use Rattle.std.specs.Prelude.{ℕ}
use Rattle.std.specs.Borrow.{Lends, MutBor, Fml}
use denote.RattleType.{RattleType}
use Rattle.std.proofs.Common.{◌∙◌, sym}
use Rattle.gtm_base.specs.Keys.{with_value}
use Rattle.gtm_base.specs.KeysStay.{distinct_keys-with_value, places_of-with_value}
use Rattle.gtm_base.specs.declared.keyed.Keyed.{Keyed}
use Rattle.gtm_base.specs.contracts.keyed.Keyed.{the_row}

-- the same pairs with another value at a place
abbrev pub keyed_with : {X : Type 0} → Keyed X → ℕ → X → Keyed X
keyed_with keyed at value = record {
  pairs = with_value keyed.pairs at value;
  places = keyed.places;
  distinct = distinct_keys-with_value keyed.pairs at value ∙ keyed.distinct;
  kept = keyed.kept ∙ sym (places_of-with_value keyed.pairs at value);
}

-- the pairs end with the last value behind the loan at that place
abbrev pub LendsValue : (T : RattleType) → MutBor (Keyed T.Denot) → ℕ → MutBor T.Denot → Fml
LendsValue T lender at loan = Lends (the_row T) T lender loan (keyed_with lender.now at)
