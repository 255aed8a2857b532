use Rattle.gtm_base.proofs.KeyLaws.{value_is_paired, place_is_paired, absent_has_no_value}
use Rattle.gtm_base.proofs.KeyLaws.{distinct_is_alone, has_key_is_paired}
use Rattle.gtm_base.proofs.laws.keys_lead_to_their_pairs.Goals as goal

pub returns-clause-value : goal.returns-clause-value
returns-clause-value g c pairs key value distinct = value_is_paired key pairs value distinct

pub returns-clause-place : goal.returns-clause-place
returns-clause-place g c pairs key at distinct = place_is_paired key pairs at distinct

pub returns-clause-absent : goal.returns-clause-absent
returns-clause-absent g c pairs key = absent_has_no_value key pairs

pub returns-clause-distinct : goal.returns-clause-distinct
returns-clause-distinct g c pairs = distinct_is_alone pairs

pub returns-clause-has : goal.returns-clause-has
returns-clause-has g c pairs key = has_key_is_paired key pairs
