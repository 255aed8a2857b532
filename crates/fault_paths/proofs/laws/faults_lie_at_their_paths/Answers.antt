use Rattle.fault_paths.proofs.Leading.{first_leads}
use Rattle.fault_paths.proofs.laws.faults_lie_at_their_paths.Goals as goal
use Rattle.gtm_base.proofs.Pairs.{and_true}
use Rattle.gtm_data.specs.Plain.{is_nest, is_nest_below, is_unfit_at}
use Rattle.gtm_data.specs.declared.limits.TheConstants.{MAX_DEPTH}
use Rattle.std.specs.Prelude.{nat_le}

pub returns-clause-number : goal.returns-clause-number
returns-clause-number c d path keyed is =
    let found = first_leads d is_unfit_at path keyed is in (found.0.value, found.1, found.2)

pub returns-clause-depth : goal.returns-clause-depth
returns-clause-depth c d path keyed is =
    let found = first_leads d (is_nest_below MAX_DEPTH) path keyed is in (
      found.0.value,
      found.1,
      (and_true (is_nest found.0.value) (nat_le MAX_DEPTH found.0.above) found.2).0,
    )
