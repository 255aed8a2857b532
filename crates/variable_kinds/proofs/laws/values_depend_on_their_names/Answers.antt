use Rattle.variable_kinds.proofs.Agreement.{fields_same, formatted_same, resolved_same}
use Rattle.variable_kinds.proofs.laws.values_depend_on_their_names.Goals as goal

pub returns-clause-resolved : goal.returns-clause-resolved
returns-clause-resolved c some other value same = resolved_same some other value same

pub returns-clause-fields : goal.returns-clause-fields
returns-clause-fields c some other kind params same = fields_same some other kind params same

pub returns-clause-formatted : goal.returns-clause-formatted
returns-clause-formatted c some other format value same =
    formatted_same some other format value same
