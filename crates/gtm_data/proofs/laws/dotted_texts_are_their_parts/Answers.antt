use Rattle.gtm_data.proofs.Dotless.{joined-dotted, dotted-no_dot, dotted-joined}
use Rattle.gtm_data.proofs.laws.dotted_texts_are_their_parts.Goals as goal

pub returns-clause-joined : goal.returns-clause-joined
returns-clause-joined c text = joined-dotted text

pub returns-clause-apart : goal.returns-clause-apart
returns-clause-apart c text = dotted-no_dot text

pub returns-clause-only : goal.returns-clause-only
returns-clause-only c parts some none = dotted-joined parts some none
