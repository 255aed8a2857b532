use Rattle.trace_forms.proofs.Keys.{asked_keys}
use Rattle.trace_forms.proofs.laws.steps_have_the_keys_of_their_form.Goals as goal

pub returns : goal.returns
returns c = asked_keys
