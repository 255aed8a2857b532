use Rattle.data_layer.proofs.LastValues.{last_value, keys_after}
use Rattle.data_layer.proofs.laws.version_one_keeps_the_last_value.Goals as goal

pub returns-clause-value : goal.returns-clause-value
returns-clause-value c name message old distinct = last_value name message old distinct

pub returns-clause-keys : goal.returns-clause-keys
returns-clause-keys c message old distinct = keys_after message old distinct
