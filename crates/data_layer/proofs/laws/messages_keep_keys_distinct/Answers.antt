use Rattle.data_layer.proofs.LayerKeys.{message_distinct}
use Rattle.data_layer.proofs.laws.messages_keep_keys_distinct.Goals as goal

pub returns-clause-kept : goal.returns-clause-kept
returns-clause-kept c message layer distinct_message distinct =
    message_distinct message layer distinct_message distinct
