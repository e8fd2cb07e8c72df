-- `link_calls::message` meets its contract. Assumes nothing.
use Rattle.link_calls.proofs.Laws.{long_enough}
use Rattle.link_calls.proofs.message.Goals as goal

pub hear_message-requires : goal.hear_message-requires
hear_message-requires c =
    (long_enough _ _ _ _ _ _ c.is_optional.result c.message_refusal-no.ensures c.if-no-is_optional.true, c.fields_in-fields.ensures)
