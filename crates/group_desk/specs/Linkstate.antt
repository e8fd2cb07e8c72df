-- What a sample answers. Assumes nothing.
use Rattle.std.specs.Prelude.{false}
use Rattle.gauge.specs.declared.Health.{Health}
use Rattle.conn_answer.specs.declared.Reply.TheVariants.{Sampled}
use Rattle.conn_answer.specs.Outcome.{no_message}
use Rattle.group_table.specs.declared.Links.{Links}
use Rattle.group_table.specs.declared.Answered.{Answered}

-- a sample's answer: the health
unfoldable pub health_by : Health → Links → Answered
health_by h links = record { reply = Sampled h; made = false; message = no_message; links = links }
