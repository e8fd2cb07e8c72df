-- THE CLAIM: every row comes out as it says. Three theorems, proofs/All, so that none takes much memory. Assumes nothing.
use Rattle.rows_links.specs.Example.{ExampleRight, TurnsRight, TestLinkRight}
use Rattle.rows_links.specs.Fates as Fates
use Rattle.rows_links.specs.Stages as Stages
use Rattle.rows_links.specs.Sends as Sends
use Rattle.rows_links.specs.Refused as Refused
use Rattle.rows_links.specs.Waiting as Waiting
use Rattle.rows_links.specs.Downs as Downs

-- parts 2, 3 and 10
pub record HeardRight : Type 0 where
  pub example : ExampleRight
  pub turns : TurnsRight
  pub test : TestLinkRight
  pub fates : Fates.RowsRight
  pub stages : Stages.RowsRight

-- parts 4 to 6
pub record RestRight : Type 0 where
  pub sends : Sends.RowsRight
  pub refused : Refused.RowsRight
  pub waiting : Waiting.RowsRight
  pub downs : Downs.RowsRight
