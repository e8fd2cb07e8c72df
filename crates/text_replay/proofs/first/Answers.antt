-- `text_replay::first` meets its contract. Assumes nothing.
use Rattle.std.proofs.Common.{replicate}
use Rattle.text_replay.specs.ReplayCalls.{fresh_of}
use Rattle.text_replay.proofs.first.Goals as goal

pub returns-clause-fresh : goal.returns-clause-fresh
unfolding fresh_of
returns-clause-fresh c =
    λ i. record {
      s = 1;
      n = 8;
      len = 8;
      table = replicate 300 (c.zero_record-zero.ensures i);
      count = 1;
      links = c.fresh_links.ensures i;
      books = c.free_pool-books.ensures i;
      settings = c.no_settings.ensures i;
      output = c.new-output.result;
    }
