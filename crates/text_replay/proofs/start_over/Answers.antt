-- `text_replay::start_over` meets its contract. Assumes nothing.
use Rattle.std.proofs.Common.{replicate}
use Rattle.text_replay.specs.ReplayCalls.{fresh_of}
use Rattle.text_replay.proofs.start_over.Goals as goal

pub returns-clause-world : goal.returns-clause-world
unfolding fresh_of
returns-clause-world c =
    let a = c.args in
    λ i. record {
      s = a.s;
      n = a.n;
      len = a.len;
      table = replicate 300 (c.zero_record-zero.ensures i);
      count = a.count;
      links = c.fresh_links-w.ensures i;
      books = a.w.now.books;
      settings = a.w.now.settings;
      output = c.text.new.self;
    }
