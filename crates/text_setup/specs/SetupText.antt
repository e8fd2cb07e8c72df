-- The replay format's lines of 2026-05: which settings each leaves, of the settings s. Assumes nothing.
use Rattle.std.specs.Prelude.{false, replicate}
use Rattle.setup.specs.declared.Settings.{Settings}
use Rattle.text_setup.specs.declared.SetupLine.{SetupLine}
use Rattle.text_setup.specs.declared.SetupLine.TheVariants.{Lay, Call, Again}

-- "At the start all are zero"
abbrev pub no_settings : Settings
no_settings =
    record {
      size = 0;
      peer = replicate 8 0;
      gid = replicate 16 0;
      mac = replicate 6 0;
      mask = replicate 4 0;
      masklen = 0;
      count = 0;
      prefixes = replicate 136 0;
      first = false;
      qp = 0;
      mtu = 0;
      psn = 0;
      key = 0;
      base = 0;
      slot = 0;
      own = 0;
      link = 0;
      key1 = 0;
      base1 = 0;
      key2 = 0;
      base2 = 0;
      key3 = 0;
      base3 = 0;
      key4 = 0;
      base4 = 0;
    }

-- "`settings` is no call, lays the settings in"; `setup` and `setup_read` leave them
abbrev pub left_of : Settings → SetupLine → Settings
left_of s (Lay new) = new
left_of s (Call due count) = s
left_of s (Again count) = s
