-- The structs of the exported calls with known values, field by field. Assumes nothing.
use Rattle.std.specs.Prelude.{ℕ, ◌+◌, ◌*◌, List, [], ◌∷◌, eqb, Float, pos, replicate}
use Rattle.std.specs.Float.{binary64}
use Rattle.std.specs.Float.Ieee.{of_int}
use Rattle.conn_record.specs.declared.RToken.{RToken}
use Rattle.conn_record.specs.declared.Record.{Record}
use Rattle.gauge.specs.declared.Gauge.{Gauge}
use Rattle.link_exchange.specs.declared.Waiting.{Waiting}
use Rattle.c_call.specs.declared.FlatAnswer.{FlatAnswer}
use Rattle.c_call.specs.declared.FlatCommand.{FlatCommand}
use Rattle.c_call.specs.declared.FlatLinks.{FlatLinks}
use Rattle.c_call.specs.declared.FlatView.{FlatView}
use Rattle.c_call_link.specs.declared.FlatLinkAnswer.{FlatLinkAnswer}
use Rattle.c_call_link.specs.declared.FlatLinkCommand.{FlatLinkCommand}
use Rattle.c_pool.specs.declared.PoolAnswer.{PoolAnswer}
use Rattle.c_setup.specs.declared.SetupAnswer.{SetupAnswer}
use Rattle.setup.specs.declared.Settings.{Settings}

-- i in the lowest and the highest byte
abbrev pub ends16 : ℕ → ℕ
ends16 i = i * 257

abbrev pub ends32 : ℕ → ℕ
ends32 i = i * 16777217

abbrev pub ends64 : ℕ → ℕ
ends64 i = i * 72057594037927937

abbrev pub whole : ℕ → Float
whole i = of_int binary64 (pos i)

-- what is filled more than once, counted from i
abbrev pub filled_rtoken : ℕ → RToken
filled_rtoken i = record { key = ends32 i; base = ends64 (i + 1) }

abbrev pub filled_values : ℕ → List ℕ
filled_values i =
    ends64 i ∷ ends64 (i + 1) ∷ ends64 (i + 2) ∷ ends64 (i + 3) ∷ ends64 (i + 4) ∷ ends64 (i + 5) ∷ ends64 (i + 6) ∷ ends64 (i + 7)
    ∷ ends64 (i + 8) ∷ ends64 (i + 9) ∷ ends64 (i + 10) ∷ ends64 (i + 11) ∷ []

abbrev pub filled_gauge : ℕ → ℕ → Gauge
filled_gauge i one = record { mean = whole i; worst = whole (i + 1); count = i + 2; late = eqb one (i + 3) }

abbrev pub filled_waiting : ℕ → Waiting
filled_waiting i = record { link = i; bytes = replicate 44 (i + 1) }

abbrev pub filled_links : ℕ → ℕ → FlatLinks
filled_links i one =
    record {
      active = eqb one i ∷ eqb one (i + 1) ∷ eqb one (i + 2) ∷ eqb one (i + 3) ∷ [];
      gauges = filled_gauge (i + 4) one ∷ filled_gauge (i + 8) one ∷ filled_gauge (i + 12) one ∷ filled_gauge (i + 16) one ∷ [];
      server = eqb one (i + 20);
      exchange = record { stage = i + 21; v = i + 22; w = i + 23 };
      queue = record {
        count = i + 24;
        places = filled_waiting (i + 25) ∷ filled_waiting (i + 27) ∷ filled_waiting (i + 29) ∷ filled_waiting (i + 31) ∷ [];
      };
    }

abbrev pub shape_record : ℕ → Record
shape_record one =
    record {
      id = record {
        opened = eqb one 1;
        own = ends32 2;
        peer = ends32 3;
        link = 4;
      };
      remote = record {
        size = ends32 5;
        index = ends32 6;
        link1 = record {
          key = ends32 7;
          base = ends64 8;
        };
        link2 = record {
          key = ends32 9;
          base = ends64 10;
        };
        link3 = record {
          key = ends32 11;
          base = ends64 12;
        };
        link4 = record {
          key = ends32 13;
          base = ends64 14;
        };
      };
      inbound = record {
        producer = record {
          offset = ends32 15;
          wrap = ends16 16;
        };
        consumer = record {
          offset = ends32 17;
          wrap = ends16 18;
        };
        told = record {
          offset = ends32 19;
          wrap = ends16 20;
        };
        last = ends16 21;
        blocked = eqb one 22;
        request = eqb one 23;
        urgent = record {
          standing = eqb one 24;
          place = record {
            offset = ends32 25;
            wrap = ends16 26;
          };
        };
      };
      outbound = record {
        producer = record {
          offset = ends32 27;
          wrap = ends16 28;
        };
        consumer = record {
          offset = ends32 29;
          wrap = ends16 30;
        };
        next = ends16 31;
        blocked = eqb one 32;
        urgent = record {
          standing = eqb one 33;
          place = record {
            offset = ends32 34;
            wrap = ends16 35;
          };
        };
      };
      marks = record {
        sent = record {
          done = eqb one 36;
          closed = eqb one 37;
        };
        heard = record {
          done = eqb one 38;
          closed = eqb one 39;
        };
        first = eqb one 40;
        abort = eqb one 41;
      };
    }

abbrev pub shape_links : ℕ → FlatLinks
shape_links one =
    record {
      active = (eqb one 1) ∷ (eqb one 2) ∷ (eqb one 3) ∷ (eqb one 4) ∷ [];
      gauges = record {
        mean = whole 5;
        worst = whole 6;
        count = 7;
        late = eqb one 8;
      } ∷ record {
        mean = whole 9;
        worst = whole 10;
        count = 11;
        late = eqb one 12;
      } ∷ record {
        mean = whole 13;
        worst = whole 14;
        count = 15;
        late = eqb one 16;
      } ∷ record {
        mean = whole 17;
        worst = whole 18;
        count = 19;
        late = eqb one 20;
      } ∷ [];
      server = eqb one 21;
      exchange = record {
        stage = 22;
        v = 23;
        w = 24;
      };
      queue = record {
        count = 25;
        places = record {
          link = 26;
          bytes = replicate 44 27;
        } ∷ record {
          link = 28;
          bytes = replicate 44 29;
        } ∷ record {
          link = 30;
          bytes = replicate 44 31;
        } ∷ record {
          link = 32;
          bytes = replicate 44 33;
        } ∷ [];
      };
    }

abbrev pub shape_command : FlatCommand
shape_command =
    record {
      number = ends32 1;
      slot = ends32 2;
      offset = ends32 3;
      ms = ends32 4;
      link = 5;
      opening = record {
        own = ends32 6;
        peer = ends32 7;
        link = 8;
        remote = record {
          size = ends32 9;
          index = ends32 10;
          link1 = record {
            key = ends32 11;
            base = ends64 12;
          };
          link2 = record {
            key = ends32 13;
            base = ends64 14;
          };
          link3 = record {
            key = ends32 15;
            base = ends64 16;
          };
          link4 = record {
            key = ends32 17;
            base = ends64 18;
          };
        };
      };
    }

abbrev pub shape_link_command : ℕ → FlatLinkCommand
shape_link_command one =
    record {
      number = ends32 1;
      link = 2;
      up = eqb one 3;
      fields = record {
        kind = 4;
        values = ends64 5 ∷ ends64 6 ∷ ends64 7 ∷ ends64 8 ∷ ends64 9 ∷ ends64 10 ∷ ends64 11 ∷ ends64 12 ∷ ends64 13 ∷ ends64 14 ∷ ends64 15 ∷ ends64 16 ∷ [];
      };
    }

abbrev pub shape_answer : ℕ → FlatAnswer
shape_answer one =
    record {
      said = ends32 1;
      refusal = ends32 2;
      n = ends32 3;
      state = ends32 4;
      moved = ends64 5;
      health = ends32 6;
      placings = ends32 7;
      first = record {
        key = ends32 8;
        address = ends64 9;
        start = ends32 10;
        len = ends32 11;
      };
      second = record {
        key = ends32 12;
        address = ends64 13;
        start = ends32 14;
        len = ends32 15;
      };
      mean = whole 16;
      worst = whole 17;
      made = eqb one 18;
      message = replicate 44 19;
      links = record {
        active = (eqb one 20) ∷ (eqb one 21) ∷ (eqb one 22) ∷ (eqb one 23) ∷ [];
        gauges = record {
          mean = whole 24;
          worst = whole 25;
          count = 26;
          late = eqb one 27;
        } ∷ record {
          mean = whole 28;
          worst = whole 29;
          count = 30;
          late = eqb one 31;
        } ∷ record {
          mean = whole 32;
          worst = whole 33;
          count = 34;
          late = eqb one 35;
        } ∷ record {
          mean = whole 36;
          worst = whole 37;
          count = 38;
          late = eqb one 39;
        } ∷ [];
        server = eqb one 40;
        exchange = record {
          stage = 41;
          v = 42;
          w = 43;
        };
        queue = record {
          count = 44;
          places = record {
            link = 45;
            bytes = replicate 44 46;
          } ∷ record {
            link = 47;
            bytes = replicate 44 48;
          } ∷ record {
            link = 49;
            bytes = replicate 44 50;
          } ∷ record {
            link = 51;
            bytes = replicate 44 52;
          } ∷ [];
        };
      };
    }

abbrev pub shape_link_answer : ℕ → FlatLinkAnswer
shape_link_answer one =
    record {
      said = ends32 1;
      refusal = ends32 2;
      fate = ends32 3;
      fields = record {
        kind = 4;
        values = ends64 5 ∷ ends64 6 ∷ ends64 7 ∷ ends64 8 ∷ ends64 9 ∷ ends64 10 ∷ ends64 11 ∷ ends64 12 ∷ ends64 13 ∷ ends64 14 ∷ ends64 15 ∷ ends64 16 ∷ [];
      };
      up = record {
        some = eqb one 17;
        link = 18;
        fate = ends32 19;
        fields = record {
          kind = 20;
          values = ends64 21 ∷ ends64 22 ∷ ends64 23 ∷ ends64 24 ∷ ends64 25 ∷ ends64 26 ∷ ends64 27 ∷ ends64 28 ∷ ends64 29 ∷ ends64 30 ∷ ends64 31 ∷ ends64 32 ∷ [];
        };
      };
      count = ends32 33;
      made = eqb one 34;
      message = replicate 44 35;
      links = record {
        active = (eqb one 36) ∷ (eqb one 37) ∷ (eqb one 38) ∷ (eqb one 39) ∷ [];
        gauges = record {
          mean = whole 40;
          worst = whole 41;
          count = 42;
          late = eqb one 43;
        } ∷ record {
          mean = whole 44;
          worst = whole 45;
          count = 46;
          late = eqb one 47;
        } ∷ record {
          mean = whole 48;
          worst = whole 49;
          count = 50;
          late = eqb one 51;
        } ∷ record {
          mean = whole 52;
          worst = whole 53;
          count = 54;
          late = eqb one 55;
        } ∷ [];
        server = eqb one 56;
        exchange = record {
          stage = 57;
          v = 58;
          w = 59;
        };
        queue = record {
          count = 60;
          places = record {
            link = 61;
            bytes = replicate 44 62;
          } ∷ record {
            link = 63;
            bytes = replicate 44 64;
          } ∷ record {
            link = 65;
            bytes = replicate 44 66;
          } ∷ record {
            link = 67;
            bytes = replicate 44 68;
          } ∷ [];
        };
      };
    }

abbrev pub shape_view : FlatView
shape_view =
    record {
      health = ends32 1;
      shown = ends32 2;
      mean = whole 3;
      worst = whole 4;
    }

abbrev pub shape_pool_answer : PoolAnswer
shape_pool_answer =
    record {
      said = ends32 1;
      refusal = ends32 2;
      start = ends32 3;
      books = record {
        sizes = replicate 64 4;
      };
    }

abbrev pub shape_settings : ℕ → Settings
shape_settings one =
    record {
      size = ends32 1;
      peer = replicate 8 2;
      gid = replicate 16 3;
      mac = replicate 6 4;
      mask = replicate 4 5;
      masklen = 6;
      count = 7;
      prefixes = replicate 136 8;
      first = eqb one 9;
      qp = ends32 10;
      mtu = 11;
      psn = ends32 12;
      key = ends32 13;
      base = ends64 14;
      slot = 15;
      own = ends32 16;
      link = 17;
      key1 = ends32 18;
      base1 = ends64 19;
      key2 = ends32 20;
      base2 = ends64 21;
      key3 = ends32 22;
      base3 = ends64 23;
      key4 = ends32 24;
      base4 = ends64 25;
    }

abbrev pub shape_setup_answer : ℕ → SetupAnswer
shape_setup_answer one =
    record {
      said = ends32 1;
      refusal = ends32 2;
      opens = eqb one 3;
      declined = eqb one 4;
      diagnosis = ends32 5;
      count = ends64 6;
      arguments = record {
        slot = 7;
        own = ends32 8;
        token = ends32 9;
        link = 10;
        size = ends32 11;
        index = 12;
        key1 = ends32 13;
        base1 = ends64 14;
        key2 = ends32 15;
        base2 = ends64 16;
        key3 = ends32 17;
        base3 = ends64 18;
        key4 = ends32 19;
        base4 = ends64 20;
      };
      message = replicate 188 21;
    }
