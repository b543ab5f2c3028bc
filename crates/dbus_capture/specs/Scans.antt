-- What is kept between the bytes of a file that were taken and those that come.
use Rattle.std.specs.Prelude.{ℕ, ◌+◌, ◌^◌, ◌%◌, Bool, true, false, [], Some, None}
use Rattle.dbus_capture.specs.Types.{Stage, Little, CaptureReason, Scan}
use Rattle.dbus_capture.specs.Stages.{begun}

-- a place in a file, modulo 2^64
abbrev pub place : ℕ → ℕ
place n = n % 2 ^ 64

-- nothing was taken yet
abbrev pub fresh : Bool → Stage → Scan
fresh passes stage = record {
  head = begun stage;
  give = 0;
  skip = 0;
  next = 0;
  order = Little;
  nanoseconds = false;
  total = 0;
  rest = 0;
  behind = 0;
  alone = true;
  interface = record { link_type = 0; snap_length = 0; resolution = 6; has_offset = false };
  interfaces = [];
  passes_cut = passes;
  packets = 0;
  passed_over = 0;
  cut = 0;
  packet = None;
  fault = None;
}

-- a fault at a place of the head, after which no byte is handed on
abbrev pub refused : Scan → ℕ → CaptureReason → Scan
refused s k reason = record s { fault = Some (record { at = place (s.next + k); reason = reason }) }
