-- The heads of a file: which there are, how many bytes each has, and how these are gathered.
use Rattle.std.specs.Prelude.{ℕ, List, [], Bool, true, false}
use Rattle.dbus_capture.specs.declared.stage.Stage.{Stage}
use Rattle.dbus_capture.specs.declared.stage.Stage.TheVariants.{Raw, FileHeader, Record, Section, Block, InterfaceHead, OptionHead, Resolution, InterfaceTrailer, Enhanced, ObsoletePacket, Simple, RecordFront, BlockFront, Trailer}

pub record Heading : Type 0 where
  -- which head it is
  pub stage : Stage
  -- which of its bytes are there
  pub bytes : List ℕ

-- none of them are
abbrev pub begun : Stage → Heading
begun stage = record { stage = stage; bytes = [] }

-- how many bytes a head has
abbrev pub want : Stage → ℕ
want Raw = 24
want FileHeader = 24
want Record = 16
want Section = 24
want Block = 8
want InterfaceHead = 8
want OptionHead = 4
want Resolution = 4
want InterfaceTrailer = 4
want Enhanced = 20
want ObsoletePacket = 20
want Simple = 4
want RecordFront = 16
want BlockFront = 16
want Trailer = 4

-- no file is around the messages
abbrev pub is_raw : Stage → Bool
is_raw Raw = true
is_raw stage = false

-- the first bytes of a packet are looked at before they are handed on
abbrev pub is_front : Stage → Bool
is_front RecordFront = true
is_front BlockFront = true
is_front stage = false

-- those of the packet behind which this head comes, and that head
abbrev pub front_before : Stage → Stage
front_before Record = RecordFront
front_before stage = BlockFront

abbrev pub after_front : Stage → Stage
after_front RecordFront = Record
after_front stage = Trailer
