-- Which bytes are a pcapng file, and which D-Bus packets it has. "PCAP Now Generic (pcapng) Capture
-- File Format", "General File Structure", "Options" and "Block Definition".
use Rattle.std.specs.Prelude.{◌≡◌, ◌≢◌, ℕ, ◌+◌, ◌<◌, ◌≤◌, ◌^◌, ◌%◌, ◌⊎◌, ◌==◌, if◌then◌else◌, Bool, true, false, List, [], ◌∷◌, ◌++◌, length, slice_get, slice_index, Option, Some, None}
use Rattle.dbus_capture.specs.Types.{ByteOrder, Interface}
use Rattle.dbus_capture.specs.Numbers.{u32_bytes, u16_bytes}
use Rattle.dbus_capture.specs.Blocks.{padded, captured_length}
use Rattle.dbus_capture.specs.CutPackets.{Captured}

-- a block of a type and a body, whose length is at both of its ends
abbrev pub framed_bytes : ByteOrder → ℕ → List ℕ → List ℕ
framed_bytes order kind body = (u32_bytes order kind ++ u32_bytes order (12 + length body)) ++ (body ++ u32_bytes order (12 + length body))

-- a body that a block may have
pub record FitsBody (body : List ℕ) : Type 0 where
  pub size : 12 + length body < 2 ^ 32
  pub whole : (12 + length body) % 4 ≡ 0

-- ---- interfaces

-- an option: its value is filled up to a multiple of four bytes
pub record InterfaceOption : Type 0 where
  pub code : ℕ
  pub value : List ℕ
  pub filler : List ℕ

abbrev pub option_bytes : ByteOrder → InterfaceOption → List ℕ
option_bytes order o = (u16_bytes order o.code ++ u16_bytes order (length o.value)) ++ (o.value ++ o.filler)

abbrev pub options_bytes : ByteOrder → List InterfaceOption → List ℕ
options_bytes order [] = []
options_bytes order (o ∷ options) = option_bytes order o ++ options_bytes order options

-- code 0 is the end of the options
pub record FitsOption (o : InterfaceOption) : Type 0 where
  pub code : o.code < 2 ^ 16
  pub no_end : o.code ≢ 0
  pub size : length o.value < 2 ^ 16
  pub filled : length o.value + length o.filler ≡ padded (length o.value)
  pub resolution : o.code ≡ 9 → length o.value ≡ 1

abbrev pub AllFitOptions : List InterfaceOption → Type 0
AllFitOptions [] = Unit {0}
AllFitOptions (o ∷ options) = FitsOption o × AllFitOptions options

-- what an option says of its interface
abbrev pub with_option : Interface → InterfaceOption → Interface
with_option i o = if o.code == 9 then record i { resolution = slice_index o.value 0 } else (if o.code == 14 then record i { has_offset = true } else i)

abbrev pub with_options : Interface → List InterfaceOption → Interface
with_options i [] = i
with_options i (o ∷ options) = with_options (with_option i o) options

-- what ends the options: nothing, or code 0 and what is not looked at
abbrev pub end_bytes : ByteOrder → Option (List ℕ) → List ℕ
end_bytes order None = []
end_bytes order (Some more) = u16_bytes order 0 ++ more

abbrev pub FitsEnd : Option (List ℕ) → Type 0
FitsEnd None = Unit {0}
FitsEnd (Some more) = 2 ≤ length more

-- ---- blocks

-- what the head of a packet's block says but for how many bytes there are
pub data PacketForm : Type 0 where
  -- the number of an interface, and a time of two numbers
  EnhancedHead : ℕ → ℕ → ℕ → PacketForm
  -- the same in the obsolete packet block, with a count of drops behind the number
  ObsoleteHead : ℕ → ℕ → ℕ → ℕ → PacketForm
  -- no time, of the first interface
  SimpleHead : PacketForm

pub data FileBlock : Type 0 where
  -- an interface of this link type and snap length
  InterfaceBlock : ℕ → ℕ → ℕ → List InterfaceOption → Option (List ℕ) → FileBlock
  -- a packet that had so many bytes, of which these were captured; its padding and its options
  PacketBlock : PacketForm → ℕ → List ℕ → List ℕ → FileBlock
  -- a block of another type
  OtherBlock : ℕ → List ℕ → FileBlock

abbrev pub head_kind : PacketForm → ℕ
head_kind (EnhancedHead number high low) = 6
head_kind (ObsoleteHead number drops high low) = 2
head_kind SimpleHead = 3

abbrev pub block_kind : FileBlock → ℕ
block_kind (InterfaceBlock link_type reserved snap_length options end) = 1
block_kind (PacketBlock head original bytes rest) = head_kind head
block_kind (OtherBlock kind body) = kind

-- the head of a packet's block
abbrev pub head_bytes : ByteOrder → PacketForm → (captured original : ℕ) → List ℕ
head_bytes order (EnhancedHead number high low) captured original =
    u32_bytes order number ++ (u32_bytes order high ++ (u32_bytes order low ++ (u32_bytes order captured ++ u32_bytes order original)))
head_bytes order (ObsoleteHead number drops high low) captured original =
    (u16_bytes order number ++ u16_bytes order drops) ++ (u32_bytes order high ++ (u32_bytes order low ++ (u32_bytes order captured ++ u32_bytes order original)))
head_bytes order SimpleHead captured original = u32_bytes order original

abbrev pub block_body : ByteOrder → FileBlock → List ℕ
block_body order (InterfaceBlock link_type reserved snap_length options end) =
    (u16_bytes order link_type ++ (u16_bytes order reserved ++ u32_bytes order snap_length)) ++ (options_bytes order options ++ end_bytes order end)
block_body order (PacketBlock head original bytes rest) = head_bytes order head (length bytes) original ++ (bytes ++ rest)
block_body order (OtherBlock kind body) = body

abbrev pub block_bytes : ByteOrder → FileBlock → List ℕ
block_bytes order block = framed_bytes order (block_kind block) (block_body order block)

abbrev pub blocks_bytes : ByteOrder → List FileBlock → List ℕ
blocks_bytes order [] = []
blocks_bytes order (block ∷ blocks) = block_bytes order block ++ blocks_bytes order blocks

-- the interfaces after a block
abbrev pub interfaces_after : List Interface → FileBlock → List Interface
interfaces_after interfaces (InterfaceBlock link_type reserved snap_length options end) =
    interfaces ++ with_options (record { link_type = link_type; snap_length = snap_length; resolution = 6; has_offset = false }) options ∷ []
interfaces_after interfaces block = interfaces

-- a packet's interface is there
abbrev pub HasInterface : List Interface → ℕ → (Interface → Type 0) → Type 0
HasInterface interfaces number P = (i : Interface) × (slice_get interfaces number ≡ Some i) × P i

-- the number of the interface of a packet
abbrev pub head_interface : PacketForm → ℕ
head_interface (EnhancedHead number high low) = number
head_interface (ObsoleteHead number drops high low) = number
head_interface SimpleHead = 0

-- what has a spelling; in a simple packet block the lengths say how many bytes were captured
abbrev pub FitsHead : PacketForm → Interface → (captured original : ℕ) → Type 0
FitsHead (EnhancedHead number high low) i captured original = number < 2 ^ 32
FitsHead (ObsoleteHead number drops high low) i captured original = number < 2 ^ 16
FitsHead SimpleHead i captured original = captured_length i.snap_length original ≡ captured

abbrev pub FitsBlock : List Interface → FileBlock → Type 0
FitsBlock interfaces (InterfaceBlock link_type reserved snap_length options end) =
    (link_type < 2 ^ 16) × (snap_length < 2 ^ 32) × AllFitOptions options × FitsEnd end × (length interfaces < 64)
FitsBlock interfaces (PacketBlock head original bytes rest) = (original < 2 ^ 32) × (padded (length bytes) ≤ length bytes + length rest)
    × HasInterface interfaces (head_interface head) (λ i. FitsHead head i (length bytes) original)
FitsBlock interfaces (OtherBlock kind body) =
    (kind < 2 ^ 32) × (kind ≢ 1) × (kind ≢ 2) × (kind ≢ 3) × (kind ≢ 6) × (kind ≢ 0x0a0d0d0a)

abbrev pub AllFitBlocks : ByteOrder → List Interface → List FileBlock → Type 0
AllFitBlocks order interfaces [] = Unit {0}
AllFitBlocks order interfaces (block ∷ blocks) = FitsBlock interfaces block × FitsBody (block_body order block) × AllFitBlocks order (interfaces_after interfaces block) blocks

-- ---- sections

-- The length of a section and its options are not looked at.
pub record FileSection : Type 0 where
  pub order : ByteOrder
  pub minor : ℕ
  pub size : List ℕ
  pub options : List ℕ
  pub blocks : List FileBlock

abbrev pub section_body : FileSection → List ℕ
section_body s = (u32_bytes s.order 0x1a2b3c4d ++ (u16_bytes s.order 1 ++ (u16_bytes s.order s.minor ++ s.size))) ++ s.options

abbrev pub section_bytes : FileSection → List ℕ
section_bytes s = framed_bytes s.order 0x0a0d0d0a (section_body s) ++ blocks_bytes s.order s.blocks

pub record FitsSection (s : FileSection) : Type 0 where
  pub minor : (s.minor ≡ 0) ⊎ (s.minor ≡ 2)
  pub size : length s.size ≡ 8
  pub body : FitsBody (section_body s)
  pub blocks : AllFitBlocks s.order [] s.blocks

abbrev pub AllFitSections : List FileSection → Type 0
AllFitSections [] = Unit {0}
AllFitSections (s ∷ sections) = FitsSection s × AllFitSections sections

-- a file has one section or more
abbrev pub sections_bytes : List FileSection → List ℕ
sections_bytes [] = []
sections_bytes (s ∷ sections) = section_bytes s ++ sections_bytes sections

-- the interfaces after blocks
abbrev pub interfaces_all : List Interface → List FileBlock → List Interface
interfaces_all interfaces [] = interfaces
interfaces_all interfaces (block ∷ blocks) = interfaces_all (interfaces_after interfaces block) blocks

-- the last section of a file
abbrev pub last_section : FileSection → List FileSection → FileSection
last_section x [] = x
last_section x (y ∷ sections) = last_section y sections

-- ---- its packets

-- a packet, if its link type is 231, D-Bus
abbrev pub packet_by : (original : ℕ) → List ℕ → Option Interface → List Captured
packet_by original bytes None = []
packet_by original bytes (Some i) = if i.link_type == 231 then record { original = original; bytes = bytes } ∷ [] else []

-- the D-Bus packet of a block
abbrev pub block_packets : List Interface → FileBlock → List Captured
block_packets interfaces (PacketBlock head original bytes rest) = packet_by original bytes (slice_get interfaces (head_interface head))
block_packets interfaces block = []

-- those of blocks
abbrev pub blocks_packets : List Interface → List FileBlock → List Captured
blocks_packets interfaces [] = []
blocks_packets interfaces (block ∷ blocks) = block_packets interfaces block ++ blocks_packets (interfaces_after interfaces block) blocks

-- those of sections
abbrev pub sections_packets : List FileSection → List Captured
sections_packets [] = []
sections_packets (s ∷ sections) = blocks_packets [] s.blocks ++ sections_packets sections
