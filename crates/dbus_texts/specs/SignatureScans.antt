-- What may follow at each place within a signature, and the steps from place to place.
-- D-Bus Specification, "Type System" ("Valid Signatures").
use Rattle.std.specs.Prelude.{◌≡◌, ℕ, ◌+◌, ◌-◌, Bool, true, false, Option, Some, None, List, [], ◌∷◌, ◌++◌, ◌==◌, ◌||◌, nat_lt, IsTrue, if◌then◌else◌, length, take, slice_get, ◌<◌, ◌≤◌, ⊤}
use Rattle.std.specs.Coded.{×_prop, Unit-prop, le_prop}
use Rattle.dbus_texts.specs.declared.signature.Frame.{Frame}
use Rattle.dbus_texts.specs.declared.signature.SigPlace.{SigPlace}
use Rattle.dbus_texts.specs.declared.signature.SigPlace.TheVariants.{After, One, Element, Key}
use Rattle.dbus_texts.specs.Types.{BYTE, BOOLEAN, INT16, UINT16, INT32, UINT32, INT64, UINT64, DOUBLE, UNIX_FD, STRING, OBJECT_PATH, SIGNATURE, TypeTree, TypeTrees, number_code, text_code, sig, sigs, IsComplete, AreComplete}
use Rattle.dbus_texts.specs.Kinds.{IsSignature}

-- the codes of the basic types
abbrev pub is_basic_code : ℕ → Bool
is_basic_code b =
    b == number_code BYTE || b == number_code BOOLEAN || b == number_code INT16 || b == number_code UINT16 || b == number_code INT32
    || b == number_code UINT32 || b == number_code INT64 || b == number_code UINT64 || b == number_code DOUBLE || b == number_code UNIX_FD
    || b == text_code STRING || b == text_code OBJECT_PATH || b == text_code SIGNATURE

-- the same, and v
abbrev pub is_type_code : ℕ → Bool
is_type_code b = is_basic_code b || b == 118

-- one complete type, and then what K says
pub record OneThen (inside : Bool) (arrays structs : ℕ) (K : List ℕ → Type 0) (c : List ℕ) : Type 0 where
  pub first : TypeTree
  pub rest : List ℕ
  pub complete : IsComplete first inside arrays structs
  pub follows : K rest
  pub spelled : c ≡ sig first ++ rest

-- any number of complete types, `)`, and then what K says
pub record MoreThen (arrays structs : ℕ) (K : List ℕ → Type 0) (c : List ℕ) : Type 0 where
  pub types : TypeTrees
  pub rest : List ℕ
  pub complete : AreComplete types arrays structs
  pub follows : K rest
  pub spelled : c ≡ sigs types ++ 41 ∷ rest

-- `}`, and then what K says
abbrev pub CloseThen : (List ℕ → Type 0) → List ℕ → Type 0
CloseThen K [] = ⊥
CloseThen K (b ∷ c) = (b ≡ 125) × K c

-- the code of a basic type and one complete type, and then what K says
abbrev pub KeyThen : ℕ → ℕ → (List ℕ → Type 0) → List ℕ → Type 0
KeyThen arrays structs K [] = ⊥
KeyThen arrays structs K (b ∷ c) = IsTrue (is_basic_code b) × OneThen false arrays structs K c

-- what may follow a complete type in an open struct or entry
abbrev pub frame_rest_at : Bool → ℕ → ℕ → (List ℕ → Type 0) → List ℕ → Type 0
frame_rest_at true arrays structs K c = CloseThen K c
frame_rest_at false arrays structs K c = MoreThen arrays structs K c

abbrev pub frame_rest : Frame → (List ℕ → Type 0) → List ℕ → Type 0
frame_rest f K c = frame_rest_at f.entry f.arrays f.structs K c

-- the same inside all open structs and entries, the outermost first
abbrev pub frames_rest : List Frame → (List ℕ → Type 0) → List ℕ → Type 0
frames_rest [] K c = K c
frames_rest (f ∷ fs) K c = frames_rest fs (frame_rest f K) c

-- what may follow a complete type outside of them
abbrev pub AtTop : Bool → List ℕ → Type 0
AtTop true c = c ≡ []
AtTop false c = IsSignature c

-- a signature's scan without its ghost fields
pub record SigState : Type 0 where
  pub single : Bool
  pub place : SigPlace
  pub arrays : ℕ
  pub structs : ℕ
  pub frames : List Frame

abbrev pub after : Bool → List Frame → List ℕ → Type 0
after single fs c = frames_rest fs (AtTop single) c

abbrev pub sig_rest_at : SigPlace → ℕ → ℕ → (List ℕ → Type 0) → List ℕ → Type 0
sig_rest_at After arrays structs K c = K c
sig_rest_at One arrays structs K c = OneThen false arrays structs K c
sig_rest_at Element arrays structs K c = OneThen true arrays structs K c
sig_rest_at Key arrays structs K c = KeyThen arrays structs K c

abbrev pub sig_rest : SigState → List ℕ → Type 0
sig_rest s c = sig_rest_at s.place s.arrays s.structs (after s.single s.frames) c

-- one byte further
abbrev pub sig_state : Bool → SigPlace → ℕ → ℕ → List Frame → SigState
sig_state single place arrays structs frames = record { single = single; place = place; arrays = arrays; structs = structs; frames = frames }

abbrev pub frame : Bool → ℕ → ℕ → Frame
frame entry arrays structs = record { entry = entry; arrays = arrays; structs = structs }

-- a complete type begins
abbrev pub begin : Bool → Bool → ℕ → ℕ → List Frame → ℕ → Option SigState
begin single inside arrays structs fs b =
    if is_type_code b then Some (sig_state single After arrays structs fs)
    else (if b == 97 then (if nat_lt arrays 32 then Some (sig_state single Element (arrays + 1) structs fs) else None)
    else (if b == 40 then (if nat_lt structs 32 then Some (sig_state single One arrays (structs + 1) (fs ++ frame false arrays (structs + 1) ∷ [])) else None)
    else (if b == 123 then (if inside then Some (sig_state single Key arrays structs (fs ++ frame true arrays structs ∷ [])) else None) else None)))

-- the innermost frame, and the others
abbrev pub innermost : List Frame → Option Frame
innermost fs = slice_get fs (length fs - 1)

abbrev pub others : List Frame → List Frame
others fs = take (length fs - 1) fs

abbrev pub in_frame_at : Bool → ℕ → ℕ → Bool → ℕ → ℕ → List Frame → List Frame → ℕ → Option SigState
in_frame_at single arrays structs true a s below fs b = if b == 125 then Some (sig_state single After arrays structs below) else None
in_frame_at single arrays structs false a s below fs b = if b == 41 then Some (sig_state single After arrays structs below) else begin single false a s fs b

abbrev pub past : Bool → ℕ → ℕ → Option Frame → List Frame → ℕ → Option SigState
past single arrays structs None fs b = if single then None else begin single false 0 0 fs b
past single arrays structs (Some f) fs b = in_frame_at single arrays structs f.entry f.arrays f.structs (others fs) fs b

abbrev pub sig_next_at : Bool → SigPlace → ℕ → ℕ → List Frame → ℕ → Option SigState
sig_next_at single After arrays structs fs b = past single arrays structs (innermost fs) fs b
sig_next_at single One arrays structs fs b = begin single false arrays structs fs b
sig_next_at single Element arrays structs fs b = begin single true arrays structs fs b
sig_next_at single Key arrays structs fs b = if is_basic_code b then Some (sig_state single One arrays structs fs) else None

abbrev pub sig_next : SigState → ℕ → Option SigState
sig_next s b = sig_next_at s.single s.place s.arrays s.structs s.frames b

-- whether the signature may end here
abbrev pub no_frames : List Frame → Bool
no_frames [] = true
no_frames (f ∷ fs) = false

abbrev pub sig_end_at : SigPlace → List Frame → Bool
sig_end_at After fs = no_frames fs
sig_end_at One fs = false
sig_end_at Element fs = false
sig_end_at Key fs = false

abbrev pub sig_end : SigState → Bool
sig_end s = sig_end_at s.place s.frames

-- The frames that a signature's scan keeps are few, since arrays and structs are nested 32 deep at
-- most. D-Bus Specification, "Type System" ("Valid Signatures").

-- of frames, the innermost first, each has more containers open around it than there are frames
-- before it, and at most 32 of each kind; k frames come before these
abbrev pub AreBounded : ℕ → List Frame → Type 0
AreBounded k [] = ⊤
AreBounded k (f ∷ fs) = ((k < f.arrays + f.structs) × ((f.arrays ≤ 32) × (f.structs ≤ 32))) × AreBounded (k + 1) fs

pub AreBounded-prop : (k : ℕ) (fs : List Frame) → IsProp (AreBounded k fs)
AreBounded-prop k [] = Unit-prop
AreBounded-prop k (f ∷ fs) = ×_prop (×_prop le_prop (×_prop le_prop le_prop)) (AreBounded-prop (k + 1) fs)

-- an array's element may still be an entry, which takes one frame
abbrev pub spare : SigPlace → ℕ
spare After = 0
spare One = 0
spare Element = 1
spare Key = 0
