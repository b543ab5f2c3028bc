-- A handle may go to another thread: the checker behind it may, and its block may be freed there.
use Rattle.std.specs.Prelude.{Option, None, Some}
use mir.Raw.{raw}
use base.Fraction.{full_share}
use base.Shift.{Keyless}
use denote.Exit.{Exit, unchanged, leaves, hidden, under}
use denote.Memory.{lone}
use denote.RawPtr.{Ptr, block_ptr, null_ptr, lies_at}
use denote.Struct.Struct.{exits_of}
use denote.Struct.Owning.{shape, fields, to}
use denote.Param.Send.{IsSend, Quiet, AllSend, part_keyless, owning_send, struct_send, sendable}
use Rattle.std.proofs.Crossing.{frees}
use Rattle.dbus_c_handle.specs.declared.kept.Kept.{Kept}
use Rattle.dbus_c_handle.specs.contracts.kept.Kept as kept
use Rattle.dbus_c_handle.proofs.kept.Kept.TheSendSync.{the_send as kept_send}
use Rattle.dbus_c_handle.specs.Handles.{holds}
use Rattle.dbus_c_handle.specs.contracts.handle.WireHandle.{the_row, the_type}

still : {D X : Type 0} (into : D → X) (e : Exit X) → Quiet e → Quiet (hidden (under into e))
still into unchanged q = λ x w. tt
still into (leaves L l S s r) q = λ d. q (into d)

there : (p : Ptr) (x : Kept) → Keyless (lies_at kept.the_row full_share p x)
there (block_ptr b o) x = part_keyless kept.the_row kept_send full_share x b o
there null_ptr x = tt

free : (p : Ptr) (s : Option Kept) → Keyless (holds p s)
free p None = tt
free p (Some x) = λ g. (there p x, frees.frees g (raw (lone kept.the_row.mir)) p)

pub send : IsSend the_row
send =
    let all : AllSend (fields the_type) = (search sendable, tt) in
    owning_send the_type all (λ d. free d.at d.state)
    (λ k. still (to the_type) (exits_of k (fields the_type)) ((struct_send (shape the_type) all).leaving k))
