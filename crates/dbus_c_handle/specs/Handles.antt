-- What a handle owns: what it keeps in a block of the heap, or nothing.
use Rattle.std.specs.Prelude.{Option, Some, None}
use base.Fml.{Fml, feq, fex}
use denote.RawPtr.{Ptr, null_ptr}
use Rattle.std.specs.contracts.alloc.Global as heap
use Rattle.std.specs.contracts.impls.GlobalAllocator.TheImpl.{ghosts}
use Rattle.std.specs.Box.Ownership.{box_owns}
use Rattle.dbus_c_handle.specs.declared.kept.Kept.{Kept}
use Rattle.dbus_c_handle.specs.contracts.kept.Kept.{the_row}

-- at the pointer lies what is kept, in a block that may be freed; or the pointer is null
abbrev pub holds : Ptr → Option Kept → Fml
holds p None = feq Ptr p null_ptr
holds p (Some x) = fex heap.the_row.Denot (λ g. box_owns (ghosts.dealloc_token g) the_row p x)
