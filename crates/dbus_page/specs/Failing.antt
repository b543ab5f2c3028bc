-- When the reading of a file may fail.
use Rattle.std.specs.Prelude.{◌≡◌, ◌⊎◌, ℕ, ◌+◌, ◌≤◌, ◌^◌, List, length}
use Rattle.dbus_device.specs.Device.{one_more}

-- the source of the file failed, or the file has about as many bytes as there are numbers
abbrev pub MayFail : (before after : ℕ) → (file : List ℕ) → Type 0
MayFail before after file = (after ≡ one_more before) ⊎ (2 ^ 64 ≤ length file + 1)
