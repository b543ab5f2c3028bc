-- Which values keep their arrays of bytes as `Bytes`.
use Rattle.std.proofs.Common.{◌≡◌, ◌&&◌, List, [], Box, IsTrue, refl, sym, subst, rules}
use Rattle.dbus_value_model.specs.PackedBytes.{keeps_bytes, keep_bytes}
use Rattle.dbus_value_model.specs.declared.value.Value.{Value, Entry, the_lemmas}
use Rattle.dbus_value_model.specs.declared.value.DictEntry.{DictEntry}

pub keeps_none : {A : Type 0} (vs : List (Value A)) → vs ≡ [] → IsTrue (keep_bytes vs)
keeps_none {A} vs none = subst (λ (us : List (Value A)). IsTrue (keep_bytes us)) (sym none) refl

pub keeps-Entry : {A : Type 0} (e : Box (DictEntry A) A) → keeps_bytes {A = A} (Entry e) ≡ (keeps_bytes e.value.key && keeps_bytes e.value.value)
keeps-Entry e = search (rules, the_lemmas)
