use Rattle.std.proofs.Common.{◌≡◌, ℕ, List, take, Some, ap, sym, subst}
use Rattle.dbus_device.specs.Packets.{Packets}
use Rattle.dbus_page.specs.Parts.{AreParts}
use Rattle.dbus_page.specs.declared.unpacking.PagePart.{PagePart}
use Rattle.dbus_page.proofs.FileSteps.{packets_at_first}
use Rattle.dbus_page.proofs.unpacking.dbus_page_unpack.Goals as goal

parts_told : (packets : Packets) (parts : List PagePart) (n m length end : ℕ) → m ≡ n → end ≡ length → AreParts packets 0 (take n parts) length → AreParts packets 0 (take m parts) end
parts_told packets parts n m length end e f are = subst (λ (k : ℕ). AreParts packets 0 (take k parts) end) (sym e) (subst (λ (k : ℕ). AreParts packets 0 (take n parts) k) (sym f) are)

pub returns-then-filled-clause-parts : goal.returns-then-filled-clause-parts
returns-then-filled-clause-parts c =
    let e = c.new-capture.ensures in
    parts_told _ _ _ _ _ _ c.unpacked_of.ensures.parts c.unpacked_of.ensures.length
    (c.read_through-filled.ensures.parts _ (packets_at_first (λ m. Some m.left.now) c.new-capture.result.input c.args.file.now e.owed e.kept e.chosen e.scan (ap (λ m. Some m.left.now) e.source)))

pub returns-else-filled-clause-parts : goal.returns-else-filled-clause-parts
returns-else-filled-clause-parts c =
    let e = c.new-capture.ensures in
    parts_told _ _ _ _ _ _ c.unpacked_of-else-filled.ensures.parts c.unpacked_of-else-filled.ensures.length
    (c.read_through-filled.ensures.parts _ (packets_at_first (λ m. Some m.left.now) c.new-capture.result.input c.args.file.now e.owed e.kept e.chosen e.scan (ap (λ m. Some m.left.now) e.source)))
