use Rattle.std.proofs.Common.{rules, length, ◌≡◌, ◌-◌, refl, arith, take, min}
use Rattle.dbus_room.proofs.RoomSteps.{size, written, behind}
use Rattle.dbus_room.proofs.room.RoomDraft.push_str.Goals as goal

pub returns-then-count-bytes : goal.returns-then-count-bytes
returns-then-count-bytes c =
    let n = c.args.self.now.len in
    let old = c.args.self.now.bytes.now in
    let text = c.args.text.now in
    let k = c.min-count.result in
    let most : k ≡ min (length text) (length old - n) = search rules in
    let is : c.copy_bytes.new.to ≡ take k text = search rules in
    record {
      same = refl;
      size = size old text c.copy_bytes.new.to n k c.args.self.now.fits most is;
      written = written old text c.copy_bytes.new.to n k c.args.self.now.fits most is;
      long = omega (arith, most, c.args.self.now.fits);
      behind = behind old text c.copy_bytes.new.to n k c.args.self.now.fits most is;
      whole = (λ e. absurd (cc), λ f. absurd (omega (arith, most, f.1, c.if-count-bytes.true)));
    }

pub returns-else-count-bytes : goal.returns-else-count-bytes
returns-else-count-bytes c =
    let n = c.args.self.now.len in
    let old = c.args.self.now.bytes.now in
    let text = c.args.text.now in
    let k = c.min-count.result in
    let most : k ≡ min (length text) (length old - n) = search rules in
    let is : c.copy_bytes.new.to ≡ take k text = search rules in
    record {
      same = refl;
      size = size old text c.copy_bytes.new.to n k c.args.self.now.fits most is;
      written = written old text c.copy_bytes.new.to n k c.args.self.now.fits most is;
      long = omega (arith, most, c.args.self.now.fits);
      behind = behind old text c.copy_bytes.new.to n k c.args.self.now.fits most is;
      whole = (λ e. (e, omega (arith, most, c.if-count-bytes.false)), λ f. f.0);
    }
