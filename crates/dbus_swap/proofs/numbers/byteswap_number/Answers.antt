use Rattle.std.proofs.Common.{◌≡◌, ◌+◌, ◌++◌, ℕ, take, drop, reverse, sym, subst, arith}
use Rattle.dbus_texts.specs.Types.{BYTE, BOOLEAN, INT16, UINT16, INT32, UINT32, INT64, UINT64, DOUBLE, UNIX_FD, NumberCode}
use Rattle.dbus_types.specs.Alignments.{width}
use Rattle.dbus_swap.proofs.Leaves.{byte_byteswapped}
use Rattle.dbus_swap.proofs.numbers.byteswap_number.Goals as goal

only_byte : (k : NumberCode) (n : ℕ) → width k ≡ n → (n ≡ 2 → ⊥) → (n ≡ 4 → ⊥) → (n ≡ 8 → ⊥) → 1 ≡ n
only_byte BYTE n e a b d = e
only_byte BOOLEAN n e a b d = absurd (b (sym e))
only_byte INT16 n e a b d = absurd (a (sym e))
only_byte UINT16 n e a b d = absurd (a (sym e))
only_byte INT32 n e a b d = absurd (b (sym e))
only_byte UINT32 n e a b d = absurd (b (sym e))
only_byte INT64 n e a b d = absurd (d (sym e))
only_byte UINT64 n e a b d = absurd (d (sym e))
only_byte DOUBLE n e a b d = absurd (d (sym e))
only_byte UNIX_FD n e a b d = absurd (b (sym e))

pub returns-else-size-eq8 : goal.returns-else-size-eq8
returns-else-size-eq8 c = λ k e.
    let one = only_byte k c.args.size e c.if-size-eq2.false c.if-size-eq4.false c.if-size-eq8.false in
    subst (λ (n : ℕ). c.args.out.now ≡ take c.args.at c.args.out.now ++ (reverse (take n (drop c.args.at c.args.out.now)) ++ drop (c.args.at + n) c.args.out.now)) one
    (byte_byteswapped c.args.at c.args.out.now (omega (arith, one, c.requires)))
