-- What the first four bytes of an input say of it, whatever follows them.
use Rattle.std.proofs.Common.{◌≡◌, ◌≢◌, ◌≤◌, ◌<◌, ℕ, Bool, true, false, cond, List, [], ◌∷◌, ◌++◌, length, length-append, Option, None, is_some, refl, sym, ap, ◌∙◌, arith}
use Rattle.std.specs.Prelude.{◌==◌}
use Rattle.dbus_capture.specs.Types.{ByteOrder, Little, Big, Raw, FileHeader, Section}
use Rattle.dbus_capture.specs.Numbers.{u32_at, u32_bytes}
use Rattle.dbus_capture.specs.Heads.{magic}
use Rattle.dbus_capture.specs.Beginnings.{stage_by, first_stage, IsFirstOfStream}
use Rattle.dbus_capture.specs.PcapFiles.{magic_number}
use Rattle.dbus_capture.proofs.NumberLaws.{u32_size, u32_in_front}
use Rattle.dbus_capture.proofs.Choices.{eq_not, lt_false, when_false}

first_by : (bytes : List ℕ) → 4 ≤ length bytes → first_stage bytes ≡ stage_by (u32_at Little 0 bytes)
first_by bytes enough = when_false _ _ _ (lt_false (length bytes) 4 enough)

-- what follows four bytes does not matter
pub first_front : (front more : List ℕ) → 4 ≤ length front → first_stage (front ++ more) ≡ first_stage front
first_front front more enough =
    let l = length-append front more in
    first_by (front ++ more) (omega (arith, l, enough)) ∙ ap stage_by (u32_in_front Little front more 0 enough) ∙ sym (first_by front enough)

stage_of_pcap : (o : ByteOrder) (b : Bool) (rest : List ℕ) → stage_by (u32_at Little 0 (u32_bytes o (magic_number b) ++ rest)) ≡ FileHeader
stage_of_pcap Little true rest = refl
stage_of_pcap Little false rest = refl
stage_of_pcap Big true rest = refl
stage_of_pcap Big false rest = refl

stage_of_section : (o : ByteOrder) (rest : List ℕ) → stage_by (u32_at Little 0 (u32_bytes o 0x0a0d0d0a ++ rest)) ≡ Section
stage_of_section Little rest = refl
stage_of_section Big rest = refl

long : (o : ByteOrder) (n : ℕ) (rest : List ℕ) → 4 ≤ length (u32_bytes o n ++ rest)
long o n rest = let l = length-append (u32_bytes o n) rest in let k = u32_size o n in omega (arith, l, k)

pub begins_pcap : (o : ByteOrder) (b : Bool) (rest : List ℕ) → first_stage (u32_bytes o (magic_number b) ++ rest) ≡ FileHeader
begins_pcap o b rest = first_by (u32_bytes o (magic_number b) ++ rest) (long o (magic_number b) rest) ∙ stage_of_pcap o b rest

pub begins_section : (o : ByteOrder) (rest : List ℕ) → first_stage (u32_bytes o 0x0a0d0d0a ++ rest) ≡ Section
begins_section o rest = first_by (u32_bytes o 0x0a0d0d0a ++ rest) (long o 0x0a0d0d0a rest) ∙ stage_of_section o rest

-- ---- what begins as a message or a handshake

-- the first byte of no file
is_other : (b : ℕ) → IsFirstOfStream b → (b < 256) × (b ≢ 0xd4) × (b ≢ 0x4d) × (b ≢ 0xa1) × (b ≢ 0x0a)
is_other b any = (
  grind (arith, any),
  λ e. absurd (grind (arith, any, e)),
  λ e. absurd (grind (arith, any, e)),
  λ e. absurd (grind (arith, any, e)),
  λ e. absurd (grind (arith, any, e)),
)

no_magic : (n : ℕ) → n ≢ 0xa1b2c3d4 → n ≢ 0xa1b23c4d → n ≢ 0xd4c3b2a1 → n ≢ 0x4d3cb2a1 → magic n ≡ None
no_magic n p q r s = when_false _ _ _ (eq_not n 0xa1b2c3d4 p) ∙ when_false _ _ _ (eq_not n 0xa1b23c4d q) ∙ when_false _ _ _ (eq_not n 0xd4c3b2a1 r) ∙ when_false _ _ _ (eq_not n 0x4d3cb2a1 s)

raw_by : (n : ℕ) → magic n ≡ None → n ≢ 0x0a0d0d0a → stage_by n ≡ Raw
raw_by n none other =
    ap (λ (m : Option (ByteOrder × Bool)). cond (is_some m) FileHeader (cond (n == 0x0a0d0d0a) Section Raw)) none ∙ when_false _ _ _ (eq_not n 0x0a0d0d0a other)

pub stream_first : (first : ℕ) (rest : List ℕ) → IsFirstOfStream first → first_stage (first ∷ rest) ≡ Raw
stream_first x [] any = refl
stream_first x (a ∷ []) any = refl
stream_first x (a ∷ b ∷ []) any = refl
stream_first x (a ∷ b ∷ c ∷ rest) any =
    let bytes = x ∷ a ∷ b ∷ c ∷ rest in
    let o = is_other x any in
    first_by bytes (omega arith)
    ∙ raw_by (u32_at Little 0 bytes)
    (no_magic (u32_at Little 0 bytes) (λ e. o.1 (omega (arith, o.0, e))) (λ e. o.2 (omega (arith, o.0, e))) (λ e. o.3 (omega (arith, o.0, e))) (λ e. o.3 (omega (arith, o.0, e))))
    (λ e. o.4 (omega (arith, o.0, e)))
