-- Which way a refused message is passed over.
use Rattle.std.proofs.Common.{◌≡◌, ℕ, Bool, true, false, Option, None, Some, is_some, refl, sym}
use Rattle.std.proofs.lemmas.Bool.{false≢true}
use Rattle.cli_options.specs.declared.resync.Resync.{Resync}
use Rattle.cli_options.specs.declared.resync.Resync.TheVariants.{Off, Within}
use Rattle.cli_run.specs.PassingOn.{BySize, ToNext, ToPacket, way_by}

pub by_packet : (b c : Bool) (r : Resync) → b ≡ true → c ≡ false → way_by b c r ≡ ToPacket
by_packet b c r e f = λ i. way_by (e i) (f i) r

pub by_cut : (b c : Bool) (r : Resync) → b ≡ true → c ≡ true → way_by b c r ≡ BySize
by_cut b c r e f = λ i. way_by (e i) (f i) r

pub by_size : (b c : Bool) (r : Resync) → b ≡ false → r ≡ Off → way_by b c r ≡ BySize
by_size b c r e f = λ i. way_by (e i) c (f i)

pub by_next : (b c : Bool) (r : Resync) (window : ℕ) → b ≡ false → r ≡ Within window → way_by b c r ≡ ToNext window
by_next b c r window e f = λ i. way_by (e i) c (f i)

-- and what each says
pub way_packet : (p : Option ℕ) (cut : Bool) (r : Resync) → way_by (is_some p) cut r ≡ ToPacket → (is_some p ≡ true) × (cut ≡ false)
way_packet None cut Off e = absurd cc
way_packet None cut (Within w) e = absurd cc
way_packet (Some n) true r e = absurd cc
way_packet (Some n) false r e = (refl, refl)

pub way_size : (p : Option ℕ) (cut : Bool) (r : Resync) → way_by (is_some p) cut r ≡ BySize → cut ≡ false → (p ≡ None) × (r ≡ Off)
way_size None cut Off e f = (refl, refl)
way_size None cut (Within w) e f = absurd cc
way_size (Some n) true r e f = absurd (false≢true (sym f))
way_size (Some n) false r e f = absurd cc

pub way_cut : (p : Option ℕ) (cut : Bool) (w : ℕ) → way_by (is_some p) cut (Within w) ≡ BySize → p ≡ None → ⊥
way_cut None cut w e none = absurd cc
way_cut (Some n) cut w e none = absurd cc

pub way_next : (p : Option ℕ) (cut : Bool) (r : Resync) (w : ℕ) → way_by (is_some p) cut r ≡ ToNext w → (p ≡ None) × (r ≡ Within w)
way_next None cut Off w e = absurd cc
way_next None cut (Within v) w e = (let same : v ≡ w = cc in (refl, λ i. Within (same i)))
way_next (Some n) true r w e = absurd cc
way_next (Some n) false r w e = absurd cc
