-- Values that stand at a spot, by their layout.
use Rattle.std.proofs.Common.{◌≡◌, ℕ, ◌+◌, ◌-◌, ◌<◌, List, length, get_or, take, drop, sym, ap, subst, ◌∙◌, ◌⊎◌, inl, inr, arith}
use Rattle.std.proofs.lemmas.List.{length-take}
use Rattle.dbus_texts.specs.Types.{TextCode, STRING, OBJECT_PATH, SIGNATURE, TypeTree, TextType}
use Rattle.dbus_types.specs.Alignments.{length_width, alignment_of}
use Rattle.dbus_types.specs.SignatureCodes.{first_code}
use Rattle.dbus_value_model.specs.Bytes.{gap_to}
use Rattle.dbus_value_model.specs.Reading.{number_of}
use Rattle.dbus_value_model.specs.Spelling.{spellings}
use Rattle.dbus_value_model.specs.Values.{ValueTree, NoValues, MoreValues}
use Rattle.dbus_walk.specs.declared.container.Container.TheVariants as kind
use Rattle.dbus_walk.specs.declared.spot.Layout.{Layout}
use Rattle.dbus_walk.specs.declared.spot.MessageBytes.{MessageBytes}
use Rattle.dbus_walk.specs.declared.spot.Spot.{Spot}
use Rattle.dbus_walk.specs.Containers.{inside, of_parts, IsNumberAt, IsTextAt, IsVariantAt, IsArrayAt, IsStructAt, IsEntryAt, IsLaidOut, number_width}
use Rattle.dbus_walk.specs.Standing.{AllStand, StandsAt, end_of}
use Rattle.dbus_walk.proofs.Containers.{variant_stands, variant_held, array_stands, array_found, elements_there}
use Rattle.dbus_walk.proofs.Enclosed.{struct_stands, entry_stands, enclosed_long}
use Rattle.dbus_walk.proofs.Fronts.{parts_end}
use Rattle.dbus_walk.proofs.Parts.{TextStands, number_stands, number_ends, text_ends, stands_as}
use Rattle.dbus_walk.proofs.ReadThere.{number_read, text_there}

-- the bytes that types of texts begin with
pub long_coded : (k : TextCode) {c : ℕ} → length_width k ≡ 4 → c ≡ first_code (TextType k) → (c ≡ 115) ⊎ (c ≡ 111)
long_coded STRING w e = inl e
long_coded OBJECT_PATH w e = inr e
long_coded SIGNATURE w e = absurd (omega arith)

pub short_coded : (k : TextCode) {c : ℕ} → length_width k ≡ 1 → c ≡ first_code (TextType k) → c ≡ 103
short_coded SIGNATURE w e = e
short_coded k w e = absurd (omega arith)

-- a layout is another's
pub laid_as : (source : MessageBytes) (spot : Spot) {l m : Layout} → l ≡ m → ((v : ValueTree) (rest : List ℕ) → StandsAt source spot v rest → IsLaidOut source spot v rest l)
    → (v : ValueTree) (rest : List ℕ) → StandsAt source spot v rest → IsLaidOut source spot v rest m
laid_as source spot e laid v rest s = subst (λ (k : Layout). IsLaidOut source spot v rest k) e (laid v rest s)

module _ (source : MessageBytes) (spot : Spot) (v : ValueTree) (rest : List ℕ) (s : StandsAt source spot v rest) where
  pub number_laid : (size start : ℕ) → 0 < size → ((t : TypeTree) → first_code t ≡ get_or spot.types.now 0 0 → size ≡ number_width t) → start ≡ spot.at + gap_to size spot.at → IsNumberAt source spot v start size
  number_laid size start some wide place =
      let p = number_stands s size some wide in
      record { code = p.code; n = p.n; is = p.is; wide = p.wide; some = some; widths = wide; begins = place; inside = omega (arith, p.inside, place); read = number_read s size start p place; ends = number_ends s size start p place }

  pub text_laid : (size start n : ℕ) (p : TextStands s size) → start ≡ spot.at + gap_to size spot.at → n ≡ length p.text → IsTextAt source spot v size start n
  text_laid size start n p place long = record {
    code = p.code;
    text = p.text;
    is = p.is;
    wide = p.wide;
    begins = place;
    counts = long ∙ sym p.counts ∙ ap (λ (k : ℕ). number_of source.order (take size (drop k source.bytes.now))) (sym place);
    inside = omega (arith, p.inside, place, long);
    read = text_there s size p (start + size) n (omega (arith, place)) long;
    ends = omega (arith, long, text_ends s size start p place);
  }

  pub variant_laid : (n : ℕ) → get_or spot.types.now 0 0 ≡ 118 → n ≡ get_or source.bytes.now spot.at 0 → IsVariantAt source spot v rest (take (spot.at + 1 + n - (spot.at + 1)) (drop (spot.at + 1) source.bytes.now)) (spot.at + 1 + n + 1)
  variant_laid n code counted =
      let w = variant_stands s code in
      let p = variant_held s code n counted in
      record {
        x = w.0;
        is = w.1;
        some = p.some;
        single = p.single;
        few = omega (arith, p.few, length-take (spot.at + 1 + n - (spot.at + 1)) (drop (spot.at + 1) source.bytes.now));
        begins = p.begins ∙ ap (inside source.order spot.at) (sym w.1);
        held = p.held;
        ends = p.ends ∙ ap (λ (u : ValueTree). end_of source spot u) (sym w.1);
      }

  pub struct_laid : (start : ℕ) → get_or spot.types.now 0 0 ≡ 40 → start ≡ spot.at + gap_to 8 spot.at → IsStructAt source spot v rest start
  struct_laid start code place =
      let w = struct_stands s code in
      record {
        xs = w.0;
        is = w.1;
        some = w.2;
        long = enclosed_long s (inl code);
        begins = place ∙ ap (inside source.order spot.at) (sym w.1);
        held = subst (λ (k : ℕ). AllStand source.order (spot.depth_left - 1) (of_parts spot.types.now) k source.bytes.now w.0 rest) (sym place) w.3;
        ends = ap (λ (k : ℕ). k + length (spellings source.order k w.0)) place ∙ parts_end (stands_as s w.1) kind.Struct tt ∙ ap (λ (u : ValueTree). end_of source spot u) (sym w.1);
      }

  pub entry_laid : (start : ℕ) → get_or spot.types.now 0 0 ≡ 123 → start ≡ spot.at + gap_to 8 spot.at → IsEntryAt source spot v rest start
  entry_laid start code place =
      let w = entry_stands s code in
      let both = MoreValues w.0 (MoreValues w.1 NoValues) in
      record {
        x = w.0;
        y = w.1;
        is = w.2;
        long = enclosed_long s (inr code);
        begins = place ∙ ap (inside source.order spot.at) (sym w.2);
        held = subst (λ (k : ℕ). AllStand source.order spot.depth_left (of_parts spot.types.now) k source.bytes.now both rest) (sym place) w.3;
        ends = ap (λ (k : ℕ). k + length (spellings source.order k both)) place ∙ parts_end (stands_as s w.2) kind.Entry tt ∙ ap (λ (u : ValueTree). end_of source spot u) (sym w.2);
      }

  pub array_laid : {g b h n size : ℕ} → get_or spot.types.now 0 0 ≡ 97
      → g ≡ gap_to 4 spot.at
      → ((t : TypeTree) → first_code t ≡ get_or spot.types.now 1 0 → b ≡ alignment_of t)
      → h ≡ gap_to b (spot.at + g + 4)
      → n ≡ number_of source.order (take 4 (drop (spot.at + g) source.bytes.now))
      → ((t : TypeTree) → first_code t ≡ get_or spot.types.now 1 0 → size ≡ number_width t)
      → IsArrayAt source spot v rest (record { start = spot.at + g; first = spot.at + g + 4 + h; end = spot.at + g + 4 + h + n; size = size })
  array_laid {g} {b} {h} {n} {size} code padded bounded aligned counted wide =
      let p = array_stands s code in
      let found = array_found s p padded bounded aligned counted in
      record {
        type = p.type;
        xs = p.xs;
        is = p.is;
        some = p.some;
        wide = sym (wide p.type p.code);
        found = record {
          code = code;
          long = p.long;
          wide = wide;
          begins = ap (λ (k : ℕ). spot.at + k) padded;
          parts = λ t e. ap (λ (k : ℕ). spot.at + g + 4 + k) (aligned ∙ ap (λ (k : ℕ). gap_to k (spot.at + g + 4)) (bounded t e));
          ends = ap (λ (k : ℕ). spot.at + g + 4 + h + k) counted;
        };
        begins = found.0 ∙ ap (inside source.order spot.at) (sym p.is);
        held = elements_there s p (spot.at + g + 4 + h) n found.0 found.1;
        ends = omega (arith, found.0, found.1, p.ends);
      }
