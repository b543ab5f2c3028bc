-- Numbers and texts that stand in the bytes, read there.
use Rattle.std.proofs.Common.{◌≡◌, ℕ, ◌+◌, ◌-◌, ◌^◌, ◌<◌, List, [], ◌∷◌, ◌++◌, length, take, drop, take_all, IsUtf8, refl, sym, ap, subst, ◌∙◌, arith, append_assoc}
use Rattle.std.proofs.lemmas.List.{length-append, length-replicate, take_at}
use Rattle.dbus_texts.specs.Kinds.{IsKind}
use Rattle.dbus_texts.specs.Types.{NumberCode, BYTE, BOOLEAN, TextCode, STRING, OBJECT_PATH, SIGNATURE, number_code}
use Rattle.dbus_texts.specs.declared.text_kind.TextKind.TheVariants.{Text, Path, Signature}
use Rattle.dbus_texts.proofs.KindFacts.{text_utf8 as utf8_of, kind_is, is_kind_of, path_is_text}
use Rattle.dbus_types.specs.Alignments.{width}
use Rattle.dbus_value_model.specs.Bytes.{gap_to, pad, num}
use Rattle.dbus_value_model.specs.Reading.{number_of}
use Rattle.dbus_value_model.specs.declared.order.Order.{Order}
use Rattle.dbus_value_model.specs.Values.{ValueTree, TextValue, IsNumber, IsWellFormed}
use Rattle.dbus_value_model.proofs.Numbers.{length-num}
use Rattle.dbus_value_laws.proofs.ReadSteps.{utf8_signature}
use Rattle.dbus_walk.specs.Standing.{Stands}
use Rattle.dbus_walk.proofs.NumberFacts.{number_there}
use Rattle.dbus_walk.proofs.Parts.{NumberStands, TextStands, stands_after}

-- ---- a well-formed text is UTF-8

signature_utf8 : (t : List ℕ) → IsKind Signature t → IsUtf8 t
signature_utf8 t h =
    let all : take (length t) (drop 0 t) ≡ t = take_all (length t) t (omega arith) in
    let none : take (length t - 0) (drop 0 t) ≡ t = take_all (length t - 0) t (omega arith) in
    subst IsUtf8 none (utf8_signature (length t) 0 (length t) t (omega arith) (subst (IsKind Signature) (sym all) h))

pub formed_utf8 : (depth_left : ℕ) (k : TextCode) (t : List ℕ) → IsWellFormed depth_left (TextValue k t) → IsUtf8 t
formed_utf8 depth_left STRING t h = (utf8_of t h.0.0).0
formed_utf8 depth_left OBJECT_PATH t h = (utf8_of t (kind_is Text t (path_is_text t (is_kind_of Path t h.0))).0).0
formed_utf8 depth_left SIGNATURE t h = signature_utf8 t h.0

-- ---- a number fits into its bytes

pub number_fits : (k : NumberCode) (n : ℕ) → IsNumber k n → n < 256 ^ width k
number_fits BYTE n h = omega arith
number_fits BOOLEAN n h = omega arith
number_fits k n h = h

-- ---- which number it is

pub byte_code : (k : NumberCode) → number_code k ≡ 121 → k ≡ BYTE
byte_code BYTE e = refl
byte_code k e = absurd (omega arith)

module _ {order : Order} {depth_left : ℕ} {types : List ℕ} {at : ℕ} {bytes : List ℕ} {v : ValueTree} {rest : List ℕ} (s : Stands order depth_left types at bytes v rest) where
  pub number_read : (size start : ℕ) (p : NumberStands s size) → start ≡ at + gap_to size at → number_of order (take size (drop start bytes)) ≡ p.n
  number_read size start p place =
      let formed : IsNumber p.code p.n = subst (λ (u : ValueTree). IsWellFormed depth_left u) p.is s.formed in
      let fits : p.n < 256 ^ size = subst (λ (k : ℕ). p.n < 256 ^ k) p.wide (number_fits p.code p.n formed) in
      let there : drop start bytes ≡ num order size p.n ++ rest =
      stands_after at start (pad size at) (num order size p.n ++ rest) bytes p.padded (omega (arith, place, length-replicate {A = ℕ} (gap_to size at) 0)) in
      number_there order size p.n start bytes rest there fits

  module _ (size : ℕ) (p : TextStands s size) where
    pub text_there : (first k : ℕ) → first ≡ at + gap_to size at + size → k ≡ length p.text → take k (drop first bytes) ≡ p.text
    text_there first k place long =
        let front = pad size at ++ num order size (length p.text) in
        let joined : drop at bytes ≡ front ++ ((p.text ++ 0 ∷ []) ++ rest) = p.padded ∙ sym (append_assoc (pad size at) (num order size (length p.text)) ((p.text ++ 0 ∷ []) ++ rest)) in
        let there = stands_after at first front ((p.text ++ 0 ∷ []) ++ rest) bytes joined
        (omega (arith, place, length-append (pad size at) (num order size (length p.text)), length-replicate {A = ℕ} (gap_to size at) 0, length-num order size (length p.text))) in
        ap (take k) (there ∙ append_assoc p.text (0 ∷ []) rest) ∙ take_at p.text (0 ∷ rest) k (sym long)

    pub text_utf8 : (first k : ℕ) → first ≡ at + gap_to size at + size → k ≡ length p.text → IsUtf8 (take k (drop first bytes))
    text_utf8 first k place long = subst IsUtf8 (sym (text_there first k place long)) (formed_utf8 depth_left p.code p.text (subst (λ (u : ValueTree). IsWellFormed depth_left u) p.is s.formed))
