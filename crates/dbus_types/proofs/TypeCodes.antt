-- Which type begins with a byte.
use Rattle.std.proofs.Common.{◌≡◌, ℕ, suc, ◌-◌, List, [], ◌∷◌, ◌++◌, length, get_or, take, drop, true, false, ◌||◌, ◌==◌, if◌then◌else◌, refl, sym, ap, ◌∙◌, arith, append_assoc}
use Rattle.std.proofs.lemmas.List.{length-append, length-drop, append-nil, take_at, take_all}
use Rattle.dbus_texts.specs.Types.{BYTE, BOOLEAN, UNIX_FD, TextCode, STRING, TypeTree, NumberType, TextType, VariantType, ArrayType, StructType, EntryType, TypeTrees, NoTypes, MoreTypes, text_code, sig, sigs, IsShaped, AreShaped, IsBasic}
use Rattle.dbus_texts.specs.ComputedKinds.{Opening, OneCode, AnArray, AStruct, AnEntry, opening}
use Rattle.dbus_texts.proofs.TypeTexts.{opening_text}
use Rattle.dbus_types.specs.Alignments.{alignment_of}
use Rattle.dbus_types.specs.SignatureCodes.{first_code, free_width_of}

-- ---- the first byte, and what follows it

abbrev pub after_code : TypeTree → List ℕ
after_code (NumberType k) = []
after_code (TextType k) = []
after_code VariantType = []
after_code (ArrayType t) = sig t
after_code (StructType ts) = sigs ts ++ 41 ∷ []
after_code (EntryType k v) = sig k ++ (sig v ++ 125 ∷ [])

pub begins : (t : TypeTree) → sig t ≡ first_code t ∷ after_code t
begins (NumberType k) = refl
begins _ = refl

pub code_is : (t : TypeTree) (s : List ℕ) → sig t ≡ s → first_code t ≡ get_or s 0 0
code_is t s e = ap (λ (l : List ℕ). get_or l 0 0) (sym (begins t) ∙ e)

rest_is : (t : TypeTree) (s : List ℕ) → sig t ≡ s → after_code t ≡ drop 1 s
rest_is t s e = ap (λ (l : List ℕ). drop 1 l) (sym (begins t) ∙ e)

-- each type has a text
pub no_text_of : (t : TypeTree) (s : List ℕ) → sig t ≡ s → length s ≡ 0 → ⊥
no_text_of t s e none = absurd (omega (arith, none, ap (λ (l : List ℕ). length l) (sym e ∙ begins t)))

-- ---- what the code answers by the first byte, and that it is what the type has

abbrev pub code_boundary : ℕ → ℕ
code_boundary c =
    if (c == 121) || ((c == 103) || (c == 118)) then 1
    else (if (c == 110) || (c == 113) then 2
    else (if (c == 120) || ((c == 116) || ((c == 100) || ((c == 40) || (c == 123)))) then 8 else 4))

boundary_is : (t : TypeTree) → code_boundary (first_code t) ≡ alignment_of t
boundary_is (NumberType BYTE) = refl
boundary_is (TextType STRING) = refl
boundary_is _ = refl

pub boundary_by : (c b : ℕ) → b ≡ code_boundary c → (t : TypeTree) → first_code t ≡ c → b ≡ alignment_of t
boundary_by c b is t e = is ∙ ap code_boundary (sym e) ∙ boundary_is t

abbrev pub code_free_width : ℕ → ℕ
code_free_width c =
    if c == 121 then 1
    else (if (c == 110) || (c == 113) then 2
    else (if (c == 105) || (c == 117) then 4
    else (if (c == 120) || ((c == 116) || (c == 100)) then 8 else 0)))

free_width_is : (t : TypeTree) → code_free_width (first_code t) ≡ free_width_of t
free_width_is (NumberType BYTE) = refl
free_width_is (TextType STRING) = refl
free_width_is _ = refl

pub free_width_by : (c w : ℕ) → w ≡ code_free_width c → (t : TypeTree) → first_code t ≡ c → w ≡ free_width_of t
free_width_by c w is t e = is ∙ ap code_free_width (sym e) ∙ free_width_is t

-- ---- which type it is

-- what the first byte says of a type
abbrev pub opens : TypeTree → Opening
opens (ArrayType t) = AnArray
opens (StructType ts) = AStruct
opens (EntryType k v) = AnEntry
opens t = OneCode t

pub opening_is : (t : TypeTree) → opening (first_code t) ≡ opens t
opening_is (NumberType BYTE) = refl
opening_is (TextType STRING) = refl
opening_is _ = refl

opened_by : (t : TypeTree) (s : List ℕ) → sig t ≡ s → (c : ℕ) → get_or s 0 0 ≡ c → opens t ≡ opening c
opened_by t s same c e = sym (opening_is t) ∙ ap opening (code_is t s same ∙ e)

-- a type without parts
plain_is : (t u : TypeTree) → opening (first_code t) ≡ OneCode u → t ≡ u
plain_is t u e = of t (sym (opening_is t) ∙ e)
  where
    of : (t : TypeTree) → opens t ≡ OneCode u → t ≡ u
    of (NumberType k) h = cc
    of _ h = cc

pub variant_is : (t : TypeTree) → first_code t ≡ 118 → t ≡ VariantType
variant_is t e = plain_is t VariantType (ap opening e)

pub text_is : (t : TypeTree) (k : TextCode) → first_code t ≡ text_code k → t ≡ TextType k
text_is t k e = plain_is t (TextType k) (ap opening e ∙ opening_text k)

pub boolean_is : (t : TypeTree) → first_code t ≡ 98 → t ≡ NumberType BOOLEAN
boolean_is t e = plain_is t (NumberType BOOLEAN) (ap opening e)

pub descriptor_is : (t : TypeTree) → first_code t ≡ 104 → t ≡ NumberType UNIX_FD
descriptor_is t e = plain_is t (NumberType UNIX_FD) (ap opening e)

pub array_is : (t : TypeTree) (s : List ℕ) → sig t ≡ s → get_or s 0 0 ≡ 97 → (u : TypeTree) × (t ≡ ArrayType u) × (sig u ≡ take (length s - 1) (drop 1 s))
array_is t s same e = of t (opened_by t s same 97 e) (rest_is t s same ∙ sym (take_all (length s - 1) (drop 1 s) (omega (arith, length-drop 1 s))))
  where
    of : (t : TypeTree) → opens t ≡ AnArray → after_code t ≡ take (length s - 1) (drop 1 s) → (u : TypeTree) × (t ≡ ArrayType u) × (sig u ≡ take (length s - 1) (drop 1 s))
    of (ArrayType u) e r = (u, refl, r)
    of _ e r = absurd cc

-- what stands between the first byte and the last
abbrev pub within : List ℕ → List ℕ
within s = take (length s - 1 - 1) (drop 1 s)

between : (a : List ℕ) (d : ℕ) (s : List ℕ) → a ++ d ∷ [] ≡ drop 1 s → length s ≡ suc (length (a ++ d ∷ [])) → a ≡ within s
between a d s e n =
    let long : length s - 1 - 1 ≡ length a = omega (arith, length-append a (d ∷ [])) in
    sym (take_at a (d ∷ []) (length a) refl) ∙ ap (λ (k : ℕ). take k (a ++ d ∷ [])) (sym long) ∙ ap (λ (l : List ℕ). take (length s - 1 - 1) l) e

long_is : (t : TypeTree) (s : List ℕ) → sig t ≡ s → length s ≡ suc (length (after_code t))
long_is t s e = ap (λ (l : List ℕ). length l) (sym e ∙ begins t)

pub struct_is : (t : TypeTree) (s : List ℕ) → sig t ≡ s → get_or s 0 0 ≡ 40 → (ts : TypeTrees) × (t ≡ StructType ts) × (sigs ts ≡ within s)
struct_is t s same e = of t (opened_by t s same 40 e) (rest_is t s same) (long_is t s same)
  where
    of : (t : TypeTree) → opens t ≡ AStruct → after_code t ≡ drop 1 s → length s ≡ suc (length (after_code t)) → (ts : TypeTrees) × (t ≡ StructType ts) × (sigs ts ≡ within s)
    of (StructType ts) e r n = (ts, refl, between (sigs ts) 41 s r n)
    of _ e r n = absurd cc

pair_text : (k v : TypeTree) → sig k ++ (sig v ++ 125 ∷ []) ≡ sigs (MoreTypes k (MoreTypes v NoTypes)) ++ 125 ∷ []
pair_text k v = simp (append_assoc, append-nil)

pub entry_is : (t : TypeTree) (s : List ℕ) → sig t ≡ s → get_or s 0 0 ≡ 123 → (k : TypeTree) × (v : TypeTree) × (t ≡ EntryType k v) × (sigs (MoreTypes k (MoreTypes v NoTypes)) ≡ within s)
entry_is t s same e = of t (opened_by t s same 123 e) (rest_is t s same) (long_is t s same)
  where
    of : (t : TypeTree) → opens t ≡ AnEntry → after_code t ≡ drop 1 s → length s ≡ suc (length (after_code t)) → (k : TypeTree) × (v : TypeTree) × (t ≡ EntryType k v) × (sigs (MoreTypes k (MoreTypes v NoTypes)) ≡ within s)
    of (EntryType k v) e r n =
        let pair = pair_text k v in
        (k, v, refl, between (sigs (MoreTypes k (MoreTypes v NoTypes))) 125 s (sym pair ∙ r) (n ∙ ap (λ (l : List ℕ). suc (length l)) pair))
    of _ e r n = absurd cc

-- ---- which parts are complete

pub struct_shaped : (ts : TypeTrees) → IsShaped true (StructType ts) → AreShaped ts
struct_shaped NoTypes h = absurd h
struct_shaped (MoreTypes t ts) h = h

basic_shaped : (k : TypeTree) → IsBasic k → IsShaped false k
basic_shaped (NumberType n) h = tt
basic_shaped (TextType n) h = tt
basic_shaped _ h = absurd h

pub entry_shaped : (k v : TypeTree) → IsShaped true (EntryType k v) → AreShaped (MoreTypes k (MoreTypes v NoTypes))
entry_shaped k v h = (basic_shaped k h.0, (h.1, tt))
