-- Where a type's text ends, as the code counts brackets, and that this is where the text itself
-- does.
use Rattle.std.proofs.Common.{◌≡◌, ℕ, zero, suc, pred, ◌+◌, ◌||◌, ◌==◌, if◌then◌else◌, List, [], ◌∷◌, ◌++◌, length, drop, refl, ap, ◌∙◌, arith, append_assoc, Vec, rules}
use Rattle.std.proofs.lemmas.List.{length-append}
use Rattle.std.specs.declared.sync.Arc.{Arc}
use Rattle.dbus_texts.specs.Types.{NumberCode, BYTE, TextCode, STRING, TypeTree, NumberType, TextType, VariantType, ArrayType, StructType, EntryType, TypeTrees, NoTypes, MoreTypes, number_code, text_code, sig, sigs}
use Rattle.dbus_types.specs.SignatureCodes.{IsTypeEnd}
use Rattle.dbus_types.specs.SigTypes.{type_tree, type_trees_of}
use Rattle.dbus_types.specs.declared.sig_type.SigType as ty
use Rattle.dbus_types.specs.declared.sig_type.SigType.{SigType, the_lemmas}

-- how many brackets are open after a byte, where so many are before it
abbrev open_after : ℕ → ℕ → ℕ
open_after deep c =
    if (c == 40) || (c == 123) then suc deep
    else (if (c == 41) || (c == 125) then pred deep else deep)

-- nothing more, unless a bracket is open
abbrev unless_closed : ℕ → (ℕ → ℕ) → ℕ
unless_closed zero more = 0
unless_closed (suc deep) more = more (suc deep)

-- up to the first byte, other than that of an array, after which no bracket is open
abbrev pub type_length : ℕ → List ℕ → ℕ
type_length deep [] = 0
type_length deep (c ∷ s) = suc (if c == 97 then type_length deep s else unless_closed (open_after deep c) (λ n. type_length n s))

number_ends : (deep : ℕ) (k : NumberCode) (s : List ℕ) → type_length deep (number_code k ∷ s) ≡ suc (unless_closed deep (λ n. type_length n s))
number_ends deep BYTE s = refl
number_ends deep _ s = refl

text_ends : (deep : ℕ) (k : TextCode) (s : List ℕ) → type_length deep (text_code k ∷ s) ≡ suc (unless_closed deep (λ n. type_length n s))
text_ends deep STRING s = refl
text_ends deep _ s = refl

struct_parts : (ts : TypeTrees) (r : List ℕ) → (sigs ts ++ 41 ∷ []) ++ r ≡ sigs ts ++ 41 ∷ r
struct_parts ts r = append_assoc (sigs ts) (41 ∷ []) r

entry_parts : (k v : TypeTree) (r : List ℕ) → (sig k ++ (sig v ++ 125 ∷ [])) ++ r ≡ sig k ++ (sig v ++ 125 ∷ r)
entry_parts k v r = simp append_assoc

-- a type's text is passed over whole; outside of brackets the count ends there
mutual
  passed : (t : TypeTree) (deep : ℕ) (r : List ℕ) → type_length deep (sig t ++ r) ≡ length (sig t) + unless_closed deep (λ n. type_length n r)
  passed (NumberType k) deep r = number_ends deep k r ∙ omega arith
  passed (TextType k) deep r = text_ends deep k r ∙ omega arith
  passed VariantType deep r = omega arith
  passed (ArrayType t) deep r = ap suc (passed t deep r) ∙ omega arith
  passed (StructType ts) deep r =
      ap (λ (s : List ℕ). suc (type_length (suc deep) s)) (struct_parts ts r) ∙ ap suc (all_passed ts deep (41 ∷ r)) ∙ omega (arith, length-append (sigs ts) (41 ∷ []))
  passed (EntryType k v) deep r =
      ap (λ (s : List ℕ). suc (type_length (suc deep) s)) (entry_parts k v r)
      ∙ ap suc (passed k (suc deep) (sig v ++ 125 ∷ r) ∙ ap (λ (n : ℕ). length (sig k) + n) (passed v (suc deep) (125 ∷ r)))
      ∙ omega (arith, length-append (sig k) (sig v ++ 125 ∷ []), length-append (sig v) (125 ∷ []))

  all_passed : (ts : TypeTrees) (deep : ℕ) (r : List ℕ) → type_length (suc deep) (sigs ts ++ r) ≡ length (sigs ts) + type_length (suc deep) r
  all_passed NoTypes deep r = omega arith
  all_passed (MoreTypes t ts) deep r =
      ap (λ (s : List ℕ). type_length (suc deep) s) (append_assoc (sig t) (sigs ts) r) ∙ passed t (suc deep) (sigs ts ++ r)
      ∙ ap (λ (n : ℕ). length (sig t) + n) (all_passed ts deep r) ∙ omega (arith, length-append (sig t) (sigs ts))

pub type_ends : (t : TypeTree) (r : List ℕ) → type_length 0 (sig t ++ r) ≡ length (sig t)
type_ends t r = passed t 0 r ∙ omega arith

-- so a count of the brackets from a place on ends where the type there does
pub ends_there : (types : List ℕ) (pos at : ℕ) → at ≡ pos + type_length 0 (drop pos types) → IsTypeEnd types pos at
ends_there types pos at is t more e = is ∙ ap (λ (s : List ℕ). pos + type_length 0 s) e ∙ ap (λ (n : ℕ). pos + n) (type_ends t more)

-- The tree of each case of a `SigType`.

module _ {A : Type 0} where
  pub type_tree-Array : (t : Arc (SigType A) A) → type_tree (ty.Array t) ≡ ArrayType (type_tree t.value)
  type_tree-Array t = search (rules, the_lemmas)

  pub type_tree-Struct : (ts : Arc (Vec (SigType A) A) A) → type_tree (ty.Struct ts) ≡ StructType (type_trees_of ts.value.items)
  type_tree-Struct ts = search (rules, the_lemmas)

  pub type_tree-Entry : (k v : Arc (SigType A) A) → type_tree (ty.Entry k v) ≡ EntryType (type_tree k.value) (type_tree v.value)
  type_tree-Entry k v = search (rules, the_lemmas)
