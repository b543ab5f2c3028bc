-- Values along the bytes of a signature, in which structs are open: what is said of what is left is
-- said of all.
use Rattle.std.proofs.Common.{◌≡◌, ℕ, zero, suc, ◌+◌, ◌-◌, ◌<◌, ◌≤◌, List, [], ◌∷◌, ◌++◌, Option, Some, None, length, take, drop, get_or, true, false, refl, sym, ap, subst, ◌∙◌, arith, append_assoc, ◌⊎◌, ⊎_elim}
use Rattle.std.proofs.lemmas.List.{length-append, length-drop, append-nil, take_at, drop_at, drop-drop, drop_more, length-take, drop-take, take-append-drop}
use Rattle.dbus_texts.specs.Types.{BYTE, STRING, TypeTree, NumberType, TextType, VariantType, ArrayType, StructType, EntryType, TypeTrees, NoTypes, MoreTypes, sig, sigs, IsShaped, AreShaped, IsBasic}
use Rattle.dbus_texts.proofs.TypeTexts.{sig_positive}
use Rattle.dbus_types.specs.SignatureCodes.{first_code, IsTypeEnd}
use Rattle.dbus_types.proofs.TypeCodes.{code_is, variant_is, array_is, struct_is, struct_shaped}
use Rattle.dbus_types.proofs.TypeLengths.{first_there, one_byte}
use Rattle.dbus_value_model.specs.Bytes.{gap_to}
use Rattle.dbus_value_model.specs.Values.{ValueTree, MoreValues}
use Rattle.dbus_value_model.specs.Reading.{Reader, Done, after, pure, padding, fields, value}
use Rattle.dbus_value_model.specs.ValueReaders.{open_struct, struct_value}
use Rattle.dbus_types.proofs.PrefixSteps.{basic_length}
use Rattle.dbus_value_laws.proofs.ReadSteps.{after_after, padding_is}
use Rattle.dbus_value_laws.proofs.ValueSteps.{value_struct, shaped_inside}
use Rattle.dbus_texts.specs.SignatureScans.{is_basic_code}
use Rattle.dbus_texts.specs.Kinds.{IsKind}
use Rattle.dbus_texts.specs.declared.text_kind.TextKind.{TextKind}
use Rattle.dbus_texts.specs.declared.text_kind.TextKind.TheVariants.{Signature, Single}
use Rattle.dbus_texts.proofs.NameSteps.{basic_is_code, coded_signature, coded_single}
use Rattle.dbus_value_validator.specs.Endings.{Answers, EndsAt, IsNotRead, value_in, values_in, AreNoted}
use Rattle.dbus_value_validator.specs.declared.untrusted_bytes.UntrustedBytes.{UntrustedBytes}
use Rattle.dbus_value_validator.proofs.ReadParts.{not_first, answers_same, answers_unmade, made_first}
use Rattle.dbus_value_validator.proofs.ValueSteps.{as_struct}

-- ---- the structs that are open: of each the types that are left in it, the innermost first

-- the text after what is left of the innermost
abbrev pub closing_text : List TypeTrees → List ℕ
closing_text [] = []
closing_text (us ∷ outer) = 41 ∷ (sigs us ++ closing_text outer)

abbrev pub AreOpen : List TypeTrees → Type 0
AreOpen [] = Unit {0}
AreOpen (us ∷ outer) = AreShaped us × AreOpen outer

-- what is read after it: in each struct around it there is room for one container more
abbrev pub closing : (ℕ → TypeTree → Reader ValueTree) → (room : ℕ) → List TypeTrees → Reader (Unit {0})
closing part room [] = pure tt
closing part room (us ∷ outer) = λ o s. after (fields (part (suc room)) us o s) (λ xs. closing part (suc room) outer)

abbrev pub left_in : (ℕ → TypeTree → Reader ValueTree) → (room : ℕ) → TypeTrees → List TypeTrees → Reader (Unit {0})
left_in part room us outer = λ o s. after (fields (part room) us o s) (λ xs. closing part room outer)

-- as many bytes as structs are open: nothing is left in any
closing_long : (outer : List TypeTrees) → length outer ≤ length (closing_text outer)
closing_long [] = omega arith
closing_long (us ∷ outer) = omega (arith, closing_long outer, length-append (sigs us) (closing_text outer))

no_types : (us : TypeTrees) → length (sigs us) ≡ 0 → us ≡ NoTypes
no_types NoTypes e = refl
no_types (MoreTypes t us) e = absurd (omega (arith, length-append (sig t) (sigs us), sig_positive t))

closing_over : (part : ℕ → TypeTree → Reader ValueTree) (room : ℕ) (outer : List TypeTrees) (o : ℕ) (s : List ℕ) → length (closing_text outer) ≤ length outer → closing part room outer o s ≡ Done tt o s
closing_over part room [] o s le = refl
closing_over part room (us ∷ outer) o s le =
    let none : us ≡ NoTypes = no_types us (omega (arith, closing_long outer, length-append (sigs us) (closing_text outer))) in
    rw none (closing_over part (suc room) outer o s (omega (arith, length-append (sigs us) (closing_text outer))))

-- ---- along the types

-- of these types us are left, within the structs outer, and what is said of what is left is said of
-- values of all
pub record Left (source : UntrustedBytes) (end : ℕ) (types : List ℕ) (ts : TypeTrees) (at depth_left place pos depth : ℕ) : Type 0 where
  pub us : TypeTrees
  pub outer : List TypeTrees
  pub text : sigs us ++ closing_text outer ≡ drop pos types
  pub shaped : AreShaped us
  pub all_shaped : AreOpen outer
  pub many : length outer ≡ depth
  pub leads : (r : Option ℕ) → Answers source.bytes.now r (left_in (λ room. value source.bounds source.order room end) (depth_left - depth) us outer place (drop place source.bytes.now)) → Answers source.bytes.now r (values_in source depth_left end ts at)

module _ (source : UntrustedBytes) (end : ℕ) (types : List ℕ) (ts : TypeTrees) (at depth_left : ℕ) where
  abbrev part : ℕ → TypeTree → Reader ValueTree
  part room = value source.bounds source.order room end

  abbrev here : ℕ → List ℕ
  here place = drop place source.bytes.now

  pub all_left : sigs ts ≡ types → AreShaped ts → Left source end types ts at depth_left at 0 0
  all_left e shaped =
      let same : depth_left - 0 ≡ depth_left = omega arith in
      record {
        us = ts;
        outer = [];
        text = append-nil (sigs ts) ∙ e;
        shaped = shaped;
        all_shaped = tt;
        many = refl;
        leads = λ r answer. answers_unmade source.bytes.now r (fields (part depth_left) ts at (here at)) (λ xs. tt) (subst (λ (room : ℕ). Answers source.bytes.now r (left_in part room ts [] at (here at))) same answer);
      }

  -- the end: only closing brackets are left
  pub left_ends : (place pos depth : ℕ) → length types ≤ pos + depth → Left source end types ts at depth_left place pos depth → EndsAt source.bytes.now place (values_in source depth_left end ts at)
  left_ends place pos depth le left =
      let long = ap length left.text in
      let none : left.us ≡ NoTypes = no_types left.us (omega (arith, left.many, closing_long left.outer, length-append (sigs left.us) (closing_text left.outer), length-drop pos types, long)) in
      left.leads (Some place) (tt, rw none (closing_over part (depth_left - depth) left.outer place (here place) (omega (arith, left.many, length-append (sigs left.us) (closing_text left.outer), length-drop pos types, long))))

  module _ (place pos depth : ℕ) (lt : pos < length types) where
    -- the type that begins here
    record Begins (us : TypeTrees) (outer : List TypeTrees) : Type 0 where
      pub t : TypeTree
      pub others : TypeTrees
      pub is : us ≡ MoreTypes t others
      pub text : drop pos types ≡ sig t ++ (sigs others ++ closing_text outer)
      pub shaped : IsShaped false t
      pub all_shaped : AreShaped others

    begins : (us : TypeTrees) (outer : List TypeTrees) → sigs us ++ closing_text outer ≡ drop pos types → AreShaped us → (get_or types pos 0 ≡ 41 → ⊥) → Begins us outer
    begins NoTypes [] text shaped depth = absurd (omega (arith, ap length text, length-drop pos types))
    begins NoTypes (us ∷ outer) text shaped depth = absurd (depth (sym (ap (λ (l : List ℕ). get_or l 0 0) (text ∙ drop_more types pos 0 lt))))
    begins (MoreTypes t others) outer text shaped depth = record {
      t = t;
      others = others;
      is = refl;
      text = sym text ∙ append_assoc (sig t) (sigs others) (closing_text outer);
      shaped = shaped.0;
      all_shaped = shaped.1;
    }

    pub left_unread : (get_or types pos 0 ≡ 41 → ⊥) → Left source end types ts at depth_left place pos depth
        → ((t : TypeTree) (more : List ℕ) → drop pos types ≡ sig t ++ more → IsShaped false t → IsNotRead (value_in source (depth_left - depth) end t place)) → IsNotRead (values_in source depth_left end ts at)
    left_unread other left unread =
        let w = begins left.us left.outer left.text left.shaped other in
        left.leads None (rw w.is (not_first (fields (part (depth_left - depth)) (MoreTypes w.t w.others) place (here place)) _ (not_first (part (depth_left - depth) w.t place (here place)) _ (unread w.t _ w.text w.shaped))))

    pub less_left : (get_or types pos 0 ≡ 41 → ⊥) → Left source end types ts at depth_left place pos depth → (next q : ℕ)
        → ((t : TypeTree) (more : List ℕ) → drop pos types ≡ sig t ++ more → IsShaped false t → (next ≡ pos + length (sig t)) × EndsAt source.bytes.now q (value_in source (depth_left - depth) end t place)) → Left source end types ts at depth_left q next depth
    less_left other left next q gives =
        let w = begins left.us left.outer left.text left.shaped other in
        let more = sigs w.others ++ closing_text left.outer in
        let given = gives w.t more w.text w.shaped in
        let one = given.1 in
        record {
          us = w.others;
          outer = left.outer;
          text = sym (ap (drop (length (sig w.t))) w.text ∙ drop_at (sig w.t) more (length (sig w.t)) refl) ∙ drop-drop (length (sig w.t)) pos types ∙ ap (λ (m : ℕ). drop m types) (sym given.0);
          shaped = w.all_shaped;
          all_shaped = left.all_shaped;
          many = left.many;
          leads = λ r answer. left.leads r (rw (w.is, one.1) (answers_same source.bytes.now r _ _ (made_first (fields (part (depth_left - depth)) w.others q (here q)) (MoreValues one.0) (λ xs. closing part (depth_left - depth) left.outer)) answer));
        }

    -- a struct opens
    opened_read : (room : ℕ) (inner others : TypeTrees) (outer : List TypeTrees) (q : ℕ) → padding 8 end place (here place) ≡ Done tt q (here q)
        → left_in part (suc room) (MoreTypes (StructType inner) others) outer place (here place) ≡ left_in part room inner (others ∷ outer) q (here q)
    unfolding struct_value open_struct
    opened_read room inner others outer q padded =
        let value_is = value_struct source.bounds source.order (suc room) end inner place (here place) in
        let less : suc room - 1 ≡ room = omega arith in
        rw (value_is, padded, less) (simp after_after)

    struct_left : get_or types pos 0 ≡ 40 → depth < depth_left → Left source end types ts at depth_left place pos depth → (q : ℕ) → padding 8 end place (here place) ≡ Done tt q (here q) → Left source end types ts at depth_left q (pos + 1) (depth + 1)
    struct_left code room left q padded =
        let w = begins left.us left.outer left.text left.shaped (λ e. absurd (omega arith)) in
        let more = sigs w.others ++ closing_text left.outer in
        let s = struct_is w.t (sig w.t) refl (sym (code_is w.t (sig w.t) refl) ∙ first_there types pos w.t more lt w.text ∙ code) in
        let spelled : drop pos types ≡ 40 ∷ ((sigs s.0 ++ 41 ∷ []) ++ more) = w.text ∙ ap (λ (t : TypeTree). sig t ++ more) s.1 in
        let less = depth_left - (depth + 1) in
        let room : depth_left - depth ≡ suc less = omega arith in
        let is : left.us ≡ MoreTypes (StructType s.0) w.others = w.is ∙ ap (λ (t : TypeTree). MoreTypes t w.others) s.1 in
        let read : left_in part (depth_left - depth) left.us left.outer place (here place) ≡ left_in part less s.0 (w.others ∷ left.outer) q (here q) =
        ap (λ (us : TypeTrees). left_in part (depth_left - depth) us left.outer place (here place)) is ∙ ap (λ (k : ℕ). left_in part k (MoreTypes (StructType s.0) w.others) left.outer place (here place)) room ∙ opened_read less s.0 w.others left.outer q padded in
        record {
          us = s.0;
          outer = w.others ∷ left.outer;
          text = sym (append_assoc (sigs s.0) (41 ∷ []) more) ∙ sym (ap (drop 1) spelled) ∙ drop-drop 1 pos types;
          shaped = struct_shaped s.0 (shaped_inside (StructType s.0) (subst (IsShaped false) s.1 w.shaped));
          all_shaped = (w.all_shaped, left.all_shaped);
          many = omega (arith, left.many);
          leads = λ r answer. left.leads r (answers_same source.bytes.now r _ _ read answer);
        }

    pub struct_unread : get_or types pos 0 ≡ 40 → Left source end types ts at depth_left place pos depth
        → ((inner : TypeTrees) → IsNotRead (struct_value source.bounds source.order (depth_left - depth) end inner place (here place))) → IsNotRead (values_in source depth_left end ts at)
    struct_unread code left unread =
        left_unread (λ e. absurd (omega arith)) left (λ t more e shaped.
        let s = struct_is t (sig t) refl (sym (code_is t (sig t) refl) ∙ first_there types pos t more lt e ∙ code) in
        as_struct source.bounds source.order (depth_left - depth) end place source.bytes.now t None s.0 s.1 (unread s.0))

    -- a struct closes
    no_close : (t : TypeTree) → first_code t ≡ 41 → ⊥
    no_close (NumberType BYTE) e = absurd (omega arith)
    no_close (TextType STRING) e = absurd (omega arith)
    no_close _ e = absurd (omega arith)

    pub closed_left : get_or types pos 0 ≡ 41 → depth ≤ depth_left → Left source end types ts at depth_left place pos depth → (0 < depth) × Left source end types ts at depth_left place (pos + 1) (depth - 1)
    closed_left code deep left = of left.us left.outer left.text left.shaped left.all_shaped left.many left.leads
      where
        of : (us : TypeTrees) (outer : List TypeTrees) → sigs us ++ closing_text outer ≡ drop pos types → AreShaped us → AreOpen outer → length outer ≡ depth
            → ((r : Option ℕ) → Answers source.bytes.now r (left_in part (depth_left - depth) us outer place (here place)) → Answers source.bytes.now r (values_in source depth_left end ts at))
            → (0 < depth) × Left source end types ts at depth_left place (pos + 1) (depth - 1)
        of NoTypes [] text shaped all_shaped many leads = absurd (omega (arith, ap length text, length-drop pos types))
        of NoTypes (us ∷ outer) text shaped all_shaped many leads =
            let some : 0 < depth = omega (arith, many) in
            let room : depth_left - (depth - 1) ≡ suc (depth_left - depth) = omega arith in (
              some,
              record {
                us = us;
                outer = outer;
                text = ap (drop 1) text ∙ drop-drop 1 pos types;
                shaped = all_shaped.0;
                all_shaped = all_shaped.1;
                many = omega (arith, many);
                leads = λ r answer. leads r (subst (λ (k : ℕ). Answers source.bytes.now r (left_in part k us outer place (here place))) room answer);
              },
            )
        of (MoreTypes t us) outer text shaped all_shaped many leads =
            let e : drop pos types ≡ sig t ++ (sigs us ++ closing_text outer) = sym text ∙ append_assoc (sig t) (sigs us) (closing_text outer) in
            absurd (no_close t (first_there types pos t _ lt e ∙ code))

  -- structs that are open close within each other
  pub structs_closed : (n place pos depth : ℕ) → ((k : ℕ) → k < n → get_or types (pos + k) 0 ≡ 41) → pos + n ≤ length types → depth ≤ depth_left
      → Left source end types ts at depth_left place pos depth → Left source end types ts at depth_left place (pos + n) (depth - n)
  structs_closed zero place pos depth codes inside deep left =
      let same_pos : pos ≡ pos + 0 = omega arith in
      let same_open : depth ≡ depth - 0 = omega arith in
      subst (λ (p : ℕ). Left source end types ts at depth_left place p (depth - 0)) same_pos (subst (λ (m : ℕ). Left source end types ts at depth_left place pos m) same_open left)
  structs_closed (suc n) place pos depth codes inside deep left =
      let first_code : get_or types pos 0 ≡ 41 = ap (λ (i : ℕ). get_or types i 0) (omega arith) ∙ codes 0 (omega arith) in
      let next = (closed_left place pos depth (omega arith) first_code deep left).1 in
      let others : (k : ℕ) → k < n → get_or types (pos + 1 + k) 0 ≡ 41 = λ k lt. ap (λ (i : ℕ). get_or types i 0) (omega arith) ∙ codes (suc k) (omega arith) in
      let rest = structs_closed n place (pos + 1) (depth - 1) others (omega arith) (omega arith) next in
      let same_pos : pos + 1 + n ≡ pos + suc n = omega arith in
      let same_open : depth - 1 - n ≡ depth - suc n = omega arith in
      subst (λ (p : ℕ). Left source end types ts at depth_left place p (depth - suc n)) same_pos (subst (λ (m : ℕ). Left source end types ts at depth_left place (pos + 1 + n) m) same_open rest)

  -- structs open within each other, and the first has passed the padding of all
  rows_left : (n q pos depth : ℕ) → padding 8 end q (here q) ≡ Done tt q (here q) → ((k : ℕ) → k < n → get_or types (pos + k) 0 ≡ 40) → pos + n ≤ length types → depth + n ≤ depth_left
      → Left source end types ts at depth_left q pos depth → Left source end types ts at depth_left q (pos + n) (depth + n)
  rows_left zero q pos depth padded codes inside deep left =
      let same_pos : pos ≡ pos + 0 = omega arith in
      let same_open : depth ≡ depth + 0 = omega arith in
      subst (λ (p : ℕ). Left source end types ts at depth_left q p (depth + 0)) same_pos (subst (λ (m : ℕ). Left source end types ts at depth_left q pos m) same_open left)
  rows_left (suc n) q pos depth padded codes inside deep left =
      let first_code : get_or types pos 0 ≡ 40 = ap (λ (i : ℕ). get_or types i 0) (omega arith) ∙ codes 0 (omega arith) in
      let next = struct_left q pos depth (omega arith) first_code (omega arith) left q padded in
      let others : (k : ℕ) → k < n → get_or types (pos + 1 + k) 0 ≡ 40 = λ k lt. ap (λ (i : ℕ). get_or types i 0) (omega arith) ∙ codes (suc k) (omega arith) in
      let rest = rows_left n q (pos + 1) (depth + 1) padded others (omega arith) (omega arith) next in
      let same_pos : pos + 1 + n ≡ pos + suc n = omega arith in
      let same_open : depth + 1 + n ≡ depth + suc n = omega arith in
      subst (λ (p : ℕ). Left source end types ts at depth_left q p (depth + suc n)) same_pos (subst (λ (m : ℕ). Left source end types ts at depth_left q (pos + 1 + n) m) same_open rest)

  aligned : (place : ℕ) → gap_to 8 (place + gap_to 8 place) ≡ 0
  unfolding gap_to
  aligned place = omega arith

  pub structs_left : (n place pos depth q : ℕ) → 0 < n → ((k : ℕ) → k < n → get_or types (pos + k) 0 ≡ 40) → pos + n ≤ length types → depth + n ≤ depth_left
      → Left source end types ts at depth_left place pos depth → padding 8 end place (here place) ≡ Done tt q (here q) → q ≡ place + gap_to 8 place → q ≤ end → Left source end types ts at depth_left q (pos + n) (depth + n)
  structs_left n place pos depth q some codes inside deep left padded is le =
      let first_code : get_or types pos 0 ≡ 40 = ap (λ (i : ℕ). get_or types i 0) (omega arith) ∙ codes 0 some in
      let gap : gap_to 8 q ≡ 0 = ap (gap_to 8) is ∙ aligned place in
      let again : padding 8 end q (here q) ≡ Done tt q (here q) = padding_is 8 end q 0 (here q) gap (omega arith) in
      let m = n - 1 in
      let next = struct_left place pos depth (omega arith) first_code (omega arith) left q padded in
      let others : (k : ℕ) → k < m → get_or types (pos + 1 + k) 0 ≡ 40 = λ k lt. ap (λ (i : ℕ). get_or types i 0) (omega arith) ∙ codes (1 + k) (omega arith) in
      let rest = rows_left m q (pos + 1) (depth + 1) again others (omega arith) (omega arith) next in
      let same_pos : pos + 1 + m ≡ pos + n = omega arith in
      let same_open : depth + 1 + m ≡ depth + n = omega arith in
      subst (λ (p : ℕ). Left source end types ts at depth_left q p (depth + n)) same_pos (subst (λ (d : ℕ). Left source end types ts at depth_left q (pos + 1 + m) d) same_open rest)

-- ---- which type begins at a place

plain_type : (t : TypeTree) → IsShaped false t → (first_code t ≡ 97 → ⊥) → (first_code t ≡ 40 → ⊥) → (first_code t ≡ 118 → ⊥) → IsBasic t
plain_type (NumberType k) shaped array struct variant = tt
plain_type (TextType k) shaped array struct variant = tt
plain_type VariantType shaped array struct variant = absurd (variant refl)
plain_type (ArrayType u) shaped array struct variant = absurd (array refl)
plain_type (StructType us) shaped array struct variant = absurd (struct refl)
plain_type (EntryType k v) shaped array struct variant = absurd shaped

module _ (types : List ℕ) (pos : ℕ) (lt : pos < length types) where
  pub basic_there : (get_or types pos 0 ≡ 97 → ⊥) → (get_or types pos 0 ≡ 40 → ⊥) → (get_or types pos 0 ≡ 118 → ⊥)
      → (t : TypeTree) (more : List ℕ) → drop pos types ≡ sig t ++ more → IsShaped false t → (first_code t ≡ get_or types pos 0) × IsBasic t × (pos + 1 ≡ pos + length (sig t))
  basic_there array struct variant t more e shaped =
      let code = first_there types pos t more lt e in
      let basic = plain_type t shaped (λ c. array (sym code ∙ c)) (λ c. struct (sym code ∙ c)) (λ c. variant (sym code ∙ c)) in
      (code, basic, ap (λ (i : ℕ). pos + i) (sym (basic_length t basic)))

  pub variant_there : get_or types pos 0 ≡ 118 → (t : TypeTree) (more : List ℕ) → drop pos types ≡ sig t ++ more → (t ≡ VariantType) × (pos + 1 ≡ pos + length (sig t))
  variant_there code t more e =
      let is = variant_is t (first_there types pos t more lt e ∙ code) in
      (is, ap (λ (u : TypeTree). pos + length (sig u)) (sym is))

  pub array_there : get_or types pos 0 ≡ 97 → (next : ℕ) → (t : TypeTree) (more : List ℕ) → drop pos types ≡ sig t ++ more → IsShaped false t → next ≡ pos + length (sig t)
      → (u : TypeTree) × (t ≡ ArrayType u) × (sig u ≡ take (length (take (next - pos) (drop pos types)) - 1) (drop 1 (take (next - pos) (drop pos types)))) × IsShaped true u
  array_there code next t more e shaped ends =
      let whole = take (next - pos) (drop pos types) in
      let long : next - pos ≡ length (sig t) = omega arith in
      let same : sig t ≡ whole = sym (ap (λ (k : ℕ). take k (drop pos types)) long ∙ ap (take (length (sig t))) e ∙ take_at (sig t) more (length (sig t)) refl) in
      let w = array_is t whole same (sym (code_is t whole same) ∙ first_there types pos t more lt e ∙ code) in
      (w.0, w.1, w.2, subst (IsShaped false) w.1 shaped)

-- a struct needs no array around it
pub struct_outside : (ts : TypeTrees) → IsShaped true (StructType ts) → IsShaped false (StructType ts)
struct_outside NoTypes shaped = absurd shaped
struct_outside (MoreTypes t ts) shaped = shaped

-- Types whose lengths are noted, and parts of them.

module _ (types lengths : List ℕ) where
  module _ (pos : ℕ) (noted : AreNoted types lengths pos) where
    -- a part of those types
    pub part_noted : (from k : ℕ) → AreNoted (take k (drop from types)) lengths (pos + from)
    part_noted from k = λ at t more lt e.
        let inside : at < k = omega (arith, ap length e, length-drop at (take k (drop from types)), length-take k (drop from types), length-append (sig t) more, sig_positive t) in
        let m = k - at in
        let ys = drop (from + at) types in
        let split : at + m ≡ k = omega arith in
        let front : take m ys ≡ sig t ++ more =
        ap (take m) (sym (drop-drop at from types)) ∙ sym (drop-take at m (drop from types)) ∙ ap (λ (n : ℕ). drop at (take n (drop from types))) split ∙ e in
        let whole : ys ≡ sig t ++ (more ++ drop m ys) = sym (take-append-drop m ys) ∙ ap (λ (l : List ℕ). l ++ drop m ys) front ∙ append_assoc (sig t) more (drop m ys) in
        let place : pos + from + at ≡ pos + (from + at) = omega arith in
        ap (λ (i : ℕ). get_or lengths i 0) place ∙ noted (from + at) t (more ++ drop m ys) (omega arith) whole

-- a type that is no container ends after its byte
pub one_byte_end : (types : List ℕ) (at : ℕ) → at < length types → (get_or types at 0 ≡ 97 → ⊥) → (get_or types at 0 ≡ 40 → ⊥) → (get_or types at 0 ≡ 123 → ⊥) → IsTypeEnd types at (at + 1)
one_byte_end types at lt array struct entry = λ t more e. ap (λ (i : ℕ). at + i) (sym (one_byte types at t more lt e array struct entry))

-- the code of a type that stands at a place
pub first_front : (types : List ℕ) (at n : ℕ) (t : TypeTree) → at < length types → sig t ≡ take n (drop at types) → first_code t ≡ get_or types at 0
first_front types at n t lt e = first_there types at t (drop n (drop at types)) lt (sym (take-append-drop n (drop at types)) ∙ ap (λ (l : List ℕ). l ++ drop n (drop at types)) (sym e))

-- the code of a basic type is a signature, of one type
pub one_code : (kind : TextKind) (w : List ℕ) → (kind ≡ Signature) ⊎ (kind ≡ Single) → length w ≡ 1 → is_basic_code (get_or w 0 0) ≡ true → IsKind kind w
one_code kind w is one code =
    let good = basic_is_code (get_or w 0 0) code in
    let few : length w ≤ 255 = omega arith in
    ⊎_elim (λ e. subst (λ (k : TextKind). IsKind k w) (sym e) (coded_signature w one good, few)) (λ e. subst (λ (k : TextKind). IsKind k w) (sym e) (coded_single w one good, few)) is
