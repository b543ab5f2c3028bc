-- Numbers, texts and the lengths of arrays: what is said of them where one of their parts is read,
-- or is not.
use Rattle.std.proofs.Common.{◌≡◌, ℕ, ◌+◌, ◌<◌, ◌≤◌, List, length, take, drop, get_or, Option, Some, None, false, ltb, refl, ap, subst, ◌∙◌, arith, ◌++◌, true, sym}
use Rattle.std.proofs.lemmas.Bool.{lt-ltb, le-ltb}
use Rattle.std.proofs.lemmas.List.{length-take, length-drop, drop_at, drop-drop}
use Rattle.std.specs.Option.{IfSome}
use Rattle.dbus_texts.specs.Types.{NumberCode, BOOLEAN, UNIX_FD, TextCode, SIGNATURE, TypeTree, TypeTrees, sig, sigs, IsShaped, AreShaped}
use Rattle.dbus_texts.specs.declared.text_kind.TextKind.{TextKind}
use Rattle.dbus_texts.specs.declared.text_kind.TextKind.TheVariants.{Signature}
use Rattle.dbus_texts.specs.Kinds.{IsKind}
use Rattle.dbus_types.specs.Alignments.{width, length_width, alignment_of}
use Rattle.dbus_value_model.specs.declared.fault.Reason.{Reason}
use Rattle.dbus_value_model.specs.declared.limits.Bounds.{Bounds}
use Rattle.dbus_value_model.specs.declared.order.Order.{Order}
use Rattle.dbus_value_model.specs.Bytes.{gap_to}
use Rattle.dbus_value_model.specs.Items.{no_row}
use Rattle.dbus_value_model.specs.Values.{ValueTree, NumberValue, TextValue, ValueTrees}
use Rattle.dbus_value_model.specs.ValueItems.{number_row, text_row, array_row}
use Rattle.dbus_value_model.specs.WantedTexts.{kind_of, Of}
use Rattle.dbus_value_model.specs.Reading.{Reader, Outcome, Done, after, pure, padding, number, number_of, text, nul}
use Rattle.dbus_value_model.specs.ValueReaders.{number_value, text_value, array_frame}
use Rattle.dbus_value_laws.proofs.Composition as rows
use Rattle.dbus_value_laws.proofs.ReadSteps.{number_done, number_passes, number_overrun, row_fits, frame_done, nul_done, no_padding, bytes_at, text_there, sig_done}
use Rattle.dbus_value_model.specs.Outcomes.{IsDone}
use Rattle.dbus_value_model.specs.Spelling.{Spelled, spelling, spellings}
use Rattle.dbus_value_model.specs.Items as items
use Rattle.dbus_value_model.specs.ValueItems as faults
use Rattle.dbus_value_model.specs.Reading as reading
use Rattle.dbus_value_laws.proofs.Agreement.{Agrees, read_passes}
use Rattle.dbus_value_laws.proofs.Composition.{fields_from, fields_to}
use Rattle.dbus_value_laws.proofs.ValueItemLaws.{Agrees-value, value_inside, agrees_fields, reads_spelled}
use Rattle.dbus_value_validator.specs.Endings.{IsNotRead, EndedText, Answers, EndsAt, IsSpelledTo, AreSpelledTo, IsNotSpelled, AreNotSpelled}
use Rattle.dbus_value_validator.proofs.ReadParts.{not_same, not_faulty, not_first, not_then, number_read, row_unread, row_against, not_ended, short_unread}

-- ---- numbers

-- a number after its padding, of which a row says what may stand
abbrev pub number_by : Order → ℕ → (w : ℕ) → (ℕ → ℕ → Option Reason) → NumberCode → Reader ValueTree
number_by order end w row k o s = after (padding w end o s) (λ x p u. after (number order w end row p u) (λ n. pure (NumberValue k n)))

pub is_number : (index_limit : Option ℕ) (order : Order) (end : ℕ) (k : NumberCode) (w o : ℕ) (s : List ℕ) → width k ≡ w → number_value index_limit order end k o s ≡ number_by order end w (number_row index_limit k) k o s
unfolding number_value
is_number index_limit order end k w o s wide = rw wide refl

module _ (order : Order) (end w : ℕ) (row : ℕ → ℕ → Option Reason) (k : NumberCode) (at : ℕ) (bytes : List ℕ) (read : Outcome ValueTree) (run : read ≡ number_by order end w row k at (drop at bytes)) where
  pub number_unpadded : IsNotRead (padding w end at (drop at bytes)) → IsNotRead read
  number_unpadded unread = not_same read _ run (not_first (padding w end at (drop at bytes)) _ unread)

  module _ (start : ℕ) (padded : padding w end at (drop at bytes) ≡ Done tt start (drop start bytes)) where
    no_number : IsNotRead (number order w end row start (drop start bytes)) → IsNotRead read
    no_number unread = not_same read _ run (rw padded (not_first (number order w end row start (drop start bytes)) _ unread))

    pub number_short : end < start + w → IsNotRead read
    number_short short = no_number (not_faulty _ _ (number_overrun order w end row start bytes short))

    pub number_unread : IsNotRead (number order w end no_row start (drop start bytes)) → IsNotRead read
    number_unread unread = no_number (row_unread order w end row start (drop start bytes) unread)

    module _ (n : ℕ) where
      number_made : number order w end row start (drop start bytes) ≡ Done n (start + w) (drop (start + w) bytes) → read ≡ Done (NumberValue k n) (start + w) (drop (start + w) bytes)
      number_made there = run ∙ rw (padded, there) refl

      pub free_ends : start + w ≤ end → end ≤ length bytes → n ≡ number_of order (take w (drop start bytes)) → row (start + w) n ≡ None → read ≡ Done (NumberValue k n) (start + w) (drop (start + w) bytes)
      free_ends fits inside is free = number_made (number_done order w end row start bytes fits n (omega arith) is free)

      module _ (there : number order w end no_row start (drop start bytes) ≡ Done n (start + w) (drop (start + w) bytes)) where
        pub number_ends : row (start + w) n ≡ None → read ≡ Done (NumberValue k n) (start + w) (drop (start + w) bytes)
        number_ends passes = number_made (number_passes order w end row start (drop start bytes) n (start + w) (drop (start + w) bytes) there passes)

        -- its row says something against it
        pub number_against : (row (start + w) n ≡ None → ⊥) → IsNotRead read
        number_against against = no_number (row_against order w end row start (drop start bytes) n (start + w) (drop (start + w) bytes) there against)

pub is_boolean : (index_limit : Option ℕ) (p n : ℕ) → n ≤ 1 → number_row index_limit BOOLEAN p n ≡ None
is_boolean index_limit p n few = rw (lt-ltb n 2 (omega arith)) refl

pub no_boolean : (index_limit : Option ℕ) (p n : ℕ) → 1 < n → number_row index_limit BOOLEAN p n ≡ None → ⊥
no_boolean index_limit p n h = let over : ltb n 2 ≡ false = le-ltb _ _ (omega arith) in rw over (λ e. absurd cc)

pub is_index : (index_limit : Option ℕ) (p n limit : ℕ) → index_limit ≡ Some limit → n < limit → number_row index_limit UNIX_FD p n ≡ None
is_index index_limit p n limit is h = rw (is, lt-ltb n limit h) refl

pub no_index : (index_limit : Option ℕ) (p n limit : ℕ) → index_limit ≡ Some limit → limit ≤ n → number_row index_limit UNIX_FD p n ≡ None → ⊥
no_index index_limit p n limit is h = let over : ltb n limit ≡ false = le-ltb _ _ h in rw (is, over) (λ e. absurd cc)

-- ---- texts

-- the text of n bytes that is given is of the kind, and a zero stands after it
pub text_ends : (kind : TextKind) (n start : ℕ) (bytes given : List ℕ) → start + n < length bytes → given ≡ take n (drop start bytes) → IsKind kind given → get_or bytes (start + n) 0 ≡ 0 → EndedText kind n start bytes
text_ends kind n start bytes given inside is good zero =
    let long : n ≤ length given = omega (arith, ap length is, length-take n (drop start bytes), length-drop start bytes) in
    record {
      is_text = text_there (Of kind) n start bytes given is good long;
      is_ended = nul_done (start + n) bytes inside zero;
      is_kind = subst (IsKind kind) is good;
    }

-- a text after the padding and its length, of which a row says what it may be
abbrev pub text_by : Order → ℕ → (w : ℕ) → (ℕ → ℕ → Option Reason) → TextKind → TextCode → Reader ValueTree
text_by order end w row kind k o s = after (padding w end o s) (λ x p u. after (number order w end row p u) (λ n p u. after (text (Of kind) n p u) (λ t p u. after (nul p u) (λ x. pure (TextValue k t)))))

pub is_text : (order : Order) (end : ℕ) (k : TextCode) (kind : TextKind) (w o : ℕ) (s : List ℕ) → kind_of k ≡ Of kind → length_width k ≡ w → text_value order end k o s ≡ text_by order end w (text_row end) kind k o s
unfolding text_value
is_text order end k kind w o s is wide = rw (wide, is) refl

pub no_text_fits : (end p n : ℕ) → end < p + n + 1 → text_row end p n ≡ None → ⊥
no_text_fits end p n over e = absurd (omega (arith, over, rows.row_fits end p n e))

module _ (order : Order) (end w : ℕ) (row : ℕ → ℕ → Option Reason) (kind : TextKind) (k : TextCode) (at : ℕ) (bytes : List ℕ) (read : Outcome ValueTree) (run : read ≡ text_by order end w row kind k at (drop at bytes)) where
  pub text_unpadded : IsNotRead (padding w end at (drop at bytes)) → IsNotRead read
  text_unpadded unread = not_same read _ run (not_first (padding w end at (drop at bytes)) _ unread)

  module _ (start : ℕ) (padded : padding w end at (drop at bytes) ≡ Done tt start (drop start bytes)) where
    no_length : IsNotRead (number order w end row start (drop start bytes)) → IsNotRead read
    no_length unread = not_same read _ run (rw padded (not_first (number order w end row start (drop start bytes)) _ unread))

    pub text_unmeasured : IsNotRead (number order w end no_row start (drop start bytes)) → IsNotRead read
    text_unmeasured unread = no_length (row_unread order w end row start (drop start bytes) unread)

    module _ (n : ℕ) (plain : number order w end no_row start (drop start bytes) ≡ Done n (start + w) (drop (start + w) bytes)) where
      -- its row says something against the length
      pub text_against : (row (start + w) n ≡ None → ⊥) → IsNotRead read
      text_against against = no_length (row_against order w end row start (drop start bytes) n (start + w) (drop (start + w) bytes) plain against)

      module _ (fits : row (start + w) n ≡ None) where
        measured : number order w end row start (drop start bytes) ≡ Done n (start + w) (drop (start + w) bytes)
        measured = number_passes order w end row start (drop start bytes) n (start + w) (drop (start + w) bytes) plain fits

        pub text_not_ended : (EndedText kind n (start + w) bytes → ⊥) → IsNotRead read
        text_not_ended unended = not_same read _ run (rw (padded, measured) (not_ended kind n (start + w) bytes (λ t. pure (TextValue k t)) unended))

        pub text_done : EndedText kind n (start + w) bytes → read ≡ Done (TextValue k (take n (drop (start + w) bytes))) (start + w + n + 1) (drop (start + w + n + 1) bytes)
        text_done ended = run ∙ rw (padded, measured, ended.is_text, ended.is_ended) refl

module _ (order : Order) (end at : ℕ) (bytes : List ℕ) (le : at ≤ end) where
  pub signature_done : (n : ℕ) → number order 1 end (text_row end) at (drop at bytes) ≡ Done n (at + 1) (drop (at + 1) bytes) → EndedText Signature n (at + 1) bytes
      → text_value order end SIGNATURE at (drop at bytes) ≡ Done (TextValue SIGNATURE (take n (drop (at + 1) bytes))) (at + 1 + n + 1) (drop (at + 1 + n + 1) bytes)
  signature_done n measured ended =
      sig_done order end at (drop at bytes) le n (at + 1) (drop (at + 1) bytes) measured (take n (drop (at + 1) bytes)) (at + 1 + n) (drop (at + 1 + n) bytes) ended.is_text (at + 1 + n + 1) (drop (at + 1 + n + 1) bytes) ended.is_ended

  pub signature_unread : ((n : ℕ) → number order 1 end (text_row end) at (drop at bytes) ≡ Done n (at + 1) (drop (at + 1) bytes) → EndedText Signature n (at + 1) bytes → ⊥) → IsNotRead (text_value order end SIGNATURE at (drop at bytes))
  unfolding text_value
  signature_unread unread =
      rw (no_padding end at (drop at bytes) le) (short_unread Signature order end at (text_row end) bytes _ unread (λ n unended. not_ended Signature n (at + 1) bytes (λ t. pure (TextValue SIGNATURE t)) unended))

-- ---- an array's length, and the padding after it

module _ (bounds : Bounds) (order : Order) (end : ℕ) (t : TypeTree) (at : ℕ) (bytes : List ℕ) where
  no_frame : IsNotRead (number order 4 end (array_row bounds t end) at (drop at bytes)) → IsNotRead (array_frame bounds order end t at (drop at bytes))
  unfolding array_frame
  no_frame unread = not_first (number order 4 end (array_row bounds t end) at (drop at bytes)) _ unread

  pub frame_unmeasured : IsNotRead (number order 4 end no_row at (drop at bytes)) → IsNotRead (array_frame bounds order end t at (drop at bytes))
  frame_unmeasured unread = no_frame (row_unread order 4 end (array_row bounds t end) at (drop at bytes) unread)

  pub frame_unpadded : (a : ℕ) → a ≡ alignment_of t → IsNotRead (padding a end (at + 4) (drop (at + 4) bytes)) → IsNotRead (array_frame bounds order end t at (drop at bytes))
  unfolding array_frame
  frame_unpadded a is unread = not_then (number order 4 end (array_row bounds t end) at (drop at bytes)) _ (λ n p u e.
      let r = number_read order 4 end (array_row bounds t end) at bytes n p u e in
      rw (r.ends, r.left, ← is) (not_first (padding a end (at + 4) (drop (at + 4) bytes)) _ unread))

  module _ (n : ℕ) (there : number order 4 end no_row at (drop at bytes) ≡ Done n (at + 4) (drop (at + 4) bytes)) where
    -- it is too long, or ends after the end
    pub frame_against : (n ≤ bounds.array → at + 4 + gap_to (alignment_of t) (at + 4) + n ≤ end → ⊥) → IsNotRead (array_frame bounds order end t at (drop at bytes))
    frame_against against = no_frame (row_against order 4 end (array_row bounds t end) at (drop at bytes) n (at + 4) (drop (at + 4) bytes) there (λ e. let w = rows.array_row_fits bounds t end (at + 4) n e in against w.0 w.1))

    pub frame_ends : (a first : ℕ) → a ≡ alignment_of t → n ≤ bounds.array → first ≡ at + 4 + gap_to a (at + 4) → first + n ≤ end → padding a end (at + 4) (drop (at + 4) bytes) ≡ Done tt first (drop first bytes)
        → array_frame bounds order end t at (drop at bytes) ≡ Done n first (drop first bytes)
    frame_ends a first e few is fits padded =
        let row = row_fits bounds t a end (at + 4) n e few (omega arith) in
        frame_done bounds order end t at (drop at bytes) n (at + 4) (drop (at + 4) bytes) there row first (drop first bytes) (subst (λ (b : ℕ). padding b end (at + 4) (drop (at + 4) bytes) ≡ Done tt first (drop first bytes)) e padded)

-- What is read whole is spelled.

left_after : (bytes front rest : List ℕ) (at q n : ℕ) → drop at bytes ≡ front ++ rest → n ≡ length front → q ≡ at + n → rest ≡ drop q bytes
left_after bytes front rest at q n is long place =
    sym (ap (drop n) is ∙ drop_at front rest n (sym long)) ∙ drop-drop n at bytes ∙ ap (λ (k : ℕ). drop k bytes) (sym place)

module _ (bounds : Bounds) (order : Order) (depth_left end at : ℕ) (bytes : List ℕ) where
  module _ (ts : TypeTrees) (shaped : AreShaped ts) where
    abbrev part : ℕ → TypeTree → items.Item ValueTree
    part = faults.value bounds order depth_left

    fields_agree : Agrees (faults.fields (part end) ts) (reading.fields (reading.value bounds order depth_left end) ts)
    fields_agree = agrees_fields bounds order depth_left part (reading.value bounds order depth_left) (value_inside bounds order depth_left) (λ e b t h. Agrees-value bounds order depth_left e b t h) end ts shaped

    pub fields_spelled : at ≤ end → ((i : ℕ) → get_or bytes i 0 < 256) → (vs : ValueTrees) (q : ℕ) (rest : List ℕ) → reading.fields (reading.value bounds order depth_left end) ts at (drop at bytes) ≡ reading.Done vs q rest → IsDone bounds order depth_left end ts at (drop at bytes) vs q (drop q bytes)
    fields_spelled le are vs q rest read =
        let passed = read_passes (faults.fields (part end) ts) (reading.fields (reading.value bounds order depth_left end) ts) fields_agree at (drop at bytes) (bytes_at bytes at are) vs q rest read in
        let w = fields_to bounds order depth_left part (value_inside bounds order depth_left) end ts at (drop at bytes) vs q rest passed in
        let left = left_after bytes (spellings order at vs) rest at q (length (spellings order at vs)) w.1.bytes refl w.1.place in
        rw (← left) (record { types = w.0; spelled = w.1; bound = w.2 le })

    pub fields_read : (q : ℕ) → AreSpelledTo bounds order depth_left end ts at bytes q → EndsAt bytes q (reading.fields (reading.value bounds order depth_left end) ts at (drop at bytes))
    fields_read q w =
        let passed = fields_from bounds order depth_left part (value_inside bounds order depth_left) end w.0 at (drop at bytes) q (drop q bytes) w.1.bound w.1.spelled in
        (w.0, fields_agree.passes at (drop at bytes) w.0 q (drop q bytes) (subst (λ (u : TypeTrees). (faults.fields (part end) u).Passed at (drop at bytes) w.0 q (drop q bytes)) w.1.types passed))

  module _ (are : (i : ℕ) → get_or bytes i 0 < 256) where
    module _ (t : TypeTree) (shaped : IsShaped true t) where
      pub value_spelled : (v : ValueTree) (q : ℕ) (rest : List ℕ) → reading.value bounds order depth_left end t at (drop at bytes) ≡ reading.Done v q rest → Spelled bounds order depth_left end t at (drop at bytes) v q (drop q bytes)
      value_spelled v q rest read =
          let w = (reads_spelled bounds order depth_left end true t at (drop at bytes) v q rest shaped (bytes_at bytes at are)).0 read in
          let left = left_after bytes (spelling order at v) rest at q (length (spelling order at v)) w.bytes refl w.place in
          rw (← left) w

      pub value_read : (q : ℕ) → IsSpelledTo bounds order depth_left end t at bytes q → EndsAt bytes q (reading.value bounds order depth_left end t at (drop at bytes))
      value_read q w = (w.0, (reads_spelled bounds order depth_left end true t at (drop at bytes) w.0 q (drop q bytes) shaped (bytes_at bytes at are)).1 w.1)

    -- ---- an answer of a call says what is spelled

    pub value_answered : (types : List ℕ) (r : Option ℕ) → ((t : TypeTree) → sig t ≡ types → IsShaped true t → Answers bytes r (reading.value bounds order depth_left end t at (drop at bytes)))
        → IfSome r (λ q. (t : TypeTree) → sig t ≡ types → IsShaped true t → IsSpelledTo bounds order depth_left end t at bytes q) × (r ≡ None → (t : TypeTree) → sig t ≡ types → IsShaped true t → IsNotSpelled bounds order depth_left end t at bytes)
    value_answered types None gives = (tt, λ none t e shaped q spelled. let w = value_read t shaped q spelled in gives t e shaped w.0 q (drop q bytes) w.1)
    value_answered types (Some q) gives = (λ t e shaped. let w = gives t e shaped in (w.0, value_spelled t shaped w.0 q (drop q bytes) w.1), λ none. absurd cc)

    pub fields_answered : at ≤ end → (types : List ℕ) (r : Option ℕ) → ((ts : TypeTrees) → sigs ts ≡ types → AreShaped ts → Answers bytes r (reading.fields (reading.value bounds order depth_left end) ts at (drop at bytes)))
        → IfSome r (λ q. (ts : TypeTrees) → sigs ts ≡ types → AreShaped ts → AreSpelledTo bounds order depth_left end ts at bytes q) × (r ≡ None → (ts : TypeTrees) → sigs ts ≡ types → AreShaped ts → AreNotSpelled bounds order depth_left end ts at bytes)
    fields_answered le types None gives = (tt, λ none ts e shaped q spelled. let w = fields_read ts shaped q spelled in gives ts e shaped w.0 q (drop q bytes) w.1)
    fields_answered le types (Some q) gives = (λ ts e shaped. let w = gives ts e shaped in (w.0, fields_spelled ts shaped le are w.0 q (drop q bytes) w.1), λ none. absurd cc)
