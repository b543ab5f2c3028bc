-- Reading a message on gives the outcome that reading it gives.
use Rattle.std.proofs.Common.{◌≡◌, ℕ, zero, suc, ◌+◌, ◌-◌, List, [], ◌∷◌, ◌++◌, length, take, drop, map, reverse, Bool, true, false, ◌||◌, ◌&&◌, cond, eqb, ltb, Option, Some, None, refl, sym, ap, ◌∙◌, append_assoc}
use Rattle.std.proofs.lemmas.List.{reverse-append, append-nil}
use Rattle.dbus_texts.specs.ComputedKinds.{types_spelled}
use Rattle.dbus_value_model.specs.declared.limits.Limits.{Limits}
use Rattle.dbus_value_model.specs.declared.order.Order.{Order}
use Rattle.dbus_value_model.specs.declared.fault.Reason.{Reason}
use Rattle.dbus_value_model.specs.declared.fault.Reason.TheVariants as reasons
use Rattle.dbus_value_model.specs.Items.{fault}
use Rattle.dbus_value_model.specs.Reading.{Outcome, Done, Faulty, Partial, after, padding, number, validated, number_of, validate, bounded, up_to}
use Rattle.dbus_message_model.specs.Messages.{FieldTree, want, has_code, is_known, lacks, required, body_signature, text_in, number_in, fd_count, body_fds}
use Rattle.dbus_header.specs.MessageItems.{code_row}
use Rattle.dbus_header.specs.HeaderReading.{opening, fixed_header, wanted_value, field_read, fields_read, body_read, message_read}
use Rattle.dbus_header.specs.declared.fixed_header.FixedHeader.{FixedHeader}
use Rattle.dbus_message_model.proofs.FieldLists.{has_reversed}
use Rattle.dbus_value_laws.proofs.ReadSteps.{after_after, same_after}
use Rattle.dbus_value_checker.specs.Suspended.{On, onward, done}
use Rattle.dbus_check.specs.Heading.{has, seen_row, missing, Kept, nothing, kept_of, body_on, after_fields, field_on, fields_on, message_on}

-- ---- lists of fields

abbrev codes_of : List FieldTree → List ℕ
codes_of fs = map (λ (f : FieldTree). f.code) fs

has_codes : (c : ℕ) (fs : List FieldTree) → has c (codes_of fs) ≡ has_code c fs
has_codes c [] = refl
has_codes c (f ∷ fs) = ap (λ (b : Bool). eqb f.code c || b) (has_codes c fs)

missing_is : (cs : List ℕ) (fs : List FieldTree) → missing cs (codes_of fs) ≡ lacks cs (reverse fs)
missing_is [] fs = refl
missing_is (c ∷ cs) fs = ap (λ (b : Bool). cond b (missing cs (codes_of fs)) (Some (reasons.FieldMissing c))) (has_codes c fs ∙ sym (has_reversed c fs)) ∙ ap (λ (r : Option Reason). cond (has_code c (reverse fs)) r (Some (reasons.FieldMissing c))) (missing_is cs fs)

-- what is looked up after one field more, in front of which there are others
looked_up : {A : Type 0} (b h : Bool) (here older later : A) → cond b here (cond h older later) ≡ cond (b || h) (cond b here older) later
looked_up true h here older later = refl
looked_up false h here older later = refl

signature_joined : (fs : List FieldTree) (f : FieldTree) → body_signature (fs ++ f ∷ []) ≡ cond (has_code 8 fs) (body_signature fs) (cond (eqb f.code 8) (text_in f.value) [])
signature_joined [] f = refl
signature_joined (g ∷ gs) f =
    ap (λ (t : List ℕ). cond (eqb g.code 8) (text_in g.value) t) (signature_joined gs f)
    ∙ looked_up (eqb g.code 8) (has_code 8 gs) (text_in g.value) (body_signature gs) (cond (eqb f.code 8) (text_in f.value) [])

count_joined : (fs : List FieldTree) (f : FieldTree) → fd_count (fs ++ f ∷ []) ≡ cond (has_code 9 fs) (fd_count fs) (cond (eqb f.code 9) (number_in f.value) 0)
count_joined [] f = refl
count_joined (g ∷ gs) f =
    ap (λ (n : ℕ). cond (eqb g.code 9) (number_in g.value) n) (count_joined gs f)
    ∙ looked_up (eqb g.code 9) (has_code 9 gs) (number_in g.value) (fd_count gs) (cond (eqb f.code 9) (number_in f.value) 0)

abbrev the_kept : List ℕ → List ℕ → ℕ → Kept
the_kept codes text count = record { codes = codes; text = text; count = count }

-- the last first
abbrev kept_from : List FieldTree → Kept
kept_from before = record { codes = codes_of before; text = body_signature (reverse before); count = fd_count (reverse before) }

kept_more : (before : List FieldTree) (f : FieldTree) → kept_from (f ∷ before) ≡ kept_of (kept_from before) f.code f.value
kept_more before f =
    let text =
    ap body_signature (reverse-append (f ∷ []) before) ∙ signature_joined (reverse before) f
    ∙ ap (λ (b : Bool). cond b (body_signature (reverse before)) (cond (eqb f.code 8) (text_in f.value) [])) (has_reversed 8 before ∙ sym (has_codes 8 before)) in
    let count =
    ap fd_count (reverse-append (f ∷ []) before) ∙ count_joined (reverse before) f
    ∙ ap (λ (b : Bool). cond b (fd_count (reverse before)) (cond (eqb f.code 9) (number_in f.value) 0)) (has_reversed 9 before ∙ sym (has_codes 9 before)) in
    ap (λ (t : List ℕ). the_kept (f.code ∷ codes_of before) t (fd_count (reverse (f ∷ before)))) text
    ∙ ap (the_kept (f.code ∷ codes_of before) (kept_of (kept_from before) f.code f.value).text) count

-- ---- one field

-- rows that answer alike
number_rows : (order : Order) (w end : ℕ) (row other : ℕ → ℕ → Option Reason) → ((p n : ℕ) → row p n ≡ other p n) → (o : ℕ) (s : List ℕ) → number order w end row o s ≡ number order w end other o s
unfolding number
number_rows order w end row other h o s =
    let n = number_of order (take w s) in
    ap (λ (r : Option Reason). cond (ltb end (o + w)) (Faulty (fault o reasons.Overrun)) (cond (ltb (length s) w) Partial (validated r n o (o + w) (drop w s)))) (h (o + w) n)

row_is : (before : List FieldTree) (p n : ℕ) → code_row before p n ≡ seen_row (codes_of before) p n
row_is before p n = ap (λ (b : Bool). cond (eqb n 0) (Some reasons.FieldCode) (cond (is_known n && b) (Some reasons.FieldTwice) None)) (sym (has_codes n before))

module _ (limits : Limits) (order : Order) (end : ℕ) (before : List FieldTree) where
  abbrev value_then : (FieldTree → On) → ℕ → On
  value_then next code o s = after (wanted_value limits order end (want code) o s) (λ x. next (record { code = code; value = x }))

  abbrev code_then : (FieldTree → On) → On
  code_then next o s = after (number order 1 end (code_row before) o s) (λ code p u. after (opening (limits.depth - 2) p u) (λ _. value_then next code))

  field_begins : (next : FieldTree → On) (o : ℕ) (s : List ℕ)
      → after (field_read limits order end before o s) next ≡ after (padding 8 end o s) (λ _ p u. after (opening (limits.depth - 1) p u) (λ _. code_then next))
  unfolding field_read
  field_begins next o s = simp after_after

  field_is : (more : Kept → On) (next : FieldTree → On) (o : ℕ) (s : List ℕ)
      → ((f : FieldTree) (p : ℕ) (u : List ℕ) → next f p u ≡ more (kept_from (f ∷ before)) p u)
      → after (field_read limits order end before o s) next ≡ field_on limits order end (kept_from before) more o s
  field_is more next o s h =
      field_begins next o s
      ∙ same_after (padding 8 end o s) _ _ (λ _ p u. same_after (opening (limits.depth - 1) p u) _ _ (λ _ p u.
      ap (λ (r : Outcome ℕ). after r (λ code p u. after (opening (limits.depth - 2) p u) (λ _. value_then next code))) (number_rows order 1 end (code_row before) (seen_row (codes_of before)) (row_is before) p u)
      ∙ same_after (number order 1 end (seen_row (codes_of before)) p u) _ _ (λ code p u. same_after (opening (limits.depth - 2) p u) _ _ (λ _ p u.
      same_after (wanted_value limits order end (want code) p u) _ _ (λ x p u.
      let f : FieldTree = record { code = code; value = x } in
      h f p u ∙ ap (λ (kept : Kept). more kept p u) (kept_more before f))))))

-- ---- after the fields

module _ (limits : Limits) (order : Order) (kind body : ℕ) where
  abbrev finish : List FieldTree → On
  finish fs o s =
      after (validate (lacks (required kind) fs) o s) (λ _ p u. after (bounded 8 (padding 8) p u) (λ _ q v.
      after (bounded body (body_read limits (body_fds limits fs) order (types_spelled (body_signature fs))) q v) (λ _. done)))

  body_is : (fs : List FieldTree) (o : ℕ) (s : List ℕ)
      → after (bounded body (body_read limits (body_fds limits fs) order (types_spelled (body_signature fs))) o s) (λ _. done)
      ≡ body_on limits order body (record { codes = codes_of fs; text = body_signature fs; count = fd_count fs }) o s
  unfolding body_read
  body_is fs o s = simp after_after

  finish_is : (before : List FieldTree) (o : ℕ) (s : List ℕ) → finish (reverse before) o s ≡ after_fields limits order kind body (kept_from before) o s
  finish_is before o s =
      same_after (validate (lacks (required kind) (reverse before)) o s) _ _ (λ _ p u.
      same_after (bounded 8 (padding 8) p u) _ _ (λ _ q v. body_is (reverse before) q v))
      ∙ ap (λ (r : Option Reason). after (validate r o s) (λ _ p. onward (padding 8 (p + 8)) (body_on limits order body (kept_from before)) p)) (sym (missing_is (required kind) before))

-- ---- the fields

module _ (limits : Limits) (order : Order) (kind body end : ℕ) where
  abbrev joined : List FieldTree → List FieldTree → On
  joined before vs = finish limits order kind body (reverse before ++ vs)

  abbrev kept_on : ℕ → List FieldTree → On
  kept_on turns before = fields_on limits order kind body turns end (kept_from before)

  joined_more : (f : FieldTree) (before vs : List FieldTree) → reverse (f ∷ before) ++ vs ≡ reverse before ++ f ∷ vs
  joined_more f before vs = ap (λ (l : List FieldTree). l ++ vs) (reverse-append (f ∷ []) before) ∙ append_assoc (reverse before) (f ∷ []) vs

  at_end : (w : Bool) (before : List FieldTree) (o : ℕ) (s : List ℕ)
      → (let none : List FieldTree = [] in after (cond w (Done none o s) Partial) (joined before)) ≡ cond w (after_fields limits order kind body (kept_from before) o s) Partial
  at_end true before o s = ap (λ (fs : List FieldTree). finish limits order kind body fs o s) (append-nil (reverse before)) ∙ finish_is limits order kind body before o s
  at_end false before o s = refl

  at_field : (w : Bool) (turns : ℕ) (before : List FieldTree) (o : ℕ) (s : List ℕ)
      → ((f : FieldTree) (p : ℕ) (u : List ℕ) → after (up_to turns end (field_read limits order end) (f ∷ before) p u) (joined (f ∷ before)) ≡ kept_on turns (f ∷ before) p u)
      → (let none : List FieldTree = [] in after (cond w (after (field_read limits order end before o s) (λ f p u. after (up_to turns end (field_read limits order end) (f ∷ before) p u) (λ vs q v. Done (f ∷ vs) q v))) (cond (eqb o end) (Done none o s) Partial)) (joined before))
      ≡ cond w (field_on limits order end (kept_from before) (fields_on limits order kind body turns end) o s) (cond (eqb o end) (after_fields limits order kind body (kept_from before) o s) Partial)
  at_field true turns before o s ih =
      after_after (field_read limits order end before o s) (λ f p u. after (up_to turns end (field_read limits order end) (f ∷ before) p u) (λ vs q v. Done (f ∷ vs) q v)) (joined before)
      ∙ field_is limits order end before (fields_on limits order kind body turns end) _ o s (λ f p u.
      after_after (up_to turns end (field_read limits order end) (f ∷ before) p u) (λ vs q v. Done (f ∷ vs) q v) (joined before)
      ∙ same_after (up_to turns end (field_read limits order end) (f ∷ before) p u) _ _ (λ vs q v. ap (λ (fs : List FieldTree). finish limits order kind body fs q v) (sym (joined_more f before vs)))
      ∙ ih f p u)
  at_field false turns before o s ih = at_end (eqb o end) before o s

  fields_are : (turns : ℕ) (before : List FieldTree) (o : ℕ) (s : List ℕ) → after (up_to turns end (field_read limits order end) before o s) (joined before) ≡ kept_on turns before o s
  fields_are zero before o s = at_end (eqb o end) before o s
  fields_are (suc turns) before o s = at_field (ltb o end) turns before o s (λ f p u. fields_are turns (f ∷ before) p u)

-- ---- a message

abbrev pub after_fixed : Limits → FixedHeader → On
after_fixed limits h o s = fields_on limits h.order h.kind h.body h.fields (o + h.fields) nothing o s

pub message_on_is : (limits : Limits) (o : ℕ) (s : List ℕ) → message_on limits o s ≡ after (fixed_header limits o s) (after_fixed limits)
unfolding message_read fields_read
message_on_is limits o s =
    simp after_after (same_after (fixed_header limits o s) _ _ (λ h p u. fields_are limits h.order h.kind h.body (p + h.fields) h.fields [] p u))
