-- Messages that are passed over: what the first bytes state, whatever follows.
use Rattle.std.proofs.Common.{◌≡◌, ◌∙◌, ℕ, ◌<◌, ◌≤◌, List, [], ◌++◌, sym, ap, subst, inl, inr, arith}
use Rattle.dbus_value_model.specs.declared.fault.Fault.{Fault}
use Rattle.dbus_value_model.specs.declared.limits.Limits.{Limits}
use Rattle.dbus_value_model.specs.Reading.{Done, Faulty, Partial}
use Rattle.dbus_value_model.specs.ValueReaders.{Stops}
use Rattle.dbus_value_model.specs.declared.stop.Stop.{Stop}
use Rattle.dbus_value_model.specs.declared.stop.Stop.TheVariants as stops
use Rattle.dbus_header.specs.HeaderReading.{fixed_header}
use Rattle.dbus_header.specs.MessageItems.{fixed_items}
use Rattle.dbus_header.specs.MessageOutcomes.{IsRefused}
use Rattle.dbus_header.specs.StatedLengths.{StatesLength, length_by}
use Rattle.dbus_header.specs.declared.fixed_header.FixedHeader.{FixedHeader}
use Rattle.dbus_header.proofs.MessageParts.{Agrees-fixed}
use Rattle.dbus_header.proofs.StatedLengths.{one_stated}
use Rattle.dbus_connection.specs.Reading.{Fits, IsPassed}
use Rattle.dbus_connection.specs.declared.settings.Settings.{Settings}

module _ (settings : Settings) where
  abbrev limits : Limits
  limits = settings.limits

  -- bytes state one length
  once : (b : List ℕ) (n k : ℕ) → StatesLength limits b n → StatesLength limits b k → k ≡ n
  once b n k s t = (one_stated limits b [] n k s).1 (one_stated limits b [] k k t).0

  -- one that is short enough is that of a message that fits
  pub fitting : (b : List ℕ) (n : ℕ) → StatesLength limits b n → n ≤ settings.longest
      → Fits settings b
  fitting b n s fits k t = let same = once b n k s t in omega (arith, same, fits)

  -- what is refused states what it states with all that follows
  refused_states : (b c : List ℕ) (f : Fault) (n : ℕ) → IsRefused limits b f
      → StatesLength limits (b ++ c) n → StatesLength limits b n
  unfolding IsRefused StatesLength
  refused_states b c f n refused s =
      let agrees = Agrees-fixed limits in
      let read : fixed_header limits 0 (b ++ c) ≡ Done s.0 16 s.1 = agrees.passes 0 (b ++ c) s.0 16 s.1 s.2 in
      elim refused [
        | inl h ↦ let faulty : fixed_header limits 0 (b ++ c) ≡ Faulty f = agrees.refuses 0 (b ++ c) f (agrees.refuses_more c 0 b f h) in absurd cc
        | inr w ↦
            let again : fixed_header limits 0 (b ++ c) ≡ Done w.0 w.1 (w.2 ++ c) = agrees.passes 0 (b ++ c) w.0 w.1 (w.2 ++ c) (agrees.passes_more c 0 b w.0 w.1 w.2 w.3) in
            let sixteen : w.1 ≡ 16 = cc in
            let same : s.0 ≡ w.0 = cc in
            (w.0, w.2, subst (λ (q : ℕ). (fixed_items limits).Passed 0 b w.0 q w.2) sixteen w.3, s.3 ∙ ap length_by same)
      ]

  pub refused_fits : (b c : List ℕ) (f : Fault) → IsRefused limits b f → Fits settings b
      → Fits settings (b ++ c)
  refused_fits b c f refused fits n s = fits n (refused_states b c f n refused s)

  -- ---- what is passed over

  pub passed_more : (b c : List ℕ) (n : ℕ) (h : FixedHeader) → IsPassed settings b n h
      → IsPassed settings (b ++ c) n h
  passed_more b c n h is = record {
    rest = is.rest ++ c;
    header = (Agrees-fixed limits).passes_more c 0 b h 16 is.rest is.header;
    stated = is.stated;
    long = is.long;
  }

  pub passed_states : (b : List ℕ) (n : ℕ) (h : FixedHeader) → IsPassed settings b n h
      → StatesLength limits b n
  unfolding StatesLength
  passed_states b n h is = (h, is.rest, is.header, is.stated)

  -- it does not fit
  pub not_passed : (b : List ℕ) (n : ℕ) (h : FixedHeader) → IsPassed settings b n h
      → Fits settings b → ⊥
  not_passed b n h is fits = let short = fits n (passed_states b n h is) in omega (arith, is.long, short)

  pub passed_once : (b : List ℕ) (n k : ℕ) (h g : FixedHeader) → IsPassed settings b n h
      → IsPassed settings b k g
      → (h ≡ g) × (n ≡ k)
  passed_once b n k h g is other =
      let agrees = Agrees-fixed limits in
      let read : fixed_header limits 0 b ≡ Done h 16 is.rest = agrees.passes 0 b h 16 is.rest is.header in
      let again : fixed_header limits 0 b ≡ Done g 16 other.rest = agrees.passes 0 b g 16 other.rest other.header in
      let same : h ≡ g = cc in
      (same, is.stated ∙ ap length_by same ∙ sym other.stated)

  -- bytes that state a length have a header, and that is read
  pub header_passed : (b : List ℕ) (n : ℕ) (h : FixedHeader) (rest : List ℕ)
      → fixed_header limits 0 b ≡ Done h 16 rest → StatesLength limits b n → settings.longest < n
      → IsPassed settings b n h
  unfolding StatesLength
  header_passed b n h rest read s long =
      let again : fixed_header limits 0 b ≡ Done s.0 16 s.1 = (Agrees-fixed limits).passes 0 b s.0 16 s.1 s.2 in
      let same : s.0 ≡ h = cc in
      record {
        rest = s.1;
        header = subst (λ (g : FixedHeader). (fixed_items limits).Passed 0 b g 16 s.1) same s.2;
        stated = s.3 ∙ ap length_by same;
        long = long;
      }

  pub header_there : (b : List ℕ) (n : ℕ) (stop : Stop) → Stops stop (fixed_header limits 0 b)
      → StatesLength limits b n → ⊥
  unfolding StatesLength
  header_there b n stop stopped s = by_stop stop stopped
    where
      read : fixed_header limits 0 b ≡ Done s.0 16 s.1
      read = (Agrees-fixed limits).passes 0 b s.0 16 s.1 s.2

      by_stop : (stop : Stop) → Stops stop (fixed_header limits 0 b) → ⊥
      by_stop stops.Partial partial = let is : Done s.0 16 s.1 ≡ Partial = sym read ∙ partial in cc
      by_stop (stops.Refused f) faulty = let is : Done s.0 16 s.1 ≡ Faulty f = sym read ∙ faulty in cc
