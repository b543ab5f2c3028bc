-- The steps of a reader of lines.
use Rattle.std.proofs.Common.{◌≡◌, ◌≢◌, ◌⊎◌, ℕ, ◌+◌, ◌-◌, ◌<◌, ◌≤◌, List, [], ◌∷◌, ◌++◌, true, false, Bool, not, ◌↔◌, IsTrue, Result, Option, None, Some, Ok, length, take, drop, get_or, refl, sym, ap, ◌∙◌, subst, inl, inr, append_assoc, append-nil, length-take, take-append-drop, eq-eqb, arith}
use Rattle.std.specs.Prelude.{slice_range}
use Rattle.std.proofs.lemmas.List.{drop_more, get_or-take, get_or_default, drop-drop}
use Rattle.std.proofs.lemmas.List.Elements.{All-append, All-nil, All-cons}
use Rattle.std.proofs.lemmas.Slice.{between_is}
use Rattle.memchr.specs.Find.{IsFirstByte, is_byte}
use borrow.Author.Tests.{eqb-true}
use Rattle.std.specs.Io.KnownBytes.{IsAtEnd}
use Rattle.std.specs.List.{All}
use Rattle.dbus_device.specs.Device.{one_more}
use Rattle.dbus_device.specs.Calls.{HasByte, ReadsPieces}
use Rattle.dbus_lines.specs.Gathering.{IsWithin}
use Rattle.dbus_lines.specs.Lines.{line_feed, IsUnbroken, BeginsWithLine, IsLastLine}
use Rattle.dbus_lines.specs.LineReading.{source_of, part_of, line_of, most_of, is_ended, Calls, Fills, Gathers, GivesLine, Keeps, KeptAnswers, NextAnswers, Reads, ReadsNothing}
use Rattle.dbus_lines.specs.declared.fault.NoLine.{NoLine}
use Rattle.dbus_lines.specs.declared.line_reader.LineReader.{LineReader}

-- no line feed was found
pub no_feed : (part : List ℕ) → IsFirstByte (is_byte 10) part None → IsUnbroken part
no_feed part h k d lt e = h k (omega arith) lt (eq-eqb (get_or part k 0) 10 (get_or_default part k 0 d lt ∙ e))

-- the first one was found
pub first_feed : (part : List ℕ) (k : ℕ) → IsFirstByte (is_byte 10) part (Some k) → BeginsWithLine false part (take k part) (drop (k + 1) part)
first_feed part k h = record {
  unbroken = λ i d lt e.
      let low : i < k = omega (arith, length-take k part) in
      let there : i < length part = omega (arith, length-take k part) in
      h.0.before i (omega arith) low (eq-eqb (get_or part i 0) 10 (get_or_default part i 0 d there ∙ (sym (get_or-take k part i d low) ∙ e)));
  joined = inl (sym (take-append-drop k part) ∙ ap (λ l. take k part ++ l) (drop_more part k 0 h.0.high ∙ ap (λ (b : ℕ). b ∷ drop (k + 1) part) (eqb-true (get_or part k 0) 10 h.1)));
}

-- a part that begins later
pub later_part : (bytes : List ℕ) (start end count : ℕ) → slice_range bytes (start + count) end ≡ drop count (slice_range bytes start end)
later_part bytes start end count =
    sym (ap (drop count) (between_is bytes start end) ∙ (drop-drop count start (take end bytes) ∙ sym (between_is bytes (start + count) end)))

-- a part that ends where it begins
pub no_part : (bytes : List ℕ) (end : ℕ) → slice_range bytes end end ≡ []
no_part bytes end =
    let n : end - end ≡ 0 = omega arith in
    ap (λ k. take k (drop end bytes)) n

-- a line that began before goes on
pub goes_on : (line part front more w : List ℕ) → IsUnbroken line → BeginsWithLine false part front more → w ≡ line ++ part → BeginsWithLine false w (line ++ front) more
goes_on line part front more w u b e = record { unbroken = All-append (λ x. x ≢ line_feed) line front u b.unbroken; joined = first b.joined }
  where
    first : (part ≡ front ++ line_feed ∷ more) ⊎ IsLastLine false part front more → (w ≡ (line ++ front) ++ line_feed ∷ more) ⊎ IsLastLine false w (line ++ front) more
    first (inl f) = inl (e ∙ (ap (λ l. line ++ l) f ∙ sym (append_assoc line front (line_feed ∷ more))))
    first (inr f) = let wrong : false ≡ true = f.over in cc

-- a line with its line feed is one whether the input ends or not
pub whether : (ended : Bool) (w line left : List ℕ) → BeginsWithLine false w line left → BeginsWithLine ended w line left
whether ended w line left b = record { unbroken = b.unbroken; joined = first b.joined }
  where
    first : (w ≡ line ++ line_feed ∷ left) ⊎ IsLastLine false w line left → (w ≡ line ++ line_feed ∷ left) ⊎ IsLastLine ended w line left
    first (inl e) = inl e
    first (inr e) = let wrong : false ≡ true = e.over in cc

-- a test does not hold both ways
pub both_ways : (b : Bool) → b ≡ true → b ≡ false → ⊥
both_ways b t f = let same : true ≡ false = sym t ∙ f in cc

module _ {R A : Type 0} where
  -- what is left belongs to the line that is gathered
  pub gathers : (r : LineReader R A) (w : List ℕ) → r.given ≡ false → Keeps r w → (line : List ℕ) × Gathers r line (part_of r) × (w ≡ line ++ part_of r)
  gathers r w g (inl (t, e)) = absurd (both_ways r.given t g)
  gathers r w g (inr (line, left, h, e)) =
      (line, record { unbroken = h.unbroken; gathered = h.gathered; ungiven = g; left_is = refl }, e ∙ ap (λ l. line ++ l) (sym h.left_is))

  -- what was kept gave a line, or none
  pub taken_line : (w : List ℕ) (new : LineReader R A) (b : Bool) → b ≡ true → KeptAnswers w new (Ok b) → GivesLine false w new
  taken_line w new true e h = h
  taken_line w new false e h = let wrong : false ≡ true = e in cc

  pub taken_none : (w : List ℕ) (new : LineReader R A) (b : Bool) → b ≡ false → KeptAnswers w new (Ok b) → IsUnbroken w × Keeps new w
  taken_none w new true e h = let wrong : true ≡ false = e in cc
  taken_none w new false e h = h

  -- these bytes were added to the line
  abbrev pub Adds : LineReader R A → List ℕ → LineReader R A → Type 0
  Adds old piece new = (line : List ℕ) → IsWithin (most_of old) line (line_of old) → IsWithin (most_of old) (line ++ piece) (line_of new)

  -- those before the first line feed were added, and the line is given
  pub took_line : (old new : LineReader R A) (w : List ℕ) (k : ℕ) → old.given ≡ false → Keeps old w → IsFirstByte (is_byte 10) (part_of old) (Some k)
      → Adds old (take k (part_of old)) new → most_of new ≡ most_of old → new.given ≡ true → part_of new ≡ drop (k + 1) (part_of old) → GivesLine false w new
  took_line old new w k g kept found adds most given part =
      let (line, h, e) = gathers old w g kept in
      let first = first_feed (part_of old) k found in
      let begins = goes_on line (part_of old) (take k (part_of old)) (drop (k + 1) (part_of old)) w h.unbroken first e in
      record {
        line = line ++ take k (part_of old);
        left = drop (k + 1) (part_of old);
        begins = begins;
        within = subst (λ (n : ℕ). IsWithin n (line ++ take k (part_of old)) (line_of new)) (sym most) (adds line h.gathered);
        kept = inl (given, part);
      }

  -- it is given whether the input ends or not
  pub gives_whether : (w : List ℕ) (new : LineReader R A) → GivesLine false w new → GivesLine (is_ended new) w new
  gives_whether w new l = record { line = l.line; left = l.left; begins = whether (is_ended new) w l.line l.left l.begins; within = l.within; kept = l.kept }

  -- there is no line feed, and all was added
  pub took_all : (old new : LineReader R A) (w : List ℕ) → old.given ≡ false → Keeps old w → IsFirstByte (is_byte 10) (part_of old) None
      → Adds old (part_of old) new → most_of new ≡ most_of old → new.given ≡ false → part_of new ≡ [] → IsUnbroken w × Keeps new w
  took_all old new w g kept found adds most given part =
      let (line, h, e) = gathers old w g kept in
      let all = All-append (λ x. x ≢ line_feed) line (part_of old) h.unbroken (no_feed (part_of old) found) in (
        subst IsUnbroken (sym e) all,
        inr (
          line ++ part_of old,
          [],
          record {
            unbroken = all;
            gathered = subst (λ (n : ℕ). IsWithin n (line ++ part_of old) (line_of new)) (sym most) (adds line h.gathered);
            ungiven = given;
            left_is = part;
          },
          e ∙ sym (append-nil (line ++ part_of old)),
        ),
      )

  -- all that was read is the last line, or nothing was
  pub gave_rest : (old new : LineReader R A) (w : List ℕ) (empty : Bool) → old.given ≡ false → Keeps old w → part_of old ≡ [] → is_ended new ≡ true → line_of new ≡ line_of old
      → most_of new ≡ most_of old → part_of new ≡ [] → new.given ≡ not empty → ((line : List ℕ) → IsWithin (most_of old) line (line_of old) → IsTrue empty ↔ (line ≡ []))
      → NextAnswers w new (Ok (not empty))
  gave_rest old new w true g kept none ended same most part given empty =
      let (line, h, e) = gathers old w g kept in
      let nothing : line ≡ [] = (empty line h.gathered).0 refl in (
        e ∙ (ap (λ l. l ++ part_of old) nothing ∙ none),
        inr (
          [],
          [],
          record {
            unbroken = All-nil (λ x. x ≢ line_feed);
            gathered = subst (λ (n : ℕ). IsWithin n [] (line_of new)) (sym most) (subst (IsWithin (most_of old) []) (sym same) (subst (λ (l : List ℕ). IsWithin (most_of old) l (line_of old)) nothing h.gathered));
            ungiven = given;
            left_is = part;
          },
          refl,
        ),
        ended,
      )
  gave_rest old new w false g kept none ended same most part given empty =
      let (line, h, e) = gathers old w g kept in
      let all : w ≡ line = e ∙ (ap (λ l. line ++ l) none ∙ append-nil line) in
      let some : w ≢ [] = λ nothing. let wrong : false ≡ true = (empty line h.gathered).1 (sym all ∙ nothing) in cc in
      record {
        line = w;
        left = [];
        begins = record { unbroken = subst IsUnbroken (sym all) h.unbroken; joined = inr (record { over = ended; some = some; all = refl; none = refl }) };
        within = subst (λ (n : ℕ). IsWithin n w (line_of new)) (sym most) (subst (IsWithin (most_of old) w) (sym same) (subst (λ (l : List ℕ). IsWithin (most_of old) l (line_of old)) (sym all) h.gathered));
        kept = inl (given, part);
      }

  module _ (left : R → Option (List ℕ)) (calls : R → ℕ) (failures : R → ℕ) (w : List ℕ) where
    -- so much was read, and no line was given
    pub record HasRead (old now : LineReader R A) : Type 0 where
      pub reads : Reads left calls failures w old now
      pub kept : Keeps now (w ++ reads.bytes)

    abbrev pub reads_none : (old new : LineReader R A) → ReadsNothing old new → Reads left calls failures w old new
    reads_none old new n = record {
      bytes = [];
      pieces = [];
      called = n.source;
      joined_are = refl;
      needed = tt;
      found = inl (All-nil HasByte);
      few = All-nil (λ piece. length piece ≤ 65536);
      reads = n.reads ∙ omega arith;
      most_reads = n.most_reads;
      most = n.most;
      settled = λ e. (refl, n.ended ∙ e);
      at_end = λ end e. subst (λ (s : R). IsAtEnd (left s)) (sym n.source) (end (sym n.ended ∙ e));
    }

    pub has_begun : (old new : LineReader R A) → ReadsNothing old new → Keeps new w → HasRead old new
    has_begun old new n kept = record { reads = reads_none old new n; kept = subst (Keeps new) (sym (append-nil w)) kept }

    -- what a read found, if a step came that reads nothing
    pub found_still : (pieces : List (List ℕ)) (old mid new : LineReader R A) → ReadsNothing mid new
        → All HasByte pieces ⊎ ((is_ended mid ≡ true) ⊎ (failures (source_of mid) ≡ one_more (failures (source_of old))))
        → All HasByte pieces ⊎ ((is_ended new ≡ true) ⊎ (failures (source_of new) ≡ one_more (failures (source_of old))))
    found_still pieces old mid new n (inl all) = inl all
    found_still pieces old mid new n (inr (inl ended)) = inr (inl (n.ended ∙ ended))
    found_still pieces old mid new n (inr (inr failed)) = inr (inr (ap failures n.source ∙ failed))

    -- a step that reads nothing
    abbrev pub reads_still : (old mid new : LineReader R A) (r : Reads left calls failures w old mid) → ReadsNothing mid new → Reads left calls failures w old new
    reads_still old mid new r n = record {
      bytes = r.bytes;
      pieces = r.pieces;
      called = subst (ReadsPieces left calls (source_of old) r.pieces) (sym n.source) r.called;
      joined_are = r.joined_are;
      needed = r.needed;
      found = found_still r.pieces old mid new n r.found;
      few = r.few;
      reads = n.reads ∙ r.reads;
      most_reads = n.most_reads ∙ r.most_reads;
      most = n.most ∙ r.most;
      settled = λ e. ((r.settled e).0, n.ended ∙ (r.settled e).1);
      at_end = λ end e. subst (λ (s : R). IsAtEnd (left s)) (sym n.source) (r.at_end end (sym n.ended ∙ e));
    }

    -- and no line ends in what is kept
    pub record Wants (old now : LineReader R A) : Type 0 where
      pub so_far : HasRead old now
      pub unbroken : IsUnbroken (w ++ so_far.reads.bytes)

    pub wants : (old mid new : LineReader R A) (h : HasRead old mid) → ReadsNothing mid new → IsUnbroken (w ++ h.reads.bytes) × Keeps new (w ++ h.reads.bytes) → Wants old new
    wants old mid new h n k = record { so_far = record { reads = reads_still old mid new h.reads n; kept = k.1 }; unbroken = k.0 }

    pub found_after : (pieces : List (List ℕ)) (old mid new : LineReader R A) → ReadsNothing old mid
        → All HasByte pieces ⊎ ((is_ended new ≡ true) ⊎ (failures (source_of new) ≡ one_more (failures (source_of mid))))
        → All HasByte pieces ⊎ ((is_ended new ≡ true) ⊎ (failures (source_of new) ≡ one_more (failures (source_of old))))
    found_after pieces old mid new n (inl all) = inl all
    found_after pieces old mid new n (inr (inl ended)) = inr (inl ended)
    found_after pieces old mid new n (inr (inr failed)) = inr (inr (failed ∙ ap (λ (s : R). one_more (failures s)) n.source))

    -- what is read after a step that reads nothing
    abbrev pub reads_after : (old mid new : LineReader R A) → ReadsNothing old mid → Reads left calls failures w mid new → Reads left calls failures w old new
    reads_after old mid new n r = record {
      bytes = r.bytes;
      pieces = r.pieces;
      called = subst (λ (s : R). ReadsPieces left calls s r.pieces (source_of new)) n.source r.called;
      joined_are = r.joined_are;
      needed = r.needed;
      found = found_after r.pieces old mid new n r.found;
      few = r.few;
      reads = r.reads ∙ ap (λ k. k + length r.pieces) n.reads;
      most_reads = r.most_reads ∙ n.most_reads;
      most = r.most ∙ n.most;
      settled = λ e. r.settled (n.ended ∙ e);
      at_end = λ end e. r.at_end (λ f. subst (λ (s : R). IsAtEnd (left s)) (sym n.source) (end (sym n.ended ∙ f))) e;
    }

    -- an answer after a step that reads nothing
    pub answers : (old mid new : LineReader R A) (h : HasRead old mid) (result : Result Bool NoLine) → ReadsNothing mid new
        → NextAnswers (w ++ h.reads.bytes) new result → (r : Reads left calls failures w old new) × NextAnswers (w ++ r.bytes) new result
    answers old mid new h result n a = (reads_still old mid new h.reads n, a)

    -- each read gave a byte, if none failed and none found the end
    pub all_gave : (pieces : List (List ℕ)) (old mid : LineReader R A) → is_ended mid ≡ false → failures (source_of mid) ≡ failures (source_of old)
        → All HasByte pieces ⊎ ((is_ended mid ≡ true) ⊎ (failures (source_of mid) ≡ one_more (failures (source_of old)))) → All HasByte pieces
    all_gave pieces old mid open_ same (inl all) = all
    all_gave pieces old mid open_ same (inr (inl ended)) = absurd (both_ways (is_ended mid) ended open_)
    all_gave pieces old mid open_ same (inr (inr failed)) = absurd (omega (arith, same, failed))

    -- what one more read found
    abbrev pub Found : LineReader R A → List ℕ → LineReader R A → Type 0
    Found old bytes new = HasByte bytes ⊎ ((is_ended new ≡ true) ⊎ (failures (source_of new) ≡ one_more (failures (source_of old))))

    pub found_one : (pieces : List (List ℕ)) (old mid new : LineReader R A) (bytes : List ℕ) → All HasByte pieces → failures (source_of mid) ≡ failures (source_of old) → Found mid bytes new
        → All HasByte (bytes ∷ pieces) ⊎ ((is_ended new ≡ true) ⊎ (failures (source_of new) ≡ one_more (failures (source_of old))))
    found_one pieces old mid new bytes all same (inl some) = inl (All-cons HasByte bytes pieces some all)
    found_one pieces old mid new bytes all same (inr (inl ended)) = inr (inl ended)
    found_one pieces old mid new bytes all same (inr (inr failed)) = inr (inr (failed ∙ ap one_more same))

    -- a read gave a byte, or found the end
    pub gave_or_ended : (old new : LineReader R A) (bytes : List ℕ) (ended : Bool) → is_ended new ≡ ended → (ended ≡ false → HasByte bytes) → Found old bytes new
    gave_or_ended old new bytes true is some = inr (inl is)
    gave_or_ended old new bytes false is some = inl (some refl)

    -- one more read
    abbrev pub reads_one : (old mid new : LineReader R A) (h : HasRead old mid) (bytes : List ℕ) → IsUnbroken (w ++ h.reads.bytes) → mid.given ≡ false → part_of mid ≡ [] → is_ended mid ≡ false
        → failures (source_of mid) ≡ failures (source_of old) → Calls calls mid new → Fills left bytes mid new → Found mid bytes new → HasRead old new
    reads_one old mid new h bytes unbroken g none open_ same c f gave =
        let r = h.reads in
        let (line, l, e) = gathers mid (w ++ r.bytes) g h.kept in
        let all = all_gave r.pieces old mid open_ same r.found in
        record {
          reads = record {
            bytes = r.bytes ++ bytes;
            pieces = bytes ∷ r.pieces;
            called = (source_of mid, r.called, record { gave = f.consumed; counted = c.called });
            joined_are = ap (λ l. l ++ bytes) r.joined_are;
            needed = (subst (λ l. IsUnbroken (w ++ l)) r.joined_are unbroken, all);
            found = found_one r.pieces old mid new bytes all same gave;
            few = All-cons (λ piece. length piece ≤ 65536) bytes r.pieces f.few r.few;
            reads = c.reads ∙ omega (arith, r.reads);
            most_reads = c.most_reads ∙ r.most_reads;
            most = c.most ∙ r.most;
            settled = λ ended. absurd (both_ways (is_ended mid) (r.settled ended).1 open_);
            at_end = λ end ended. f.at_end ended;
          };
          kept = inr (
            line,
            bytes,
            record {
              unbroken = l.unbroken;
              gathered = subst (λ (n : ℕ). IsWithin n line (line_of new)) (sym c.most) (subst (IsWithin (most_of mid) line) (sym f.line) l.gathered);
              ungiven = f.same_given ∙ g;
              left_is = f.part;
            },
            sym (append_assoc w r.bytes bytes) ∙ ap (λ v. v ++ bytes) (e ∙ (ap (λ v. line ++ v) none ∙ append-nil line)),
          );
        }
