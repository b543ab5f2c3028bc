-- What was read and written so far, and a line more.
use Rattle.std.proofs.Common.{◌≡◌, ◌⊎◌, ℕ, suc, ◌+◌, ◌*◌, ◌^◌, ◌%◌, ◌≤◌, true, false, List, [], ◌∷◌, ◌++◌, Option, Err, length, take, refl, sym, ap, ◌∙◌, subst, inl, inr, append-nil, length-append, arith}
use Rattle.std.specs.Prelude.{◌||◌}
use Rattle.std.specs.Io.KnownBytes.{Consumes, IsAtEnd, Appends}
use Rattle.std.proofs.KnownBytes.{Appends-nil, Appends-trans, Consumes-nil, Consumes-trans}
use Rattle.dbus_device.specs.Device.{RisesBy, Stopped, Wrote, one_more}
use Rattle.dbus_device.specs.Calls.{joined}
use Rattle.dbus_device.specs.Packets.{Packets}
use Rattle.dbus_device.proofs.CallLaws.{pieces_consumed, pieces_counted, pieces_few}
use Rattle.cli_report.specs.Devices.{reading, taken, writing}
use Rattle.cli_report.specs.declared.ending.Cause.{Cause}
use Rattle.cli_report.specs.declared.ending.Cause.TheVariants.{Memory, ReadFailed, WriteFailed, TooManyReads}
use Rattle.cli_report.specs.Gathering.{Breaks, Passes, gathered_bytes}
use Rattle.cli_report.specs.PageLaws.{breaks_after, passes_both, passes_none}
use Rattle.cli_report.proofs.GatherSteps.{breaks_nothing, passes_nothing, passes_whole}
use Rattle.dbus_lines.specs.Gathering.{IsWithin}
use Rattle.dbus_lines.specs.Lines.{AreLines}
use Rattle.dbus_lines.specs.LineReading.{GivesLine, IsNewReader, Reads, is_ended, line_of, most_of, most_reads_of, reads_of, source_of}
use Rattle.dbus_lines.specs.declared.line_reader.LineReader.{LineReader}
use Rattle.dbus_lines.proofs.LineLaws.{lines_few, lines_go_on}
use Rattle.cli_encode.specs.Outcomes.{Outcome, Written, AreOutcomes, EndsAtRefused, IsOutcome, all_bytes, all_text, any_refused, bytes_of, is_refused, serial_after, text_of}
use Rattle.cli_encode.specs.Runs.{Came, CameAll, CameSome, LineAnswers, ReadFails, Settles}
use Rattle.cli_encode.specs.Steps.{IsNewEncoder, SameState, Takes, TakesNot}
use Rattle.cli_encode.specs.declared.ending.Stop.{Stop}
use Rattle.cli_encode.specs.declared.ending.Stop.TheVariants.{Cause as ByCause, Untold}
use Rattle.cli_encode.specs.declared.encoder.Encoder.{Encoder}
use Rattle.cli_encode.specs.declared.encoding.Encoding.{Encoding}
use Rattle.cli_encode.proofs.Outcomes.{any_push, are_push, as_many, bytes_push, ends_push, lines_push, serials_after, serials_push, text_push}

-- nothing was written
pub wrote_nothing : {W : Type 0} (held : W → Option (List ℕ)) (failures : W → ℕ) (w : W) → Wrote held failures w [] w
wrote_nothing held failures w = record { appended = Appends-nil (held w); failed = refl }

-- one after the other
pub wrote_both : {W : Type 0} (held : W → Option (List ℕ)) (failures : W → ℕ) (a b : List ℕ) (w0 w1 w2 : W) → Wrote held failures w0 a w1 → Wrote held failures w1 b w2
    → Wrote held failures w0 (a ++ b) w2
wrote_both held failures a b w0 w1 w2 p q = record { appended = Appends-trans _ _ _ _ _ p.appended q.appended; failed = q.failed ∙ p.failed }

-- and a write that failed after some bytes
pub stopped_after : {W : Type 0} (held : W → Option (List ℕ)) (failures : W → ℕ) (a b : List ℕ) (n : ℕ) (w0 w1 w2 : W) → Wrote held failures w0 a w1
    → Stopped held failures w1 b n w2 → Stopped held failures w0 (a ++ b) (length a + n) w2
stopped_after held failures a b n w0 w1 w2 p s = record {
  within = let all = length-append a b in let few = s.within in omega (arith, all, few);
  appended = subst (λ l. Appends (held w0) (held w2) l) (sym (front a)) (Appends-trans _ _ _ _ _ p.appended s.appended);
  failed = s.failed ∙ ap one_more p.failed;
}
  where
    front : (a : List ℕ) → take (length a + n) (a ++ b) ≡ a ++ take n b
    front [] = ap (λ k. take k b) (let same : 0 + n ≡ n = omega arith in same)
    front (x ∷ a) = ap (λ k. take k (x ∷ (a ++ b))) (let same : length (x ∷ a) + n ≡ suc (length a + n) = omega arith in same) ∙ ap (λ l. x ∷ l) (front a)

module _ {R A W E : Type 0} (left : R → Option (List ℕ)) (calls failures : R → ℕ) (packets : R → Option Packets) (held : W → Option (List ℕ)) (write_failures : W → ℕ)
    (second_held : E → Option (List ℕ)) (second_failures : E → ℕ) (encoding : Encoding) (old : LineReader R A) where
  -- the lines before what is kept were read, and this became of them
  pub record HasCome (kept : List ℕ) (now : LineReader R A) (outcomes : List Outcome) : Type 0 where
    pub bytes : List ℕ
    pub lines : List (List ℕ)
    pub count : ℕ
    pub consumed : Consumes (left (source_of old)) (left (source_of now)) bytes
    pub called : RisesBy count (calls (source_of old)) (calls (source_of now))
    pub reads : reads_of now ≡ count
    pub most_reads : most_reads_of now ≡ most_reads_of old
    pub most : most_of now ≡ encoding.most
    pub all_few : length bytes ≤ 65536 * count
    pub at_end : is_ended now ≡ true → IsAtEnd (left (source_of now))
    pub cut : AreLines (is_ended now) bytes lines kept
    pub are : AreOutcomes encoding 1 lines outcomes
    pub ends : EndsAtRefused encoding.keeps_going outcomes

  pub come_none : (most : ℕ) → IsNewReader (source_of old) most encoding.most old → HasCome [] old []
  come_none most r = record {
    bytes = [];
    lines = [];
    count = 0;
    consumed = Consumes-nil (left (source_of old));
    called = ap (λ n. n % 2 ^ 64) (omega arith);
    reads = r.reads;
    most_reads = refl;
    most = r.short;
    all_few = omega arith;
    at_end = λ e. let wrong : true ≡ false = sym e ∙ r.ended in cc;
    cut = refl;
    are = tt;
    ends = λ _ before last e. absurd (none before last e);
  }
    where
      none : (before : List Outcome) (last : Outcome) → [] ≡ before ++ last ∷ [] → ⊥
      none [] last e = cc
      none (x ∷ before) last e = cc

  -- more was read
  pub come_on : (kept : List ℕ) (now new : LineReader R A) (outcomes : List Outcome) → HasCome kept now outcomes → (r : Reads left calls failures kept now new) → HasCome (kept ++ r.bytes) new outcomes
  come_on kept now new outcomes h r = record {
    bytes = h.bytes ++ r.bytes;
    lines = h.lines;
    count = h.count + length r.pieces;
    consumed = Consumes-trans _ _ _ _ _ h.consumed
        (subst (Consumes (left (source_of now)) (left (source_of new))) (sym r.joined_are) (pieces_consumed left calls (source_of now) (source_of new) r.pieces r.called));
    called = let a = h.called in let b = pieces_counted left calls (source_of now) (source_of new) r.pieces r.called in omega (arith, a, b);
    reads = r.reads ∙ ap (λ k. k + length r.pieces) h.reads;
    most_reads = r.most_reads ∙ h.most_reads;
    most = r.most ∙ h.most;
    all_few = let a = h.all_few in let b = pieces_few 65536 r.pieces r.few in let same = ap length r.joined_are in let all = length-append h.bytes r.bytes in omega (arith, a, b, same, all);
    at_end = λ e. r.at_end h.at_end e;
    cut = subst (λ (ls : List (List ℕ)). AreLines (is_ended new) (h.bytes ++ r.bytes) ls (kept ++ r.bytes)) (append-nil h.lines)
        (lines_go_on (is_ended now) (is_ended new) h.bytes kept r.bytes (kept ++ r.bytes) h.lines [] over h.cut refl);
    are = h.are;
    ends = h.ends;
  }
    where
      over : is_ended now ≡ true → (r.bytes ≡ []) × (is_ended new ≡ true)
      over e = let s = r.settled e in (r.joined_are ∙ ap joined s.0, s.1)

  -- one line more
  pub come_more : (all : List ℕ) (now : LineReader R A) (outcomes : List Outcome) (h : HasCome all now outcomes) (l : GivesLine (is_ended now) all now) (done : Outcome)
      → IsOutcome encoding (serials_after outcomes 1) l.line done → (encoding.keeps_going ≡ false → any_refused outcomes ≡ false) → HasCome l.left now (outcomes ++ done ∷ [])
  come_more all now outcomes h l done is goes = record {
    bytes = h.bytes;
    lines = h.lines ++ l.line ∷ [];
    count = h.count;
    consumed = h.consumed;
    called = h.called;
    reads = h.reads;
    most_reads = h.most_reads;
    most = h.most;
    all_few = h.all_few;
    at_end = h.at_end;
    cut = lines_push (is_ended now) h.bytes all l.line l.left h.lines h.cut l.begins;
    are = are_push encoding 1 h.lines outcomes l.line done h.are is;
    ends = ends_push encoding.keeps_going outcomes done goes;
  }

  -- of lines there are few
  pub come_few : (kept : List ℕ) (now : LineReader R A) (outcomes : List Outcome) (h : HasCome kept now outcomes) → length outcomes ≤ 65536 * reads_of now
  come_few kept now outcomes h =
      let same = as_many encoding 1 h.lines outcomes h.are in
      let few = lines_few (is_ended now) h.bytes kept h.lines h.cut in
      let bytes = h.all_few in
      let reads = h.reads in
      omega (arith, same, few, bytes, reads)

  module _ (w0 : W) (e0 : E) where
    abbrev Came_by : (now : LineReader R A) (w1 : W) (e1 : E) → List Outcome → Type 0
    Came_by now w1 e1 outcomes =
        Came (taken (reading left calls failures packets (source_of old) (source_of now))) (writing held write_failures w0 w1) (writing second_held second_failures e0 e1) encoding (most_reads_of old) outcomes

    abbrev pub came : (kept : List ℕ) (now : LineReader R A) (w1 : W) (e1 : E) (outcomes : List Outcome) → HasCome kept now outcomes → Came_by now w1 e1 outcomes
    came kept now w1 e1 outcomes h = record {
      bytes = h.bytes;
      lines = h.lines;
      left = kept;
      ended = is_ended now;
      consumed = h.consumed;
      called = (h.count, (let few = now.few in let reads = h.reads in let most = h.most_reads in omega (arith, few, reads, most)), h.called);
      at_end = h.at_end;
      cut = h.cut;
      are = h.are;
      ends = h.ends;
    }

    -- and this was written and told of them
    pub record HasEncoded (kept : List ℕ) (now : LineReader R A) (encoder : Encoder A) (w1 : W) (e1 : E) : Type 0 where
      pub outcomes : List Outcome
      pub come : HasCome kept now outcomes
      pub serial : encoder.serial ≡ serials_after outcomes 1
      pub number : encoder.number ≡ length outcomes
      pub encoding_is : encoder.encoding ≡ encoding
      pub refused : encoder.refused ≡ any_refused outcomes
      pub passes : Passes held write_failures (all_bytes outcomes) [] (gathered_bytes encoder.gathered) w0 w1
      pub tells : Wrote second_held second_failures e0 (all_text 1 outcomes) e1
      pub failed : failures (source_of now) ≡ failures (source_of old)

    pub begins : (most : ℕ) (encoder : Encoder A) → IsNewReader (source_of old) most encoding.most old → IsNewEncoder encoder → encoder.encoding ≡ encoding
        → HasEncoded [] old encoder w0 e0
    begins most encoder r n same = record {
      outcomes = [];
      come = come_none most r;
      serial = n.serial;
      number = n.number;
      encoding_is = same;
      refused = n.refused;
      passes = subst (λ (g : List ℕ). Passes held write_failures [] [] g w0 w0) (sym n.nothing) (passes_none held write_failures [] w0);
      tells = wrote_nothing second_held second_failures e0;
      failed = refl;
    }

    -- more was read, and what was gathered may have been written
    pub reads_on : (kept : List ℕ) (now new : LineReader R A) (encoder after : Encoder A) (w1 w2 : W) (e1 : E) → HasEncoded kept now encoder w1 e1 → (r : Reads left calls failures kept now new)
        → SameState encoder after → Passes held write_failures [] (gathered_bytes encoder.gathered) (gathered_bytes after.gathered) w1 w2 → failures (source_of new) ≡ failures (source_of now)
        → HasEncoded (kept ++ r.bytes) new after w2 e1
    reads_on kept now new encoder after w1 w2 e1 h r same p f = record {
      outcomes = h.outcomes;
      come = come_on kept now new h.outcomes h.come r;
      serial = same.serial ∙ h.serial;
      number = same.number ∙ h.number;
      encoding_is = same.encoding ∙ h.encoding_is;
      refused = same.refused ∙ h.refused;
      passes = passes_nothing held write_failures (all_bytes h.outcomes) [] (gathered_bytes encoder.gathered) (gathered_bytes after.gathered) w0 w1 w2 h.passes p;
      tells = h.tells;
      failed = f ∙ h.failed;
    }

    -- what becomes of the next line, by what the encoder has
    outcome_here : (kept : List ℕ) (now : LineReader R A) (encoder : Encoder A) (w1 : W) (e1 : E) (h : HasEncoded kept now encoder w1 e1) (line : List ℕ) (done : Outcome)
        → IsOutcome encoder.encoding encoder.serial line done → IsOutcome encoding (serials_after h.outcomes 1) line done
    outcome_here kept now encoder w1 e1 h line done is =
        subst (λ (n : ℕ). IsOutcome encoding n line done) h.serial (subst (λ (c : Encoding). IsOutcome c encoder.serial line done) h.encoding_is is)

    -- the line that was given was taken
    pub takes_on : (all : List ℕ) (now : LineReader R A) (encoder after : Encoder A) (w1 w2 : W) (e1 e2 : E) (h : HasEncoded all now encoder w1 e1) (l : GivesLine (is_ended now) all now)
        (done : Outcome) → (encoding.keeps_going ≡ false → encoder.refused ≡ false) → Takes held write_failures second_held second_failures l.line done encoder after w1 w2 e1 e2
        → HasEncoded l.left now after w2 e2
    takes_on all now encoder after w1 w2 e1 e2 h l done goes t =
        let count : after.number ≡ 1 + length h.outcomes = (let n = h.number in let m = t.number in omega (arith, n, m)) in
        record {
          outcomes = h.outcomes ++ done ∷ [];
          come = come_more all now h.outcomes h.come l done (outcome_here all now encoder w1 e1 h l.line done t.is) (λ e. sym h.refused ∙ goes e);
          serial = t.serial ∙ (ap (λ n. serial_after done n) h.serial ∙ sym (serials_push h.outcomes done 1));
          number = (let many = length-append h.outcomes (done ∷ []) in omega (arith, count, many));
          encoding_is = t.encoding ∙ h.encoding_is;
          refused = t.refused ∙ (ap (λ b. b || is_refused done) h.refused ∙ sym (any_push h.outcomes done));
          passes = subst (λ (b : List ℕ). Passes held write_failures b [] (gathered_bytes after.gathered) w0 w2) (sym (bytes_push h.outcomes done))
              (passes_both held write_failures (all_bytes h.outcomes) (bytes_of done) [] (gathered_bytes encoder.gathered) (gathered_bytes after.gathered) w0 w1 w2 h.passes t.passes);
          tells = subst (λ (b : List ℕ). Wrote second_held second_failures e0 b e2) (sym (text_push 1 after.number h.outcomes done count))
              (wrote_both second_held second_failures (all_text 1 h.outcomes) (text_of after.number done) e0 e1 e2 h.tells t.tells);
          failed = h.failed;
        }

    abbrev Came_some : (now : LineReader R A) (w1 : W) (e1 : E) → Stop → Type 0
    Came_some now w1 e1 stop =
        CameSome (taken (reading left calls failures packets (source_of old) (source_of now))) (writing held write_failures w0 w1) (writing second_held second_failures e0 e1) encoding (most_reads_of old) stop

    -- all came
    pub came_all : (kept : List ℕ) (now : LineReader R A) (encoder : Encoder A) (w1 : W) (e1 : E) (h : HasEncoded kept now encoder w1 e1) → gathered_bytes encoder.gathered ≡ []
        → ((kept ≡ []) × (is_ended now ≡ true)) ⊎ ((encoding.keeps_going ≡ false) × (encoder.refused ≡ true))
        → CameAll (taken (reading left calls failures packets (source_of old) (source_of now))) (writing held write_failures w0 w1) (writing second_held second_failures e0 e1) encoding (most_reads_of old) encoder.refused
    came_all kept now encoder w1 e1 h none over = record {
      outcomes = h.outcomes;
      came = came kept now w1 e1 h.outcomes h.come;
      over = over;
      refused_is = h.refused;
      read_failed = h.failed;
      first = passes_whole held write_failures (all_bytes h.outcomes) [] (gathered_bytes encoder.gathered) w0 w1 refl none h.passes;
      second = h.tells;
    }

    -- no line came, for this cause
    pub stops_reading : (cause : Cause) (kept : List ℕ) (now new : LineReader R A) (encoder after : Encoder A) (w1 w2 : W) (e1 : E) (h : HasEncoded kept now encoder w1 e1)
        (r : Reads left calls failures kept now new) → LineAnswers (kept ++ r.bytes) new (Err cause) → Settles held write_failures (gathered_bytes encoder.gathered) (gathered_bytes after.gathered) w1 w2 (Err cause)
        → ReadFails (failures (source_of now)) (failures (source_of new)) (Err cause) → Came_some new w2 e1 (ByCause cause)
    stops_reading Memory kept now new encoder after w1 w2 e1 h r a s f = record {
      outcomes = h.outcomes;
      came = came (kept ++ r.bytes) new w2 e1 h.outcomes (come_on kept now new h.outcomes h.come r);
      all = tt;
      caused = f ∙ h.failed;
      first = passes_whole held write_failures (all_bytes h.outcomes) [] (gathered_bytes after.gathered) w0 w2 refl s.1 (passes_nothing held write_failures (all_bytes h.outcomes) [] (gathered_bytes encoder.gathered) (gathered_bytes after.gathered) w0 w1 w2 h.passes s.0);
      second = h.tells;
    }
    stops_reading ReadFailed kept now new encoder after w1 w2 e1 h r a s f = record {
      outcomes = h.outcomes;
      came = came (kept ++ r.bytes) new w2 e1 h.outcomes (come_on kept now new h.outcomes h.come r);
      all = a.1;
      caused = f ∙ ap one_more h.failed;
      first = passes_whole held write_failures (all_bytes h.outcomes) [] (gathered_bytes after.gathered) w0 w2 refl s.1 (passes_nothing held write_failures (all_bytes h.outcomes) [] (gathered_bytes encoder.gathered) (gathered_bytes after.gathered) w0 w1 w2 h.passes s.0);
      second = h.tells;
    }
    stops_reading TooManyReads kept now new encoder after w1 w2 e1 h r a s f =
        let come = come_on kept now new h.outcomes h.come r in
        record {
          outcomes = h.outcomes;
          came = came (kept ++ r.bytes) new w2 e1 h.outcomes come;
          all = a.1;
          caused = (f ∙ h.failed, subst (λ (n : ℕ). RisesBy n (calls (source_of old)) (calls (source_of new))) (sym come.reads ∙ (a.2 ∙ come.most_reads)) come.called);
          first = passes_whole held write_failures (all_bytes h.outcomes) [] (gathered_bytes after.gathered) w0 w2 refl s.1 (passes_nothing held write_failures (all_bytes h.outcomes) [] (gathered_bytes encoder.gathered) (gathered_bytes after.gathered) w0 w1 w2 h.passes s.0);
          second = h.tells;
        }
    stops_reading WriteFailed kept now new encoder after w1 w2 e1 h r a s f = record {
      outcomes = h.outcomes;
      came = came (kept ++ r.bytes) new w2 e1 h.outcomes (come_on kept now new h.outcomes h.come r);
      all = tt;
      caused = f ∙ h.failed;
      first = breaks_nothing held write_failures (all_bytes h.outcomes) [] (gathered_bytes encoder.gathered) w0 w1 w2 h.passes s;
      second = h.tells;
    }

    -- the line that was given was not taken
    pub stops_taking : (stop : Stop) (all : List ℕ) (now : LineReader R A) (encoder : Encoder A) (w1 w2 : W) (e1 e2 : E) (h : HasEncoded all now encoder w1 e1) (l : GivesLine (is_ended now) all now)
        → (encoding.keeps_going ≡ false → encoder.refused ≡ false) → TakesNot held write_failures second_held second_failures stop l.line encoder w1 w2 e1 e2 → Came_some now w2 e2 stop
    stops_taking (ByCause Memory) all now encoder w1 w2 e1 e2 h l goes t = record {
      outcomes = h.outcomes;
      came = came all now w2 e2 h.outcomes h.come;
      all = tt;
      caused = h.failed;
      first = passes_whole held write_failures (all_bytes h.outcomes) [] [] w0 w2 refl refl (passes_nothing held write_failures (all_bytes h.outcomes) [] (gathered_bytes encoder.gathered) [] w0 w1 w2 h.passes t.0);
      second = subst (λ (e : E). Wrote second_held second_failures e0 (all_text 1 h.outcomes) e) (sym t.1) h.tells;
    }
    stops_taking (ByCause ReadFailed) all now encoder w1 w2 e1 e2 h l goes t = absurd t
    stops_taking (ByCause TooManyReads) all now encoder w1 w2 e1 e2 h l goes t = absurd t
    stops_taking (ByCause WriteFailed) all now encoder w1 w2 e1 e2 h l goes (same, inl b) = record {
      outcomes = h.outcomes;
      came = came all now w2 e2 h.outcomes h.come;
      all = tt;
      caused = h.failed;
      first = breaks_nothing held write_failures (all_bytes h.outcomes) [] (gathered_bytes encoder.gathered) w0 w1 w2 h.passes b;
      second = subst (λ (e : E). Wrote second_held second_failures e0 (all_text 1 h.outcomes) e) (sym same) h.tells;
    }
    stops_taking (ByCause WriteFailed) all now encoder w1 w2 e1 e2 h l goes (same, inr (bytes, is, b)) =
        let done = Written bytes in
        record {
          outcomes = h.outcomes ++ done ∷ [];
          came = came l.left now w2 e2 (h.outcomes ++ done ∷ []) (come_more all now h.outcomes h.come l done (outcome_here all now encoder w1 e1 h l.line done is) (λ e. sym h.refused ∙ goes e));
          all = tt;
          caused = h.failed;
          first = subst (λ (x : List ℕ). Breaks held write_failures x [] w0 w2) (sym (bytes_push h.outcomes done))
              (breaks_after held write_failures (all_bytes h.outcomes) bytes [] (gathered_bytes encoder.gathered) w0 w1 w2 h.passes b);
          second = subst (λ (e : E). Wrote second_held second_failures e0 (all_text 1 (h.outcomes ++ done ∷ [])) e) (sym same)
              (subst (λ (x : List ℕ). Wrote second_held second_failures e0 x e1) (sym (text_push 1 (1 + length h.outcomes) h.outcomes done refl ∙ append-nil (all_text 1 h.outcomes))) h.tells);
        }
    stops_taking Untold all now encoder w1 w2 e1 e2 h l goes (done, is, p, (n, s)) =
        let count : encoder.number + 1 ≡ 1 + length h.outcomes = (let m = h.number in omega (arith, m)) in
        record {
          outcomes = h.outcomes ++ done ∷ [];
          came = came l.left now w2 e2 (h.outcomes ++ done ∷ []) (come_more all now h.outcomes h.come l done (outcome_here all now encoder w1 e1 h l.line done is) (λ e. sym h.refused ∙ goes e));
          all = tt;
          caused = h.failed;
          first = passes_whole held write_failures (all_bytes (h.outcomes ++ done ∷ [])) [] [] w0 w2 refl refl
              (subst (λ (b : List ℕ). Passes held write_failures b [] [] w0 w2) (sym (bytes_push h.outcomes done)) (passes_both held write_failures (all_bytes h.outcomes) (bytes_of done) [] (gathered_bytes encoder.gathered) [] w0 w1 w2 h.passes p));
          second = (
            length (all_text 1 h.outcomes) + n,
            subst (λ (b : List ℕ). Stopped second_held second_failures e0 b (length (all_text 1 h.outcomes) + n) e2) (sym (text_push 1 (encoder.number + 1) h.outcomes done count))
                (stopped_after second_held second_failures (all_text 1 h.outcomes) (text_of (encoder.number + 1) done) n e0 e1 e2 h.tells s),
          );
        }

    -- of lines there are few
    pub few_lines : (kept : List ℕ) (now : LineReader R A) (encoder : Encoder A) (w1 : W) (e1 : E) → HasEncoded kept now encoder w1 e1 → most_reads_of old ≤ 2 ^ 32 → encoder.number ≤ 2 ^ 48
    few_lines kept now encoder w1 e1 h few =
        let all = come_few kept now h.outcomes h.come in
        let number = h.number in
        let reads = now.few in
        let most = h.come.most_reads in
        omega (arith, all, number, reads, most, few)

    -- the line that was given is within the encoder's limit
    pub fits : (all : List ℕ) (now : LineReader R A) (encoder : Encoder A) (w1 : W) (e1 : E) → HasEncoded all now encoder w1 e1 → (l : GivesLine (is_ended now) all now) (line : Option (List ℕ))
        → line ≡ line_of now → IsWithin encoder.encoding.most l.line line
    fits all now encoder w1 e1 h l line e =
        subst (λ (n : ℕ). IsWithin n l.line line) (h.come.most ∙ sym (ap (λ (c : Encoding). c.most) h.encoding_is)) (subst (IsWithin (most_of now) l.line) (sym e) l.within)
