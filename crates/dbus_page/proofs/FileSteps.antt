-- What a capture has read of its file, and the fault of the file.
use Rattle.std.proofs.Common.{◌≡◌, ◌≢◌, ◌⊎◌, ℕ, ◌<◌, List, [], ◌++◌, length, take, true, false, Option, None, Some, Ok, Err, arith, length-append, inl, inr, is_some, refl, sym, ap, subst, ◌∙◌, append-nil}
use Rattle.std.specs.Io.KnownBytes.{Consumes, IsAtEnd, prepend_known}
use Rattle.std.proofs.KnownBytes.{Consumes-nil, Consumes-trans}
use Rattle.dbus_device.specs.Device.{one_more}
use Rattle.dbus_device.specs.declared.device_fault.DeviceFault.{DeviceFault}
use Rattle.dbus_page.specs.Failing.{MayFail}
use Rattle.dbus_capture.specs.Beginnings.{first_scan, first_stage}
use Rattle.dbus_capture.specs.Captures.{Begins, Ends, Reads, ReadsOn, ReadsPart, ReadsInput, Waits, chosen_of, file_of, kept_of, known, opened, opened_of, owed_of, packets_by, packets_of, scan_of, source_of}
use Rattle.dbus_capture.specs.Scans.{fresh}
use Rattle.dbus_capture.specs.Stages.{begun}
use Rattle.dbus_capture.specs.Steps.{ended, packet_given, run}
use Rattle.dbus_capture.specs.declared.stage.Stage.TheVariants.{Raw}
use Rattle.dbus_capture.specs.declared.input.Input.{Input}
use Rattle.dbus_capture.specs.declared.fault.CaptureFault.{CaptureFault}
use Rattle.dbus_capture.specs.declared.scan.Scan.{Scan}
use Rattle.dbus_capture.proofs.StepLaws.{run-append, stopped_after}
use Rattle.dbus_capture.proofs.Choices.{when_false}
use Rattle.dbus_capture.proofs.BeginSteps.{fetched_file, opened_chosen, opened_known, opened_waiting, waiting_fault}

front_of : (a b : Option (List ℕ)) (used bytes : List ℕ) → Consumes a b used → a ≡ Some bytes → (rest : List ℕ) × (b ≡ Some rest) × (bytes ≡ used ++ rest)
front_of None b used bytes c is = absurd cc
front_of (Some x) None used bytes c is = absurd c
front_of (Some x) (Some rest) used bytes c is = let same : x ≡ bytes = cc in (rest, refl, sym same ∙ c)

none_left : (kept : List ℕ) (left : Option (List ℕ)) (rest : List ℕ) → kept ≡ [] → IsAtEnd left → prepend_known kept left ≡ Some rest → rest ≡ []
none_left kept None rest none end is = absurd cc
none_left kept (Some x) rest none end is = let same : kept ++ x ≡ rest = cc in sym same ∙ (ap (λ (l : List ℕ). l ++ x) none ∙ end)

some_fault : (o : Option CaptureFault) → is_some o ≡ true → (f : CaptureFault) × (o ≡ Some f)
some_fault None some = absurd cc
some_fault (Some f) some = (f, refl)

-- of which packet each byte is of a file of which nothing was read
pub packets_at_first : {R : Type 0} (left : R → Option (List ℕ)) (s : Input R) (bytes : List ℕ) → owed_of s ≡ [] → kept_of s ≡ [] → chosen_of s ≡ false → scan_of s ≡ fresh false Raw
    → left (source_of s) ≡ Some bytes → packets_of left s ≡ Some (packet_given (first_scan false bytes) bytes)
packets_at_first left s bytes owed kept chosen scan there =
    let is : file_of left s ≡ Some bytes = ap (λ (k : List ℕ). prepend_known k (left (source_of s))) kept ∙ ap (λ (o : Option (List ℕ)). prepend_known [] o) there in
    let begins : opened s bytes ≡ first_scan false bytes = when_false _ _ _ chosen ∙ ap (λ (v : Scan). record v { head = begun (first_stage bytes) }) scan in
    ap (λ (o : Option (List ℕ)). packets_by (owed_of s) (opened s (known o)) o) is
    ∙ (ap (λ (l : List ℕ). packets_by l (opened s bytes) (Some bytes)) owed ∙ ap (λ (v : Scan). packets_by [] v (Some bytes)) begins)

-- bytes of the file were taken, and what is kept of them is this
pub record Ran {R : Type 0} (left : R → Option (List ℕ)) (old now : Input R) : Type 0 where
  pub used : List ℕ
  pub consumed : Consumes (file_of left old) (file_of left now) used
  pub ran : (bytes : List ℕ) → file_of left old ≡ Some bytes → run (opened old bytes) used ≡ opened_of left now

module _ {R : Type 0} (left : R → Option (List ℕ)) (calls failures : R → ℕ) where
  pub ran_nothing : (s : Input R) → Ran left s s
  unfolding run
  ran_nothing s = record { used = []; consumed = Consumes-nil (file_of left s); ran = λ bytes is. ap (λ (o : Option (List ℕ)). opened s (known o)) (sym is) }

  module _ (old now : Input R) (r : Ran left old now) where
    -- what is kept once it is known what the input is
    module _ (mid new : Input R) (b : Begins left calls failures now mid) where
      at_mid : (bytes : List ℕ) → file_of left old ≡ Some bytes → run (opened old bytes) r.used ≡ scan_of mid
      at_mid bytes is =
          let front = front_of (file_of left old) (file_of left now) r.used bytes r.consumed is in
          r.ran bytes is ∙ opened_known left calls failures now mid front.0 b front.1

      consumes_on : (used : List ℕ) → Consumes (file_of left mid) (file_of left new) used → Consumes (file_of left old) (file_of left new) (r.used ++ used)
      consumes_on used c =
          Consumes-trans (file_of left old) (file_of left now) (file_of left new) r.used used r.consumed
          (Consumes-trans (file_of left now) (file_of left mid) (file_of left new) [] used (fetched_file left calls failures now mid b.fetches) c)

      pub ran_on : (out : List ℕ) → Reads left mid new out → chosen_of new ≡ true → Ran left old new
      ran_on out p chosen = record {
        used = r.used ++ p.used;
        consumed = consumes_on p.used p.consumed;
        ran = λ bytes is. run-append (opened old bytes) r.used p.used ∙ (ap (λ (s : Scan). run s p.used) (at_mid bytes is) ∙ (p.leads.ran ∙ sym (opened_chosen new (known (file_of left new)) chosen)));
      }

      -- at the end of the file
      pub ended_fault : (bytes : List ℕ) → Ends left mid new → file_of left old ≡ Some bytes → (ended (run (opened old bytes) bytes)).fault ≡ (scan_of new).fault
      ended_fault bytes e is =
          let all = consumes_on e.used e.consumed in
          let front = front_of (file_of left old) (file_of left new) (r.used ++ e.used) bytes all is in
          let none = none_left (kept_of new) (left (source_of new)) front.0 e.nothing e.at_end front.1 in
          let whole : bytes ≡ r.used ++ e.used = front.2 ∙ (ap (λ (l : List ℕ). (r.used ++ e.used) ++ l) none ∙ append-nil (r.used ++ e.used)) in
          let joined : run (opened old bytes) (r.used ++ e.used) ≡ run (scan_of mid) e.used = run-append (opened old bytes) r.used e.used ∙ ap (λ (s : Scan). run s e.used) (at_mid bytes is) in
          ap (λ (l : List ℕ). (ended (run (opened old bytes) l)).fault) whole ∙ (ap (λ (s : Scan). (ended s).fault) joined ∙ ap (λ (s : Scan). s.fault) (sym e.ran))

    waited : (new : Input R) (n : ℕ) (room : ℕ) → Waits left calls failures now new (Ok n) room → Ran left old new
    waited new n room w = record {
      used = r.used;
      consumed = subst (Consumes (file_of left old) (file_of left new)) (append-nil r.used) (Consumes-trans (file_of left old) (file_of left now) (file_of left new) r.used [] r.consumed (fetched_file left calls failures now new w.fetches));
      ran = λ bytes is.
          let front = front_of (file_of left old) (file_of left now) r.used bytes r.consumed is in
          r.ran bytes is ∙ opened_waiting left calls failures now new (Ok n) room front.0 w front.1;
    }

  -- after a fault no byte changes anything
  stopped_fault : (old new : Input R) (bytes : List ℕ) → Ran left old new → (opened_of left new).fault ≡ (scan_of new).fault → is_some (scan_of new).fault ≡ true → file_of left old ≡ Some bytes
      → (ended (run (opened old bytes) bytes)).fault ≡ (scan_of new).fault
  stopped_fault old new bytes r same some is =
      let front = front_of (file_of left old) (file_of left new) r.used bytes r.consumed is in
      let f = some_fault (scan_of new).fault some in
      ap (λ (l : List ℕ). (ended (run (opened old bytes) l)).fault) front.2 ∙ (stopped_after (opened old bytes) (opened_of left new) r.used front.0 f.0 (r.ran bytes is) (same ∙ f.1) ∙ sym f.1)

  module _ (old now new : Input R) (buffer : List ℕ) (r : Ran left old now) where
    pub input_ran : (n : ℕ) → ReadsInput left calls failures now new (Ok n) buffer → n ≢ 0 → Ran left old new
    input_ran n (inr w) some = absurd (some w.nothing.0)
    input_ran n (inl i) some = elim i.part.1 [ inl g ↦ ran_on old now r i.mid new i.begins (take n buffer) g.0 i.chosen | inr e ↦ absurd (some e.0) ]

    pub end_fault : (n : ℕ) (bytes : List ℕ) → ReadsInput left calls failures now new (Ok n) buffer → n ≡ 0 → 0 < length buffer → file_of left old ≡ Some bytes
        → (ended (run (opened old bytes) bytes)).fault ≡ (scan_of new).fault
    end_fault n bytes (inr w) none room is =
        stopped_fault old new bytes (waited old now r new n (length buffer) w) (waiting_fault left calls failures now new (Ok n) (length buffer) w) (w.nothing.1 room).0 is
    end_fault n bytes (inl i) none room is =
        elim i.part.1 [
          | inl g ↦
              stopped_fault old new bytes (ran_on old now r i.mid new i.begins (take n buffer) g.0 i.chosen)
              (ap (λ (s : Scan). s.fault) (opened_chosen new (known (file_of left new)) i.chosen)) (g.1 none room).0 is
          | inr e ↦ ended_fault old now r i.mid new i.begins bytes e.1 is
        ]

    pub input_unfailed : (n : ℕ) → ReadsInput left calls failures now new (Ok n) buffer → failures (source_of new) ≡ failures (source_of now)
    input_unfailed n (inl i) = i.part.0.source ∙ i.begins.unfailed
    input_unfailed n (inr w) = w.counted

    -- a read that fails
    pub read_fails : (e : DeviceFault) (bytes : List ℕ) → failures (source_of now) ≡ failures (source_of old) → file_of left old ≡ Some bytes
        → ReadsInput left calls failures now new (Err e) buffer → MayFail (failures (source_of old)) (failures (source_of new)) bytes
    read_fails e bytes same is (inr w) = inl (w.counted ∙ ap one_more same)
    read_fails e bytes same is (inl i) = part_fails i.part
      where
        part_fails : ReadsPart left failures i.mid new (Err e) buffer → MayFail (failures (source_of old)) (failures (source_of new)) bytes
        part_fails (inl s) = inl (s.source ∙ ap one_more (i.begins.unfailed ∙ same))
        part_fails (inr u) =
            let used = u.reads.used in
            let front = front_of (file_of left old) (file_of left new) (r.used ++ used) bytes (consumes_on old now r i.mid new i.begins used u.reads.consumed) is in
            inr (omega (arith, u.many, ap length front.2, length-append (r.used ++ used) front.0, length-append r.used used))
