-- Words name one thing: a command but for where its rules and owners are kept, one list of
-- settings, one form of tables, one side.
use Rattle.std.proofs.Common.{◌≡◌, ◌≢◌, ◌⊎◌, ◌↔◌, ℕ, ◌+◌, ◌*◌, ◌≤◌, Bool, true, false, not, ◌&&◌, ◌||◌, nat_eq, if◌then◌else◌, List, [], ◌∷◌, ◌++◌, map, None, Some, Option, IsTrue, codes, slice_index, refl, sym, ap, ◌∙◌, subst, arith, inl, inr, Result, Ok, Err, append-nil}
use Rattle.std.specs.List.{AllByRecursion, flat_map, list_any}
use Rattle.std.specs.Str.{bytes_eq}
use Rattle.std.proofs.Math.Path.{fun_ext, transport}
use Rattle.std.specs.Option.{option_map}
use Rattle.std.specs.declared.alloc.Global.{Global}
use Rattle.std.proofs.lemmas.Bool.{false≢true}
use Rattle.std.proofs.Math.Bridge.{le_prop}
use mathlib.Core.HLevel.{is_prop→PathP}
use Rattle.clap.specs.Words.{Row, Text, subcommand_of}
use Rattle.clap.proofs.WalkLemmas.{list_any-map}
use Rattle.dbus_texts.specs.Kinds.{IsElement, IsJoined, IsBusName, each_after, is_dashed, is_dashed_start}
use Rattle.dbus_value_model.specs.declared.fd_rule.FdRule.{FdRule}
use Rattle.dbus_value_model.specs.declared.fd_rule.FdRule.TheVariants.{Any, BelowCount}
use Rattle.dbus_value_model.specs.declared.limits.Limits.{Limits}
use Rattle.dbus_value_model.specs.declared.order.Order.{Order}
use Rattle.dbus_value_model.specs.declared.order.Order.TheVariants.{Little, Big}
use Rattle.dbus_device.specs.Packets.{Packets}
use Rattle.dbus_device.specs.declared.packet.Packet.{Packet}
use Rattle.dbus_handshake_input.specs.declared.side.Side.{Side}
use Rattle.dbus_handshake_input.specs.declared.side.Side.TheVariants.{Client, Server}
use Rattle.dbus_calls.specs.Answering.{is_ownable}
use Rattle.dbus_rule.proofs.Unique.{one_rule}
use Rattle.dbus_rule.specs.Rules.{sender_of}
use Rattle.dbus_match.specs.declared.owner.Owner.{Owner}
use Rattle.dbus_rule.specs.declared.rule.Rule.{Rule}
use Rattle.dbus_match.specs.Matching.{Ownership, ownership, ownerships}
use Rattle.dbus_rule.specs.RuleViews.{rule_pairs}
use Rattle.cli_options.specs.CommandLine.{wire_app}
use Rattle.cli_options.specs.Limiting.{HasLimits, HasResync, HasWindow, IsGiven, IsGivenNumber, IsNumberOf, IsRuleOf, is_on}
use Rattle.cli_options.specs.Named.{AreRulesOf, HasEncoding, HasQuestion, HasSelection, HasSettings, HasWanted, IsNamedBy, IsSelectionGiven, Names, NamesTask, rules_given, words_of}
use Rattle.cli_options.specs.Worded.{fds_word, order_word, side_word}
use Rattle.cli_options.specs.Owners.{AreOwnersOf, IsOwnerWord, lacks_owner, needs_owner, selection_lacks_owner, some_needs_owner, some_owns}
use Rattle.cli_options.specs.Selections.{AreSameSelected, AreSameSelection}
use Rattle.cli_options.specs.declared.asked.Asked.{Asked}
use Rattle.cli_options.specs.declared.asked.Asked.TheVariants.{Messages, Encode, Handshake}
use Rattle.cli_options.specs.declared.command.Output.TheVariants as output
use Rattle.cli_options.specs.declared.command.Request.{Request}
use Rattle.cli_options.specs.declared.command.Task.{Task}
use Rattle.cli_options.specs.declared.command.Task.TheVariants.{Write, Count, Lines, Calls}
use Rattle.cli_options.specs.declared.file_form.FileForm.{FileForm}
use Rattle.cli_options.specs.declared.file_form.FileForm.TheVariants as files
use Rattle.cli_options.specs.declared.resync.Resync.{Resync}
use Rattle.cli_options.specs.declared.resync.Resync.TheVariants.{Off, Within}
use Rattle.cli_options.specs.declared.selection.Question.{Question}
use Rattle.cli_options.specs.declared.selection.Question.TheVariants as questions
use Rattle.cli_options.specs.declared.selection.Selection.{Selection}
use Rattle.cli_options.specs.declared.settings.Settings.{Settings}
use Rattle.cli_options.specs.declared.wanted_calls.WantedCalls.{WantedCalls}
use Rattle.cli_options.specs.declared.wanted_encoding.WantedEncoding.{WantedEncoding}
use Rattle.cli_options.specs.declared.window.Window.{Window}
use Rattle.dbus_handshake_input.specs.Heard.{HeardLine, Reads, heard}
use Rattle.dbus_handshake_input.specs.declared.fault.HandshakeFault.{HandshakeFault}
use Rattle.dbus_handshake_input.specs.declared.fault.HandshakeFault.TheVariants.{Memory, Device, Refused}
use Rattle.dbus_handshake_input.specs.declared.read_ahead.ReadAhead.{ReadAhead}
use Rattle.dbus_handshake_input.specs.declared.size.HandshakeSize.{HandshakeSize}
use Rattle.dbus_show_handshake.specs.ShownHandshakes.{line_text, size_line}
use Rattle.dbus_show_handshake.specs.declared.lines.ShownLines.{ShownLines}
use Rattle.cli_options.proofs.Nothing.{mark, marked, no_task}
use Rattle.cli_report.specs.Devices.{writing}
use Rattle.cli_report.specs.Gathering.{Gathers, Passes, Breaks, Goes}
use Rattle.cli_report.specs.PageLaws.{breaks_after, joins, passes_both}
use Rattle.cli_report.specs.declared.gathering.Unwritten.{Unwritten}
use Rattle.cli_report.specs.declared.page.Page.{Page}
use Rattle.dbus_tool.specs.Handshaking.{GathersLines, IsListed, PutsLines, WritesLines, last_line}

-- the same is asked for
abbrev pub AreSameAsked : Asked → Asked → Type 0
AreSameAsked (Messages a) (Messages b) = (a.task ≡ b.task) × AreSameSelected a.selection b.selection × (a.settings ≡ b.settings)
AreSameAsked (Encode a) (Encode b) = a ≡ b
AreSameAsked (Handshake a) (Handshake b) = a ≡ b
AreSameAsked a b = ⊥

-- ---- settings

same_flag : (a b : Bool) {P : Type 0} → (a ≡ true) ↔ P → (b ≡ true) ↔ P → a ≡ b
same_flag true true p q = refl
same_flag true false p q = sym (q.1 (p.0 refl))
same_flag false true p q = p.1 (q.0 refl)
same_flag false false p q = refl

same_absent : (a b : Bool) {P : Type 0} → (a ≡ false) ↔ P → (b ≡ false) ↔ P → a ≡ b
same_absent true true p q = refl
same_absent true false p q = p.1 (q.0 refl)
same_absent false true p q = sym (q.1 (p.0 refl))
same_absent false false p q = refl

same_number : (given : Option Text) (default n m : ℕ) → IsNumberOf given default n → IsNumberOf given default m → n ≡ m
same_number None default n m p q = p ∙ sym q
same_number (Some text) default n m p q = p.1 ∙ sym q.1

same_given : (given : Option Text) (a b : Option ℕ) → IsGivenNumber given a → IsGivenNumber given b → a ≡ b
same_given None None None p q = refl
same_given None (Some n) b p q = absurd p
same_given None None (Some m) p q = absurd q
same_given (Some text) None b p q = absurd p
same_given (Some text) (Some n) None p q = absurd q
same_given (Some text) (Some n) (Some m) p q = ap Some (same_number (Some text) 0 n m p.0 q.0)

same_fds_word : (a b : FdRule) → fds_word a ≡ fds_word b → a ≡ b
same_fds_word Any Any e = refl
same_fds_word BelowCount BelowCount e = refl
same_fds_word Any BelowCount e = let bad : ◌≡◌ {A = ℕ} 97 98 = ap (λ t. slice_index t 0) e in absurd (omega arith)
same_fds_word BelowCount Any e = let bad : ◌≡◌ {A = ℕ} 98 97 = ap (λ t. slice_index t 0) e in absurd (omega arith)

same_fds : (given : Option Text) (default a b : FdRule) → IsRuleOf given default a → IsRuleOf given default b → a ≡ b
same_fds None default a b p q = p ∙ sym q
same_fds (Some word) default a b p q = same_fds_word a b (sym p ∙ q)

same_side_word : (a b : Side) → side_word a ≡ side_word b → a ≡ b
same_side_word Client Client e = refl
same_side_word Server Server e = refl
same_side_word Client Server e = let bad : ◌≡◌ {A = ℕ} 99 115 = ap (λ t. slice_index t 0) e in absurd (omega arith)
same_side_word Server Client e = let bad : ◌≡◌ {A = ℕ} 115 99 = ap (λ t. slice_index t 0) e in absurd (omega arith)

some_is : {A : Type 0} (x y : A) → Some x ≡ Some y → x ≡ y
some_is x y e = cc

same_word : {T : Type 0} (word_of : T → Text) → ((a b : T) → word_of a ≡ word_of b → a ≡ b)
    → (a b : Option T) → option_map word_of a ≡ option_map word_of b → a ≡ b
same_word word_of same None None e = refl
same_word word_of same None (Some b) e = absurd cc
same_word word_of same (Some a) None e = absurd cc
same_word word_of same (Some a) (Some b) e = ap Some (same a b (some_is (word_of a) (word_of b) e))

same_limits : (rows : List Row) (a b : Limits) → HasLimits rows a → HasLimits rows b → a ≡ b
same_limits rows a b p q =
    let message = same_number _ _ a.message b.message p.numbers.message q.numbers.message in
    let array = same_number _ _ a.array b.array p.numbers.array q.numbers.array in
    let depth = same_number _ _ a.depth b.depth p.numbers.depth q.numbers.depth in
    let fds = same_fds _ _ a.fds b.fds p.fds q.fds in
    λ i. record {
      message = message i;
      array = array i;
      depth = depth i;
      fds = fds i;
      message_in = is_prop→PathP (λ j. message j ≤ 134217728) (λ j. le_prop) a.message_in b.message_in i;
      array_in = is_prop→PathP (λ j. array j ≤ 67108864) (λ j. le_prop) a.array_in b.array_in i;
      depth_in = is_prop→PathP (λ j. depth j ≤ 64) (λ j. le_prop) a.depth_in b.depth_in i;
    }

same_window : (rows : List Row) (a b : Window) → HasWindow rows a → HasWindow rows b → a ≡ b
same_window rows a b p q =
    let skip = same_number _ _ a.skip b.skip p.skip q.skip in
    let limit = same_given _ a.limit b.limit p.limit q.limit in
    let checks_rest = same_flag a.checks_rest b.checks_rest p.checks_rest q.checks_rest in
    λ i. record { skip = skip i; limit = limit i; checks_rest = checks_rest i }

same_resync : (rows : List Row) (a b : Resync) → HasResync rows a → HasResync rows b → a ≡ b
same_resync rows Off Off p q = refl
same_resync rows Off (Within n) p q = elim q [
  | inl given ↦ absurd (let same = same_given _ None (Some n) p.0 given in cc)
  | inr usual ↦ absurd (p.1 usual.1)
]
same_resync rows (Within n) Off p q = elim p [
  | inl given ↦ absurd (let same = same_given _ None (Some n) q.0 given in cc)
  | inr usual ↦ absurd (q.1 usual.1)
]
same_resync rows (Within n) (Within m) p q = elim p [
  | inl given ↦ elim q [
    | inl too ↦ (let same : Some n ≡ Some m = same_given _ (Some n) (Some m) given too in let one : n ≡ m = cc in ap Within one)
    | inr usual ↦ absurd (let same = same_given _ None (Some n) usual.0 given in cc)
  ]
  | inr usual ↦ elim q [
    | inl given ↦ absurd (let same = same_given _ None (Some m) usual.0 given in cc)
    | inr too ↦ ap Within (usual.2 ∙ sym too.2)
  ]
]

pub same_settings : (rows : List Row) (a b : Settings) → HasSettings rows a → HasSettings rows b → a ≡ b
same_settings rows a b p q =
    let limits = same_limits rows a.limits b.limits p.limits q.limits in
    let as_json = same_flag a.as_json b.as_json p.as_json q.as_json in
    let explains = same_flag a.explains b.explains p.explains q.explains in
    let resync = same_resync rows a.resync b.resync p.resync q.resync in
    let keeps_going = same_flag a.keeps_going b.keeps_going (subst (λ (r : Resync). (a.keeps_going ≡ true) ↔ ((is_on r ≡ true) ⊎ IsGiven (codes "keep-going") rows)) resync p.keeps_going) q.keeps_going in
    let handshake = same_word side_word same_side_word a.handshake b.handshake (sym p.handshake ∙ q.handshake) in
    let window = same_window rows a.window b.window p.window q.window in
    λ i. record { limits = limits i; as_json = as_json i; explains = explains i; keeps_going = keeps_going i; resync = resync i; handshake = handshake i; window = window i }

-- ---- owners: a bus name has no `=`

abbrev HasNone : List ℕ → Type 0
HasNone w = AllByRecursion (λ b. b ≢ 61) w

both : (v w : List ℕ) → HasNone v → HasNone w → HasNone (v ++ w)
both [] w h k = k
both (b ∷ v) w h k = (h.0, both v w h.1 k)

module _ (start more : ℕ → Bool) (no_start : start 61 ≡ false) (no_more : more 61 ≡ false) where
  is_not : (p : ℕ → Bool) → p 61 ≡ false → (b : ℕ) → IsTrue (p b) → b ≢ 61
  is_not p out b is e = false≢true (sym out ∙ subst (λ x. p x ≡ true) e is)

  in_rest : (bs : List ℕ) → AllByRecursion (λ c. IsTrue (more c)) bs → HasNone bs
  in_rest [] h = tt
  in_rest (b ∷ bs) h = (is_not more no_more b h.0, in_rest bs h.1)

  in_element : (e : List ℕ) → IsElement start more e → HasNone e
  in_element [] h = absurd h
  in_element (b ∷ bs) h = (is_not start no_start b h.0, in_rest bs h.1)

  in_each : (es : List (List ℕ)) → AllByRecursion (IsElement start more) es → HasNone (each_after 46 es)
  in_each [] h = tt
  in_each (e ∷ es) h = (λ same. absurd (omega (arith, same)), both e (each_after 46 es) (in_element e h.0) (in_each es h.1))

  in_joined : (w : List ℕ) → IsJoined start more w → HasNone w
  in_joined w (e, f, es, all, is) = subst HasNone (sym is) (both e (each_after 46 (f ∷ es)) (in_element e all.0) (in_each (f ∷ es) all.1))

in_name : (w : List ℕ) → IsBusName w → HasNone w
in_name w (inl (v, joined, is)) = subst HasNone (sym is) (λ same. absurd (omega (arith, same)), in_joined is_dashed is_dashed refl refl v joined)
in_name w (inr joined) = in_joined is_dashed_start is_dashed refl refl w joined

cut_once : (v w x y : List ℕ) → HasNone v → HasNone w → v ++ 61 ∷ x ≡ w ++ 61 ∷ y → (v ≡ w) × (x ≡ y)
cut_once [] [] x y h k e = (refl, cc)
cut_once [] (b ∷ w) x y h k e = absurd (k.0 cc)
cut_once (b ∷ v) [] x y h k e = absurd (h.0 cc)
cut_once (b ∷ v) (c ∷ w) x y h k e =
    let first : b ≡ c = cc in
    let rest : v ++ 61 ∷ x ≡ w ++ 61 ∷ y = cc in
    let more = cut_once v w x y h.1 k.1 rest in
    (λ i. first i ∷ more.0 i, more.1)

same_owner : (word : Text) (o p : Ownership) → IsOwnerWord word o → IsOwnerWord word p → o ≡ p
same_owner word o p h k =
    let cut = cut_once o.name p.name o.unique p.unique (in_name o.name h.name.0.0) (in_name p.name k.name.0.0) (sym h.spelled ∙ k.spelled) in
    λ i. record { name = cut.0 i; unique = cut.1 i }

same_owners : (words : List Text) (a b : List (Owner Global)) → AreOwnersOf words a → AreOwnersOf words b → ownerships a ≡ ownerships b
same_owners [] [] [] h k = refl
same_owners [] (o ∷ a) b h k = absurd h
same_owners [] [] (p ∷ b) h k = absurd k
same_owners (word ∷ words) [] b h k = absurd h
same_owners (word ∷ words) (o ∷ a) [] h k = absurd k
same_owners (word ∷ words) (o ∷ a) (p ∷ b) h k = λ i. same_owner word (ownership o) (ownership p) h.0 k.0 i ∷ same_owners words a b h.1 k.1 i

-- ---- commands

same_rules : (texts : List Text) (a b : List (Rule Global)) → AreRulesOf texts a → AreRulesOf texts b → map rule_pairs a ≡ map rule_pairs b
same_rules [] [] [] h k = refl
same_rules [] (r ∷ a) b h k = absurd h
same_rules [] [] (s ∷ b) h k = absurd k
same_rules (text ∷ texts) [] b h k = absurd h
same_rules (text ∷ texts) (r ∷ a) [] h k = absurd k
same_rules (text ∷ texts) (r ∷ a) (s ∷ b) h k = λ i. one_rule text (rule_pairs r) (rule_pairs s) h.0 k.0 i ∷ same_rules texts a b h.1 k.1 i

same_question : (rows : List Row) (a b : Question) → HasQuestion rows a → HasQuestion rows b → a ≡ b
same_question rows questions.Matches questions.Matches p q = refl
same_question rows questions.MayMatch questions.MayMatch p q = refl
same_question rows questions.Matches questions.MayMatch p q = absurd (p q)
same_question rows questions.MayMatch questions.Matches p q = absurd (q p)

same_selection : (name : Text) (rows : List Row) (a b : Selection) → IsSelectionGiven name rows a → IsSelectionGiven name rows b → AreSameSelection a b
same_selection name rows a b p q = record {
  rules = same_rules (rules_given rows) a.rules.items b.rules.items p.rules q.rules;
  inverted = same_flag a.is_inverted b.is_inverted p.inverted q.inverted;
  question = same_question rows a.question b.question p.question q.question;
  owners = same_owners (words_of (codes "owner") rows) a.owners.items b.owners.items p.owners q.owners;
  learns = same_flag a.learns b.learns p.learns q.learns;
  as_bus = same_flag a.as_bus b.as_bus p.as_bus q.as_bus;
}

same_made : (name : Text) (rows : List Row) (a b : Option Selection) → HasSelection name rows a → HasSelection name rows b → AreSameSelected a b
same_made name rows None None p q = tt
same_made name rows None (Some b) p q = absurd (q.2.0 p.2)
same_made name rows (Some a) None p q = absurd (p.2.0 q.2)
same_made name rows (Some a) (Some b) p q = transport (λ i. AreSameSelection (sym p.2.1 i) (sym q.2.1 i)) (same_selection name rows p.0 q.0 p.1 q.1)

same_order_word : (a b : Order) → order_word a ≡ order_word b → a ≡ b
same_order_word Little Little e = refl
same_order_word Big Big e = refl
same_order_word Little Big e = let bad : ◌≡◌ {A = ℕ} 108 66 = ap (λ t. slice_index t 0) e in absurd (omega arith)
same_order_word Big Little e = let bad : ◌≡◌ {A = ℕ} 66 108 = ap (λ t. slice_index t 0) e in absurd (omega arith)

same_file_form : (a b : FileForm) {P : Type 0} → (a ≡ files.Raw) ↔ P → (b ≡ files.Raw) ↔ P → a ≡ b
same_file_form files.Raw files.Raw p q = refl
same_file_form files.AsRead files.AsRead p q = refl
same_file_form files.Raw files.AsRead p q = sym (q.1 (p.0 refl))
same_file_form files.AsRead files.Raw p q = p.1 (q.0 refl)

-- ---- what is asked for

same_wanted : (rows : List Row) (a b : WantedCalls) → HasWanted rows a → HasWanted rows b → a ≡ b
same_wanted rows a b p q =
    let by_member = same_flag a.by_member b.by_member p.by_member q.by_member in
    let unanswered = same_flag a.unanswered b.unanswered p.unanswered q.unanswered in
    let errors = same_flag a.errors b.errors p.errors q.errors in
    let slower = same_given _ a.slower b.slower p.slower q.slower in
    λ i. record { by_member = by_member i; unanswered = unanswered i; errors = errors i; slower = slower i }

same_encoding : (rows : List Row) (a b : WantedEncoding) → HasEncoding rows a → HasEncoding rows b → a ≡ b
same_encoding rows a b p q =
    let limits = same_limits rows a.limits b.limits p.limits q.limits in
    let order = same_word order_word same_order_word a.order b.order (sym p.order ∙ q.order) in
    let safe_integers = same_flag a.safe_integers b.safe_integers p.safe_integers q.safe_integers in
    let explains = same_flag a.explains b.explains p.explains q.explains in
    let keeps_going = same_flag a.keeps_going b.keeps_going p.keeps_going q.keeps_going in
    let max_line = same_number _ _ a.max_line b.max_line p.max_line.0 q.max_line.0 in
    λ i. record { limits = limits i; order = order i; safe_integers = safe_integers i; explains = explains i; keeps_going = keeps_going i; max_line = max_line i }

same_task : (name : Text) (rows : List Row) (a b : Task) → NamesTask name rows a → NamesTask name rows b → a ≡ b
same_task name rows (Write (output.Text a x)) (Write (output.Text b y)) p q = λ i. Write (output.Text (same_flag a b p.1 q.1 i) (same_flag x y p.2 q.2 i))
same_task name rows (Write (output.JsonLine a x)) (Write (output.JsonLine b y)) p q = λ i. Write (output.JsonLine (same_absent a b p.1 q.1 i) (same_flag x y p.2 q.2 i))
same_task name rows (Write output.Nothing) (Write output.Nothing) p q = refl
same_task name rows (Write (output.InOrder a f)) (Write (output.InOrder b g)) p q = λ i. Write (output.InOrder (same_order_word a b (some_is (order_word a) (order_word b) (sym p.1 ∙ q.1)) i) (same_file_form f g p.2 q.2 i))
same_task name rows (Write (output.AsIs f)) (Write (output.AsIs g)) p q = ap (λ (form : FileForm). Write (output.AsIs form)) (same_file_form f g p.1 q.1)
same_task name rows Count Count p q = refl
same_task name rows (Lines a) (Lines b) p q = ap Lines (same_number _ 80 a b p.1.0 q.1.0)
same_task name rows (Calls a) (Calls b) p q = ap Calls (same_wanted rows a b p.1 q.1)
same_task name rows Count (Write output.Nothing) p q = absurd (let e = sym (marked name rows Count p) ∙ marked name rows (Write output.Nothing) q in omega (arith, e))
same_task name rows (Lines width) (Write output.Nothing) p q = absurd (let e = sym (marked name rows (Lines width) p) ∙ marked name rows (Write output.Nothing) q in omega (arith, e))
same_task name rows (Calls wanted) (Write output.Nothing) p q = absurd (let e = sym (marked name rows (Calls wanted) p) ∙ marked name rows (Write output.Nothing) q in omega (arith, e))
same_task name rows a b p q = absurd (let e = sym (marked name rows a p) ∙ marked name rows b q in omega (arith, e))

same_named : (sub : Option (Text × List Row)) (a b : Asked) → Names sub a → Names sub b → AreSameAsked a b
same_named None a b p q = absurd p
same_named (Some sub) (Messages a) (Messages b) p q =
    (same_task sub.0 sub.1 a.task b.task p.task q.task, same_made sub.0 sub.1 a.selection b.selection p.selection q.selection, same_settings sub.1 a.settings b.settings p.settings q.settings)
same_named (Some sub) (Encode a) (Encode b) p q = same_encoding sub.1 a b p.1 q.1
same_named (Some sub) (Handshake x) (Handshake y) p q = same_side_word x y (some_is (side_word x) (side_word y) (sym p.1 ∙ q.1))
same_named (Some sub) (Messages a) (Encode b) p q = absurd ((no_task sub.0 sub.1 a.task p.task).1 q.0)
same_named (Some sub) (Messages a) (Handshake y) p q = absurd ((no_task sub.0 sub.1 a.task p.task).0 q.0)
same_named (Some sub) (Encode a) (Messages b) p q = absurd ((no_task sub.0 sub.1 b.task q.task).1 p.0)
same_named (Some sub) (Handshake x) (Messages b) p q = absurd ((no_task sub.0 sub.1 b.task q.task).0 p.0)
same_named (Some sub) (Encode a) (Handshake y) p q = absurd (let e = ap mark (sym p.0 ∙ q.0) in omega (arith, e))
same_named (Some sub) (Handshake x) (Encode b) p q = absurd (let e = ap mark (sym p.0 ∙ q.0) in omega (arith, e))

pub same_asked : (words : List Text) (a b : Asked) → IsNamedBy words a → IsNamedBy words b → AreSameAsked a b
same_asked words a b p q = same_named (subcommand_of wire_app words) a b p q

-- what is asked for of these messages
abbrev pub request : Task → Settings → Option Selection → Request
request task settings selection = record { task = task; selection = selection; settings = settings }

-- what holds of each two that ask for one thing holds of two that ask for the same
pub same_by : (P : Asked → Asked → Type 0) → ((task : Task) (settings : Settings) (a b : Option Selection) → AreSameSelected a b → P (Messages (request task settings a)) (Messages (request task settings b)))
    → ((wanted : WantedEncoding) → P (Encode wanted) (Encode wanted)) → ((side : Side) → P (Handshake side) (Handshake side)) → (a b : Asked) → AreSameAsked a b → P a b
same_by P messages encode handshake (Messages a) (Messages b) h = transport (λ i. P (Messages a) (Messages (request (h.0 i) (h.2 i) b.selection))) (messages a.task a.settings a.selection b.selection h.1)
same_by P messages encode handshake (Encode a) (Encode b) h = subst (λ (x : WantedEncoding). P (Encode a) (Encode x)) h (encode a)
same_by P messages encode handshake (Handshake a) (Handshake b) h = subst (λ (x : Side). P (Handshake a) (Handshake x)) h (handshake a)
same_by P messages encode handshake a b h = absurd h

-- ---- owners that lack

same_needs : (a b : List (Owner Global)) → ownerships a ≡ ownerships b → (sender : Option (List ℕ)) → needs_owner a sender ≡ needs_owner b sender
same_needs a b same None = refl
same_needs a b same (Some name) =
    let owns : some_owns a name ≡ some_owns b name = list_any-map (λ (o : Ownership). bytes_eq o.name name) ownership a ∙ (ap (list_any (λ (o : Ownership). bytes_eq o.name name)) same ∙ sym (list_any-map (λ (o : Ownership). bytes_eq o.name name) ownership b)) in
    ap (λ b. is_ownable name && not b) owns

selection_lacks : (a b : Selection) → AreSameSelection a b → selection_lacks_owner a ≡ selection_lacks_owner b
selection_lacks a b h =
    let needs = fun_ext (same_needs a.owners.items b.owners.items h.owners) in
    let some : some_needs_owner a.owners.items a.rules.items ≡ some_needs_owner b.owners.items b.rules.items
    = list_any-map (λ p. needs_owner a.owners.items (sender_of p)) rule_pairs a.rules.items ∙ ((λ i. list_any (λ p. needs i (sender_of p)) (h.rules i)) ∙ sym (list_any-map (λ p. needs_owner b.owners.items (sender_of p)) rule_pairs b.rules.items)) in
    λ i. not (h.learns i) && some i

pub same_lacks : (a b : Option Selection) → AreSameSelected a b → lacks_owner a ≡ lacks_owner b
same_lacks None None h = refl
same_lacks (Some a) (Some b) h = selection_lacks a b h
same_lacks a b h = absurd h

-- The text of the lines of a handshake, by what its page gained.

module _ {R W : Type 0} (left : R → Option (List ℕ)) (calls : R → ℕ) (packets : R → Option Packets) (packet : R → Option Packet) (held : W → Option (List ℕ)) (failures : W → ℕ) (side : Side) (r0 r1 : ReadAhead R) where
  abbrev pub Heard : ShownLines (Page W) → List HeardLine → ShownLines (Page W) → Type 0
  Heard a lines b = Goes held failures a.0 (flat_map line_text lines) b.0

  pub listed : (read : Result HandshakeSize HandshakeFault) (p0 p1 : ShownLines (Page W)) → Reads Heard side left calls packets packet r0 r1 p0 p1 read
      → (text : List ℕ) × IsListed left calls packets packet r0 r1 side read text × Goes held failures p0.0 text p1.0
  listed (Ok size) p0 p1 r = (flat_map line_text (heard side r.0), (r.0, r.1, r.2, refl, r.4), r.3)
  listed (Err Memory) p0 p1 r = (
    flat_map line_text (heard side r.2.lines),
    (r.0, r.1, record { lines = r.2.lines; each = r.2.each; front = r.2.front; heard_are = refl }),
    r.2.heard_are,
  )
  listed (Err Device) p0 p1 r = (
    flat_map line_text (heard side r.2.lines),
    (r.0, r.1, record { lines = r.2.lines; each = r.2.each; front = r.2.front; heard_are = refl }),
    r.2.heard_are,
  )
  listed (Err (Refused at why)) p0 p1 r = (flat_map line_text (heard side r.2.0), (r.0, r.1, (r.2.0, r.2.1, refl)), r.2.2)

  pub puts_all : (size : HandshakeSize) (p0 p1 : ShownLines (Page W)) (p2 : Page W) → Reads Heard side left calls packets packet r0 r1 p0 p1 (Ok size) → Goes held failures p1.0 (size_line size) p2
      → PutsLines left calls packets packet r0 r1 held failures p0.0 p2 side (Ok size)
  puts_all size p0 p1 p2 r after =
      let l = listed (Ok size) p0 p1 r in (l.0, l.1, joins held failures p0.0 p1.0 p2 l.0 (size_line size) l.2 after)

  pub puts_some : (fault : HandshakeFault) (p0 p1 : ShownLines (Page W)) → Reads Heard side left calls packets packet r0 r1 p0 p1 (Err fault)
      → PutsLines left calls packets packet r0 r1 held failures p0.0 p1.0 side (Err fault)
  puts_some fault p0 p1 r =
      let l = listed (Err fault) p0 p1 r in
      (l.0, l.1, subst (λ text. Goes held failures p0.0 text p1.0) (sym (append-nil l.0)) l.2)

  -- what was gathered is written after that
  pub written_out : (read : Result HandshakeSize HandshakeFault) (g : List ℕ) (w0 w1 w2 : W) (out : Result (Unit {0}) Unwritten)
      → GathersLines left calls packets packet r0 r1 (writing held failures w0 w1) side [] g read (Ok tt) → Gathers held failures [] g [] w1 w2 out
      → WritesLines left calls packets packet r0 r1 (writing held failures w0 w2) side read out
  written_out read g w0 w1 w2 (Ok x) h after =
      let all = h.0 ++ last_line read in
      (h.0, h.1, subst (λ text. Passes held failures text [] [] w0 w2) (append-nil all) (passes_both held failures all [] [] g [] w0 w1 w2 h.2 after))
  written_out read g w0 w1 w2 (Err e) h after =
      let all = h.0 ++ last_line read in
      (h.0, h.1, subst (λ text. Breaks held failures text [] w0 w2) (append-nil all) (breaks_after held failures all [] [] g w0 w1 w2 h.2 after))
