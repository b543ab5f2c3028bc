-- The computed kinds are the kinds, and what the crates above use of them.
use Rattle.std.proofs.Common.{◌≡◌, ◌≢◌, ℕ, ◌<◌, ◌≤◌, Bool, Option, true, false, ◌&&◌, List, [], ◌++◌, length, refl, sym, ap, ◌∙◌, subst, arith, IsUtf8, ltb}
use Rattle.std.specs.List.{AllByRecursion}
use Rattle.std.proofs.lemmas.Bool.{and_parts, and_from, ltb-true, lt-ltb}
use Rattle.dbus_texts.specs.declared.text_kind.TextKind.{TextKind}
use Rattle.dbus_texts.specs.declared.text_kind.TextKind.TheVariants.{Text, Path, Interface, Member, ErrorName, BusName, Signature, Single}
use Rattle.dbus_texts.specs.declared.names.Letters.TheVariants.{Word, Name, Unique}
use Rattle.dbus_texts.specs.declared.names.Tail.TheVariants.{Alone, Needed, Free}
use Rattle.dbus_texts.specs.declared.names.Place.TheVariants.{PathStart, BusStart, First}
use Rattle.dbus_texts.specs.declared.names.NameScan.{NameScan}
use Rattle.dbus_texts.specs.declared.utf8.Utf8Place.TheVariants as utf8
use Rattle.dbus_texts.specs.Kinds.{IsBreakIn, IsPath, IsInterface, IsMember, IsBusName, IsText, IsSignature, IsSingle, IsOfKind, IsKind, IsBreak}
use Rattle.dbus_texts.specs.Quotients.{IsStep, IsQuotient}
use Rattle.dbus_texts.specs.NameScans.{name_rest, name_next, name_end, name_state}
use Rattle.dbus_texts.specs.Utf8Scans.{text_rest, text_next, text_end}
use Rattle.dbus_texts.specs.SignatureScans.{SigState, sig_rest, sig_next, sig_end}
use Rattle.dbus_texts.specs.SigViews.{sig_start}
use Rattle.dbus_texts.specs.Types.{TypeTree, TypeTrees, sig, sigs, IsSingleType}
use Rattle.dbus_texts.specs.PlainTypes.{AreSignatureTypes}
use Rattle.dbus_texts.specs.ComputedKinds.{taken, accepts, is_of_kind, is_kind, break_at, IsName, type_spelled, types_spelled}
use Rattle.dbus_texts.proofs.Runs.{taken_more, accepts_is, accepts_of, taken_breaks, one_break_in, break_along}
use Rattle.dbus_texts.proofs.ScanSteps.{break_of_whole, quotient_start, path_starts, interface_starts, member_starts, bus_starts, signature_starts, single_starts}
use Rattle.dbus_texts.proofs.NameSteps.{name_moves, name_ended_at, name_ends_at}
use Rattle.dbus_texts.proofs.Utf8Steps.{text_moves, text_ended, text_ends, text_some, utf8_of_text, text_of_utf8}
use Rattle.dbus_texts.proofs.SignatureSteps.{sig_moves, sig_ended_at, sig_ends_at}
pub use Rattle.dbus_texts.proofs.TypeTexts.{spelled_sig, spelled_sigs, sigs_same, shaped_of, are_shaped_of}
use Rattle.dbus_texts.proofs.AsciiNames.{name_text, text_bytes}

-- what an automaton says of the set of texts that it reads
record Automaton (L : List ℕ → Type 0) (accepted : List ℕ → Bool) (stop : List ℕ → ℕ) : Type 0 where
  is : (w : List ℕ) → accepted w ≡ true → L w
  of : (w : List ℕ) → L w → accepted w ≡ true
  breaks : (w : List ℕ) → IsBreakIn L w (stop w)
  more : (w c : List ℕ) → stop w < length w → stop (w ++ c) ≡ stop w

automaton : {S : Type 0} (next : S → ℕ → Option S) (end : S → Bool) (Rest : S → List ℕ → Type 0) → ((s : S) (b : ℕ) → IsStep Rest s b (next s b)) → ((s : S) → end s ≡ true → Rest s []) → ((s : S) → Rest s [] → end s ≡ true) → (s : S) (L : List ℕ → Type 0) → IsQuotient L [] (Rest s) → Automaton L (accepts next end s) (taken next s)
automaton next end Rest moves ends ended s L q = record {
  is = λ w h. q.from w (accepts_is next end Rest moves ends w s h);
  of = λ w h. accepts_of next end Rest moves ended w s (q.to w h);
  breaks = λ w. break_along (Rest s) L w (taken next s w) q.from q.to (taken_breaks next Rest moves w s q.some);
  more = λ w c h. taken_more next w s c h;
}

name_automaton : (s : NameScan) (L : List ℕ → Type 0) → IsQuotient L [] (name_rest s) → Automaton L (accepts name_next name_end s) (taken name_next s)
name_automaton = automaton name_next name_end name_rest name_moves (λ s h. name_ends_at s.place s.letters s.tail h) (λ s h. name_ended_at s.place s.letters s.tail h)

types_automaton : (s : SigState) (L : List ℕ → Type 0) → IsQuotient L [] (sig_rest s) → Automaton L (accepts sig_next sig_end s) (taken sig_next s)
types_automaton = automaton sig_next sig_end sig_rest sig_moves (λ s h. sig_ends_at s.single s.place s.arrays s.structs s.frames h) (λ s h. sig_ended_at s.single s.place s.arrays s.structs s.frames h)

kind_automaton : (k : TextKind) → Automaton (IsOfKind k) (is_of_kind k) (break_at k)
unfolding break_at
kind_automaton Text = automaton text_next text_end text_rest text_moves text_ends text_ended utf8.Free IsText (quotient_start IsText text_some)
kind_automaton Path = name_automaton (name_state PathStart Word Free) IsPath path_starts
kind_automaton Interface = name_automaton (name_state First Name Needed) IsInterface interface_starts
kind_automaton Member = name_automaton (name_state First Name Alone) IsMember member_starts
kind_automaton ErrorName = name_automaton (name_state First Name Needed) IsInterface interface_starts
kind_automaton BusName = name_automaton (name_state BusStart Unique Needed) IsBusName bus_starts
kind_automaton Signature = types_automaton (sig_start false) IsSignature signature_starts
kind_automaton Single = types_automaton (sig_start true) IsSingle single_starts

-- each kind
limited_is : (k : TextKind) (w : List ℕ) → (is_of_kind k w && ltb (length w) 256) ≡ true → IsOfKind k w × (length w ≤ 255)
limited_is k w h =
    let p = and_parts (is_of_kind k w) (ltb (length w) 256) h in
    let l : length w < 256 = ltb-true (length w) 256 p.1 in
    ((kind_automaton k).is w p.0, omega arith)

limited_of : (k : TextKind) (w : List ℕ) → IsOfKind k w × (length w ≤ 255) → (is_of_kind k w && ltb (length w) 256) ≡ true
limited_of k w h =
    let l : length w < 256 = omega (arith, h.1) in
    and_from (is_of_kind k w) (ltb (length w) 256) ((kind_automaton k).of w h.0) (lt-ltb (length w) 256 l)

pub kind_is : (k : TextKind) (t : List ℕ) → is_kind k t ≡ true → IsKind k t
unfolding is_kind
kind_is Text t h = ((kind_automaton Text).is t h, tt)
kind_is Path t h = ((kind_automaton Path).is t h, tt)
kind_is k t h = limited_is k t h

pub is_kind_of : (k : TextKind) (t : List ℕ) → IsKind k t → is_kind k t ≡ true
unfolding is_kind
is_kind_of Text t h = (kind_automaton Text).of t h.0
is_kind_of Path t h = (kind_automaton Path).of t h.0
is_kind_of k t h = limited_of k t h

-- breaks
pub break_is : (k : TextKind) (t : List ℕ) → IsBreak k t (break_at k t)
break_is k t = (kind_automaton k).breaks t

pub one_break : (k : TextKind) (t : List ℕ) (i j : ℕ) → IsBreak k t i → IsBreak k t j → i ≡ j
one_break k t i j p q = one_break_in (IsOfKind k) t i j p q

pub break_le : (k : TextKind) (t : List ℕ) → break_at k t ≤ length t
break_le k t = (break_is k t).within

-- once a text has broken, it stays broken there
pub break_more : (k : TextKind) (t c : List ℕ) → break_at k t < length t → break_at k (t ++ c) ≡ break_at k t
break_more k t c h = (kind_automaton k).more t c h

pub break_whole : (k : TextKind) (t : List ℕ) → is_kind k t ≡ true → break_at k t ≡ length t
break_whole k t h = one_break k t (break_at k t) (length t) (break_is k t) (break_of_whole (IsOfKind k) t (kind_is k t h).0)

-- signatures
pub single_text : (t : List ℕ) → is_kind Single t ≡ true → IsSingleType (type_spelled t) × (sig (type_spelled t) ≡ t)
single_text t h =
    let k = kind_is Single t h in
    let u = k.0.0 in
    let e : type_spelled t ≡ u = ap type_spelled k.0.2 ∙ spelled_sig u in
    let l : length (sig u) < 256 = omega (arith, k.1, ap length k.0.2) in
    (subst IsSingleType (sym e) (k.0.1, l), ap sig e ∙ sym k.0.2)

pub text_single : (t : TypeTree) → IsSingleType t → (is_kind Single (sig t) ≡ true) × (type_spelled (sig t) ≡ t)
text_single t h =
    let l : length (sig t) ≤ 255 = omega (arith, h.1) in
    (is_kind_of Single (sig t) ((t, h.0, refl), l), spelled_sig t)

pub signature_text_is : (t : List ℕ) → is_kind Signature t ≡ true → AreSignatureTypes (types_spelled t) × (sigs (types_spelled t) ≡ t)
signature_text_is t h =
    let k = kind_is Signature t h in
    let us = k.0.0 in
    let e : types_spelled t ≡ us = ap types_spelled k.0.2 ∙ spelled_sigs us in
    let l : length (sigs us) < 256 = omega (arith, k.1, ap length k.0.2) in
    (subst AreSignatureTypes (sym e) (k.0.1, l), ap sigs e ∙ sym k.0.2)

pub text_signature : (ts : TypeTrees) → AreSignatureTypes ts → is_kind Signature (sigs ts) ≡ true
text_signature ts h =
    let l : length (sigs ts) ≤ 255 = omega (arith, h.1) in
    is_kind_of Signature (sigs ts) ((ts, h.0, refl), l)

-- a name is a text, and so is an object path
pub name_is_text : (k : TextKind) (t : List ℕ) → IsName k → is_kind k t ≡ true → is_kind Text t ≡ true
unfolding is_kind
name_is_text Text t n h = absurd n
name_is_text Path t n h = absurd n
name_is_text Interface t n h = name_text (name_state First Name Needed) t (and_parts (is_of_kind Interface t) (ltb (length t) 256) h).0
name_is_text Member t n h = name_text (name_state First Name Alone) t (and_parts (is_of_kind Member t) (ltb (length t) 256) h).0
name_is_text ErrorName t n h = name_text (name_state First Name Needed) t (and_parts (is_of_kind ErrorName t) (ltb (length t) 256) h).0
name_is_text BusName t n h = name_text (name_state BusStart Unique Needed) t (and_parts (is_of_kind BusName t) (ltb (length t) 256) h).0
name_is_text Signature t n h = absurd n
name_is_text Single t n h = absurd n

pub path_is_text : (t : List ℕ) → is_kind Path t ≡ true → is_kind Text t ≡ true
unfolding is_kind
path_is_text t h = name_text (name_state PathStart Word Free) t h

-- a text of kind Text is UTF-8 without a zero byte
pub text_utf8 : (t : List ℕ) → IsText t → IsUtf8 t × AllByRecursion (λ b. b ≢ 0) t
text_utf8 t h = (utf8_of_text t h, text_bytes t ((kind_automaton Text).of t h))

pub utf8_text : (t : List ℕ) → IsUtf8 t → AllByRecursion (λ b. b ≢ 0) t → IsText t
utf8_text t h n = text_of_utf8 t h n
