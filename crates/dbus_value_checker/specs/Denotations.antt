-- What the fields of `ValueChecker` stand for: what they answer to the bytes still to come.
use Rattle.std.specs.Prelude.{◌≡◌, ℕ, ◌+◌, ◌*◌, ◌<◌, ◌≤◌, List, [], ◌∷◌, ◌++◌, get_or, length, take, drop, Bool, true, false, suc, ◌-◌}
use Rattle.std.specs.Prelude.{reverse, Option, None}
use Rattle.dbus_texts.specs.Types.{TypeTree, TypeTrees, sig, sigs, IsShaped, AreShaped, NumberCode, NumberType}
use Rattle.dbus_types.specs.Alignments.{width}
use Rattle.dbus_texts.specs.Scans.{Stands}
use Rattle.dbus_texts.specs.Scans as scans
use Rattle.dbus_texts.specs.Kinds.{IsKind}
use Rattle.dbus_texts.specs.declared.text_kind.TextKind.{TextKind}
use Rattle.dbus_texts.specs.declared.text_kind.TextKind.TheVariants as kinds
use Rattle.dbus_value_model.specs.WantedTexts.{Of}
use Rattle.dbus_value_model.specs.Bytes.{gap_to}
use Rattle.dbus_value_model.specs.ValueItems.{number_row}
use Rattle.dbus_value_model.specs.Reading.{Outcome, after, text, nul, value}
use Rattle.dbus_value_checker.specs.declared.values.OpenContainer.{OpenContainer}
use Rattle.dbus_value_checker.specs.Suspended.{Work, Parts, Elements, On, onward, works, TextItem, AText, AHeld, item_kind, item_on, own}
use Rattle.dbus_value_checker.specs.Suspended.{own_of, opened_by}
use Rattle.dbus_value_checker.specs.declared.values.ValueChecker.{ValueChecker}
use Rattle.dbus_value_checker.specs.declared.values.Doing.{Doing}
use Rattle.dbus_value_checker.specs.declared.values.Doing.TheVariants as doing

-- What the frames of `ValueChecker` stand for: the containers that are open.

-- the part of the signatures from pos up to stop
abbrev pub slice : List ℕ → ℕ → ℕ → List ℕ
slice text pos stop = drop pos (take stop text)

-- Of each place from pos up to stop the length of the type that begins there is noted.
abbrev pub IsNoted : (text lengths : List ℕ) → (pos stop : ℕ) → Type 0
IsNoted text lengths pos stop = (at : ℕ) (t : TypeTree) (more : List ℕ) → pos ≤ at → at < stop → slice text at stop ≡ sig t ++ more
    → get_or lengths at 0 ≡ length (sig t)

-- it is of the types of each frame
abbrev pub AreNoted : (text lengths : List ℕ) → List OpenContainer → Type 0
AreNoted text lengths [] = Unit {0}
AreNoted text lengths (f ∷ fs) = IsNoted text lengths f.pos f.stop × AreNoted text lengths fs

-- a frame whose values of these types are still wanted
pub record IsParts (text : List ℕ) (f : OpenContainer) (depth_left end : ℕ) (ts : TypeTrees) : Type 0 where
  pub parts : f.array ≡ false
  pub room_is : f.depth_left ≡ depth_left
  pub end_is : f.end ≡ end
  pub types : slice text f.pos f.stop ≡ sigs ts
  pub complete : AreShaped ts

-- a frame of an array; the turns are enough for the bytes from reach on
pub record IsElements (reach : ℕ) (text : List ℕ) (f : OpenContainer) (turns depth_left end : ℕ) (t : TypeTree) : Type 0 where
  pub elements : f.array ≡ true
  pub room_is : f.depth_left ≡ depth_left
  pub end_is : f.end ≡ end
  pub type : slice text f.pos f.stop ≡ sig t
  pub complete : IsShaped true t
  pub turns_is : f.end ≤ reach + turns

abbrev pub IsFrame : ℕ → List ℕ → OpenContainer → Work → Type 0
IsFrame reach text f (Parts depth_left end ts) = IsParts text f depth_left end ts
IsFrame reach text f (Elements turns depth_left end t) = IsElements reach text f turns depth_left end t

-- an array may have one frame more within it than its room says: that of a dict entry, which takes
-- no room
abbrev pub extra : Bool → ℕ
extra true = 1
extra false = 0

-- A frame with count frames around it. It ends at low or later, its types end at high or earlier,
-- and for all that may still be opened in it there is room: 128 frames, and 255 bytes for the
-- signature of each of 65 nested values.
pub record Framed (reach low high count : ℕ) (text : List ℕ) (f : OpenContainer) (w : Work) : Type 0 where
  pub low_is : low ≤ f.end
  pub high_is : f.top ≤ high
  pub stop_is : f.stop ≤ f.top
  pub pos_is : f.pos ≤ f.stop
  pub count_is : count + extra f.array + 2 * f.depth_left ≤ 128
  pub room_is : f.top + 255 * f.depth_left ≤ 255 * 65
  pub is : IsFrame reach text f w

-- the innermost first; each ends within the next, and the outermost at bottom or earlier
abbrev pub AreFrames : (reach low high bottom : ℕ) → List ℕ → List OpenContainer → List Work → Type 0
AreFrames reach low high bottom text [] [] = (low ≤ bottom) × (bottom < 18446744073709551616)
AreFrames reach low high bottom text (f ∷ fs) (w ∷ ws) = Framed reach low high (length fs) text f w
    × AreFrames reach f.end f.top bottom text fs ws
AreFrames reach low high bottom text [] (w ∷ ws) = ⊥
AreFrames reach low high bottom text (f ∷ fs) [] = ⊥

-- what is read after the values, and what is answered to the bytes still to come
pub record Answer : Type 0 where
  pub last : On
  pub to : List ℕ → Outcome (Unit {0})

-- what is answered once the bytes w were taken
abbrev pub after_piece : Answer → List ℕ → Answer
after_piece answer w = record { last = answer.last; to = λ c. answer.to (w ++ c) }

abbrev pub rest_of : Answer → ValueChecker → List Work → On
rest_of answer x ws = works x.bounds x.order answer.last ws

abbrev pub HasFrames : ℕ → ValueChecker → List Work → Type 0
HasFrames reach x ws = AreFrames reach x.offset (length x.text.items) x.end x.text.items (x.inner ∷ reverse x.frames.items) ws

-- the lengths of the types are noted
abbrev pub HasNotes : ValueChecker → Type 0
HasNotes x = (length x.lengths.items ≡ length x.text.items) × AreNoted x.text.items x.lengths.items (x.inner ∷ reverse x.frames.items)

-- the containers go on
pub record Goes (x : ValueChecker) (answer : Answer) : Type 0 where
  pub ws : List Work
  pub frames : HasFrames x.offset x ws
  pub noted : HasNotes x
  pub same : (c : List ℕ) → rest_of answer x ws x.offset c ≡ answer.to c

-- a value of the type that stands there is wanted
pub record Wants (x : ValueChecker) (pos stop : ℕ) (answer : Answer) : Type 0 where
  pub ws : List Work
  pub type : TypeTree
  pub frames : HasFrames (suc x.offset) x ws
  pub noted : HasNotes x
  pub text : slice x.text.items pos stop ≡ sig type
  pub type_noted : IsNoted x.text.items x.lengths.items pos stop
  pub complete : IsShaped (x.inner.array) type
  pub element : x.inner.array ≡ true → (pos ≡ x.inner.pos) × (stop ≡ x.inner.stop)
  pub pos_is : pos ≤ stop
  pub stop_is : stop ≤ x.inner.top
  pub same : (c : List ℕ) → onward (value x.bounds x.order x.inner.depth_left x.inner.end type) (rest_of answer x ws) x.offset c ≡ answer.to
      c

-- a value of the type that stands there is wanted, and so many bytes of padding before it are there
pub record Ready (x : ValueChecker) (pos stop n : ℕ) (answer : Answer) : Type 0 where
  pub before : Answer
  pub wants : Wants x pos stop before
  pub fits : x.offset + n ≤ x.inner.end
  pub near : x.inner.end < 18446744073709551616
  pub there : stop ≤ length x.text.items
  pub same : (c : List ℕ) → own x.bounds x.order x.inner.end (own_of wants.type x.inner.depth_left)
      (works x.bounds x.order (rest_of answer x wants.ws) (opened_by wants.type x.inner.depth_left x.inner.end)) (x.offset + n)
      c ≡ answer.to c

-- what is kept of a text of so many bytes, of which these were taken: of a variant's signature all
abbrev pub IsKept : TextItem → (held : List ℕ) → (depth_left size : ℕ) → (bytes : List ℕ) → Type 0
IsKept (AText k width) held depth_left size bytes = k ≡ Of kinds.Single → ⊥
IsKept (AHeld inner) held depth_left size bytes = (held ≡ bytes) × (size ≤ 255) × (depth_left ≡ suc inner)

-- so many bytes of a text of a kind are wanted
pub record Texts (x : ValueChecker) (kind : TextKind) (left : ℕ) (answer : Answer) : Type 0 where
  pub ws : List Work
  pub item : TextItem
  pub size : ℕ
  pub start : ℕ
  pub bytes : List ℕ
  pub frames : HasFrames x.offset x ws
  pub noted : HasNotes x
  pub kind_is : item_kind item ≡ Of kind
  pub kept : IsKept item x.held.items x.inner.depth_left size bytes
  pub scans : scans.kind_of x.scan ≡ kind
  pub stands : Stands x.scan bytes
  pub offset : start + length bytes ≡ x.offset
  pub left_is : length bytes + left ≡ size
  pub fits : x.offset + left + 1 ≤ x.inner.end
  pub near : x.inner.end < 18446744073709551616
  pub same : (c : List ℕ) → after (text (item_kind item) size start (bytes ++ c))
      (λ t. onward nul (item_on x.bounds x.order x.inner.end item (rest_of answer x ws) t)) ≡ answer.to c

-- the zero after a variant's signature is wanted, all of which is kept
pub record Held (x : ValueChecker) (answer : Answer) : Type 0 where
  pub ws : List Work
  pub frames : HasFrames x.offset x ws
  pub noted : HasNotes x
  pub some : 0 < x.inner.depth_left
  pub kind : IsKind kinds.Single x.held.items
  pub fits : x.offset + 1 ≤ x.inner.end
  pub near : x.inner.end < 18446744073709551616
  pub same : (c : List ℕ) → onward nul (item_on x.bounds x.order x.inner.end (AHeld (x.inner.depth_left - 1)) (rest_of answer x ws)
      x.held.items) x.offset c ≡ answer.to c

-- the zero after a text is wanted
pub record Nuls (x : ValueChecker) (answer : Answer) : Type 0 where
  pub ws : List Work
  pub frames : HasFrames x.offset x ws
  pub noted : HasNotes x
  pub fits : x.offset + 1 ≤ x.inner.end
  pub near : x.inner.end < 18446744073709551616
  pub same : (c : List ℕ) → onward nul (rest_of answer x ws) x.offset c ≡ answer.to c

-- so many bytes of an array's elements are wanted: after these, which began at the offset start,
-- they are so many whole numbers, any of which may stand there
pub record Numbers (x : ValueChecker) (left : ℕ) (answer : Answer) : Type 0 where
  pub ws : List Work
  pub code : NumberCode
  pub count : ℕ
  pub turns : ℕ
  pub depth_left : ℕ
  pub stop : ℕ
  pub start : ℕ
  pub bytes : List ℕ
  pub plain : (index_limit : Option ℕ) (p n : ℕ) → number_row index_limit code p n ≡ None
  pub frames : HasFrames start x (Elements (count + turns) depth_left stop (NumberType code) ∷ ws)
  pub noted : HasNotes x
  pub aligned : gap_to (width code) start ≡ 0
  pub offset : start + length bytes ≡ x.offset
  pub left_is : length bytes + left ≡ count * width code
  pub fits : x.offset + left ≤ x.inner.end
  pub same : (c : List ℕ) → rest_of answer x (Elements (count + turns) depth_left stop (NumberType code) ∷ ws) start
      (bytes ++ c) ≡ answer.to c

abbrev pub denotes : Doing → ValueChecker → Answer → Type 0
denotes (doing.Wanted pos stop) x answer = Wants x pos stop answer
denotes (doing.Text kind left) x answer = (0 < left) × Texts x kind left answer
denotes (doing.Numbers left) x answer = (0 < left) × Numbers x left answer
denotes doing.Nul x answer = Nuls x answer
denotes doing.Over x answer = (x.offset ≤ x.end) × (x.end < 18446744073709551616) × ((c : List ℕ) → answer.last x.offset c ≡ answer.to c)

-- the fields stand for this answer
abbrev pub Denotes : ValueChecker → Answer → Type 0
Denotes x answer = denotes x.doing x answer
