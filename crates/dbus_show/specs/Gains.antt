-- What a string gains.
use Rattle.std.specs.Prelude.{◌≡◌, ℕ, ◌+◌, ◌<◌, ◌≤◌, List, [], ◌++◌, length, true, false, string_bytes, string_len, string_capacity}
use Rattle.dbus_show.specs.declared.string_draft.StringDraft.{StringDraft}

module _ {A : Type 0} where
  -- the text that a draft has so far: what the string has, and then what the string has still to
  -- get
  unfoldable pub text_so_far : StringDraft A → List ℕ
  text_so_far d = string_bytes d.out.now ++ d.kept.bytes

  unfoldable pub length_so_far : StringDraft A → ℕ
  length_so_far d = string_len d.out.now + length d.kept.bytes

  -- a draft that has no text yet, over a string of this capacity
  pub record Begins (capacity : ℕ) (d : StringDraft A) : Type 0 where
    pub none : text_so_far d ≡ []
    pub zero : length_so_far d ≡ 0
    pub whole : d.refused ≡ false
    pub room : string_capacity d.out.now ≡ capacity

  -- A draft gains a text: it is appended, or a growth is refused, which is only where the capacity
  -- does not do for it. A draft whose growth was refused stays so. The string that is written to is
  -- the same.
  pub record Gains (before : StringDraft A) (text : List ℕ) (after : StringDraft A) : Type 0 where
    pub same : after.out.ghost_name ≡ before.out.ghost_name
    pub written : after.refused ≡ false → text_so_far after ≡ text_so_far before ++ text
    pub longer : after.refused ≡ false → length_so_far after ≡ length_so_far before + length text
    pub stays : before.refused ≡ true → after.refused ≡ true
    pub small : before.refused ≡ false → after.refused ≡ true → string_capacity before.out.now < length_so_far before + length text
    pub room : string_capacity before.out.now ≤ string_capacity after.out.now
