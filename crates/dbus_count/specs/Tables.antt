-- The rows of a table: the names that begin with a word, the most frequent first; and their lines.
use Rattle.std.specs.Prelude.{◌≡◌, ℕ, nat_eq, List, [], ◌∷◌, ◌++◌, Bool, true, Option, Some, map, drop, length, codes, decimal, if◌then◌else◌}
use Rattle.std.specs.Borrow.{Bor}
use Rattle.std.specs.Cmp.Lexicographic.{slice_cmp}
use Rattle.std.specs.List.{All, Contains, IsDistinct, flat_map, starts_with}
use Rattle.std.specs.List.Sorted.{IsSortedBy}
use Rattle.std.specs.Ordering.{is_lt, nat_cmp, ordering_then}
use Rattle.std.specs.Str.{bytes_eq}
use Rattle.dbus_json.specs.JsonValues.{member, object, string}
use Rattle.dbus_count.specs.Counting.{Counting}
use Rattle.dbus_count.specs.NameOrder.{bytes_of}
use Rattle.dbus_count.specs.declared.count.Count.{Count}
use Rattle.dbus_count.specs.declared.form.Form.{Form}
use Rattle.dbus_count.specs.declared.form.Form.TheVariants.{Text, Json}
use Rattle.dbus_count.specs.declared.name.Name.{Name}
use Rattle.dbus_count.specs.declared.span.Span.{Span}
use Rattle.dbus_count.specs.Spans.{span_text}

-- a name with its count
abbrev pub Row : Type 0
Row = List ℕ × Count

abbrev pub row_of : Bor Name × Bor Count → Row
row_of p = (bytes_of p.0.now, p.1.now)

-- more messages have the first name; or as many, and its bytes come first
abbrev pub goes_before : Row → Row → Bool
goes_before a b = is_lt (ordering_then (nat_cmp b.1.messages a.1.messages) (slice_cmp nat_cmp a.0 b.0))

-- each name that begins with the word and was counted has one row, with its count, and no row
-- stands behind one that it goes before
pub record AreRows (c : Counting) (word : List ℕ) (rows : List Row) : Type 0 where
  pub counted : All (λ row. (starts_with nat_eq row.0 word ≡ true) × (c row.0 ≡ Some row.1)) rows
  pub all : (name : List ℕ) (count : Count) → starts_with nat_eq name word ≡ true → c name ≡ Some count → Contains rows (name, count)
  pub distinct : IsDistinct bytes_eq (map (λ row. row.0) rows)
  pub sorted : IsSortedBy goes_before rows

-- what stands behind the front of a text; all of it if the front is not there
abbrev pub behind : (front text : List ℕ) → List ℕ
behind front text = if starts_with nat_eq text front then drop (length front) text else text

-- the name of a row, which stands behind its word and a space
abbrev pub name_of : (word : List ℕ) → Row → List ℕ
name_of word row = behind (codes " ") (behind word row.0)

-- how many messages of how many bytes have the name, in words
abbrev pub in_words : Row → List ℕ
in_words row = decimal row.1.messages ++ (codes " messages " ++ (decimal row.1.bytes ++ (codes " bytes " ++ (row.0 ++ codes "\n"))))

-- the same as an object of JSON
abbrev pub as_object : (word : List ℕ) → Row → List ℕ
as_object word row =
    object (member word (string (name_of word row)) ∷ member (codes "messages") (decimal row.1.messages) ∷ member (codes "bytes") (decimal row.1.bytes) ∷ []) ++ codes "\n"

-- the line of a row
abbrev pub row_text : Form → (word : List ℕ) → Row → List ℕ
row_text Text word row = in_words row
row_text Json word row = as_object word row

abbrev pub rows_text : Form → (word : List ℕ) → List Row → List ℕ
rows_text form word rows = flat_map (row_text form word) rows

module _ (form : Form) (c : Counting) where
  -- a table for each word, one after the other
  abbrev pub AreTables : (words : List (List ℕ)) → (text : List ℕ) → Type 0
  AreTables [] text = text ≡ []
  AreTables (word ∷ words) text = (rows : List Row) × (more : List ℕ) × AreRows c word rows × AreTables words more × (text ≡ rows_text form word rows ++ more)

-- the words of the tables, of which none begins with another
abbrev pub words : List (List ℕ)
words = codes "type" ∷ codes "sender" ∷ codes "destination" ∷ codes "interface" ∷ codes "member" ∷ codes "error" ∷ []

-- the tables, and after them the line of the span, if there is one
pub record IsSummary (form : Form) (c : Counting) (span : Option Span) (text : List ℕ) : Type 0 where
  pub tables : List ℕ
  pub are : AreTables form c words tables
  pub is : text ≡ tables ++ span_text form span

-- What holds of tables.

-- the form, the counts and the words determine the text
abbrev pub OneTable : Type 0
OneTable = (form : Form) (c : Counting) (words : List (List ℕ)) (text other : List ℕ) → AreTables form c words text → AreTables form c words other → text ≡ other
