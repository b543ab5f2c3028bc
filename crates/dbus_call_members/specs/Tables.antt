-- The table of members: those with calls, those of most time first; and their lines.
use Rattle.std.specs.Prelude.{◌≡◌, ℕ, nat_eq, ◌/◌, List, [], ◌∷◌, ◌++◌, Bool, true, false, Some, map, codes, decimal, if◌then◌else◌}
use Rattle.std.specs.Borrow.{Bor}
use Rattle.std.specs.Cmp.Lexicographic.{slice_cmp}
use Rattle.std.specs.List.{All, Contains, IsDistinct, flat_map}
use Rattle.std.specs.List.Sorted.{IsSortedBy}
use Rattle.std.specs.Ordering.{is_lt, nat_cmp, ordering_then}
use Rattle.std.specs.Prelude.{String, string_bytes}
use Rattle.std.specs.Str.{bytes_eq}
use Rattle.std.specs.declared.alloc.Global.{Global}
use Rattle.dbus_json.specs.JsonValues.{member, object, string}
use Rattle.dbus_call_lines.specs.Durations.{exact_text, milliseconds_text}
use Rattle.dbus_call_lines.specs.declared.elapsed.Elapsed.{Elapsed}
use Rattle.dbus_call_lines.specs.declared.form.Form.{Form}
use Rattle.dbus_call_lines.specs.declared.form.Form.TheVariants.{Text, Json}
use Rattle.dbus_call_members.specs.Summing.{Sums}
use Rattle.dbus_call_members.specs.declared.member_sum.MemberSum.{MemberSum}

-- a member with its sums
abbrev pub Row : Type 0
Row = List ℕ × MemberSum

abbrev pub row_of : Bor (String Global) × Bor MemberSum → Row
row_of p = (string_bytes p.0.now, p.1.now)

-- the calls of the first took more time; or as much, and they are more; or they are as many, and
-- its bytes come first
abbrev pub goes_before : Row → Row → Bool
goes_before a b = is_lt (ordering_then (nat_cmp b.1.total a.1.total) (ordering_then (nat_cmp b.1.calls a.1.calls) (slice_cmp nat_cmp a.0 b.0)))

-- each member that a call has is in one row, with its sums, and no row stands behind one that it
-- goes before
pub record AreRows (s : Sums) (rows : List Row) : Type 0 where
  pub summed : All (λ row. s row.0 ≡ Some row.1) rows
  pub all : (name : List ℕ) (sum : MemberSum) → s name ≡ Some sum → Contains rows (name, sum)
  pub distinct : IsDistinct bytes_eq (map (λ row. row.0) rows)
  pub sorted : IsSortedBy goes_before rows

-- ---- lines

-- so many nanoseconds
abbrev pub lasting : ℕ → Elapsed
lasting n = record { backwards = false; nanoseconds = n }

-- how long a METHOD_RETURN took in the mean, rounded down
abbrev pub mean : MemberSum → ℕ
mean s = s.total / s.timed

-- how long METHOD_RETURNs took, if that is known of one
abbrev pub times_text : MemberSum → List ℕ
times_text s = if nat_eq s.timed 0 then [] else
    milliseconds_text (lasting s.total) ++ (codes " ms total " ++ (milliseconds_text (lasting (mean s)) ++ (codes " ms mean " ++ (milliseconds_text (lasting s.longest) ++ codes " ms longest "))))

-- in words
abbrev pub in_words : Row → List ℕ
in_words row =
    decimal row.1.calls ++ (codes " calls " ++ (decimal row.1.replies ++ (codes " replies " ++ (decimal row.1.errors ++ (codes " errors " ++ (decimal row.1.unanswered
    ++ (codes " no reply " ++ (times_text row.1 ++ (row.0 ++ codes "\n")))))))))

abbrev pub times_members : MemberSum → List (List ℕ)
times_members s = if nat_eq s.timed 0 then [] else
    member (codes "total_milliseconds") (exact_text (lasting s.total))
    ∷ member (codes "mean_milliseconds") (exact_text (lasting (mean s)))
    ∷ member (codes "longest_milliseconds") (exact_text (lasting s.longest)) ∷ []

-- as an object of JSON
abbrev pub as_object : Row → List ℕ
as_object row = object (
    member (codes "member") (string row.0)
    ∷ member (codes "calls") (decimal row.1.calls)
    ∷ member (codes "replies") (decimal row.1.replies)
    ∷ member (codes "errors") (decimal row.1.errors)
    ∷ member (codes "no_reply") (decimal row.1.unanswered)
    ∷ times_members row.1) ++ codes "\n"

abbrev pub row_text : Form → Row → List ℕ
row_text Text row = in_words row
row_text Json row = as_object row

abbrev pub rows_text : Form → List Row → List ℕ
rows_text form rows = flat_map (row_text form) rows

-- the table is this text
abbrev pub IsTable : Form → Sums → (text : List ℕ) → Type 0
IsTable form s text = (rows : List Row) × AreRows s rows × (text ≡ rows_text form rows)

-- What holds of tables.

-- the form and the sums determine the text
abbrev pub OneTable : Type 0
OneTable = (form : Form) (s : Sums) (text other : List ℕ) → IsTable form s text → IsTable form s other → text ≡ other
