-- From when to when messages were captured, and how many a second these are. Times are in
-- nanoseconds since 1970 began in UTC.
-- POSIX.1-2017, Base Definitions, "Seconds Since the Epoch"; D-Bus says nothing of times.
use Rattle.std.specs.Prelude.{◌≡◌, ◌≤◌, ℕ, ◌-◌, ◌*◌, ◌/◌, ◌^◌, List, [], ◌∷◌, ◌++◌, if◌then◌else◌, nat_eq, min, max, Option, None, Some, codes, decimal, length}
use Rattle.std.specs.List.{All, Contains}
use Rattle.dbus_json.specs.JsonValues.{member}
use Rattle.dbus_json.specs.Times.{seconds_text, thousandths_text}
use Rattle.dbus_count.specs.Counting.{sum_of}
use Rattle.dbus_count.specs.declared.form.Form.{Form}
use Rattle.dbus_count.specs.declared.form.Form.TheVariants.{Text, Json}
use Rattle.dbus_count.specs.declared.span.Span.{Span}

-- one message more, of this time
abbrev pub with_time : (time : ℕ) → Option Span → Span
with_time time None = record { messages = 1; first = time; last = time }
with_time time (Some span) = record { messages = sum_of span.messages 1; first = min span.first time; last = max span.last time }

-- messages more, of these times
abbrev pub with_times : (times : List ℕ) → Option Span → Option Span
with_times [] span = span
with_times (time ∷ times) span = with_times times (Some (with_time time span))

-- how long it takes from the first to the last
abbrev pub duration : Span → ℕ
duration span = span.last - span.first

-- how many thousandths of messages a second these are, rounded down, if it takes any time
abbrev pub rate : Span → Option ℕ
rate span = if nat_eq (duration span) 0 then None else Some (min (span.messages * 1000000000000 / duration span) (2 ^ 64 - 1))

abbrev pub rate_in_words : Option ℕ → List ℕ
rate_in_words None = []
rate_in_words (Some thousandths) = codes ", " ++ (thousandths_text thousandths ++ codes " a second")

-- how many messages came in how many seconds, in words
abbrev pub span_in_words : Span → List ℕ
span_in_words span = decimal span.messages ++ (codes " messages in " ++ (seconds_text (duration span) ++ (codes " seconds" ++ (rate_in_words (rate span) ++ codes "\n"))))

-- the same as an object of JSON
abbrev pub rate_member : Option ℕ → List ℕ
rate_member None = []
rate_member (Some thousandths) = codes "," ++ member (codes "messages_per_second") (thousandths_text thousandths)

abbrev pub span_as_object : Span → List ℕ
span_as_object span = codes "{" ++ (member (codes "seconds") (seconds_text (duration span)) ++ (codes "," ++ (member (codes "messages") (decimal span.messages) ++ (rate_member (rate span) ++ codes "}\n"))))

-- the line of a span, if there is one
abbrev pub span_text : Form → Option Span → List ℕ
span_text form None = []
span_text Text (Some span) = span_in_words span
span_text Json (Some span) = span_as_object span

-- What a span is of all times.

-- as many messages as there are times, up to the greatest number of 64 bits, and the least and the
-- greatest of the times
pub record IsSpanOf (times : List ℕ) (span : Span) : Type 0 where
  pub messages : span.messages ≡ min (length times) (2 ^ 64 - 1)
  pub first_is : Contains times span.first
  pub first : All (λ time. span.first ≤ time) times
  pub last_is : Contains times span.last
  pub last : All (λ time. time ≤ span.last) times

-- no times have none
abbrev pub IsSpan : (times : List ℕ) → Option Span → Type 0
IsSpan times None = times ≡ []
IsSpan times (Some span) = IsSpanOf times span

abbrev pub EachSpan : Type 0
EachSpan = (times : List ℕ) → IsSpan times (with_times times None)
