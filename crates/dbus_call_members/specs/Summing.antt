-- What came of the calls of each member, and how long they took: sums over all calls that ended, by
-- the text that is kept of them. D-Bus Specification, "Message Types"; it says nothing of times,
-- which are those of a capture.
use Rattle.std.specs.Prelude.{◌≡◌, ℕ, ◌+◌, ◌-◌, ◌^◌, min, max, List, [], ◌∷◌, ◌++◌, length, Bool, true, false, not, if◌then◌else◌, Option, None, Some, is_some, option_map}
use Rattle.std.specs.BTreeMap.{get_by_text}
use Rattle.std.specs.List.{filter, fold, sum_by}
use Rattle.std.specs.Option.{unwrap_or}
use Rattle.std.specs.Str.{bytes_eq}
use Rattle.dbus_message_model.specs.Messages.{MessageTree}
use Rattle.dbus_call_lines.specs.CallLines.{called}
use Rattle.dbus_call_lines.specs.Durations.{time_between}
use Rattle.dbus_call_lines.specs.Keeping.{EndedCall, Texts}
use Rattle.dbus_call_lines.specs.Outcomes.{Outcome, is_error, is_unanswered}
use Rattle.dbus_call_lines.specs.Outcomes.Outcome.{Reply}
use Rattle.dbus_call_lines.specs.declared.elapsed.Elapsed.{Elapsed}
use Rattle.dbus_call_lines.specs.declared.form.Form.{Form}
use Rattle.dbus_call_lines.specs.declared.place.Place.{Place}
use Rattle.dbus_call_members.specs.declared.member_sum.MemberSum.{MemberSum}
use Rattle.dbus_call_members.specs.declared.member_sums.MemberSums.{MemberSums}

-- the text that is kept of a call is its member
abbrev pub members : Texts
members form place names call = called call

-- a METHOD_RETURN came
abbrev pub is_reply : Outcome → Bool
is_reply (Reply at) = true
is_reply outcome = false

-- how many nanoseconds it took, none if the time goes back
abbrev pub forward : Elapsed → ℕ
forward e = if e.backwards then 0 else e.nanoseconds

-- how long a METHOD_RETURN took, if one came and that is known. sent is when the call was captured
abbrev pub time_of : (sent : Option ℕ) → Outcome → Option ℕ
time_of sent (Reply at) = option_map forward (time_between sent at.time)
time_of sent outcome = None

abbrev pub took : EndedCall → Option ℕ
took c = time_of c.place.time c.outcome

abbrev pub one_if : Bool → ℕ
one_if b = if b then 1 else 0

-- how many calls are such
abbrev pub how_many : (EndedCall → Bool) → List EndedCall → ℕ
how_many is calls = sum_by (λ c. one_if (is c)) calls

-- a number that stops at the greatest of 64 bits
abbrev pub upto : ℕ → ℕ
upto n = min n (2 ^ 64 - 1)

-- the sums of calls
abbrev pub summary : List EndedCall → MemberSum
summary calls = record {
  calls = upto (length calls);
  replies = upto (how_many (λ c. is_reply c.outcome) calls);
  errors = upto (how_many (λ c. is_error c.outcome) calls);
  unanswered = upto (how_many (λ c. is_unanswered c.outcome) calls);
  timed = upto (how_many (λ c. is_some (took c)) calls);
  total = upto (sum_by (λ c. unwrap_or (took c) 0) calls);
  longest = fold (λ n c. max n (unwrap_or (took c) 0)) 0 calls;
}

-- those of each member that a call has
abbrev pub Sums : Type 0
Sums = List ℕ → Option MemberSum

abbrev pub summary_if : List EndedCall → Option MemberSum
summary_if [] = None
summary_if (c ∷ calls) = Some (summary (c ∷ calls))

abbrev pub sums : List EndedCall → Sums
sums calls name = summary_if (filter (λ c. bytes_eq c.text name) calls)

-- What sums are known by: those of each name in their map, and whether they lack a call for want of
-- memory.

unfoldable pub sums_in : MemberSums → Sums
sums_in s name = get_by_text s.members name

unfoldable pub is_short : MemberSums → Bool
is_short s = not s.complete

-- they are those of these calls
abbrev pub AreSums : MemberSums → List EndedCall → Type 0
AreSums s calls = (name : List ℕ) → sums_in s name ≡ sums calls name

-- Calls were added, or memory ran out, now or before.
pub record Adds (before : MemberSums) (calls : List EndedCall) (after : MemberSums) : Type 0 where
  pub stays : is_short before ≡ true → is_short after ≡ true
  pub adds : is_short after ≡ false → (earlier : List EndedCall) → AreSums before earlier → AreSums after (earlier ++ calls)

-- One call more of a member.

abbrev pub no_calls : MemberSum
no_calls = record { calls = 0; replies = 0; errors = 0; unanswered = 0; timed = 0; total = 0; longest = 0 }

abbrev pub with_call : MemberSum → (sent : Option ℕ) → Outcome → MemberSum
with_call s sent outcome = record {
  calls = upto (s.calls + 1);
  replies = upto (s.replies + one_if (is_reply outcome));
  errors = upto (s.errors + one_if (is_error outcome));
  unanswered = upto (s.unanswered + one_if (is_unanswered outcome));
  timed = upto (s.timed + one_if (is_some (time_of sent outcome)));
  total = upto (s.total + unwrap_or (time_of sent outcome) 0);
  longest = max s.longest (unwrap_or (time_of sent outcome) 0);
}

abbrev pub with_one : (name : List ℕ) → (sent : Option ℕ) → Outcome → Sums → Sums
with_one name sent outcome s other = if bytes_eq name other then Some (with_call (unwrap_or (s other) no_calls) sent outcome) else s other
