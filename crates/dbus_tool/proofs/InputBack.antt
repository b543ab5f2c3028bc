-- What a run of `json` writes of messages, a run of `encode` reads back, by their words.
use Rattle.std.proofs.Common.{◌≡◌, ◌≢◌, ◌^◌, ◌||◌, ℕ, Bool, true, false, List, None, Some, Option, Ok, Err, refl, sym, subst, inl, inr}
use Rattle.dbus_device.specs.Packets.{Packets}
use Rattle.dbus_device.specs.declared.packet.Packet.{Packet}
use Rattle.dbus_handshake_input.specs.declared.read_ahead.ReadAhead.{ReadAhead}
use Rattle.dbus_handshake_input.specs.declared.side.Side.{Side}
use Rattle.dbus_value_model.specs.declared.limits.Limits.{Limits}
use Rattle.cli_options.specs.Limiting.{ask_more}
use Rattle.cli_options.specs.declared.asked.Asked.{Asked}
use Rattle.cli_options.specs.Selections.{AreSameSelected}
use Rattle.cli_options.specs.declared.asked.Asked.TheVariants.{Messages, Encode, Handshake}
use Rattle.cli_options.specs.declared.command.Output.TheVariants.{JsonLine}
use Rattle.cli_options.specs.declared.command.Request.{Request}
use Rattle.cli_options.specs.declared.command.Task.TheVariants.{Write}
use Rattle.cli_options.specs.declared.selection.Selection.{Selection}
use Rattle.cli_options.specs.declared.settings.Settings.{Settings}
use Rattle.cli_options.specs.declared.wanted_encoding.WantedEncoding.{WantedEncoding}
use Rattle.cli_report.specs.Devices.{Writing}
use Rattle.cli_report.specs.declared.ending.ExitStatus.{ExitStatus}
use Rattle.cli_report.specs.declared.ending.ExitStatus.TheVariants as status
use Rattle.cli_run.specs.Running.{Runs}
use Rattle.cli_run.proofs.RunSteps.{plainly}
use Rattle.cli_encode.specs.Runs.{EncodesLines}
use Rattle.cli_encode_laws.specs.InputBack.{json}
use Rattle.cli_encode_laws.proofs.InputBack.{input_back}
use Rattle.dbus_tool.specs.Handshaking.{TakesHandshake, ahead}
use Rattle.dbus_tool.specs.InputBack.{ProgramBack}
use Rattle.dbus_tool.specs.Words.{Does, DoesBy, DoesTask, RunsNoted, encoding_wanted}
use Rattle.dbus_tool.proofs.SameAsked.{AreSameAsked, request, same_asked}
use Rattle.dbus_tool.proofs.SamePrograms.{answer_is, unnoted}

explains_none : (a b c d : Bool) → (a || b || c || d) ≡ false → b ≡ false
explains_none true b c d e = absurd cc
explains_none false true c d e = absurd cc
explains_none false false c d e = refl

-- what is asked for by `json`
abbrev asks : (times safe : Bool) → Settings → Request
asks times safe settings = request (Write (JsonLine times safe)) settings None

none_made : (selection : Option Selection) → AreSameSelected None selection → None ≡ selection
none_made None same = refl
none_made (Some s) same = absurd same

unfailed : status.Done ≢ status.Failed
unfailed e = cc

module _ {R W E : Type 0} (left : R → Option (List ℕ)) (calls failures : R → ℕ) (packets : R → Option Packets) (packet : R → Option Packet) (old new : ReadAhead R) (w : Writing W) (e : Writing E) where
  -- no handshake is taken first
  from_start : (settings : Settings) (times safe : Bool) → ask_more settings ≡ false → DoesTask left calls failures packets packet old new w e (asks times safe settings) status.Done → settings.handshake ≡ None
      → Runs (ahead left calls failures packets packet old new) w e settings.limits (2 ^ 32) (json times safe) status.Done
  from_start settings times safe no_more (inl does) none =
      let begun : does.0 ≡ old = subst (λ (s : Option Side). TakesHandshake left calls failures packets packet s old does.0 (Ok tt)) none does.1 in
      plainly (ahead left calls failures packets packet old new) w e settings no_more _ (json times safe) status.Done
      (subst (λ (a : ReadAhead R). DoesBy (ahead left calls failures packets packet a new) w e settings None (Write (JsonLine times safe)) status.Done) begun does.2)
  from_start settings times safe no_more (inr told) none = absurd (subst (λ (s : Option Side). TakesHandshake left calls failures packets packet s old new (Err told.0)) none told.1)

  runs_json : (settings : Settings) (times safe : Bool) (asked : Asked) → AreSameAsked (Messages (asks times safe settings)) asked → ask_more settings ≡ false → settings.handshake ≡ None
      → Does left calls failures packets packet old new w e (Ok asked) status.Done → Runs (ahead left calls failures packets packet old new) w e settings.limits (2 ^ 32) (json times safe) status.Done
  runs_json settings times safe (Messages r) same no_more none does =
      let is : asks times safe settings ≡ r = λ i. record { task = same.0 i; selection = none_made r.selection same.1 i; settings = same.2 i } in
      let there = subst (λ (x : Request). RunsNoted left calls failures packets packet old new w e x status.Done) (sym is) does in
      from_start settings times safe no_more (unnoted left calls failures packets packet old new w e (asks times safe settings) status.Done unfailed (explains_none settings.as_json settings.explains settings.keeps_going _ no_more) there) none
  runs_json settings times safe (Encode a) same no_more none does = absurd same
  runs_json settings times safe (Handshake a) same no_more none does = absurd same

  runs_encode : (wanted : WantedEncoding) (asked : Asked) (end : ExitStatus) → AreSameAsked (Encode wanted) asked → Does left calls failures packets packet old new w e (Ok asked) end
      → EncodesLines (ahead left calls failures packets packet old new) w e (encoding_wanted wanted) (2 ^ 32) end
  runs_encode wanted (Encode a) end same does = subst (λ (x : WantedEncoding). Does left calls failures packets packet old new w e (Ok (Encode x)) end) (sym same) does
  runs_encode wanted (Messages r) end same does = absurd same
  runs_encode wanted (Handshake a) end same does = absurd same

pub program_back : (R S W V E F : Type 0) → ProgramBack R S W V E F
program_back R S W V E F left calls failures packets packet other_left other_calls other_failures other_packets other_packet r0 r1 s0 s1 w v e f words others end named runs ran input text known small empty held given short done =
    let j = answer_is left calls failures packets packet r0 r1 w e words (Messages (asks named.times named.safe named.settings)) named.json named.faultless status.Done unfailed runs.answer runs.named runs.told runs.does in
    let k = answer_is other_left other_calls other_failures other_packets other_packet s0 s1 v f others (Encode named.wanted) named.encode named.others_faultless end done ran.answer ran.named ran.told ran.does in
    let first = runs_json left calls failures packets packet r0 r1 w e named.settings named.times named.safe j.0 (same_asked words (Messages (asks named.times named.safe named.settings)) j.0 named.json j.1) named.no_more named.no_handshake j.2 in
    let second = runs_encode other_left other_calls other_failures other_packets other_packet s0 s1 v f named.wanted k.0 end (same_asked others (Encode named.wanted) k.0 named.encode k.1) k.2 in
    let within = subst (λ (l : Limits). Runs (ahead left calls failures packets packet r0 r1) w e l (2 ^ 32) (json named.times named.safe) status.Done) (sym named.same_limits) first in
    let so = subst (λ (b : Bool). Runs (ahead left calls failures packets packet r0 r1) w e named.wanted.limits (2 ^ 32) (json named.times b) status.Done) (sym named.same_integers) within in
    input_back (ReadAhead R) (ReadAhead S) W V E F (ahead left calls failures packets packet r0 r1) (ahead other_left other_calls other_failures other_packets other_packet s0 s1) w v e f named.times (encoding_wanted named.wanted) _ _ input text end
    known small so empty held given named.no_order short done second
