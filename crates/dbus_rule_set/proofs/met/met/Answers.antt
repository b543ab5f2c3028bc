use denote.Ref.{Bor}
use Rattle.std.proofs.Common.{◌≡◌, ◌⊎◌, inr, List, ℕ, Option, IfSome, refl, sym, ap, ◌∙◌, subst}
use Rattle.dbus_texts.specs.Characters.{slash, dot}
use Rattle.dbus_texts.specs.Types.{STRING, OBJECT_PATH}
use Rattle.dbus_message_model.specs.KnownFields.{field_value, body_value}
use Rattle.dbus_message_model.specs.MessageTypes.{type_name}
use Rattle.dbus_message_model.specs.Messages.{MessageTree}
use Rattle.dbus_rule.specs.declared.key.Key.{Key}
use Rattle.dbus_match.specs.Matching.{HoldsAt, IsInNamespace, IsOwned, IsThere, IsWithin, Ownership, PathsMeet, string_of, string_or_path_of}
use Rattle.dbus_rule_set.specs.Owners.{owners_in}
use Rattle.dbus_rule_set.specs.Places.{Covers, IsAmong, IsFront, place_hash, trimmed}
use Rattle.dbus_rule_set.proofs.Fronts.{covers_along, namespace_front, some_along}
use Rattle.dbus_rule_set.proofs.Placed.{seen_text, seen_field}
use Rattle.dbus_rule_set.proofs.met.met.Goals as goal

abbrev read : Bor (List ℕ) → List ℕ
read s = s.now

abbrev CoversOnly : List ℕ → Option (List ℕ) → Type 0
CoversOnly hashes text = Covers text (λ v w. v ≡ w) (λ v. v) hashes

-- of the values of a key that hold the hashes are among these
abbrev Met : MessageTree → List Ownership → List ℕ → Key → Type 0
Met m os hashes key = (v : List ℕ) → HoldsAt key v m os → IsAmong (place_hash key v) hashes

pub returns-in-MessageType-clause-met : goal.returns-in-MessageType-clause-met
returns-in-MessageType-clause-met c = λ order m view.
    let os = owners_in c.args.owners.now in
    subst (Met m os c.only.result.items) (sym c.in-MessageType.is)
    (λ v is. c.only.ensures v (subst (λ (o : Option (List ℕ)). IsThere o (λ w. v ≡ w)) (sym (c.type_name.ensures ∙ ap type_name (c.kind.ensures order m view) ∙ is)) refl))

pub returns-in-Sender-clause-met : goal.returns-in-Sender-clause-met
returns-in-Sender-clause-met c = λ order m view.
    let os = owners_in c.args.owners.now in
    let r = c.senders.result in
    subst (λ key. IfSome r (λ hashes. Met m os hashes.items key)) (sym c.in-Sender.is)
    (subst (λ (o : Option (List ℕ)). IfSome r (λ hashes. Covers o (λ v w. (v ≡ w) ⊎ IsOwned os v w) (λ v. v) hashes.items))
    (seen_field read STRING c.sender.result (field_value 7 m.fields) (c.sender.ensures order m view)) c.senders.ensures)

pub returns-in-Interface-clause-met : goal.returns-in-Interface-clause-met
returns-in-Interface-clause-met c = λ order m view.
    let os = owners_in c.args.owners.now in
    let hashes = c.only-in-Interface.result.items in
    subst (Met m os hashes) (sym c.in-Interface.is)
    (subst (CoversOnly hashes) (seen_field read STRING c.interface.result (field_value 2 m.fields) (c.interface.ensures order m view)) c.only-in-Interface.ensures)

pub returns-in-Member-clause-met : goal.returns-in-Member-clause-met
returns-in-Member-clause-met c = λ order m view.
    let os = owners_in c.args.owners.now in
    let hashes = c.only-in-Member.result.items in
    subst (Met m os hashes) (sym c.in-Member.is)
    (subst (CoversOnly hashes) (seen_field read STRING c.member.result (field_value 3 m.fields) (c.member.ensures order m view)) c.only-in-Member.ensures)

pub returns-in-Path-clause-met : goal.returns-in-Path-clause-met
returns-in-Path-clause-met c = λ order m view.
    let os = owners_in c.args.owners.now in
    let hashes = c.only-in-Path.result.items in
    subst (Met m os hashes) (sym c.in-Path.is)
    (subst (CoversOnly hashes) (seen_field read OBJECT_PATH c.path.result (field_value 1 m.fields) (c.path.ensures order m view)) c.only-in-Path.ensures)

pub returns-in-Destination-clause-met : goal.returns-in-Destination-clause-met
returns-in-Destination-clause-met c = λ order m view.
    let os = owners_in c.args.owners.now in
    let hashes = c.only-in-Destination.result.items in
    subst (Met m os hashes) (sym c.in-Destination.is)
    (subst (CoversOnly hashes) (seen_field read STRING c.destination.result (field_value 6 m.fields) (c.destination.ensures order m view)) c.only-in-Destination.ensures)

pub returns-in-PathNamespace-clause-met : goal.returns-in-PathNamespace-clause-met
returns-in-PathNamespace-clause-met c = λ order m view.
    let os = owners_in c.args.owners.now in
    subst (λ key. IfSome c.fronts_of.result (λ hashes. Met m os hashes.items key)) (sym c.in-PathNamespace.is)
    (some_along c.fronts_of.result (λ hashes. covers_along _ (λ v w. IsInNamespace v w) (λ v w. IsFront slash v w) trimmed hashes.items namespace_front)
    (subst (λ (o : Option (List ℕ)). IfSome c.fronts_of.result (λ hashes. Covers o (λ v w. IsFront slash v w) (λ v. v) hashes.items))
    (seen_field read OBJECT_PATH c.path-in-PathNamespace.result (field_value 1 m.fields) (c.path-in-PathNamespace.ensures order m view)) c.fronts_of.ensures))

pub returns-in-Arg-clause-met : goal.returns-in-Arg-clause-met
returns-in-Arg-clause-met c = λ order m view.
    let os = owners_in c.args.owners.now in
    let hashes = c.only-in-Arg.result.items in
    subst (Met m os hashes) (sym c.in-Arg.is)
    (subst (CoversOnly hashes) (seen_text read c.string_arg.result (string_of (body_value c.in-Arg.n m.body)) (c.string_arg.ensures order m view)) c.only-in-Arg.ensures)

pub returns-in-ArgPath-clause-met : goal.returns-in-ArgPath-clause-met
returns-in-ArgPath-clause-met c = λ order m view.
    let os = owners_in c.args.owners.now in
    subst (λ key. IfSome c.paths.result (λ hashes. Met m os hashes.items key)) (sym c.in-ArgPath.is)
    (subst (λ (o : Option (List ℕ)). IfSome c.paths.result (λ hashes. Covers o (λ v w. PathsMeet v w) trimmed hashes.items))
    (seen_text read c.string_or_path_arg.result (string_or_path_of (body_value c.in-ArgPath.n m.body)) (c.string_or_path_arg.ensures order m view)) c.paths.ensures)

pub returns-in-Arg0Namespace-clause-met : goal.returns-in-Arg0Namespace-clause-met
returns-in-Arg0Namespace-clause-met c = λ order m view.
    let os = owners_in c.args.owners.now in
    let r = c.fronts_of-in-Arg0Namespace.result in
    subst (λ key. IfSome r (λ hashes. Met m os hashes.items key)) (sym c.in-Arg0Namespace.is)
    (some_along r (λ hashes. covers_along _ (λ v w. IsWithin dot v w) (λ v w. IsFront dot v w) (λ v. v) hashes.items (λ v w is. inr is))
    (subst (λ (o : Option (List ℕ)). IfSome r (λ hashes. Covers o (λ v w. IsFront dot v w) (λ v. v) hashes.items))
    (seen_text read c.string_arg-in-Arg0Namespace.result (string_of (body_value 0 m.body)) (c.string_arg-in-Arg0Namespace.ensures order m view)) c.fronts_of-in-Arg0Namespace.ensures))
