use Rattle.std.proofs.Common.{rules, ◌≡◌, ℕ, length, arith, length-take}
use Rattle.dbus_c_auth.proofs.guid_text.write_guid.Goals as goal

pub returns-clause-no_room : goal.returns-clause-no_room
returns-clause-no_room c = λ e.
    let sized : length c.args.guid.0 ≡ 16 = search rules in
    let done = c.encode_to_slice.ensures.fits.1 (omega (arith, sized, length-take {A = ℕ}, c.if-out-lt-GUID_ROOM.false)) in
    search (rules, done, c.is_ok.ensures.value, e)
