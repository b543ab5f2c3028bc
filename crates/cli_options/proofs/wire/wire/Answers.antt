use Rattle.cli_options.proofs.wire.wire.Goals as goal

pub returns : goal.returns
returns c =
    let showing = c.with_command-showing.ensures _ _ c.bare_command.ensures (c.with_window-show.ensures _ (c.with_selection.ensures _ c.command-show.ensures)) in
    let spelling = c.with_command-spelling.ensures _ _ showing (c.with_window-json.ensures _ (c.with_selection-2.ensures _ c.command-json.ensures)) in
    let listing = c.with_command-listing.ensures _ _ spelling (c.with_window-list.ensures _ (c.with_selection-3.ensures _ c.command-list.ensures)) in
    let checking = c.with_command-checking.ensures _ _ listing (c.with_going-check.ensures _ c.command-check.ensures) in
    let counting = c.with_command-counting.ensures _ _ checking (c.with_going-count.ensures _ (c.with_selection-4.ensures _ c.command-count.ensures)) in
    let pairing = c.with_command-pairing.ensures _ _ counting (c.with_going-calls.ensures _ c.command-calls.ensures) in
    let swapping = c.with_command-swapping.ensures _ _ pairing (c.with_options-swap.ensures _ (c.with_selection-5.ensures _ c.command-swap.ensures)) in
    let filtering = c.with_command-filtering.ensures _ _ swapping (c.with_window-filter.ensures _ (c.with_flags.ensures _ (c.with_selection-filter.ensures _ c.command.ensures))) in
    let encoding = c.with_command-encoding.ensures _ _ filtering (c.with_limits-encode.ensures _ c.command-2.ensures) in
    c.with_command.ensures _ _ encoding c.command-handshake.ensures
