use Rattle.std.proofs.Common.{◌≡◌, ◌+◌, ◌<◌, ◌^◌, ℕ, [], false, true, length, get_or, refl, sym, ◌∙◌, ap, subst, arith}
use Rattle.mdf_format.specs.Row.{IsNumberPlaced}
use Rattle.mdf_layout.specs.Rule.{is_variable, spot_in}
use Rattle.tool_concat.specs.Moved.{IsVariableAt, offset_in, shift_of}
use Rattle.tool_concat.proofs.Apart.{variable_kind}
use Rattle.tool_concat.proofs.Counts.{streams_none, streams_one}
use Rattle.tool_concat.proofs.Moves.{moved_more, moved_past, own_held}
use Rattle.tool_concat.proofs.moved.move_offsets.Goals as goal

pub loop-channel-preserved-then-not-is_variable : goal.loop-channel-preserved-then-not-is_variable
loop-channel-preserved-then-not-is_variable c =
    let rows = c.args.rows.now in
    let i = c.loop-channel.channel in
    let row = c.row_at-row.result in
    let there = c.row_at-row.ensures in
    let is : is_variable row ≡ false = sym c.if-not-is_variable.ensures in
    record {
      moved = moved_past rows c.args.streams.now i row c.args.bytes.now c.loop-channel.bytes there is c.loop-channel.invariant.moved;
      before = c.loop-channel.invariant.before ∙ sym (streams_none rows i row there is);
      few = omega (arith, c.loop-channel.invariant.few);
    }

pub move_offset-requires-clause-placed : goal.move_offset-requires-clause-placed
move_offset-requires-clause-placed c =
    let row = c.row_at-row.result in
    let is : is_variable row ≡ true = sym c.if-not-is_variable.ensures in
    let here : IsVariableAt c.args.rows.now c.loop-channel.channel row = record { there = c.row_at-row.ensures; kind = variable_kind row is } in
    subst (λ (n : ℕ). IsNumberPlaced n (spot_in row)) (sym c.loop-channel.invariant.moved.long) (c.requires.placed.placed c.loop-channel.channel row here)

pub move_offset-requires-clause-held : goal.move_offset-requires-clause-held
move_offset-requires-clause-held c =
    let rows = c.args.rows.now in
    let streams = c.args.streams.now in
    let old = c.args.bytes.now in
    let mid = c.loop-channel.bytes in
    let i = c.loop-channel.channel in
    let row = c.row_at-row.result in
    let is : is_variable row ≡ true = sym c.if-not-is_variable.ensures in
    let here : IsVariableAt rows i row = record { there = c.row_at-row.ensures; kind = variable_kind row is } in
    let shift : c.stream_length.result ≡ shift_of rows streams i =
    c.stream_length.ensures ∙ ap (λ (n : ℕ). length (get_or streams n [])) c.loop-channel.invariant.before in
    subst (λ (n : ℕ). offset_in row mid + n < 2 ^ row.bits) (sym shift)
    (own_held rows streams (length old) c.requires.placed i row here old mid refl c.loop-channel.invariant.moved c.requires.held)

pub loop-channel-preserved : goal.loop-channel-preserved
loop-channel-preserved c =
    let rows = c.args.rows.now in
    let streams = c.args.streams.now in
    let old = c.args.bytes.now in
    let mid = c.loop-channel.bytes in
    let i = c.loop-channel.channel in
    let row = c.row_at-row.result in
    let there = c.row_at-row.ensures in
    let is : is_variable row ≡ true = sym c.if-not-is_variable.ensures in
    let here : IsVariableAt rows i row = record { there = there; kind = variable_kind row is } in
    let shift : c.stream_length.result ≡ shift_of rows streams i =
    c.stream_length.ensures ∙ ap (λ (n : ℕ). length (get_or streams n [])) c.loop-channel.invariant.before in
    record {
      moved = moved_more rows streams (length old) c.requires.placed i row here old mid refl c.loop-channel.invariant.moved c.move_offset.new.bytes
          c.move_offset.ensures.long (c.move_offset.ensures.offset ∙ ap (λ (n : ℕ). offset_in row mid + n) shift) c.move_offset.ensures.others;
      before = ap (λ (n : ℕ). n + 1) c.loop-channel.invariant.before ∙ sym (streams_one rows i row there is);
      few = omega (arith, c.loop-channel.invariant.few);
    }
