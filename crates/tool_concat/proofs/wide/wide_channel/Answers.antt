use Rattle.std.proofs.Common.{◌≡◌, ◌+◌, ℕ, List, [], false, true, length, get_or, refl, sym, ◌∙◌, ap, arith}
use Rattle.std.proofs.lemmas.Bool.{both_ways}
use Rattle.std.proofs.lemmas.Option.{slice_get_within}
use Rattle.std.specs.Prelude.{slice_get}
use borrow.Author.Count.{below_more}
use Rattle.mdf_layout.specs.Rule.{is_variable}
use Rattle.mdf_layout.specs.declared.field.FieldRow.{FieldRow}
use Rattle.tool_concat.specs.Moved.{shift_of}
use Rattle.tool_concat.specs.Wide.{IsWide}
use Rattle.tool_concat.proofs.Apart.{offsets_placed, variable_kind}
use Rattle.tool_concat.proofs.Counts.{streams_none, streams_one}
use Rattle.tool_concat.proofs.Holds.{held_here, none_here}
use Rattle.tool_concat.proofs.wide.wide_channel.Goals as goal

pub loop-channel-preserved-then-not-is_variable : goal.loop-channel-preserved-then-not-is_variable
loop-channel-preserved-then-not-is_variable c =
    let layout = c.args.shape.now in
    let i = c.loop-channel.channel in
    let row = c.row_at-row.result in
    let rows_are = c.as_slice-rows.ensures ∙ c.fields.ensures.rows in
    let there = ap (λ (rows : List FieldRow). slice_get rows i) (sym rows_are) ∙ c.row_at-row.ensures in
    let is : is_variable row ≡ false = sym c.if-not-is_variable.ensures in
    record {
      earlier = below_more (λ (j : ℕ). ¬ IsWide layout c.args.content.now c.args.count c.args.streams.now j) i c.loop-channel.invariant.earlier
          (none_here layout c.args.content.now c.args.count c.args.streams.now i row there is);
      before = c.loop-channel.invariant.before ∙ sym (streams_none c.as_slice-rows.result.now i row c.row_at-row.ensures is);
      few = omega (arith, c.loop-channel.invariant.few);
    }

pub has_past-requires-clause-placed : goal.has_past-requires-clause-placed
has_past-requires-clause-placed c =
    let layout = c.args.shape.now in
    let i = c.loop-channel.channel in
    let row = c.row_at-row.result in
    let rows_are = c.as_slice-rows.ensures ∙ c.fields.ensures.rows in
    let there = ap (λ (rows : List FieldRow). slice_get rows i) (sym rows_are) ∙ c.row_at-row.ensures in
    (offsets_placed layout c.fields.ensures.ruled).placed i row (record { there = there; kind = variable_kind row (sym c.if-not-is_variable.ensures) })

pub loop-channel-preserved : goal.loop-channel-preserved
loop-channel-preserved c =
    let layout = c.args.shape.now in
    let streams = c.args.streams.now in
    let i = c.loop-channel.channel in
    let row = c.row_at-row.result in
    let rows_are = c.as_slice-rows.ensures ∙ c.fields.ensures.rows in
    let there = ap (λ (rows : List FieldRow). slice_get rows i) (sym rows_are) ∙ c.row_at-row.ensures in
    let is : is_variable row ≡ true = sym c.if-not-is_variable.ensures in
    let shift : c.stream_length.result ≡ shift_of layout.rows streams i =
    c.stream_length.ensures ∙ ap (λ (n : ℕ). length (get_or streams n [])) c.loop-channel.invariant.before
    ∙ ap (λ (rows : List FieldRow). shift_of rows streams i) rows_are in
    record {
      earlier = below_more (λ (j : ℕ). ¬ IsWide layout c.args.content.now c.args.count streams j) i c.loop-channel.invariant.earlier
          (held_here layout c.args.content.now c.args.count streams i row c.stream_length.result there shift
          (λ past. both_ways false refl (c.if-has_past.ensures.held past)));
      before = ap (λ (n : ℕ). n + 1) c.loop-channel.invariant.before ∙ sym (streams_one c.as_slice-rows.result.now i row c.row_at-row.ensures is);
      few = omega (arith, c.loop-channel.invariant.few);
    }

pub returns-clause-held : goal.returns-clause-held
returns-clause-held c =
    λ k wide.
    let rows_are = c.as_slice-rows.ensures ∙ c.fields.ensures.rows in
    let long = ap (λ (rows : List FieldRow). length rows) rows_are in
    c.loop-channel.invariant.earlier k (omega (arith, slice_get_within c.args.shape.now.rows k wide.row wide.variable.there, c.loop-channel-test.false, long)) wide
