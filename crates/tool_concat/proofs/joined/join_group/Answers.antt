use Rattle.std.proofs.Common.{◌≡◌, ◌+◌, ◌*◌, ◌++◌, ℕ, List, length, get_or, sym, ◌∙◌, ap, arith, get_or-set_other, get_or-set_same, length-set, ◌<◌}
use Rattle.mdf_layout.specs.Layout.{Layout, record_size}
use Rattle.mdf_model.specs.declared.part.GroupPart.{GroupPart}
use Rattle.mdf_model.specs.declared.part.Measure.{Measure}
use Rattle.mdf_model.specs.Measurement.{Measured, with_content}
use Rattle.mdf_model.proofs.Taken.{taken_at, taken_length, then_put}
use Rattle.mdf_block.proofs.Items.{item_of}
use Rattle.tool_concat.specs.Moved.{AreMoved}
use Rattle.tool_concat.specs.Joined.{joined_streams}
use Rattle.tool_concat.proofs.Groups.{content_samples, same_count}
use Rattle.tool_concat.proofs.Holds.{parts_held, parts_moved}
use Rattle.tool_concat.proofs.joined.join_group.Goals as goal
use Rattle.tool_concat.proofs.joined.join_group.Goals.{After-replace-arg-1, After-take_content-before}

-- the group is there without its content
still_there : (c : After-take_content-before) → c.args.group < length c.take_content-before.new.self.groups
still_there c =
    let taken = c.take_content-before in
    let d = item_of c.args.first.now.groups c.args.group c.requires.group in
    omega (arith, c.requires.group, taken_length c.args.first.now taken.new.self c.args.group c.requires.group taken.ensures.left d)

pub part-requires : goal.part-requires
part-requires c = still_there (goal.at.part-requires c).After-take_content-before

pub replace-requires-clause-group : goal.replace-requires-clause-group
replace-requires-clause-group c = still_there (goal.at.replace-requires-clause-group c).After-take_content-before

pub with_moved-requires-clause-long : goal.with_moved-requires-clause-long
with_moved-requires-clause-long c =
    let d = item_of c.args.second.now.groups c.args.group c.requires.other in
    let m = get_or c.args.second.now.groups c.args.group d in
    ap (λ (bytes : List ℕ). length bytes) (c.as_slice.ensures ∙ ap (λ (part : GroupPart). part.content) (c.part-part.ensures d))
    ∙ (c.requires.others d).long
    ∙ ap (λ (n : ℕ). n * record_size m.shape) (sym (c.samples-3.ensures d))
    ∙ ap (λ (layout : Layout). c.samples-3.result * record_size layout) (sym (c.shape.ensures d))

pub with_moved-requires-clause-held : goal.with_moved-requires-clause-held
with_moved-requires-clause-held c =
    let d = item_of c.args.second.now.groups c.args.group c.requires.other in
    let one = get_or c.args.first.now.groups c.args.group d in
    let other = get_or c.args.second.now.groups c.args.group d in
    let taken = c.take_content-before in
    let at = taken_at c.args.first.now taken.new.self c.args.group c.requires.group taken.ensures.left d in
    let own : c.as_slice-own.result.now ≡ one.part.streams =
    c.as_slice-own.ensures ∙ ap (λ (part : GroupPart). part.streams) (c.part.ensures d) ∙ ap (λ (m : Measure). m.part.streams) at in
    let content : c.as_slice.result.now ≡ other.part.content = c.as_slice.ensures ∙ ap (λ (part : GroupPart). part.content) (c.part-part.ensures d) in
    parts_held one other c.shape.result.now c.as_slice.result.now c.samples-3.result c.as_slice-own.result.now
    (c.shape.ensures d) content (c.samples-3.ensures d) own (c.requires.held d)

-- what moves, and the samples, the records and the streams of both
joined_parts : (c : After-replace-arg-1) (d : Measure) →
    let one = get_or c.args.first.now.groups c.args.group d in
    let other = get_or c.args.second.now.groups c.args.group d in
    let moved = c.in_ok-content.ensures.0 in
    AreMoved other.shape one.part.streams other.part.content other.count moved
    × (c.in-Some.count ≡ one.count + other.count)
    × (c.in_ok-content.content ≡ one.part.content ++ moved)
    × (c.in_ok-streams.streams ≡ joined_streams one.part.streams other.part.streams)
joined_parts c d =
    let one = get_or c.args.first.now.groups c.args.group d in
    let other = get_or c.args.second.now.groups c.args.group d in
    let taken = c.take_content-before in
    let at = taken_at c.args.first.now taken.new.self c.args.group c.requires.group taken.ensures.left d in
    let own : c.as_slice-own.result.now ≡ one.part.streams =
    c.as_slice-own.ensures ∙ ap (λ (part : GroupPart). part.streams) (c.part.ensures d) ∙ ap (λ (m : Measure). m.part.streams) at in
    let content : c.as_slice.result.now ≡ other.part.content = c.as_slice.ensures ∙ ap (λ (part : GroupPart). part.content) (c.part-part.ensures d) in
    let is = c.in_ok-content.ensures in (
      parts_moved one other c.shape.result.now c.as_slice.result.now c.samples-3.result c.as_slice-own.result.now
          (c.shape.ensures d) content (c.samples-3.ensures d) own is.0 is.2,
      omega (arith, c.in-Some.ensures, c.samples.ensures d, c.samples-2.ensures d),
      is.1 ∙ ap (λ (bytes : List ℕ). bytes ++ is.0) (taken.ensures.content d),
      c.in_ok-streams.ensures
          ∙ ap (λ (all : List (List ℕ)). joined_streams all c.as_slice-2.result.now) own
          ∙ ap (λ (all : List (List ℕ)). joined_streams one.part.streams all) (c.as_slice-2.ensures ∙ ap (λ (part : GroupPart). part.streams) (c.part-part.ensures d)),
    )

pub replace-requires-clause-samples : goal.replace-requires-clause-samples
replace-requires-clause-samples c d =
    let one = get_or c.args.first.now.groups c.args.group d in
    let other = get_or c.args.second.now.groups c.args.group d in
    let taken = c.take_content-before in
    let at = taken_at c.args.first.now taken.new.self c.args.group c.requires.group taken.ensures.left d in
    let parts = joined_parts (goal.at.replace-requires-clause-samples c).After-replace-arg-1 d in
    rw (at, parts.1, parts.2, parts.3) (content_samples one other (c.requires.samples d) (c.requires.others d) (c.requires.shape d) c.in_ok-content.ensures.0 parts.0)

pub joined_streams-requires : goal.joined_streams-requires
joined_streams-requires c =
    let d = item_of c.args.second.now.groups c.args.group c.requires.other in
    let one = get_or c.args.first.now.groups c.args.group d in
    let other = get_or c.args.second.now.groups c.args.group d in
    let taken = c.take_content-before in
    let at = taken_at c.args.first.now taken.new.self c.args.group c.requires.group taken.ensures.left d in
    let own : c.as_slice-own.result.now ≡ one.part.streams =
    c.as_slice-own.ensures ∙ ap (λ (part : GroupPart). part.streams) (c.part.ensures d) ∙ ap (λ (m : Measure). m.part.streams) at in
    ap (λ (all : List (List ℕ)). length all) own
    ∙ same_count one other (c.requires.samples d) (c.requires.others d) (c.requires.shape d)
    ∙ ap (λ (all : List (List ℕ)). length all) (sym (c.as_slice-2.ensures ∙ ap (λ (part : GroupPart). part.streams) (c.part-part.ensures d)))

pub returns-clause-joined : goal.returns-clause-joined
returns-clause-joined c d =
    let groups = c.args.first.now.groups in
    let one = get_or groups c.args.group d in
    let other = get_or c.args.second.now.groups c.args.group d in
    let taken = c.take_content-before in
    let moved = c.in_ok-content.ensures.0 in
    let parts = joined_parts (goal.at.returns-clause-joined c).After-replace-arg-1 d in
    let put = c.replace.ensures d
    ∙ then_put c.args.first.now taken.new.self c.args.group c.requires.group taken.ensures.left d c.in-Some.count c.in_ok-content.content c.in_ok-streams.streams in
    record {
      moved = moved;
      are_moved = parts.0;
      is = ap (λ (m : Measured). get_or m.groups c.args.group d) put
          ∙ get_or-set_same groups c.args.group (with_content one c.in-Some.count c.in_ok-content.content c.in_ok-streams.streams) d c.requires.group
          ∙ ap (λ (n : ℕ). with_content one n c.in_ok-content.content c.in_ok-streams.streams) parts.1
          ∙ ap (λ (bytes : List ℕ). with_content one (one.count + other.count) bytes c.in_ok-streams.streams) parts.2
          ∙ ap (λ (all : List (List ℕ)). with_content one (one.count + other.count) (one.part.content ++ moved) all) parts.3;
    }

pub returns-clause-others : goal.returns-clause-others
returns-clause-others c = λ k d differs.
    let one = get_or c.args.first.now.groups c.args.group d in
    let taken = c.take_content-before in
    let put = c.replace.ensures d
    ∙ then_put c.args.first.now taken.new.self c.args.group c.requires.group taken.ensures.left d c.in-Some.count c.in_ok-content.content c.in_ok-streams.streams in
    ap (λ (m : Measured). get_or m.groups k d) put
    ∙ get_or-set_other c.args.first.now.groups c.args.group k (with_content one c.in-Some.count c.in_ok-content.content c.in_ok-streams.streams) d differs

pub returns-clause-count : goal.returns-clause-count
returns-clause-count c =
    let d = item_of c.args.first.now.groups c.args.group c.requires.group in
    let one = get_or c.args.first.now.groups c.args.group d in
    let taken = c.take_content-before in
    let put = c.replace.ensures d
    ∙ then_put c.args.first.now taken.new.self c.args.group c.requires.group taken.ensures.left d c.in-Some.count c.in_ok-content.content c.in_ok-streams.streams in
    ap (λ (m : Measured). length m.groups) put
    ∙ length-set c.args.first.now.groups c.args.group (with_content one c.in-Some.count c.in_ok-content.content c.in_ok-streams.streams)

pub returns-clause-rest : goal.returns-clause-rest
returns-clause-rest c =
    let first = c.args.first.now in
    let d = item_of first.groups c.args.group c.requires.group in
    let taken = c.take_content-before in
    let put = c.replace.ensures d
    ∙ then_put c.args.first.now taken.new.self c.args.group c.requires.group taken.ensures.left d c.in-Some.count c.in_ok-content.content c.in_ok-streams.streams in
    put ∙ ap (λ (groups : List Measure). record first { groups = groups }) (sym (ap (λ (m : Measured). m.groups) put))
