use Rattle.std.proofs.Common.{◌≡◌, ◌*◌, ℕ, List, length, get_or, sym, ◌∙◌, ap, subst, arith, ◌<◌}
use Rattle.mdf_layout.specs.Layout.{Layout, record_size}
use Rattle.mdf_layout.specs.Rule.{IsPlacedAs, spot_in}
use Rattle.mdf_model.specs.declared.part.Measure.{Measure}
use Rattle.mdf_model.specs.Measurement.{with_records}
use Rattle.mdf_model.proofs.Taken.{taken_at, taken_length, then_put}
use Rattle.mdf_block.proofs.Items.{item_of}
use Rattle.tool_cut.specs.Kept.{cut_by}
use Rattle.tool_cut.proofs.Groups.{by_samples, bytes_of, count_of}
use Rattle.tool_cut.proofs.measure.cut_by.Goals as goal
use Rattle.tool_cut.proofs.measure.cut_by.Goals.{After-kept_in-count, After-take_content-content}

-- the group is there without its content
still_there : (c : After-take_content-content) → c.args.group < length c.take_content-content.new.self.groups
still_there c =
    let all = c.args.measurement.now in
    let taken = c.take_content-content in
    let d = item_of all.groups c.args.group c.requires.group in
    omega (arith, c.requires.group, taken_length all taken.new.self c.args.group c.requires.group taken.ensures.left d)

pub shape-requires : goal.shape-requires
shape-requires c = still_there (goal.at.shape-requires c).After-take_content-content

pub put_content-requires-clause-group : goal.put_content-requires-clause-group
put_content-requires-clause-group c = still_there (goal.at.put_content-requires-clause-group c).After-take_content-content

pub kept_in-count-requires-clause-long : goal.kept_in-count-requires-clause-long
kept_in-count-requires-clause-long c =
    let all = c.args.measurement.now in
    let taken = c.take_content-content in
    let d = item_of all.groups c.args.group c.requires.group in
    let m = get_or all.groups c.args.group d in
    let shape = c.shape.ensures d ∙ ap (λ (one : Measure). one.shape) (taken_at all taken.new.self c.args.group c.requires.group taken.ensures.left d) in
    ap (λ (bytes : List ℕ). length bytes) (taken.ensures.content d)
    ∙ (c.requires.samples d).long
    ∙ ap (λ (n : ℕ). n * record_size m.shape) (sym (c.samples-count.ensures d))
    ∙ ap (λ (layout : Layout). c.samples-count.result * record_size layout) (sym shape)

pub kept_in-count-requires-clause-placed : goal.kept_in-count-requires-clause-placed
kept_in-count-requires-clause-placed c =
    let all = c.args.measurement.now in
    let taken = c.take_content-content in
    let d = item_of all.groups c.args.group c.requires.group in
    let shape = c.shape.ensures d ∙ ap (λ (one : Measure). one.shape) (taken_at all taken.new.self c.args.group c.requires.group taken.ensures.left d) in
    subst (λ (layout : Layout). IsPlacedAs c.args.field.kind layout.data_bytes (spot_in c.args.field)) (sym shape) (c.requires.placed d)

-- how many records are kept, and their bytes
what_is_kept : (c : After-kept_in-count) (d : Measure)
    → (c.kept_in-count.result.count ≡ (cut_by c.args.range.from c.args.range.to (get_or c.args.measurement.now.groups c.args.group d) c.args.field).count)
    × (c.kept_in-count.result.content ≡ (cut_by c.args.range.from c.args.range.to (get_or c.args.measurement.now.groups c.args.group d) c.args.field).part.content)
what_is_kept c d =
    let all = c.args.measurement.now in
    let taken = c.take_content-content in
    let m = get_or all.groups c.args.group d in
    let at = taken_at all taken.new.self c.args.group c.requires.group taken.ensures.left d in
    let shape = c.shape.ensures d ∙ ap (λ (one : Measure). one.shape) at in
    let kept = c.kept_in-count in
    let from = c.args.range.from in
    let to = c.args.range.to in (
      kept.ensures.count
          ∙ count_of from to m c.args.field c.shape.result.now taken.result c.samples-count.result shape (taken.ensures.content d) (c.samples-count.ensures d),
      kept.ensures.content
          ∙ bytes_of from to m c.args.field c.shape.result.now taken.result c.samples-count.result shape (taken.ensures.content d) (c.samples-count.ensures d),
    )

pub put_content-requires-clause-samples : goal.put_content-requires-clause-samples
put_content-requires-clause-samples c d =
    let all = c.args.measurement.now in
    let taken = c.take_content-content in
    let m = get_or all.groups c.args.group d in
    let at = taken_at all taken.new.self c.args.group c.requires.group taken.ensures.left d in
    let kept = what_is_kept (goal.at.put_content-requires-clause-samples c).After-kept_in-count d in
    rw (at, kept.0, kept.1) (by_samples c.args.range.from c.args.range.to m c.args.field (c.requires.samples d))

pub returns : goal.returns
returns c d =
    let all = c.args.measurement.now in
    let taken = c.take_content-content in
    let m = get_or all.groups c.args.group d in
    let at = taken_at all taken.new.self c.args.group c.requires.group taken.ensures.left d in
    let found = c.kept_in-count.result in
    let kept = what_is_kept (goal.at.returns c).After-kept_in-count d in
    c.put_content.ensures d
    ∙ ap (λ (one : Measure). with_records taken.new.self c.args.group found.count found.content one.part.streams d) at
    ∙ then_put all taken.new.self c.args.group c.requires.group taken.ensures.left d found.count found.content m.part.streams
    ∙ ap (λ (n : ℕ). with_records all c.args.group n found.content m.part.streams d) kept.0
    ∙ ap (λ (content : List ℕ). with_records all c.args.group (cut_by c.args.range.from c.args.range.to m c.args.field).count content m.part.streams d) kept.1
