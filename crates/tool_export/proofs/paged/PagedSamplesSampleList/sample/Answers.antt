use Rattle.std.proofs.Common.{◌≡◌, List, Some}
use Rattle.std.specs.Prelude.{slice_index_or}
use Rattle.std.proofs.lemmas.Result.{IfOk-weaker}
use Rattle.mdf_layout.specs.declared.sample.Entry.{Entry}
use Rattle.mdf_block.proofs.Items.{item_of}
use Rattle.mdf_model.specs.Measurement.{measurement, sample_of}
use Rattle.mdf_paged.proofs.Asked.{asked_measured}
use Rattle.tool_export.specs.Table.{sample_read}
use Rattle.tool_export.proofs.Spans.{group_below, sample_there}
use Rattle.tool_export.proofs.paged.PagedSamplesSampleList.sample.Goals as goal

pub returns-clause-sample : goal.returns-clause-sample
returns-clause-sample g c = λ f told read.
    let list = c.args.self.now in
    let now = list.found.now in
    let found = asked_measured f list.group now read in
    let groups = found.0.groups in
    let below = group_below f list.group now found.0 read found.1 list.there in
    let d = item_of groups list.group below in
    IfOk-weaker c.sample_with.result
    (λ (entries : List Entry). sample_of (slice_index_or groups list.group d) c.args.index ≡ Some entries)
    (λ (entries : List Entry). sample_read (measurement f) list.group c.args.index ≡ Some entries)
    (λ entries is. sample_there f list.group now found.0 read found.1 c.args.index entries below d is)
    (c.sample_with.ensures.asked f found.0 d told read found.1)
