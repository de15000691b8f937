use Rattle.std.proofs.Common.{ℕ, List, take, drop, map, ◌∙◌, ap, subst}
use Rattle.mdf_vlsd.specs.Value.{value_at}
use Rattle.mdf_layout.specs.Fault.{DecodeCause}
use Rattle.mdf_layout.specs.Values.{IsFirstMissing, sample_by}
use Rattle.mdf_model.proofs.Samples.{none_missing}
use Rattle.mdf_model.proofs.measurement.sample_of.Goals as goal

pub unreachable-requires : goal.unreachable-requires
unreachable-requires c =
    let m = c.args.measure.now in
    let i = c.args.i in
    let fault = c.in-Err-Offset in
    let shape = m.shape in
    let bytes = take shape.data_bytes c.record_of-record.result.now in
    let inval = drop shape.data_bytes c.record_of-record.result.now in
    let finders = map value_at m.part.streams in
    let missing : IsFirstMissing shape.rows bytes inval finders i fault.field-0-0 fault.field-0-1 =
    subst (DecodeCause shape.rows bytes inval finders i) fault.field-0-is fault.ensures.fault in
    let one = c.requires.samples.each_sample i c.requires.index in
    none_missing shape.rows bytes inval finders i fault.field-0-0 fault.field-0-1 missing.row one.0 missing.there missing.kind missing.offset_is
    missing.missing
    (ap (λ (all : List ℕ). sample_by shape.rows (take shape.data_bytes all) (drop shape.data_bytes all) finders i) c.record_of-record.ensures.bytes ∙ one.1)
