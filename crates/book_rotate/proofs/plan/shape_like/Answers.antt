use Rattle.std.proofs.Common.{subst}
use Rattle.mdf_layout.specs.Fault.{ShapeCause}
use Rattle.book_rotate.proofs.Layouts.{never_bad}
use Rattle.book_rotate.proofs.plan.shape_like.Goals as goal

pub unreachable-requires : goal.unreachable-requires
unreachable-requires c =
    never_bad c.args.shape.now c.data_bytes.result c.inval_bytes.result c.fields.result.now c.in-Err-Bad.field-0-0 c.data_bytes.ensures c.inval_bytes.ensures c.fields.ensures.rows c.fields.ensures.ruled
    (subst (ShapeCause c.data_bytes.result c.inval_bytes.result c.fields.result.now) c.in-Err-Bad.field-0-is c.in-Err-Bad.ensures.fault)
