use Rattle.std.proofs.Common.{◌∷◌, ◌++◌, ◌∙◌, ap, sym, take}
use Rattle.mdf_vlsd.specs.Value.{value_bytes}
use Rattle.mdf_layout.proofs.Longs.{one_record, no_record}
use Rattle.mdf_layout.proofs.long.put_channel.Goals as goal

pub returns-then-is_variable-clause-front : goal.returns-then-is_variable-clause-front
returns-then-is_variable-clause-front c =
    let front = take c.args.at c.args.out.now in
    c.put_long_value.ensures.front ∙ ap (λ v. front ++ c.args.id ∷ value_bytes v) c.bytes_of.ensures
    ∙ one_record front c.args.id c.args.row c.args.entry.now (sym c.if-is_variable.ensures)

pub returns-else-is_variable-clause-front : goal.returns-else-is_variable-clause-front
returns-else-is_variable-clause-front c = no_record (take c.args.at c.args.out.now) c.args.id c.args.row c.args.entry.now (sym c.if-is_variable.ensures)
