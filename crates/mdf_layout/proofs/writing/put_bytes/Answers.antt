use Rattle.std.proofs.Common.{◌+◌, ◌-◌, length, arith}
use Rattle.std.proofs.lemmas.Slice.{drop-put_mid}
use Rattle.mdf_layout.proofs.writing.put_bytes.Goals as goal

pub returns-clause-behind : goal.returns-clause-behind
returns-clause-behind c =
    drop-put_mid c.args.start (c.args.start + length c.args.bytes.now - c.args.start) c.args.content.now c.copy_from_slice.new.self (c.args.start + length c.args.bytes.now)
    (omega arith) (omega (arith, c.requires)) (omega (arith, c.copy_from_slice.ensures.len, c.copy_from_slice.auto.self))
