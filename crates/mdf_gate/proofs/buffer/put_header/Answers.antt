use Rattle.mdf_gate.proofs.Buffers.{header_written}
use Rattle.mdf_gate.proofs.buffer.put_header.Goals as goal

pub returns : goal.returns
returns c =
    header_written c.args.bytes.now c.put.new.bytes c.put_u64.new.bytes c.put_u64-2.new.bytes c.args.count c.from.result
    c.requires c.from.ensures c.put.ensures c.put_u64.ensures.written c.put_u64-2.ensures.written
