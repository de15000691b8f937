use Rattle.mdf_gate.proofs.Buffers.{list_written}
use Rattle.mdf_gate.proofs.buffer.put_list.Goals as goal

pub returns : goal.returns
returns c =
    list_written c.args.bytes.now c.put.new.bytes c.put_u64.new.bytes c.put_u64-2.new.bytes c.put_u64-3.new.bytes c.put_u64-4.new.bytes
    c.put-2.new.bytes c.put_u64-5.new.bytes c.put-3.new.bytes c.args.place c.args.next c.args.offset c.requires.room
    c.put.ensures c.put_u64.ensures.written c.put_u64-2.ensures.written c.put_u64-3.ensures.written c.put_u64-4.ensures.written
    c.put-2.ensures c.put_u64-5.ensures.written c.put-3.ensures
