use Rattle.std.proofs.Common.{replicate, ◌+◌, ◌∙◌, ap}
use Rattle.mdf_format.specs.Number.{patched}
use Rattle.mdf_gate.proofs.Buffers.{payload_framed, data_framed, length-framed}
use Rattle.mdf_gate.proofs.buffer.frame.Goals as goal

pub returns-clause-payload : goal.returns-clause-payload
returns-clause-payload c =
    payload_framed c.args.bytes.now c.put_lead.new.bytes c.put.new.bytes c.args.used c.requires.room c.put_lead.ensures.length c.put_lead.ensures.behind
    (c.put.ensures ∙ ap (patched (79 + c.args.used) (replicate 8 0)) c.put_header.ensures) c.args.form c.args.place c.args.offset c.put_lead.ensures.lead

pub returns-clause-data_bytes : goal.returns-clause-data_bytes
returns-clause-data_bytes c =
    data_framed c.args.bytes.now c.put_lead.new.bytes c.put.new.bytes c.args.used c.requires.room c.put_lead.ensures.length c.put_lead.ensures.behind
    (c.put.ensures ∙ ap (patched (79 + c.args.used) (replicate 8 0)) c.put_header.ensures)

pub returns-clause-length : goal.returns-clause-length
returns-clause-length c =
    length-framed c.args.bytes.now c.put_lead.new.bytes c.put.new.bytes c.args.used c.requires.room c.put_lead.ensures.length c.put_lead.ensures.behind
    (c.put.ensures ∙ ap (patched (79 + c.args.used) (replicate 8 0)) c.put_header.ensures)
