use Rattle.std.proofs.Common.{◌≡◌, ◌-◌, min, length, take, drop, length-drop}
use Rattle.std.proofs.lemmas.List.{take_rest}
use Rattle.mdf_port.proofs.Streams.{taken, at_end}
use Rattle.mdf_port.proofs.memory.MemorySourceSource.take.Goals as goal

pub returns-clause-taken : goal.returns-clause-taken
returns-clause-taken c =
    let inside = c.args.self.now in
    let rest = take_rest inside.bytes inside.at in
    let count : c.min-count.result ≡ min (length c.args.buf.now) (length inside.bytes - inside.at) =
    rw (c.as_slice-bytes.ensures, rest, length-drop inside.at inside.bytes) at c.min-count.ensures in
    let part : c.copy_from_slice.new.self ≡ take c.min-count.result (drop inside.at inside.bytes) =
    rw (c.as_slice-bytes.ensures, rest) at c.copy_from_slice.ensures.after in (
      taken inside.bytes c.args.buf.now _ inside.at _ inside.within count part,
      at_end inside.bytes c.args.buf.now _ inside.at _ inside.within count part,
    )
