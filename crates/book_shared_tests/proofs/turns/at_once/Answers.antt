use denote.Param.Send.{sendable}
use Rattle.std.proofs.Crossing.{crosses}
use Rattle.mdf_disk.proofs.memory.MemoryDisk.TheSendSync as MemoryDisk
use Rattle.book_owned.proofs.view.NoView.TheSendSync as NoView
use Rattle.book_shared.proofs.seat.SourceSeat.TheSendSync as SourceSeat
use Rattle.acq_run.proofs.Crossing.{book_sync}
use Rattle.book_shared_tests.proofs.gates.Slow.TheSendSync as Slow
use Rattle.book_shared_tests.proofs.gates.SlowView.TheSendSync as SlowView
use Rattle.book_shared_tests.proofs.turns.at_once.Goals as goal

pub join-second-requires-send-F : goal.join-second-requires-send-F
join-second-requires-send-F g c κs within =
    search (sendable, crosses, book_sync, MemoryDisk.the_send, NoView.the_send, SourceSeat.the_send, Slow.the_send, SlowView.the_send) depth 40
