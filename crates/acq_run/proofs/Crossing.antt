-- A shared book may be used by several threads at once.
use denote.RattleType.{RattleType}
use denote.Param.Send.{IsSend, IsSync, sendable}
use Rattle.std.proofs.Crossing.{crosses, send, sync}
use Rattle.atomic_table.proofs.owned.Table.TheSendSync as Table
use Rattle.mdf_disk.specs.declared.disk.Disk as Disk
use Rattle.book_owned.specs.declared.view.Shown as Shown
use Rattle.book_owned.proofs.front_half.Front.TheSendSync as Front
use Rattle.book_owned.proofs.back_half.Back.TheSendSync as Back
use Rattle.book_shared.specs.contracts.half.Half as Half
use Rattle.book_shared.specs.contracts.shared.SharedBook as SharedBook

-- a half may go to another thread, where what it has may
half_send : (F B : RattleType) → IsSend F → IsSend B → IsSend (Half.the_row F B)
half_send F B front back = search (sendable, crosses) depth 40

pub book_sync : (D V N : RattleType) (disk : Disk.Ghosts D.Denot) (shown : Shown.Ghosts V.Denot N.Denot) → IsSend D → IsSend V → IsSync (SharedBook.the_row D V N disk shown)
book_sync D V N disk shown device view = search (sendable, crosses, half_send, Front.the_send, Back.the_send, Table.the_field_sync, send, sync) depth 40
