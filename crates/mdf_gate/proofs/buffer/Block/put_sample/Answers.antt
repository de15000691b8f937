use Rattle.std.proofs.Common.{◌≡◌, ◌+◌, ◌++◌, ◌∙◌, ap, sym, length, take, drop, length-take, length-drop, arith, rules}
use Rattle.std.proofs.lemmas.List.{take_at, length-take-le}
use Rattle.mdf_gate.specs.Gated.{Buffered}
use Rattle.mdf_format.specs.Number.{bytes_at}
use Rattle.mdf_gate.proofs.Buffers.{put_behind_data}
use Rattle.mdf_gate.proofs.buffer.Block.put_sample.Goals as goal

pub returns-clause-record : goal.returns-clause-record
returns-clause-record c = λ before next.
    let block = c.self.inside in
    let size = c.put_records-size.result in
    let new = c.put_records-size.new.bytes in
    let len : block.bytes.len ≡ length block.bytes.items = search rules in
    let long : length new ≡ length block.bytes.items = search rules in
    let same : take (79 + block.used) new ≡ take (79 + block.used) block.bytes.items =
    c.put_records-size.ensures.before ∙ ap (take (79 + block.used)) c.deref_mut.ensures.value in (
      bytes_at size new (79 + block.used),
      put_behind_data block.bytes.items new block.used size block.bytes.len len long same
          ∙ ap (λ (b : Buffered). b.bytes ++ bytes_at size new (79 + block.used)) c.self.view_is,
      c.put_records-size.ensures.record before next,
    )

pub invariant_of-self : goal.invariant_of-self
invariant_of-self c =
    let block = c.self.inside in
    let items = block.bytes.items in
    let new = c.put_records-size.new.bytes in
    let len : block.bytes.len ≡ length items = search rules in
    let long : length new ≡ length items = search rules in
    let limit = ap (λ (b : Buffered). b.limit) c.self.view_is in
    let held = ap (λ (b : Buffered). length b.bytes) c.self.view_is in (
      omega (arith, c.requires.room, c.put_records-size.ensures.size, limit, held, c.self.invariant, length-take block.used (drop 79 items), length-drop 79 items),
      ap length (take_at new (drop (length new) items) block.bytes.len (long ∙ sym len)) ∙ long ∙ c.self.invariant.1,
    )

pub put_records-size-requires-clause-room : goal.put_records-size-requires-clause-room
put_records-size-requires-clause-room c =
    let block = c.self.inside in
    let limit = ap (λ (b : Buffered). b.limit) c.self.view_is in
    let held = ap (λ (b : Buffered). length b.bytes) c.self.view_is in
    let used = length-take-le block.used (drop 79 block.bytes.items) (omega (arith, c.self.invariant, length-drop 79 block.bytes.items)) in
    omega (arith, c.requires.room, c.self.invariant, limit, held, used, ap length c.deref_mut.ensures.value)

pub overflow_add-self : goal.overflow_add-self
overflow_add-self c =
    let block = c.self.inside in
    let limit = ap (λ (b : Buffered). b.limit) c.self.view_is in
    let held = ap (λ (b : Buffered). length b.bytes) c.self.view_is in
    let used = length-take-le block.used (drop 79 block.bytes.items) (omega (arith, c.self.invariant, length-drop 79 block.bytes.items)) in
    omega (arith, c.requires.room, c.self.invariant, c.self.ranges, limit, held, used, c.put_records-size.ensures.size)
