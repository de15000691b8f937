use Rattle.std.proofs.Common.{◌≡◌, ◌++◌, ◌∙◌, ◌-◌, ◌+◌, List, ℕ, length, take, drop, refl, ap, sym, subst, rules}
use Rattle.std.proofs.lemmas.List.{take_at}
use Rattle.mdf_format.specs.Number.{bytes_at}
use Rattle.std.specs.Prelude.{OnOk, OnErr}
use Rattle.mdf_disk.specs.Crash.{Adds}
use Rattle.mdf_gate.specs.Written.{payload_of}
use Rattle.mdf_gate.specs.Gated.{Buffered}
use Rattle.mdf_gate.specs.Images.{IsStage}
use Rattle.mdf_gate.specs.Appended.{HasOpened, HasStaged}
use Rattle.mdf_gate.proofs.Buffers.{written_payload}
use Rattle.mdf_gate.proofs.buffer.Block.write.Given as given
use Rattle.mdf_gate.proofs.buffer.Block.write.Goals as goal
use Rattle.mdf_gate.proofs.buffer.Block.write.Goals.{After-write_block}

-- what is written is the payload of the unit
payload : (g : given.Over) (c : After-write_block g)
    → bytes_at (56 - c.lead.result + c.room_of.result - (56 - c.lead.result)) c.deref.result.now (56 - c.lead.result)
    ≡ payload_of c.args.form c.args.place c.args.offset c.args.self.now.bytes
payload g c =
    let block = c.self.inside in
    let len : block.bytes.len ≡ length block.bytes.items = search rules in
    let long : length c.frame.new.bytes ≡ length block.bytes.items = c.frame.ensures.length ∙ ap length c.deref_mut.ensures.value in
    written_payload block.bytes.items c.frame.new.bytes c.deref.result.now c.args.self.now.bytes c.deref_mut.result.now c.args.form c.args.place c.args.offset
    block.used block.bytes.len (56 - c.lead.result) c.lead.result c.room_of.result
    len long c.deref_mut.ensures.value c.deref.ensures.value c.lead.ensures.lead refl c.room_of.ensures.room
    c.frame.ensures.payload (ap (λ (b : Buffered). b.bytes) c.self.view_is)

pub returns-clause-ok : goal.returns-clause-ok
returns-clause-ok g c =
    subst (λ (bytes : List ℕ). OnOk c.write_block.result (HasOpened g.D.Disk c.args.place bytes c.args.disk.now c.write_block.new.disk))
    (payload g (goal.at.returns-clause-ok g c).After-write_block) c.write_block.ensures.ok

pub returns-clause-err : goal.returns-clause-err
returns-clause-err g c =
    subst (λ (bytes : List ℕ). OnErr c.write_block.result (HasStaged g.D.Disk c.args.place bytes c.args.disk.now c.write_block.new.disk))
    (payload g (goal.at.returns-clause-err g c).After-write_block) c.write_block.ensures.err

pub returns-clause-any_moment : goal.returns-clause-any_moment
returns-clause-any_moment g c = λ kept is ends.
    let new = c.write_block.new.disk in
    subst (λ (bytes : List ℕ). Adds (g.D.Disk.story c.args.disk.now) (g.D.Disk.story new) (IsStage c.args.place kept bytes))
    (payload g (goal.at.returns-clause-any_moment g c).After-write_block) (c.write_block.ensures.any_moment kept is ends)

pub returns-clause-same : goal.returns-clause-same
returns-clause-same g c =
    let block = c.self.inside in
    let items = block.bytes.items in
    let new = c.frame.new.bytes in
    let len : block.bytes.len ≡ length items = search rules in
    let long : length new ≡ length items = c.frame.ensures.length ∙ ap length c.deref_mut.ensures.value in
    let held : List ℕ → List ℕ = λ bytes. bytes_at block.used bytes 79 in
    let view : List ℕ → Buffered = λ bytes. record { limit = block.limit; bytes = bytes } in
    let same : held (take block.bytes.len (new ++ drop (length new) items)) ≡ held items =
    ap held (take_at new (drop (length new) items) block.bytes.len (long ∙ sym len)) ∙ c.frame.ensures.data_bytes ∙ ap held c.deref_mut.ensures.value in
    ap view same ∙ c.self.view_is
