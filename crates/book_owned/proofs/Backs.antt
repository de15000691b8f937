-- What a file keeps while a block is written into it, and what it holds then.
use Rattle.std.proofs.Common.{◌≡◌, ◌+◌, ◌<◌, ◌≤◌, ℕ, false, List, [], ◌∷◌, ◌++◌, length, take, drop, sym, ap, subst, arith}
use Rattle.std.proofs.lemmas.List.{take-take, length-take-le}
use Rattle.std.proofs.lemmas.List.Elements.{All-push, All-weaker}
use Rattle.std.specs.Prelude.{is_some, IfSome}
use Rattle.std.specs.Bool.{OnTrue}
use Rattle.std.specs.List.{All, concat}
use Rattle.mdf_disk.specs.Crash.{Adds, HoldsSince}
use Rattle.mdf_disk.proofs.Crash.{adds_more}
use Rattle.mdf_layout.specs.Layout.{Layout}
use Rattle.mdf_layout.specs.Record.{history_cost}
use Rattle.mdf_layout.specs.Behind.{AreEncodingsBehind}
use Rattle.mdf_layout.specs.declared.sample.Sample.{Sample}
use Rattle.mdf_layout.proofs.Behind.{all_written}
use Rattle.mdf_gate.specs.Written.{room_of}
use Rattle.mdf_gate.specs.Gated.{Gated, Buffered, RestsOn}
use Rattle.mdf_gate.specs.Images.{head_of, Opens, OpensEither}
use Rattle.mdf_gate.specs.Carried.{Carries}
use Rattle.mdf_gate.proofs.Units.{lead_few}
use Rattle.mdf_gate.proofs.Carrying.{carries_either, carries_opened, concat_one_more, prefix_self}
use Rattle.book_owned.specs.Members.{DiskOf}
use Rattle.book_owned.specs.Kept.{MarkHolds}
use Rattle.book_owned.specs.BackHalf.{BackKeeps, FileHolds, IsHanded, Keeps}
use Rattle.book_owned.specs.declared.mark.Mark.{Mark}
use Rattle.book_owned.proofs.Keeping.{keeps_later, keeps_marked}
use Rattle.book_owned.proofs.Turning.{cost_parts, block_small, told_on, adds_told, holds_told}

module _ {D : Type 0} (disk : DiskOf D) (layouts : List Layout) (most : ℕ) (old new : Gated D) (block : Buffered) (samples : List Sample) (from through : ℕ)
    (some : 1 ≤ length block.bytes) (handed : IsHanded layouts most block samples from through) (holds : FileHolds disk layouts most old (take from samples)) where
  abbrev blocks : List (List ℕ)
  blocks = holds.written.blocks

  abbrev parts : List Sample
  parts = take through samples

  abbrev head : List ℕ
  head = head_of (disk.story old.disk) old.first

  abbrev next : ℕ
  next = old.place + room_of old.form (length block.bytes)

  same : take from parts ≡ take from samples
  same = take-take from through samples handed.more

  before : AreEncodingsBehind layouts [] (concat blocks) (take from parts)
  before = subst (AreEncodingsBehind layouts [] (concat blocks)) (sym same) holds.written.records

  records : AreEncodingsBehind layouts (take from parts) block.bytes (drop from parts)
  records = subst (λ xs. AreEncodingsBehind layouts xs block.bytes (drop from parts)) (sym same) handed.records

  -- the block costs no more than its samples
  small : length block.bytes + 96 + history_cost layouts (take from samples) ≤ history_cost layouts parts
  small = omega (
    arith,
    block_small layouts (take from parts) (drop from parts) block.bytes records (λ none. absurd (omega (arith, ap length none, some))),
    cost_parts layouts parts from,
    ap (history_cost layouts) same,
  )

  -- what joins while it is written carries the samples before it
  adds_carry : is_some (disk.story new.disk) ≡ is_some (disk.story old.disk)
      → ((blocks : List (List ℕ)) → RestsOn (disk.content old.disk) (disk.story old.disk) old.first blocks old.place
      → Adds (disk.story old.disk) (disk.story new.disk) (OpensEither head blocks block.bytes next))
      → Adds (disk.story old.disk) (disk.story new.disk) (Carries layouts head parts from)
  adds_carry told adds = adds_told (disk.story old.disk) (disk.story new.disk) (Carries layouts head parts from) _ told holds.near
      (λ near. adds_more (disk.story old.disk) (disk.story new.disk) (OpensEither head blocks block.bytes next) (Carries layouts head parts from)
      (carries_either layouts head parts from blocks block.bytes next (omega (arith, handed.more, length-take-le through samples handed.within)) before records
      (omega (arith, near, small, lead_few old.form)))
      (adds blocks holds.written.rests))

  module _ (marks : List Mark) (few : All (λ mark. mark.through ≤ from) marks) (keeps : BackKeeps disk layouts old parts marks)
      (told : is_some (disk.story new.disk) ≡ is_some (disk.story old.disk))
      (adds : (blocks : List (List ℕ)) → RestsOn (disk.content old.disk) (disk.story old.disk) old.first blocks old.place
      → Adds (disk.story old.disk) (disk.story new.disk) (OpensEither head blocks block.bytes next))
      (later : disk.moment old.disk ≤ disk.moment new.disk)
      (head_is : head_of (disk.story new.disk) new.first ≡ head) (start_is : new.start ≡ old.start) where
    pub back_keeps : BackKeeps disk layouts new parts marks
    back_keeps =
        let on = keeps_later layouts head old.start (disk.story old.disk) (disk.story new.disk) (disk.moment old.disk) (disk.moment new.disk) from parts marks
        (adds_carry told adds) later told few keeps in
        subst (λ h. Keeps layouts h new.start (disk.story new.disk) (disk.moment new.disk) parts marks) (sym head_is)
        (subst (λ n. Keeps layouts head n (disk.story new.disk) (disk.moment new.disk) parts marks) (sym start_is) on)

    -- with its mark, when it was written
    module _ (going : new.failed ≡ false) (place : new.place ≡ next)
        (rests : (blocks : List (List ℕ)) → RestsOn (disk.content old.disk) (disk.story old.disk) old.first blocks old.place
        → RestsOn (disk.content new.disk) (disk.story new.disk) new.first (blocks ++ block.bytes ∷ []) new.place) where
      abbrev all_blocks : List (List ℕ)
      all_blocks = blocks ++ block.bytes ∷ []

      abbrev head' : List ℕ
      head' = head_of (disk.story new.disk) new.first

      whole : AreEncodingsBehind layouts [] (concat all_blocks) parts
      whole = subst (λ bytes. AreEncodingsBehind layouts [] bytes parts) (sym (concat_one_more layouts head' blocks block.bytes))
          (all_written layouts parts from (concat blocks) block.bytes before records)

      near : IfSome (disk.story new.disk) (λ _. new.place ≤ length head' + history_cost layouts parts)
      near = told_on (disk.story old.disk) (disk.story new.disk) _ _ told (λ near. omega (arith, place, near, small, ap length head_is, lead_few old.form)) holds.near

      pub back_holds : FileHolds disk layouts most new parts
      back_holds = record {
        going = going;
        written = record {
          blocks = all_blocks;
          rests = rests blocks holds.written.rests;
          within = All-push (λ body. length body ≤ most) blocks block.bytes holds.written.within handed.short;
          records = whole;
        };
        reach = omega (arith, place, holds.reach, small, lead_few old.form);
        near = near;
      }

      pub back_marked : (mark : Mark) → mark.moment ≡ disk.moment new.disk → mark.through ≡ through
          → OnTrue (is_some (disk.story new.disk)) (disk.moment old.disk < disk.moment new.disk)
          → ((blocks : List (List ℕ)) → RestsOn (disk.content new.disk) (disk.story new.disk) new.first blocks new.place
          → HoldsSince (disk.story new.disk) mark.moment (Opens head' blocks new.place))
          → BackKeeps disk layouts new parts (marks ++ mark ∷ [])
      back_marked mark moment through_is strictly leaves =
          let past = All-weaker (MarkHolds layouts head (disk.story old.disk) (disk.moment old.disk) parts) (λ m. m.moment ≤ disk.moment old.disk) (λ m h. h.past) marks keeps.marks_hold in
          let long = length-take-le through samples handed.within in
          let opens = leaves all_blocks (rests blocks holds.written.rests) in
          let carried = holds_told (disk.story new.disk) mark.moment (Carries layouts head' parts (length parts)) _ near
          (λ close f left. carries_opened layouts head' parts parts all_blocks new.place f (opens f left) whole (prefix_self parts) close) in
          keeps_marked layouts head' new.start (disk.story new.disk) (disk.moment new.disk) (disk.moment old.disk) parts marks mark back_keeps past moment
          (omega (arith, through_is, long)) later strictly
          (subst (λ t. HoldsSince (disk.story new.disk) t (Carries layouts head' parts (length parts))) moment carried)
