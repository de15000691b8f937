-- Why the header and the history are refused.
use Rattle.std.proofs.Common.{◌≡◌, ◌≢◌, ◌+◌, ◌<◌, ◌≤◌, ℕ, List, length, Option, Some, None, Ok, Err, refl, sym, ◌∙◌, ap, subst, ◌⊎◌, inl, inr, arith}
use Rattle.mdf_format.specs.Block.{link_at, IsBlock}
use Rattle.mdf_format.specs.declared.kind.Kind.TheVariants.{Hd, Fh}
use Rattle.mdf_block.specs.declared.what.What.TheVariants as whats
use Rattle.mdf_block.specs.declared.place.BlockAt.{BlockAt}
use Rattle.std.specs.Prelude.{IfSome}
use Rattle.mdf_block.specs.Refusal.{Refusal, Bad, TooMany, Read, Fails}
use Rattle.mdf_block.specs.Block.{block}
use Rattle.mdf_block.specs.Text.{note, note_size, IsNote, LacksNote}
use Rattle.mdf_block.specs.Chain.{full, AreAlong}
use Rattle.mdf_block.proofs.Refusals.{bind_ok, bind_err}
use Rattle.mdf_block.proofs.Wholes.{block_found, block_lacks}
use Rattle.mdf_block.proofs.Notes.{note_found, note_lacks}
use Rattle.mdf_block.proofs.Chains.{chain_stops}
use Rattle.mdf_head.specs.declared.entry.Head.{Head}
use Rattle.mdf_head.specs.declared.entry.History.{History}
use Rattle.mdf_head.specs.Head.{history, histories, header, head, IsBehind, HasHeader, LacksHead}
use Rattle.mdf_head.proofs.Heads.{follows, history_spends, ok_is}

-- the address of a block that is found
place_of : (f : List ℕ) (at : ℕ) (b : BlockAt) (is : b.at ≡ at) (k left : ℕ) (refusal : Refusal)
    → LacksNote f (link_at f b.at k) left refusal → LacksNote f (link_at f at k) left refusal
place_of f at b is k left refusal lacks = subst (λ (place : ℕ). LacksNote f (link_at f place k) left refusal) is lacks

-- an entry: no block, or its comment
history_lacks : (f : List ℕ) (at left : ℕ) (refusal : Refusal) → history f at left ≡ Err refusal
    → ((refusal ≡ Bad at Fh) × (IsBlock f at Fh → ⊥)) ⊎ (IsBlock f at Fh × LacksNote f (link_at f at 1) left refusal)
unfolding history
history_lacks f at left refusal is = elim (bind_err (block f at Fh) _ refusal is) [
  | inl none ↦ inl (block_lacks f at Fh refusal refl none)
  | inr some ↦
      let here = block_found f at Fh some.0 some.1 in
      let place : some.0.at ≡ at = ap (λ (b : BlockAt). b.at) here.1 in
      elim (bind_err (note f (link_at f some.0.at 1) left) _ refusal some.2) [
        | inl lacks ↦ inr (here.0, place_of f at some.0 place 1 left refusal (note_lacks f (link_at f some.0.at 1) left refusal lacks))
        | inr more ↦
            let wrong : ◌≡◌ {A = Read (History × ℕ × ℕ)} (Ok _) (Err refusal) = more.2 in cc
      ]
]

-- the block past the count
full_lacks : (A : Type 0) (f : List ℕ) (at : ℕ) (refusal : Refusal) → full {A = A} whats.Fh Fh f at ≡ Err refusal
    → ((refusal ≡ Bad at Fh) × (IsBlock f at Fh → ⊥)) ⊎ ((refusal ≡ TooMany whats.Fh at) × IsBlock f at Fh)
unfolding full
full_lacks A f at refusal is =
    let past : Read A = Err (TooMany whats.Fh at) in
    elim (bind_err (block f at Fh) (λ _. past) refusal is) [
      | inl none ↦ inl (block_lacks f at Fh refusal refl none)
      | inr some ↦
          let same : ◌≡◌ {A = Read A} (Err (TooMany whats.Fh at)) (Err refusal) = some.2 in
          inr (cc, (block_found f at Fh some.0 some.1).0)
    ]

-- the header: no block, or its comment
header_lacks : (f : List ℕ) (left : ℕ) (refusal : Refusal) → header f left ≡ Err refusal
    → ((refusal ≡ Bad 64 Hd) × (IsBlock f 64 Hd → ⊥)) ⊎ (IsBlock f 64 Hd × LacksNote f (link_at f 64 5) left refusal)
unfolding header
header_lacks f left refusal is = elim (bind_err (block f 64 Hd) _ refusal is) [
  | inl none ↦ inl (block_lacks f 64 Hd refusal refl none)
  | inr some ↦
      let here = block_found f 64 Hd some.0 some.1 in
      let place : some.0.at ≡ 64 = ap (λ (b : BlockAt). b.at) here.1 in
      elim (bind_err (note f (link_at f some.0.at 5) left) _ refusal some.2) [
        | inl lacks ↦ inr (here.0, place_of f 64 some.0 place 5 left refusal (note_lacks f (link_at f some.0.at 5) left refusal lacks))
        | inr more ↦
            let wrong : ◌≡◌ {A = Read (Head × ℕ × ℕ)} (Ok _) (Err refusal) = more.2 in cc
      ]
]

-- the header that is found: where it stands, where the history begins, and what its comment spends
pub header_begins : (f : List ℕ) (left : ℕ) (found : Head × ℕ × ℕ) → header f left ≡ Ok found
    → IsBlock f 64 Hd × (found.1 ≡ link_at f 64 1) × (found.2 + note_size found.0.comment ≡ left)
unfolding header
header_begins f left found is =
    let hd = bind_ok (block f 64 Hd) _ found is in
    let here = block_found f 64 Hd hd.0 hd.1 in
    let place : hd.0.at ≡ 64 = ap (λ (b : BlockAt). b.at) here.1 in
    let text = bind_ok (note f (link_at f hd.0.at 5) left) _ found hd.2 in
    let comment = note_found f (link_at f hd.0.at 5) left text.0.0 text.0.1 text.1 in
    let same = ok_is _ _ text.2 in (
      here.0,
      sym (ap (λ (y : Head × ℕ × ℕ). y.1) same) ∙ ap (λ (at : ℕ). link_at f at 1) place,
      omega (arith, comment.1, ap (λ (y : Head × ℕ × ℕ). y.2) same, ap (λ (y : Head × ℕ × ℕ). note_size y.0.comment) same),
    )

-- the same as a fact of the file
pub header_there : (f : List ℕ) (left : ℕ) (found : Head × ℕ × ℕ) → header f left ≡ Ok found → HasHeader f left
unfolding header
header_there f left found is =
    let hd = bind_ok (block f 64 Hd) _ found is in
    let here = block_found f 64 Hd hd.0 hd.1 in
    let place : hd.0.at ≡ 64 = ap (λ (b : BlockAt). b.at) here.1 in
    let text = bind_ok (note f (link_at f hd.0.at 5) left) _ found hd.2 in
    let comment = note_found f (link_at f hd.0.at 5) left text.0.0 text.0.1 text.1 in
    (here.0, (text.0.0, subst (λ (at : ℕ). IsNote f (link_at f at 5) text.0.0) place comment.0, omega (arith, comment.1)))

-- the way from the header to an entry
module _ (f : List ℕ) (budget : ℕ) (refusal : Refusal) (there : IsBlock f 64 Hd) where
  behind : (places : List ℕ) (last : ℕ) → AreAlong f Fh (link_at f 64 1) places last → last ≢ 0 → IsBehind f (length places) last
  behind places last along named = record { header = there; named = named; places = places; along = along; many = refl }

  entry_lacks : (places : List ℕ) (last rest : ℕ) → IsBehind f (length places) last → length places < 65535 → rest ≤ budget
      → ((refusal ≡ Bad last Fh) × (IsBlock f last Fh → ⊥)) ⊎ (IsBlock f last Fh × LacksNote f (link_at f last 1) rest refusal)
      → LacksHead f budget refusal
  entry_lacks places last rest is few left (inl none) = inr (inl (last, length places, none.0, is, omega arith, none.1))
  entry_lacks places last rest is few left (inr lacks) =
      inr (inr (inr (link_at f last 1, rest, inr (last, length places, is, few, lacks.0, refl), left, lacks.1)))

  past_lacks : (places : List ℕ) (last : ℕ) → IsBehind f (length places) last → length places ≡ 65535
      → ((refusal ≡ Bad last Fh) × (IsBlock f last Fh → ⊥)) ⊎ ((refusal ≡ TooMany whats.Fh last) × IsBlock f last Fh)
      → LacksHead f budget refusal
  past_lacks places last is many (inl none) = inr (inl (last, length places, none.0, is, omega (arith, many), none.1))
  past_lacks places last is many (inr more) =
      inr (inr (inl (last, more.0, subst (λ (count : ℕ). IsBehind f count last) many is, more.1)))

  histories_lack : (left : ℕ) → left ≤ budget → histories f (link_at f 64 1) left ≡ Err refusal → LacksHead f budget refusal
  histories_lack left short is =
      let stops = chain_stops f Fh (λ (entry : History). entry.at) (history f) (full whats.Fh Fh f) (follows f) (λ (rest : ℕ). rest ≤ budget)
      (λ at before x next rest found holds. let spent = history_spends f at before x next rest found in omega (arith, spent, holds))
      refusal 65535 (link_at f 64 1) left short is in
      let is_behind = behind stops.places stops.last stops.along stops.named in
      elim stops.why [
        | inl steps ↦ entry_lacks stops.places stops.last stops.rest is_behind steps.0 stops.holds (history_lacks f stops.last stops.rest refusal steps.1)
        | inr past ↦ past_lacks stops.places stops.last is_behind past.0 (full_lacks (List History × ℕ × ℕ) f stops.last refusal past.1)
      ]

-- the header and the history
pub head_lacks : (f : List ℕ) (budget : ℕ) (refusal : Refusal) → head f budget ≡ Err refusal → LacksHead f budget refusal
unfolding head
head_lacks f budget refusal is = elim (bind_err (header f budget) _ refusal is) [
  | inl none ↦ elim (header_lacks f budget refusal none) [
    | inl bad ↦ inl bad
    | inr lacks ↦ let whole : budget ≤ budget = omega arith in inr (inr (inr (link_at f 64 5, budget, inl (lacks.0, refl), whole, lacks.1)))
  ]
  | inr some ↦
      let begins = header_begins f budget some.0 some.1 in
      elim (bind_err (histories f some.0.1 some.0.2) _ refusal some.2) [
        | inl lacks ↦
            let from_link = subst (λ (at : ℕ). histories f at some.0.2 ≡ Err refusal) begins.1 lacks in
            histories_lack f budget refusal begins.0 some.0.2 (omega (arith, begins.2)) from_link
        | inr more ↦
            let wrong : ◌≡◌ {A = Read ((Head × List History) × ℕ)} (Ok _) (Err refusal) = more.2 in cc
      ]
]

-- a fault of the reader is such a reason
pub fault_lacks : (f : List ℕ) (budget : ℕ) (fault : Option Refusal) → Fails fault (head f budget) → IfSome fault (LacksHead f budget)
fault_lacks f budget None failed = tt
fault_lacks f budget (Some refusal) failed = head_lacks f budget refusal failed
