-- The header and the history that stand in a file are found, where their texts are within the limit.
use Rattle.std.proofs.Common.{◌≡◌, ◌+◌, ◌-◌, ◌≤◌, ℕ, List, length, Ok, refl, sym, ap, arith}
use Rattle.std.proofs.lemmas.List.Sums.{sum_by-cons}
use Rattle.std.specs.Prelude.{sum_by}
use Rattle.mdf_format.specs.Block.{link_at, IsBlock}
use Rattle.mdf_format.specs.declared.kind.Kind.TheVariants.{Hd, Fh}
use Rattle.mdf_block.specs.declared.what.What.TheVariants as whats
use Rattle.mdf_block.specs.Text.{note_size}
use Rattle.mdf_block.specs.Chain.{full}
use Rattle.mdf_block.proofs.Wholes.{block_some}
use Rattle.mdf_block.proofs.Reached.{note_reached, chain_all_reached}
use Rattle.mdf_head.specs.declared.entry.Head.{Head}
use Rattle.mdf_head.specs.declared.entry.History.{History}
use Rattle.mdf_head.specs.Head.{history, header, head, IsHistory, IsHead}

abbrev entry_size : History → ℕ
entry_size entry = note_size entry.comment

-- an entry, where so many bytes of texts are wanted behind it
history_reached : (f : List ℕ) (after : ℕ) (entry : History) (left : ℕ) → IsBlock f entry.at Fh → IsHistory f entry
    → entry_size entry + after ≤ left
    → (rest : ℕ) × (history f entry.at left ≡ Ok (entry, link_at f entry.at 0, rest)) × (after ≤ rest)
unfolding history
history_reached f after entry left here is short =
    let first = block_some f entry.at Fh refl here in
    let second = note_reached f (link_at f entry.at 1) left entry.comment is.comment (omega (arith, short)) in
    let rest = left - note_size entry.comment in
    (rest, rw (first, second) (ap (λ (e : History). Ok (e, link_at f entry.at 0, rest)) (sym is.fields)), omega (arith, short))

pub head_reached : (f : List ℕ) (left : ℕ) (given : Head) (entries : List History) → (IsBlock f 0 Fh → ⊥) → IsHead f given entries
    → length entries ≤ 65535 → note_size given.comment + sum_by entry_size entries ≤ left
    → (rest : ℕ) × (head f left ≡ Ok ((given, entries), rest))
unfolding head header
head_reached f left given entries none is few short =
    let mid = left - note_size given.comment in
    let first = block_some f 64 Hd refl is.block in
    let second = note_reached f (link_at f 64 5) left given.comment is.comment (omega (arith, short)) in
    let all = chain_all_reached f Fh (λ (entry : History). entry.at) (IsHistory f) (history f)
    (λ (rows : List History) (rest : ℕ). sum_by entry_size rows ≤ rest) none
    (λ entry behind rest here is_entry enough.
    history_reached f (sum_by entry_size behind) entry rest here is_entry (omega (arith, enough, sum_by-cons entry_size entry behind)))
    (full whats.Fh Fh f) entries 65535 (link_at f 64 1) mid few is.chain is.entries (omega (arith, short)) in
    (all.0, rw (first, second, all.1) (ap (λ (h : Head). Ok ((h, entries), all.0)) (sym is.fields)))
