-- How the budget falls, and how many entries there are.
use Rattle.std.proofs.Common.{◌≡◌, ◌+◌, ◌≤◌, ℕ, List, Ok, subst, arith, length}
use Rattle.mdf_format.specs.declared.kind.Kind.TheVariants.{Fh}
use Rattle.mdf_block.specs.declared.what.What.TheVariants as whats
use Rattle.mdf_block.specs.Text.{note_size}
use Rattle.mdf_block.specs.Chain.{full}
use Rattle.mdf_block.proofs.Refusals.{bind_ok}
use Rattle.mdf_block.proofs.Chains.{chain_spends, full_none}
use Rattle.mdf_head.specs.declared.entry.Head.{Head}
use Rattle.mdf_head.specs.declared.entry.History.{History}
use Rattle.mdf_head.specs.Head.{history, histories, header, head, text_size}
use Rattle.mdf_head.proofs.Heads.{history_spends, ok_is}
use Rattle.mdf_head.proofs.Lacks.{header_begins}

pub head_spends : (f : List ℕ) (left : ℕ) (found : (Head × List History) × ℕ) → head f left ≡ Ok found
    → (found.1 + text_size found.0.0 found.0.1 ≡ left) × (length found.0.1 ≤ 65535)
unfolding head
head_spends f left found is =
    let first = bind_ok (header f left) _ found is in
    let second = bind_ok (histories f first.0.1 first.0.2) _ found first.2 in
    let begins = header_begins f left first.0 first.1 in
    let rest = chain_spends (history f) (full whats.Fh Fh f) (λ (entry : History). note_size entry.comment) (λ (amount : ℕ). amount)
    (history_spends f) (λ at y. full_none (List History × ℕ × ℕ) whats.Fh Fh f at y) 65535 first.0.1 first.0.2 second.0 second.1 in
    let same : ((first.0.0, second.0.0), second.0.2) ≡ found = ok_is _ _ second.2 in
    subst (λ (y : (Head × List History) × ℕ). (y.1 + text_size y.0.0 y.0.1 ≡ left) × (length y.0.1 ≤ 65535)) same
    (omega (arith, begins.2, rest.1), omega (arith, rest.0))
