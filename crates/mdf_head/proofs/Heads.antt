-- What is found is the header and the history that stand in the file.
use Rattle.std.proofs.Common.{◌≡◌, ◌+◌, ℕ, List, Ok, refl, sym, ◌∙◌, ap, subst, arith}
use Rattle.std.specs.Prelude.{map}
use Rattle.mdf_format.specs.Block.{link_at, body_at, IsBlock, IsChain}
use Rattle.mdf_format.specs.declared.kind.Kind.{Kind}
use Rattle.mdf_format.specs.declared.kind.Kind.TheVariants.{Hd, Fh}
use Rattle.mdf_block.specs.declared.what.What.TheVariants as whats
use Rattle.mdf_block.specs.declared.note.Note.{Note}
use Rattle.mdf_block.specs.declared.place.BlockAt.{BlockAt}
use Rattle.mdf_block.specs.Refusal.{Read}
use Rattle.mdf_block.specs.Block.{block, body_of, the_block}
use Rattle.mdf_block.specs.Text.{note, note_size, IsNote}
use Rattle.mdf_block.specs.Chain.{full}
use Rattle.mdf_block.proofs.Refusals.{bind_ok}
use Rattle.mdf_block.proofs.Wholes.{block_found}
use Rattle.mdf_block.proofs.Notes.{note_found}
use Rattle.mdf_block.proofs.Chains.{Follows, chain_found, chain_each, full_none}
use Rattle.mdf_head.specs.declared.entry.Head.{Head}
use Rattle.mdf_head.specs.declared.entry.History.{History}
use Rattle.mdf_head.specs.Head.{the_head, the_history, history, histories, header, head, IsHistory, IsHead}

pub ok_is : {A : Type 0} (x y : A) → ◌≡◌ {A = Read A} (Ok x) (Ok y) → x ≡ y
ok_is x y same = cc

-- what a block that is found says of its place
body_is : (f : List ℕ) (at : ℕ) (kind : Kind) (b : BlockAt) → b ≡ the_block f at kind → body_of f b ≡ body_at f at
body_is f at kind b is = ap (λ (block : BlockAt). body_of f block) is

-- the parts of an entry that is found
history_parts : (f : List ℕ) (at left : ℕ) (found : History × ℕ × ℕ) → history f at left ≡ Ok found
    → IsBlock f at Fh × ((comment : Note × ℕ) × IsNote f (link_at f at 1) comment.0
    × ((the_history at (body_at f at) comment.0, link_at f at 0, comment.1) ≡ found)
    × (comment.1 + note_size comment.0 ≡ left))
unfolding history
history_parts f at left found is =
    let first = bind_ok (block f at Fh) _ found is in
    let here = block_found f at Fh first.0 first.1 in
    let place : first.0.at ≡ at = ap (λ (b : BlockAt). b.at) here.1 in
    let second = bind_ok (note f (link_at f first.0.at 1) left) _ found first.2 in
    let comment = note_found f (link_at f first.0.at 1) left second.0.0 second.0.1 second.1 in
    let same = ok_is _ _ second.2 in (
      here.0,
      (
        second.0,
        subst (λ (a : ℕ). IsNote f (link_at f a 1) second.0.0) place comment.0,
        ap (λ (b : BlockAt). (the_history b.at (body_of f b) second.0.0, link_at f b.at 0, second.0.1)) (sym here.1) ∙ same,
        comment.1,
      ),
    )

pub follows : (f : List ℕ) → Follows f Fh (λ (entry : History). entry.at) (history f)
follows f = record {
  there = λ at left x next rest is.
      let parts = history_parts f at left (x, next, rest) is in
      let same = parts.1.2 in
      (sym (ap (λ (y : History × ℕ × ℕ). y.0.at) same), parts.0, sym (ap (λ (y : History × ℕ × ℕ). y.1) same));
}

pub is_history : (f : List ℕ) (at left : ℕ) (x : History) (next rest : ℕ) → history f at left ≡ Ok (x, next, rest) → IsHistory f x
is_history f at left x next rest is =
    let parts = history_parts f at left (x, next, rest) is in
    let same : the_history at (body_at f at) parts.1.0.0 ≡ x = ap (λ (y : History × ℕ × ℕ). y.0) parts.1.2 in
    subst (IsHistory f) same (record { fields = refl; comment = parts.1.1 })

-- what the comment of an entry spends
pub history_spends : (f : List ℕ) (at left : ℕ) (x : History) (next rest : ℕ) → history f at left ≡ Ok (x, next, rest)
    → rest + note_size x.comment ≡ left
history_spends f at left x next rest is =
    let parts = history_parts f at left (x, next, rest) is in
    let same = parts.1.2 in
    omega (arith, parts.1.3, ap (λ (y : History × ℕ × ℕ). y.2) same, ap (λ (y : History × ℕ × ℕ). note_size y.0.comment) same)

-- the header and the history
pub head_found : (f : List ℕ) (left : ℕ) (found : (Head × List History) × ℕ) → head f left ≡ Ok found
    → IsHead f found.0.0 found.0.1
unfolding head header
head_found f left found is =
    let first = bind_ok (header f left) _ found is in
    let second = bind_ok (histories f first.0.1 first.0.2) _ found first.2 in
    let hd = bind_ok (block f 64 Hd) _ first.0 first.1 in
    let here = block_found f 64 Hd hd.0 hd.1 in
    let place : hd.0.at ≡ 64 = ap (λ (b : BlockAt). b.at) here.1 in
    let text = bind_ok (note f (link_at f hd.0.at 5) left) _ first.0 hd.2 in
    let comment = note_found f (link_at f hd.0.at 5) left text.0.0 text.0.1 text.1 in
    let header_is : (the_head (body_of f hd.0) text.0.0 (link_at f hd.0.at 0), link_at f hd.0.at 1, text.0.1) ≡ first.0 = ok_is _ _ text.2 in
    let whole_is : ((first.0.0, second.0.0), second.0.2) ≡ found = ok_is _ _ second.2 in
    let chain_is = chain_found f Fh (λ (entry : History). entry.at) (history f) (full whats.Fh Fh f) (follows f)
    (λ at y. full_none (List History × ℕ × ℕ) whats.Fh Fh f at y) 65535 first.0.1 first.0.2 second.0 second.1 in
    let each_is = chain_each (history f) (full whats.Fh Fh f) (IsHistory f) (is_history f)
    (λ at y. full_none (List History × ℕ × ℕ) whats.Fh Fh f at y) 65535 first.0.1 first.0.2 second.0 second.1 in
    let head_is : the_head (body_at f 64) text.0.0 (link_at f 64 0) ≡ first.0.0 =
    ap (λ (b : BlockAt). the_head (body_of f b) text.0.0 (link_at f b.at 0)) (sym here.1) ∙ ap (λ (y : Head × ℕ × ℕ). y.0) header_is in
    let first_is : first.0.1 ≡ link_at f 64 1 =
    sym (ap (λ (y : Head × ℕ × ℕ). y.1) header_is) ∙ ap (λ (at : ℕ). link_at f at 1) place in
    let comment_there = subst (λ (at : ℕ). IsNote f (link_at f at 5) text.0.0) place comment.0 in
    let chain_there = subst (λ (at : ℕ). IsChain f at Fh (map (λ (entry : History). entry.at) second.0.0)) first_is chain_is in
    let whole : IsHead f (the_head (body_at f 64) text.0.0 (link_at f 64 0)) second.0.0 =
    record { block = here.0; fields = refl; comment = comment_there; chain = chain_there; entries = each_is } in
    subst (λ (y : (Head × List History) × ℕ). IsHead f y.0.0 y.0.1) whole_is
    (subst (λ (h : Head). IsHead f h second.0.0) head_is whole)
