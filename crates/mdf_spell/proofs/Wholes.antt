-- The data group with its data, and the whole file.
use Rattle.std.proofs.Common.{◌≡◌, ◌+◌, ℕ, true, List, [], ◌∷◌, ◌++◌, length, ◌∙◌, ap, append_assoc}
use Rattle.std.specs.Prelude.{codes}
use Rattle.mdf_block.specs.declared.link.Link.{Link}
use Rattle.mdf_block.specs.declared.link.Link.TheVariants as links
use Rattle.mdf_block.specs.Draft.{Placed}
use Rattle.mdf_tree.specs.Group.{past_data_group, data_group_blocks}
use Rattle.mdf_tree.specs.Head.{head_blocks}
use Rattle.mdf_spell.specs.declared.finalized.Front.{Front}
use Rattle.mdf_spell.specs.declared.recovered.Recovered.{Recovered}
use Rattle.mdf_spell.specs.Values.{with_streams}
use Rattle.mdf_spell.specs.Counts.{counted_data}
use Rattle.mdf_spell.specs.Titled.{titled_head}
use Rattle.mdf_spell.specs.Session.{session_names, session_tree, own_data, session_data, session_history, front_blocks, session_blocks}
use Rattle.mdf_spell.specs.Standing.{data_number}
use Rattle.mdf_spell.specs.Front.{IsFrontOf}
use Rattle.mdf_spell.proofs.SessionTrees.{head_long}

-- the records and the values
pub data_placed : (w0 w1 w2 values : List Placed) (records : Placed) → w1 ≡ w0 ++ records ∷ [] → w2 ≡ w1 ++ values
    → w2 ≡ w0 ++ (records ∷ values)
data_placed w0 w1 w2 values records first second =
    second ∙ ap (λ (xs : List Placed). xs ++ values) first ∙ append_assoc w0 (records ∷ []) values

-- the tree, the records and the values
pub three_placed : (w0 w1 w2 w3 tree values : List Placed) (records : Placed) → w1 ≡ w0 ++ tree → w2 ≡ w1 ++ records ∷ []
    → w3 ≡ w2 ++ values → w3 ≡ w0 ++ (tree ++ (records ∷ values))
three_placed w0 w1 w2 w3 tree values records first second third =
    data_placed w1 w2 w3 values records second third
    ∙ ap (λ (xs : List Placed). xs ++ (records ∷ values)) first
    ∙ append_assoc w0 tree (records ∷ values)

-- the data group without its data, where its numbers are what they are counted to be
pub tree_placed : (w0 w1 : List Placed) (recovered : Recovered) (n records : ℕ) (names values : List Link) → n ≡ length w0
    → records ≡ past_data_group n recovered.row.now → names ≡ session_names n recovered.row.now → values ≡ with_streams (records + 1) names
    → w1 ≡ w0 ++ data_group_blocks (length w0) links.Nothing (links.Block records) values
    (counted_data recovered.counts.now recovered.totals.now recovered.row.now)
    → w1 ≡ w0 ++ session_tree (length w0) recovered
tree_placed w0 w1 recovered n records names values same past named linked placed =
    let row = recovered.row.now in
    let all : ℕ → List Link → List Placed = λ r vs.
    w0 ++ data_group_blocks (length w0) links.Nothing (links.Block r) vs (counted_data recovered.counts.now recovered.totals.now row) in
    placed
    ∙ ap (λ (vs : List Link). all records vs) linked
    ∙ ap (λ (ns : List Link). all records (with_streams (records + 1) ns)) named
    ∙ ap (λ (r : ℕ). all r (with_streams (r + 1) (session_names n row))) past
    ∙ ap (λ (m : ℕ). all (past_data_group m row) (with_streams (past_data_group m row + 1) (session_names m row))) same

-- the head and the data group without its data
module _ (w1 : List Placed) (recovered : Recovered) (now : ℕ)
    (first : w1 ≡ titled_head recovered.head.now recovered.history.now (codes "finalize") now true) where
  number : length w1 ≡ data_number recovered now
  number =
      ap (λ (xs : List Placed). length xs) first
      ∙ head_long recovered.head.now (session_history recovered.history.now now) (links.Block (data_number recovered now))

  pub front_placed : (w2 : List Placed) → w2 ≡ w1 ++ session_tree (length w1) recovered → w2 ≡ front_blocks recovered now
  unfolding front_blocks
  front_placed w2 second =
      let head = recovered.head.now in
      let entries = session_history recovered.history.now now in
      let hd = head_blocks head entries (links.Block (data_number recovered now)) in
      second
      ∙ ap (λ (m : ℕ). w1 ++ session_tree m recovered) number
      ∙ ap (λ (xs : List Placed). xs ++ session_tree (data_number recovered now) recovered) first

  pub front_named : (names : List Link) → names ≡ session_names (length w1) recovered.row.now
      → names ≡ session_names (data_number recovered now) recovered.row.now
  front_named names second = second ∙ ap (λ (m : ℕ). session_names m recovered.row.now) number

-- the whole file
pub file_placed : (front : Front) (recovered : Recovered) (now : ℕ) (content : List ℕ) (streams : List (List ℕ)) (blocks : List Placed)
    → IsFrontOf recovered now front → content ≡ recovered.content.now → streams ≡ recovered.streams.now
    → blocks ≡ front.blocks ++ own_data front.names.items content streams → blocks ≡ session_blocks recovered now
unfolding front_blocks session_data session_blocks
file_placed front recovered now content streams blocks is records values placed =
    let head = recovered.head.now in
    let entries = session_history recovered.history.now now in
    let n = data_number recovered now in
    let all = front_blocks recovered now in
    let names = session_names n recovered.row.now in
    placed
    ∙ ap (λ (xs : List Placed). xs ++ own_data front.names.items content streams) is.blocks
    ∙ ap (λ (ns : List Link). all ++ own_data ns content streams) is.names
    ∙ ap (λ (bytes : List ℕ). all ++ own_data names bytes streams) records
    ∙ ap (λ (given : List (List ℕ)). all ++ own_data names recovered.content.now given) values
    ∙ append_assoc (head_blocks head entries (links.Block n)) (session_tree n recovered) (own_data names recovered.content.now recovered.streams.now)
