-- Channel groups with their numbers, placed one after another, and the data group that has them.
use Rattle.std.proofs.Common.{◌≡◌, ◌+◌, ◌≤◌, ℕ, List, [], ◌∷◌, ◌++◌, length, drop, refl, sym, ◌∙◌, ap, arith, append-nil}
use Rattle.std.proofs.lemmas.List.{drop_all}
use Rattle.mdf_block.specs.declared.link.Link.{Link}
use Rattle.mdf_block.specs.declared.link.Link.TheVariants as links
use Rattle.mdf_block.specs.Draft.{Placed}
use Rattle.mdf_group.specs.declared.row.GroupRow.{GroupRow}
use Rattle.mdf_group.specs.declared.row.DataRow.{DataRow}
use Rattle.mdf_tree.specs.Text.{note_blocks}
use Rattle.mdf_tree.specs.Group.{next_link, data_groups, groups_blocks, data_group_blocks}
use Rattle.mdf_tree.proofs.Placing.{placed_step}
use Rattle.mdf_spell.specs.Counts.{counted_group, counted_groups, counted_data}
use Rattle.mdf_spell.specs.Session.{data_own}

-- the numbers of one more group
pub counted_more : (counts totals : List ℕ) (rows : List GroupRow) (i count total : ℕ) (row : GroupRow)
    → drop i counts ≡ count ∷ drop (i + 1) counts → drop i totals ≡ total ∷ drop (i + 1) totals → drop i rows ≡ row ∷ drop (i + 1) rows
    → counted_groups (drop i counts) (drop i totals) (drop i rows)
    ≡ counted_group count total row ∷ counted_groups (drop (i + 1) counts) (drop (i + 1) totals) (drop (i + 1) rows)
unfolding counted_groups
counted_more counts totals rows i count total row one two three =
    ap (λ (left : List ℕ). counted_groups left (drop i totals) (drop i rows)) one
    ∙ ap (λ (left : List ℕ). counted_groups (count ∷ drop (i + 1) counts) left (drop i rows)) two
    ∙ ap (λ (left : List GroupRow). counted_groups (count ∷ drop (i + 1) counts) (total ∷ drop (i + 1) totals) left) three

-- groups with their numbers are as many
pub counted_link : (n : ℕ) (counts totals : List ℕ) (rows : List GroupRow) → length counts ≡ length rows → length totals ≡ length rows
    → next_link n (counted_groups counts totals rows) ≡ next_link n rows
unfolding counted_groups
counted_link n counts totals [] same_counts same_totals = refl
counted_link n [] totals (row ∷ rows) same_counts same_totals = absurd (omega (arith, same_counts))
counted_link n (count ∷ counts) [] (row ∷ rows) same_counts same_totals = absurd (omega (arith, same_totals))
counted_link n (count ∷ counts) (total ∷ totals) (row ∷ rows) same_counts same_totals = refl

-- no group is left
pub groups_none : (w : List Placed) (values : List Link) (counts totals : List ℕ) (rows : List GroupRow) (i : ℕ) → length rows ≤ i
    → w ≡ w ++ groups_blocks (length w) values (counted_groups (drop i counts) (drop i totals) (drop i rows))
unfolding groups_blocks counted_groups
groups_none w values counts totals rows i past =
    sym (ap (λ (left : List GroupRow). w ++ groups_blocks (length w) values (counted_groups (drop i counts) (drop i totals) left)) (drop_all i rows past)
    ∙ append-nil w)

-- the data group: its block, its comment, and its groups
pub row_placed : (w0 w1 w2 w3 : List Placed) (next content : Link) (values : List Link) (row : DataRow)
    → w1 ≡ w0 ++ data_own (length w0) row.id_size next (next_link (data_groups (length w0) row) row.groups) content row.comment ∷ []
    → w2 ≡ w1 ++ note_blocks row.comment → w3 ≡ w2 ++ groups_blocks (length w2) values row.groups
    → w3 ≡ w0 ++ data_group_blocks (length w0) next content values row
unfolding data_group_blocks
row_placed w0 w1 w2 w3 next content values row own comment groups =
    let block = data_own (length w0) row.id_size next (next_link (data_groups (length w0) row) row.groups) content row.comment in
    let rest : ℕ → List Placed = λ m. groups_blocks m values row.groups in
    groups
    ∙ placed_step w1 (note_blocks row.comment) rest w2 (length w1 + length (note_blocks row.comment)) comment refl
    ∙ placed_step w0 (block ∷ []) (λ m. note_blocks row.comment ++ rest (m + length (note_blocks row.comment))) w1 (length w0 + 1) own refl

-- the same with the numbers of its groups
pub data_placed : (w0 w1 w2 w3 : List Placed) (content : Link) (values : List Link) (row : DataRow) (counts totals : List ℕ)
    → length counts ≡ length row.groups → length totals ≡ length row.groups
    → w1 ≡ w0 ++ data_own (length w0) row.id_size links.Nothing (next_link (data_groups (length w0) row) row.groups) content row.comment ∷ []
    → w2 ≡ w1 ++ note_blocks row.comment
    → w3 ≡ w2 ++ groups_blocks (length w2) values (counted_groups counts totals row.groups)
    → w3 ≡ w0 ++ data_group_blocks (length w0) links.Nothing content values (counted_data counts totals row)
data_placed w0 w1 w2 w3 content values row counts totals same_counts same_totals own comment groups =
    let block : Link → Placed = λ link. data_own (length w0) row.id_size links.Nothing link content row.comment in
    let linked = counted_link (data_groups (length w0) row) counts totals row.groups same_counts same_totals in
    row_placed w0 w1 w2 w3 links.Nothing content values (counted_data counts totals row)
    (own ∙ ap (λ (link : Link). w0 ++ block link ∷ []) (sym linked)) comment groups
