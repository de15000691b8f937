-- The groups of a sorted file, placed one after another, and the whole of it.
use Rattle.std.proofs.Common.{◌≡◌, ◌+◌, ◌^◌, ◌<◌, ◌≤◌, ℕ, List, [], ◌∷◌, ◌++◌, length, map, take, drop, get_or, slice_index_or, refl, sym, ◌∙◌, ap, subst, arith, add-zero, append-nil, length-append, get_or-drop}
use Rattle.std.proofs.lemmas.List.{take_all, drop_all, get_or_default, length-map}
use Rattle.std.proofs.lemmas.List.Sums.{sum_by-cons}
use Rattle.std.specs.Prelude.{nat_lt}
use Rattle.std.specs.List.{AllByRecursion}
use Rattle.mdf_format.specs.declared.kind.Kind.TheVariants.{Dt, Sd}
use Rattle.mdf_block.specs.declared.link.Link.{Link}
use Rattle.mdf_block.specs.declared.link.Link.TheVariants as links
use Rattle.mdf_block.specs.Draft.{Placed}
use Rattle.mdf_group.specs.declared.row.GroupRow.{GroupRow}
use Rattle.mdf_tree.specs.Text.{note_blocks}
use Rattle.mdf_tree.specs.Group.{next_link, next_if, past_group, past_groups, group_blocks, groups_blocks}
use Rattle.mdf_tree.specs.Head.{head_blocks}
use Rattle.mdf_tree.proofs.Placing.{placed_step, next_less, all_taken}
use Rattle.mdf_spell.specs.Recording.{block_links}
use Rattle.mdf_spell.specs.Titled.{titled_head}
use Rattle.mdf_spell.specs.Session.{data_block, data_own}
use Rattle.mdf_spell.proofs.Lists.{cut_at}
use Rattle.mdf_spell.proofs.Counteds.{row_placed}
use Rattle.mdf_spell.proofs.Wholes.{three_placed}
use Rattle.mdf_spell.proofs.SessionTrees.{head_long, data_long}
use Rattle.mdf_model.specs.declared.part.GroupPart.{GroupPart}
use Rattle.mdf_model.specs.declared.part.Measure.{Measure}
use Rattle.mdf_model.specs.Measurement.{Measured}
use Rattle.tool_sort.specs.declared.places.PartPlaces.{PartPlaces}
use Rattle.tool_sort.specs.Places.{ArePartPlaces}
use Rattle.tool_sort.specs.Made.{sample_count}
use Rattle.tool_sort.specs.Sorted.{sorted_row, sorted_group, group_number, records_number, values_number, past_part, values_links, tree_blocks, part_blocks, measures_blocks, sorted_history, first_measure, sorted_blocks}

-- one group is a chain of groups
pub one_group : (n : ℕ) (values : List Link) (row : GroupRow) → group_blocks n links.Nothing values row ≡ groups_blocks n values (row ∷ [])
unfolding groups_blocks
one_group n values row = sym (append-nil (group_blocks n links.Nothing values row))

-- the data group: its block, its comment, and its channel group
pub tree_placed : (w0 w1 w2 w3 : List Placed) (n : ℕ) (next : Link) (part : GroupPart) (count streams : ℕ) (values : List Link) (places : PartPlaces)
    → n ≡ length w0 → ArePartPlaces n part places → streams ≡ length part.streams → values ≡ block_links places.values streams
    → w1 ≡ w0 ++ data_own (length w0) 0 next (links.Block places.group) (links.Block places.records) part.comment ∷ []
    → w2 ≡ w1 ++ note_blocks part.comment → w3 ≡ w2 ++ groups_blocks (length w2) values (sorted_group part count ∷ [])
    → w3 ≡ w0 ++ tree_blocks (length w0) next part count
tree_placed w0 w1 w2 w3 n next part count streams values places same is many linked own comment group =
    let m = length w0 in
    let group_is : places.group ≡ group_number m part = is.group ∙ ap (λ (k : ℕ). group_number k part) same in
    let records_is : places.records ≡ records_number m part = is.records ∙ ap (λ (k : ℕ). records_number k part) same in
    let values_is : places.values ≡ values_number m part = is.values ∙ ap (λ (k : ℕ). values_number k part) same in
    let all : values ≡ values_links m part =
    linked ∙ ap (λ (k : ℕ). block_links k streams) values_is ∙ ap (λ (k : ℕ). block_links (values_number m part) k) many in
    row_placed w0 w1 w2 w3 next (links.Block (records_number m part)) (values_links m part) (sorted_row part count)
    (own
    ∙ ap (λ (k : ℕ). w0 ++ data_own m 0 next (links.Block k) (links.Block places.records) part.comment ∷ []) group_is
    ∙ ap (λ (k : ℕ). w0 ++ data_own m 0 next (links.Block (group_number m part)) (links.Block k) part.comment ∷ []) records_is)
    comment
    (group ∙ ap (λ (given : List Link). w2 ++ groups_blocks (length w2) given (sorted_group part count ∷ [])) all)

-- the data group with its records and its values
pub part_placed : (w0 w1 w2 w3 : List Placed) (next : Link) (part : GroupPart) (count : ℕ)
    → w1 ≡ w0 ++ tree_blocks (length w0) next part count → w2 ≡ w1 ++ data_block Dt part.content ∷ []
    → w3 ≡ w2 ++ map (data_block Sd) part.streams → w3 ≡ w0 ++ part_blocks (length w0) next part count
unfolding part_blocks
part_placed w0 w1 w2 w3 next part count first second third = three_placed w0 w1 w2 w3 _ _ _ first second third

-- the block behind the channel group of a data group
pub one_past : (n : ℕ) (row : GroupRow) → past_groups n (row ∷ []) ≡ past_group n row
unfolding past_groups
one_past n row = refl

-- and the block behind all of it
pub tree_long : (n : ℕ) (next : Link) (part : GroupPart) (count : ℕ) → n + length (tree_blocks n next part count) ≡ records_number n part
tree_long n next part count =
    data_long n next (links.Block (records_number n part)) (values_links n part) (sorted_row part count)
    ∙ one_past (group_number n part) (sorted_group part count)

pub part_long : (n : ℕ) (next : Link) (part : GroupPart) (count : ℕ) → n + length (part_blocks n next part count) ≡ past_part n part
unfolding part_blocks
part_long n next part count =
    omega (
      arith,
      tree_long n next part count,
      length-append (tree_blocks n next part count) (data_block Dt part.content ∷ map (data_block Sd) part.streams),
      length-map part.streams (data_block Sd),
    )

-- one more group is placed
pub measures_step : (w after : List Placed) (next : Link) (m : Measure) (rest : List Measure) → next ≡ next_link (past_part (length w) m.part) rest
    → after ≡ w ++ part_blocks (length w) next m.part m.count
    → after ++ measures_blocks (length after) rest ≡ w ++ measures_blocks (length w) (m ∷ rest)
unfolding measures_blocks
measures_step w after next m rest is placed =
    let past = past_part (length w) m.part in
    let own = part_blocks (length w) (next_link past rest) m.part m.count in
    placed_step w own (λ n. measures_blocks n rest) after past
    (placed ∙ ap (λ (link : Link). w ++ part_blocks (length w) link m.part m.count) is)
    (part_long (length w) (next_link past rest) m.part m.count)

-- some group, where there is one
pub some_measure : (groups : List Measure) → 0 < length groups → Measure
some_measure [] some = absurd (omega (arith, some))
some_measure (m ∷ rest) some = m

-- group i is placed, and those behind it are left
pub measure_placed : (w0 w after : List Placed) (groups : List Measure) (i : ℕ) (part : GroupPart) (count : ℕ) → i < length groups
    → ((d : Measure) → part ≡ (slice_index_or groups i d).part) → ((d : Measure) → count ≡ (slice_index_or groups i d).count)
    → after ≡ w ++ part_blocks (length w) (next_if (nat_lt (i + 1) (length groups)) (past_part (length w) part)) part count
    → w ++ measures_blocks (length w) (drop i groups) ≡ w0 ++ measures_blocks (length w0) groups
    → after ++ measures_blocks (length after) (drop (i + 1) groups) ≡ w0 ++ measures_blocks (length w0) groups
measure_placed w0 w after groups i part count below part_is count_is placed before =
    let some : 0 < length groups = omega (arith, below) in
    let d = some_measure groups some in
    let m = slice_index_or groups i d in
    let block : GroupPart → ℕ → List Placed = λ p k.
    w ++ part_blocks (length w) (next_if (nat_lt (i + 1) (length groups)) (past_part (length w) p)) p k in
    let same : after ≡ block m.part m.count =
    placed ∙ ap (λ (p : GroupPart). block p count) (part_is d) ∙ ap (λ (k : ℕ). block m.part k) (count_is d) in
    measures_step w after _ m (drop (i + 1) groups) (next_less (past_part (length w) m.part) (i + 1) groups) same
    ∙ ap (λ (left : List Measure). w ++ measures_blocks (length w) left) (sym (cut_at groups i d below))
    ∙ before

-- group i, where what is left from it on is the same
pub same_left : (now groups : List Measure) (i : ℕ) (d : Measure) → drop i now ≡ drop i groups → get_or now i d ≡ get_or groups i d
same_left now groups i d rest =
    ap (λ (k : ℕ). get_or now k d) (sym (add-zero i))
    ∙ sym (get_or-drop i now 0 d)
    ∙ ap (λ (left : List Measure). get_or left 0 d) rest
    ∙ get_or-drop i groups 0 d
    ∙ ap (λ (k : ℕ). get_or groups k d) (add-zero i)

-- no group is left
pub no_measures : (w : List Placed) (groups : List Measure) (i : ℕ) → length groups ≤ i → w ≡ w ++ measures_blocks (length w) (drop i groups)
unfolding measures_blocks
no_measures w groups i past =
    sym (ap (λ (left : List Measure). w ++ measures_blocks (length w) left) (drop_all i groups past) ∙ append-nil w)

-- the count of one more group fits
pub fit_more : (groups : List Measure) (i count : ℕ) → i < length groups → ((d : Measure) → count ≡ (slice_index_or groups i d).count) → count < 2 ^ 64
    → AllByRecursion (λ (m : Measure). m.count < 2 ^ 64) (take i groups) → AllByRecursion (λ (m : Measure). m.count < 2 ^ 64) (take (i + 1) groups)
fit_more groups i count below count_is fits before =
    let d = some_measure groups (omega (arith, below)) in
    let m = slice_index_or groups i d in
    all_taken (λ (one : Measure). one.count < 2 ^ 64) groups i m below (get_or_default groups i d m below) before (omega (arith, fits, count_is d))

pub fit_all : (groups : List Measure) (i : ℕ) → length groups ≤ i → AllByRecursion (λ (m : Measure). m.count < 2 ^ 64) (take i groups)
    → AllByRecursion (λ (m : Measure). m.count < 2 ^ 64) groups
fit_all groups i past fit = subst (AllByRecursion (λ (m : Measure). m.count < 2 ^ 64)) (take_all i groups past) fit

-- the samples of one more group are counted
pub samples_more : (groups : List Measure) (i so_far count sum : ℕ) → i < length groups → ((d : Measure) → count ≡ (slice_index_or groups i d).count)
    → sum ≡ so_far + count → so_far + sample_count (drop i groups) ≡ sample_count groups
    → sum + sample_count (drop (i + 1) groups) ≡ sample_count groups
samples_more groups i so_far count sum below count_is added before =
    let d = some_measure groups (omega (arith, below)) in
    let cut : sample_count (drop i groups) ≡ (slice_index_or groups i d).count + sample_count (drop (i + 1) groups) =
    ap sample_count (cut_at groups i d below) ∙ sum_by-cons (λ (m : Measure). m.count) (slice_index_or groups i d) (drop (i + 1) groups) in
    omega (arith, cut, count_is d, added, before)

-- all are counted
pub samples_done : (groups : List Measure) (i so_far : ℕ) → length groups ≤ i → so_far + sample_count (drop i groups) ≡ sample_count groups
    → so_far ≡ sample_count groups
samples_done groups i so_far past before = omega (arith, before, ap sample_count (drop_all i groups past))

-- the head and the groups
pub file_placed : (w1 w2 : List Placed) (m : Measured) (title : List ℕ) (now : ℕ)
    → w1 ≡ titled_head m.head m.history title now (nat_lt 0 (length m.groups)) → w2 ≡ w1 ++ measures_blocks (length w1) m.groups
    → w2 ≡ sorted_blocks m title now
unfolding sorted_blocks
file_placed w1 w2 m title now first second =
    let n = first_measure m title now in
    let entries = sorted_history m title now in
    let hd = head_blocks m.head entries (next_link n m.groups) in
    let front : w1 ≡ hd = first ∙ ap (λ (link : Link). head_blocks m.head entries link) (next_less n 0 m.groups) in
    second
    ∙ ap (λ (xs : List Placed). xs ++ measures_blocks (length xs) m.groups) front
    ∙ ap (λ (k : ℕ). hd ++ measures_blocks k m.groups) (head_long m.head entries (next_link n m.groups))
