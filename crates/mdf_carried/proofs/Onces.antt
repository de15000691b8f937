-- A recording holds one thing.
use Rattle.std.proofs.Common.{◌≡◌, ℕ, List, take, drop, map, refl, sym, ◌∙◌, ap, subst, lit<}
use Rattle.std.specs.Prelude.{slice_get, codes}
use Rattle.std.specs.List.{concat, AllZip}
use Rattle.mdf_format.specs.Block.{IsBlock}
use Rattle.mdf_format.specs.Identification.{IsUnfinalized}
use Rattle.mdf_format.specs.declared.kind.Kind.{Kind}
use Rattle.mdf_data.specs.Split.{Record, IsRecordSplit}
use Rattle.mdf_data.proofs.Splits.{record_splits_agree}
use Rattle.mdf_head.specs.declared.entry.Head.{Head}
use Rattle.mdf_head.specs.declared.entry.History.{History}
use Rattle.mdf_group.specs.declared.row.DataRow.{DataRow}
use Rattle.mdf_group.specs.Standing.{StandDataGroups}
use Rattle.mdf_group.proofs.Uniques.{data_groups_unique}
use Rattle.mdf_layout.specs.Values.{sample_of}
use Rattle.mdf_layout.specs.declared.sample.Entry.{Entry}
use Rattle.mdf_layout.specs.declared.sample.Sample.{Sample}
use Rattle.mdf_content.specs.declared.contents.Contents.{Contents}
use Rattle.mdf_content.specs.Records.{known_of}
use Rattle.mdf_model.specs.Contents.{sample_groups}
use Rattle.mdf_block.proofs.Cases.{some_injective}
use Rattle.mdf_model.proofs.Onces.{head_unique, history_unique, contents_unique}
use Rattle.mdf_block.proofs.Names.{none_behind}
use Rattle.mdf_block.proofs.Items.{zip_unique}
use Rattle.mdf_gate.proofs.Once.{opened_once}
use Rattle.mdf_carried.specs.Recovered.{AreRecords, told, IsGroupContents, Recovery, IsRecovery}
use Rattle.mdf_carried.specs.Samples.{index_of, body_of, IsSampleOf, sample_records, IsRecovered}

-- no block stands at the beginning of a recording
pub none_at_first : (f : List ℕ) → IsUnfinalized f → (kind : Kind) → IsBlock f 0 kind → ⊥
none_at_first f is = none_behind f (codes "UnFinMF ") 85 is refl (lit< tt)

-- the records
records_unique : (f : List ℕ) (row : DataRow) (xs ys : List Record) → AreRecords f row xs → AreRecords f row ys → xs ≡ ys
records_unique f row xs ys is_x is_y =
    let blocks = opened_once f is_x.blocks is_y.blocks is_x.opened is_y.opened in
    (record_splits_agree (concat is_y.blocks) row.id_size (map known_of row.groups) 0 xs ys is_x.rest is_y.rest
    (subst (λ (bs : List (List ℕ)). IsRecordSplit (concat bs) row.id_size (map known_of row.groups) 0 xs is_x.rest) blocks is_x.split)
    is_y.split).0

-- what the groups hold
groups_unique : (f : List ℕ) (row : DataRow) (records : List Record) (xs ys : List Contents)
    → AllZip (IsGroupContents f row records) (sample_groups row) xs → AllZip (IsGroupContents f row records) (sample_groups row) ys → xs ≡ ys
groups_unique f row records xs ys is_x is_y =
    zip_unique (IsGroupContents f row records)
    (λ group x y one other. contents_unique f row records (group.0, told row records group) x y one other) (sample_groups row) xs ys is_x is_y

-- a recovery by its parts
made : Head → List History → List DataRow → DataRow → List Record → List Contents → Recovery
made head history rows row records groups =
    record { head = head; history = history; rows = rows; row = row; records = records; groups = groups }

pub recoveries_agree : (f : List ℕ) (a b : Recovery) → IsRecovery f a → IsRecovery f b → a ≡ b
unfolding made
recoveries_agree f a b is_a is_b =
    let unfinalized : IsUnfinalized f = is_b.records.opened.1.recording.form.unfinalized in
    let heads = head_unique f a.head b.head a.history b.history is_a.stands is_b.stands in
    let histories = history_unique f (none_at_first f unfinalized) a.head b.head a.history b.history is_a.stands is_b.stands in
    let rows = data_groups_unique f (none_at_first f unfinalized) b.head.first_dg a.rows b.rows
    (subst (λ (h : Head). StandDataGroups f h.first_dg a.rows) heads is_a.tree) is_b.tree in
    let row : a.row ≡ b.row = some_injective a.row b.row (sym is_a.first ∙ ap (λ (rs : List DataRow). slice_get rs 0) rows ∙ is_b.first) in
    let records : a.records ≡ b.records = records_unique f b.row a.records b.records
    (subst (λ (r : DataRow). AreRecords f r a.records) row is_a.records) is_b.records in
    let groups = groups_unique f b.row b.records a.groups b.groups
    (subst (λ (rs : List Record). AllZip (IsGroupContents f b.row rs) (sample_groups b.row) a.groups) records
    (subst (λ (r : DataRow). AllZip (IsGroupContents f r a.records) (sample_groups r) a.groups) row is_a.groups)) is_b.groups in
    let first : a ≡ made a.head a.history a.rows a.row a.records a.groups = refl in
    let last : b ≡ made b.head b.history b.rows b.row b.records b.groups = refl in
    first
    ∙ ap (λ (h : Head). made h a.history a.rows a.row a.records a.groups) heads
    ∙ ap (λ (hs : List History). made b.head hs a.rows a.row a.records a.groups) histories
    ∙ ap (λ (rs : List DataRow). made b.head b.history rs a.row a.records a.groups) rows
    ∙ ap (λ (r : DataRow). made b.head b.history b.rows r a.records a.groups) row
    ∙ ap (λ (rs : List Record). made b.head b.history b.rows b.row rs a.groups) records
    ∙ ap (λ (gs : List Contents). made b.head b.history b.rows b.row b.records gs) groups
    ∙ sym last

-- a sample by its parts
sample : ℕ → List Entry → Sample
sample group values = record { group = group; values = values }

sample_unique : (found : Recovery) (r : ℕ × Record) (x y : Sample) → IsSampleOf found r x → IsSampleOf found r y → x ≡ y
unfolding sample
sample_unique found r x y is_x is_y =
    let contents : is_x.contents ≡ is_y.contents = some_injective is_x.contents is_y.contents (sym is_x.holds ∙ is_y.holds) in
    let body = body_of found.row r in
    let values : x.values ≡ y.values = some_injective x.values y.values
    (sym is_x.values
    ∙ ap (λ (c : Contents). sample_of c.shape.rows (take c.shape.data_bytes body) (drop c.shape.data_bytes body) c.streams (index_of found.records r)) contents
    ∙ is_y.values) in
    let first : x ≡ sample x.group x.values = refl in
    let last : y ≡ sample y.group y.values = refl in
    first
    ∙ ap (λ (n : ℕ). sample n x.values) (is_x.group ∙ sym is_y.group)
    ∙ ap (λ (vs : List Entry). sample y.group vs) values
    ∙ sym last

pub samples_agree : (f : List ℕ) (xs ys : List Sample) → IsRecovered f xs → IsRecovered f ys → xs ≡ ys
samples_agree f xs ys is_x is_y =
    let found = recoveries_agree f is_x.found is_y.found is_x.recovery is_y.recovery in
    zip_unique (IsSampleOf is_y.found) (sample_unique is_y.found) (sample_records is_y.found) xs ys
    (subst (λ (r : Recovery). AllZip (IsSampleOf r) (sample_records r) xs) found is_x.each) is_y.each
