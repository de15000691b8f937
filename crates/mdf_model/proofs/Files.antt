-- What is refused of a file is true of it.
use Rattle.std.proofs.Common.{◌≡◌, ◌+◌, ℕ, List, length, take, Option, Some, Ok, Err, refl, sym, ◌∙◌, ap, subst, inl, inr}
use Rattle.std.specs.Prelude.{true, codes, filter, slice_get}
use Rattle.std.proofs.lemmas.Bool.{both_ways}
use Rattle.std.proofs.lemmas.Slice.Eq.{bytes_eq-Decides}
use Rattle.std.proofs.lemmas.List.Sums.{sum_by_more}
use Rattle.std.proofs.lemmas.Option.{slice_get_within, get_or_from_slice_get}
use Rattle.mdf_format.specs.Number.{bytes_at}
use Rattle.mdf_format.specs.Block.{link_at}
use Rattle.mdf_format.specs.Identification.{version_of}
use Rattle.mdf_format.specs.declared.kind.Kind.TheVariants.{Hd, Fh, Dt}
use Rattle.mdf_block.specs.declared.what.What.TheVariants as whats
use Rattle.mdf_block.specs.Refusal.{Refusal, NotMdf, Version, Unfinalized}
use Rattle.mdf_block.specs.Block.{block}
use Rattle.mdf_block.specs.Text.{note}
use Rattle.mdf_block.specs.Chain.{full}
use Rattle.mdf_block.specs.Truth.{IsTrueOf}
use Rattle.mdf_block.proofs.Refusals.{bind_ok}
use Rattle.mdf_block.proofs.Chains.{goes_along}
use Rattle.mdf_block.proofs.Truths.{Refusing, refusing_none, refusing_one, refusing_then, refusing_if, refusing_as, refusing_past, block_true, full_true, note_true}
use Rattle.mdf_stream.specs.Parts.{stream_of, stream_size}
use Rattle.mdf_stream.specs.Link.{data_parts}
use Rattle.mdf_stream.proofs.Joins.{length-stream}
use Rattle.mdf_stream.proofs.Streams.{stream_found}
use Rattle.mdf_head.specs.declared.identity.Ident.{Ident}
use Rattle.mdf_head.specs.Ident.{is_finalized, is_mdf, has_read_version, the_ident, identify}
use Rattle.mdf_head.specs.Head.{history, histories, header, head}
use Rattle.mdf_head.specs.declared.entry.History.{History}
use Rattle.mdf_head.proofs.Heads.{follows}
use Rattle.mdf_head.proofs.Identities.{is_mdf_true, mdf_is_true, read_version_is_true}
use Rattle.mdf_group.specs.declared.row.DataRow.{DataRow}
use Rattle.mdf_group.specs.Group.{groups}
use Rattle.mdf_group.proofs.Truths.{rows_true}
use Rattle.mdf_content.specs.declared.found.DataFound.{DataFound}
use Rattle.mdf_content.specs.Layouts.{layouts}
use Rattle.mdf_content.specs.Records.{places_of, counted}
use Rattle.mdf_block.specs.Every.{every}
use Rattle.mdf_content.specs.Found.{data_at, data_found}
use Rattle.mdf_model.specs.declared.tree.Tree.{Tree}
use Rattle.mdf_model.specs.Tree.{finalized_by, finalized, whole_budget, header_of, tree}
use Rattle.mdf_model.specs.Found.{data_place, all_found, whole, whole_found}
use Rattle.mdf_model.specs.Measurement.{holds_samples, measurement}
use Rattle.mdf_model.specs.Contents.{empties_in, IsDataSplit}
use Rattle.mdf_model.specs.Truth.{IsTrueOfData, sample_count, IsTrueOfFile}
use Rattle.mdf_stream.proofs.Insides.{data_inside}
use Rattle.mdf_model.proofs.Alone.{split_found}
use Rattle.mdf_model.proofs.Founds.{all_of_data, size_found, hold_by}
use Rattle.mdf_block.proofs.Picks.{all_there}
use Rattle.mdf_block.proofs.Walks.{refusing_every}
use Rattle.mdf_model.proofs.Truths.{IsTrue, link_true, layouts_true, places_true}
use Rattle.mdf_model.proofs.Counted.{next_is, counts_true, all_true}
use Rattle.mdf_model.proofs.Wholes.{identified, IsTree, tree_found}
use Rattle.mdf_block.proofs.Cases.{ok_injective}

-- a data group
module _ (f : List ℕ) (row : DataRow) (before : ℕ) where
  abbrev Holds : Refusal → Type 0
  Holds refusal = IsTrue f row before refusal

  pub data_true : Refusing Holds (data_found f row before)
  unfolding data_found
  data_true =
      refusing_then Holds (layouts row) _ (layouts_true f row before) (λ u laid.
      refusing_then Holds (data_parts f Dt row.content) _ (link_true f row before Dt (inl refl) row.content (λ refusal refused. inr (inl refused))) (λ parts is_parts.
      let inside = data_inside f Dt row.content parts is_parts in
      let long : length (stream_of f parts) ≡ stream_size parts = length-stream f parts inside in
      refusing_then Holds (places_of (stream_of f parts) (stream_size parts) true row) _
      (subst (λ (n : ℕ). Refusing Holds (places_of (stream_of f parts) n true row)) long (places_true f row before parts is_parts)) (λ lists is_lists.
      let split = split_found row (stream_of f parts) lists (size_found row u laid)
      (subst (λ (n : ℕ). places_of (stream_of f parts) n true row ≡ Ok lists) (sym long) is_lists) in
      let is_split : IsDataSplit f row split.records split.rest = record {
        stream = stream_of f parts;
        is_stream = stream_found f Dt row.content parts is_parts;
        split = split.split;
      } in
      let hold = hold_by row (stream_of f parts) (empties_in row.groups) lists split in
      refusing_then Holds (counted lists row.groups before) _ (counts_true f row before parts lists split.records split.rest is_split inside hold) (λ next _.
      refusing_then Holds (data_at f parts row lists) _ (all_true f row before parts lists split.records split.rest is_split inside hold)
      (λ found _. refusing_none Holds (found, next))))))

-- the identification
identify_true : (f : List ℕ) → Refusing (IsTrueOf f) (identify f)
unfolding identify
identify_true f =
    refusing_if (IsTrueOf f) (is_mdf f) _ (Err NotMdf)
    (λ mdf. refusing_if (IsTrueOf f) (has_read_version f) (Ok (the_ident f)) (Err (Version (version_of f)))
    (λ _. refusing_none (IsTrueOf f) (the_ident f))
    (λ other. refusing_one (IsTrueOf f) (Version (version_of f))
    (refl, (λ is. both_ways (has_read_version f) other (read_version_is_true f is)), is_mdf_true f mdf)))
    (λ none. refusing_one (IsTrueOf f) NotMdf (λ is. both_ways (is_mdf f) none (mdf_is_true f is)))

finalized_true : (f : List ℕ) → Refusing (IsTrueOf f) (finalized f)
unfolding finalized
finalized_true f =
    refusing_then (IsTrueOf f) (identify f) finalized_by (identify_true f) (λ id is.
    let known = identified f id is in
    let same = known.says in
    refusing_if (IsTrueOf f) id.finalized (Ok id) (Err (Unfinalized id.std_flags id.custom_flags)) (λ _. refusing_none (IsTrueOf f) id)
    (λ left_open. refusing_one (IsTrueOf f) (Unfinalized id.std_flags id.custom_flags) (
      ap (λ (i : Ident). i.std_flags) (sym same),
      ap (λ (i : Ident). i.custom_flags) (sym same),
      λ closed. both_ways (is_finalized f) (ap (λ (i : Ident). i.finalized) same ∙ left_open)
          ((bytes_eq-Decides (bytes_at 8 f 0) (codes "MDF     ")).1 closed),
      (known.mdf, known.version),
    )))

-- the tree
entry_true : (f : List ℕ) (at left : ℕ) → Refusing (IsTrueOf f) (history f at left)
unfolding history
entry_true f at left =
    refusing_then (IsTrueOf f) (block f at Fh) _ (block_true f at Fh (λ none. none)) (λ b _.
    refusing_then (IsTrueOf f) (note f (link_at f b.at 1) left) _ (note_true f (link_at f b.at 1) left) (λ comment _. refusing_none (IsTrueOf f) _))

header_true : (f : List ℕ) (left : ℕ) → Refusing (IsTrueOf f) (header f left)
unfolding header
header_true f left =
    refusing_then (IsTrueOf f) (block f 64 Hd) _ (block_true f 64 Hd (λ none. none)) (λ b _.
    refusing_then (IsTrueOf f) (note f (link_at f b.at 5) left) _ (note_true f (link_at f b.at 5) left) (λ comment _. refusing_none (IsTrueOf f) _))

head_true : (f : List ℕ) (left : ℕ) → Refusing (IsTrueOf f) (head f left)
unfolding head
head_true f left =
    refusing_then (IsTrueOf f) (header f left) _ (header_true f left) (λ first _.
    refusing_then (IsTrueOf f) (histories f first.1 first.2) _
    (refusing_past (IsTrueOf f) f Fh (history f) (full whats.Fh Fh f)
    (goes_along f Fh (λ (entry : History). entry.at) (history f) (follows f)) (entry_true f) 65535 first.1
    (λ at before. full_true whats.Fh f Fh at (λ none. none) (λ is. is) (first.1, before)) first.2)
    (λ entries _. refusing_none (IsTrueOf f) _))

tree_true : (f : List ℕ) → Refusing (IsTrueOf f) (tree f)
unfolding tree
tree_true f =
    refusing_then (IsTrueOf f) (block f 64 Hd) _ (block_true f 64 Hd (λ none. none)) (λ b _.
    refusing_then (IsTrueOf f) (header_of f whole_budget) _
    (refusing_then (IsTrueOf f) (head f 67108864) _ (head_true f 67108864) (λ first _. refusing_none (IsTrueOf f) _)) (λ first _.
    refusing_then (IsTrueOf f) (groups f first.0.first_dg first.2) _ (rows_true f first.0.first_dg first.2) (λ rows _. refusing_none (IsTrueOf f) _)))

-- the data groups
abbrev count_of : DataRow → ℕ
count_of row = length (filter holds_samples row.groups)

counts_more : (rows : List DataRow) (n : ℕ) (row : DataRow) → slice_get rows n ≡ Some row
    → sample_count (take (n + 1) rows) ≡ sample_count (take n rows) + count_of row
counts_more rows n row there =
    sum_by_more count_of rows n row (slice_get_within rows n row there)
    ∙ ap (λ (r : DataRow). sample_count (take n rows) + count_of r) (get_or_from_slice_get rows n row row there)

module _ (f : List ℕ) (all : Tree) (stands : IsTree f all) where
  abbrev Known : ℕ → DataRow → Type 0
  Known n row = slice_get all.rows n ≡ Some row

  abbrev Numbers : ℕ → ℕ → Type 0
  Numbers n number = number ≡ sample_count (take n all.rows)

  one_true : (n : ℕ) (row : DataRow) (number : ℕ) → Known n row → Numbers n number → Refusing (IsTrueOfFile f) (data_place f n row number)
  one_true n row number there is_number =
      refusing_then (IsTrueOfFile f) (data_found f row number) (λ found. Ok (Some found.0, found.1))
      (refusing_as (IsTrue f row number) (IsTrueOfFile f) (data_found f row number)
      (λ refusal holds. inr (record {
        head = all.head;
        history = all.history;
        stands = stands.head;
        rows = all.rows;
        tree = stands.rows;
        n = n;
        row = row;
        there = there;
        holds = subst (λ (m : ℕ). IsTrueOfData f row m refusal) is_number holds.0;
      })) (data_true f row number))
      (λ found _. refusing_none (IsTrueOfFile f) (Some found.0, found.1))

  one_next : (n : ℕ) (row : DataRow) (number : ℕ) (found : Option DataFound × ℕ) → Known n row → Numbers n number
      → data_place f n row number ≡ Ok found → Numbers (n + 1) found.1
  one_next n row number found there is_number is =
      let first = bind_ok (data_found f row number) (λ y. Ok (Some y.0, y.1)) found is in
      ap (λ (y : Option DataFound × ℕ). y.1) (sym (ok_injective (Some first.0.0, first.0.1) found first.2))
      ∙ next_is first.0.0.lists row.groups number first.0.1 (all_of_data f row number first.0 first.1).1
      ∙ ap (λ (m : ℕ). m + count_of row) is_number
      ∙ sym (counts_more all.rows n row there)

  rows_data_true : Refusing (IsTrueOfFile f) (all_found f all.rows)
  unfolding all_found
  rows_data_true =
      refusing_then (IsTrueOfFile f) (every (data_place f) 0 all.rows 0) (λ found. Ok found.0)
      (refusing_every (IsTrueOfFile f) (data_place f) Known Numbers one_true one_next 0 all.rows 0 (all_there all.rows) refl)
      (λ found _. refusing_none (IsTrueOfFile f) found.0)

as_file : (f : List ℕ) (refusal : Refusal) → IsTrueOf f refusal → IsTrueOfFile f refusal
as_file f refusal is = inl is

pub measurement_true : (f : List ℕ) → Refusing (IsTrueOfFile f) (measurement f)
unfolding measurement whole whole_found
measurement_true f =
    refusing_then (IsTrueOfFile f) (whole f) _ (refusing_then (IsTrueOfFile f) (whole_found f) _
    (refusing_then (IsTrueOfFile f) (finalized f) _ (refusing_as (IsTrueOf f) (IsTrueOfFile f) (finalized f) (as_file f) (finalized_true f)) (λ id _.
    refusing_then (IsTrueOfFile f) (tree f) _ (refusing_as (IsTrueOf f) (IsTrueOfFile f) (tree f) (as_file f) (tree_true f)) (λ found is.
    refusing_then (IsTrueOfFile f) (all_found f found.rows) _ (rows_data_true f found (tree_found f found is)) (λ found _. refusing_none (IsTrueOfFile f) _))))
    (λ all _. refusing_none (IsTrueOfFile f) _)) (λ all _. refusing_none (IsTrueOfFile f) _)

pub refusal_true : (f : List ℕ) (refusal : Refusal) → measurement f ≡ Err refusal → IsTrueOfFile f refusal
refusal_true f refusal is = (measurement_true f).tells refusal is

-- of the identification alone
pub identify_refused : (f : List ℕ) (refusal : Refusal) → identify f ≡ Err refusal → IsTrueOfFile f refusal
identify_refused f refusal is = as_file f refusal ((identify_true f).tells refusal is)
