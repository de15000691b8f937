-- The records of a recording are the split of the data of its finalized file.
use Rattle.std.proofs.Common.{◌≡◌, ◌≢◌, ◌+◌, ℕ, zero, suc, List, [], ◌∷◌, ◌++◌, length, replicate, refl, sym, ◌∙◌, ap, arith, length-append, append-nil}
use Rattle.std.specs.Prelude.{Bool, true, false, cond}
use Rattle.std.specs.List.{flat_map}
use Rattle.mdf_data.specs.declared.known.Size.{Size}
use Rattle.mdf_data.specs.declared.known.Size.TheVariants as sizes
use Rattle.mdf_data.specs.declared.known.Known.{Known}
use Rattle.mdf_data.specs.Split.{Record, IsAlone, IsSplitAlone, IsRecordSplit, empty_record}
use Rattle.mdf_group.specs.declared.row.GroupRow.{GroupRow}
use Rattle.mdf_data.specs.Bodies.{bodies}
use Rattle.mdf_model.specs.Contents.{empties_in}
use Rattle.mdf_tree.specs.Group.{placed_groups}
use Rattle.mdf_block.specs.declared.link.Link.{Link}
use Rattle.mdf_block.specs.Draft.{Placed}
use Rattle.mdf_spell.specs.Counts.{counted_groups}
use Rattle.tool_final.proofs.Fields.{AreCounted}

abbrev pub bytes_of : List Record → List ℕ
bytes_of records = flat_map (λ (r : Record). r.bytes) records

-- a record that has bytes does not begin at the end
too_long : (n : ℕ) (r : Record) (more : List ℕ) → IsAlone (suc n) r → [] ≡ r.bytes ++ more → ⊥
too_long n r more alone is =
    let long : length {A = ℕ} [] ≡ length r.bytes + length more = ap (λ (xs : List ℕ). length xs) is ∙ length-append r.bytes more in
    omega (arith, long, alone.long)

alone_again : (size : Size) (stream : List ℕ) (records : List Record) (rest : List ℕ) (empties : ℕ) → IsSplitAlone 0 size stream records rest
    → (records ≡ [] → empties ≡ 0) → IsSplitAlone empties size (bytes_of records) records []
alone_again (sizes.Fixed zero) stream records rest empties split none = record {
  records_are = split.records_are ∙ sym (ap (λ (n : ℕ). replicate n empty_record) (none split.records_are));
  rest_is = sym (ap bytes_of split.records_are);
}
alone_again (sizes.Fixed (suc size)) stream records rest empties split none =
    record { whole = sym (append-nil (bytes_of records)); each = split.each; none = λ r more whole is. too_long size r more whole is }
alone_again sizes.Variable stream records rest empties split none =
    record { records_are = split.records_are; rest_is = sym (ap bytes_of split.records_are) }

pub split_again : (stream : List ℕ) (id_size : ℕ) (known : List Known) (records : List Record) (rest : List ℕ) (empties : ℕ)
    → IsRecordSplit stream id_size known 0 records rest → (id_size ≢ 0 → rest ≡ []) → (records ≡ [] → empties ≡ 0)
    → IsRecordSplit (bytes_of records) id_size known empties records []
split_again stream zero [] records rest empties split whole none =
    record { records_are = split.records_are; rest_is = sym (ap bytes_of split.records_are) }
split_again stream zero (group ∷ known) records rest empties split whole none = alone_again group.size stream records rest empties split none
split_again stream (suc n) known records rest empties split whole none =
    let nothing : rest ≡ [] = whole (λ is. omega (arith, is)) in
    record {
      whole = sym (append-nil (bytes_of records));
      each = split.each;
      none = λ r more is begins. split.none r more is (nothing ∙ begins);
    }

-- no record without bytes is said where there is no record
none_by : (b : Bool) (count : ℕ) → count ≡ 0 → cond b count 0 ≡ 0
none_by true count is = is
none_by false count is = refl

pub none_said : (id_size : ℕ) (records : List Record) (blocks : List Placed) (rows : List GroupRow) (counts totals : List ℕ) (n : ℕ) (values : List Link)
    → AreCounted id_size records 0 rows counts totals → records ≡ [] → empties_in (placed_groups blocks n values (counted_groups counts totals rows)) ≡ 0
unfolding placed_groups counted_groups
none_said id_size records blocks [] counts totals n values are none = refl
none_said id_size records blocks (row ∷ rows) [] totals n values are none = absurd are
none_said id_size records blocks (row ∷ rows) (count ∷ counts) [] n values are none = absurd are
none_said id_size records blocks (row ∷ rows) (count ∷ counts) (total ∷ totals) n values are none =
    let nothing : count ≡ 0 = are.0 ∙ ap (λ (rs : List Record). length (bodies id_size rs 0)) none in
    none_by _ count nothing
