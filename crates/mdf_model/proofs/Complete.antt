-- A file that has a measurement and is within the limits is read.
use Rattle.std.proofs.Common.{◌≡◌, ◌+◌, ℕ, true, List, [], ◌∷◌, Option, Some, None, Ok, Err, refl, sym, ◌∙◌, ap, subst, inl, inr, arith}
use Rattle.std.specs.Prelude.{if◌then◌else◌, codes, filter}
use Rattle.std.specs.List.{AllByRecursion, AllZip}
use Rattle.std.proofs.lemmas.Bool.{cond-true}
use Rattle.std.proofs.lemmas.Slice.Eq.{bytes_eq-Decides}
use Rattle.mdf_format.specs.Number.{bytes_at}
use Rattle.mdf_format.specs.Block.{IsBlock}
use Rattle.mdf_format.specs.Identification.{version_of}
use Rattle.mdf_format.specs.declared.kind.Kind.{Kind}
use Rattle.mdf_format.specs.declared.kind.Kind.TheVariants.{Hd, Fh, Dg, Cg, Cn, Dt, Sd}
use Rattle.mdf_block.specs.declared.what.What.TheVariants as whats
use Rattle.mdf_block.specs.Refusal as refusals
use Rattle.mdf_block.specs.Refusal.{Refusal, NotMdf, Version, Unfinalized, TooMany, UnknownId, Cut, Cycles, Offset, Read, ◌>>=◌}
use Rattle.mdf_block.specs.Block.{the_block}
use Rattle.mdf_block.specs.Every.{every}
use Rattle.mdf_block.proofs.Wholes.{block_some}
use Rattle.mdf_stream.specs.declared.part.Part.{Part}
use Rattle.mdf_stream.specs.Link.{data_parts}
use Rattle.mdf_stream.specs.Stream.{LeadsToFew}
use Rattle.mdf_stream.proofs.Reached.{parts_reached}
use Rattle.mdf_data.specs.Split.{Record}
use Rattle.mdf_conv.specs.declared.limits.Budget.{Budget}
use Rattle.mdf_conv.specs.Left.{with_dropped}
use Rattle.mdf_conv.proofs.Reached.{IsEnough}
use Rattle.mdf_head.specs.declared.identity.Ident.{Ident}
use Rattle.mdf_head.specs.declared.entry.Head.{Head}
use Rattle.mdf_head.specs.declared.entry.History.{History}
use Rattle.mdf_head.specs.Ident.{is_mdf, has_read_version, the_ident, identify}
use Rattle.mdf_head.specs.Head.{IsHead}
use Rattle.mdf_head.proofs.Identities.{mdf_is_true, read_version_is_true}
use Rattle.mdf_head.proofs.Reached.{head_reached}
use Rattle.mdf_head.proofs.Spends.{head_spends}
use Rattle.mdf_group.specs.declared.row.ChannelRow.{ChannelRow}
use Rattle.mdf_group.specs.declared.row.DataRow.{DataRow}
use Rattle.mdf_group.specs.Recordable.{is_of_values}
use Rattle.mdf_group.specs.Cost.{rows_cost}
use Rattle.mdf_group.proofs.Enough.{rows_there}
use Rattle.mdf_content.specs.declared.contents.Contents.{Contents}
use Rattle.mdf_content.specs.declared.found.DataFound.{DataFound}
use Rattle.mdf_content.specs.Values.{values_in}
use Rattle.mdf_content.specs.Found.{data_found}
use Rattle.mdf_model.specs.declared.part.Measure.{Measure}
use Rattle.mdf_model.specs.declared.whole.WholeFound.{WholeFound}
use Rattle.mdf_model.specs.Tree.{finalized_by, finalized, whole_budget, passed_over, tree}
use Rattle.mdf_model.specs.Found.{data_place, all_found, whole, whole_found}
use Rattle.mdf_model.specs.Measurement.{Measured, measured_from, measurement}
use Rattle.mdf_model.specs.Contents.{IsValuesOf, IsChannelStream, own_records, IsDataContents}
use Rattle.mdf_model.specs.InWords.{IsFinalizedMdf, IsMeasurement}
use Rattle.mdf_model.specs.Truth.{IsTrueOfData}
use Rattle.mdf_model.specs.Limits.{HasFewValues, IsWithinData, IsWithinTree, IsWithinLimits}
use Rattle.mdf_model.proofs.Channels.{held_by}
use Rattle.mdf_model.proofs.Files.{data_true}
use Rattle.mdf_block.proofs.Names.{none_first}
use Rattle.mdf_block.proofs.Picks.{keyed_own, picked_get, passed_get}
use Rattle.mdf_model.proofs.Truths.{IsOfData, IsRefusedLink}
use Rattle.mdf_model.proofs.Undefined.{group_get, no_lack, no_rest, no_more, no_miss}
use Rattle.mdf_block.proofs.Items.{all_get}
use Rattle.mdf_block.proofs.Cases.{found_or_not, not_both}

-- the values of a channel
pub values_there : (f : List ℕ) (row : DataRow) (records : List Record) (parts : List Part) (lists : List (List ℕ)) (link : ℕ) (group : Option ℕ) (stream : List ℕ)
    → IsValuesOf f row records link group stream → LeadsToFew f link
    → (values : List Part) × (values_in f (held_by parts row lists) link group ≡ Ok values)
values_there f row records parts lists link (Some k) stream of_channel few = (_, refl)
values_there f row records parts lists link None stream of_channel few = parts_reached f Sd (inr refl) link stream of_channel few

module _ (f : List ℕ) (row : DataRow) (found : List Contents) (is : IsDataContents f row found) (within : IsWithinData f row) where
  -- no link to data is
  no_link : (refusal : Refusal) → IsRefusedLink f row refusal → ⊥
  no_link refusal l =
      let held = group_get f row found is l.k l.group l.is_group in
      let R : ChannelRow → List ℕ → Type 0 = IsChannelStream f row is.records l.group.data_bytes (own_records row is.records l.k l.group) in
      let all = subst (λ (cs : List ChannelRow). AllZip R (filter is_of_values cs) held.0.streams) (sym (keyed_own 0 l.group.channels)) held.1.streams in
      let one = picked_get {C = ChannelRow} (λ n row_of. row_of) is_of_values R 0 l.group.channels held.0.streams l.c l.channel l.is_channel l.kind all in
      let few = passed_get is_of_values (λ (one_of : ChannelRow). LeadsToFew f one_of.values) l.group.channels l.c l.channel l.is_channel l.kind
      (all_get (HasFewValues f) row.groups l.k l.group l.is_group.there within.values) in
      let values : IsValuesOf f row is.records l.channel.values None one.0 =
      subst (λ (group : Option ℕ). IsValuesOf f row is.records l.channel.values group one.0) l.none one.1.values in
      let there = parts_reached f Sd (inr refl) l.channel.values one.0 values few in
      not_both (data_parts f Sd l.channel.values) there.0 refusal there.1 l.refused

  no_content : (refusal : Refusal) → data_parts f Dt row.content ≡ Err refusal → ⊥
  no_content refusal refused =
      let there = parts_reached f Dt (inl refl) row.content is.split.stream is.split.is_stream within.records in
      not_both (data_parts f Dt row.content) there.0 refusal there.1 refused

  none_refused : (number : ℕ) (refusal : Refusal) → IsOfData refusal → IsTrueOfData f row number refusal → ⊥
  none_refused number (refusals.Layout at) kind holds = no_lack f row found is at holds
  none_refused number (UnknownId id at) kind holds = no_rest f row found is at holds.rest
  none_refused number (Cut at) kind holds = no_rest f row found is at holds
  none_refused number (Cycles group said count) kind holds = no_more f row found is number group said count holds
  none_refused number (Offset c i offset) kind holds = no_miss f row found is c i offset holds
  none_refused number (TooMany whats.Sample at) kind holds = within.empties at holds
  none_refused number _ kind holds = absurd kind

  data_there : (number : ℕ) → (read : DataFound × ℕ) × (data_found f row number ≡ Ok read)
  data_there number =
      elim (found_or_not (data_found f row number)) [
        | inl read ↦ read
        | inr refused ↦
            let told = (data_true f row number).tells refused.0 refused.1 in
            elim told.1 [
              | inl kind ↦ absurd (none_refused number refused.0 kind told.0)
              | inr (inl content) ↦ absurd (no_content refused.0 content)
              | inr (inr link) ↦ absurd (no_link refused.0 link)
            ]
      ]

-- all data groups
every_there : (f : List ℕ) (k : ℕ) (rows : List DataRow) (found : List (List Contents)) (number : ℕ) → AllZip (IsDataContents f) rows found
    → AllByRecursion (IsWithinData f) rows → (read : List DataFound × ℕ) × (every (data_place f) k rows number ≡ Ok read)
unfolding every
every_there f k [] found number hold within = (([], number), refl)
every_there f k (row ∷ rows) [] number hold within = absurd hold
every_there f k (row ∷ rows) (one ∷ found) number hold within =
    let first = data_there f row one hold.0 within.0 number in
    let rest = every_there f (k + 1) rows found first.0.1 hold.1 within.1 in
    ((first.0.0 ∷ rest.0.0, rest.0.1), rw (first.1, rest.1) refl)

-- the identification
finalized_there : (f : List ℕ) → IsFinalizedMdf f → finalized f ≡ Ok (the_ident f)
unfolding finalized identify
finalized_there f is =
    let id = the_ident f in
    let closed : id.finalized ≡ true = (bytes_eq-Decides (bytes_at 8 f 0) (codes "MDF     ")).1 is.finalized in
    let read : identify f ≡ Ok id =
    cond-true (is_mdf f) (if has_read_version f then Ok id else Err (Version (version_of f))) (Err NotMdf) (mdf_is_true f is.mdf)
    ∙ cond-true (has_read_version f) (Ok id) (Err (Version (version_of f))) (read_version_is_true f is.version) in
    ap (λ (found : Read Ident). found >>= finalized_by) read
    ∙ cond-true id.finalized (Ok id) (Err (Unfinalized id.std_flags id.custom_flags)) closed

-- the header, the history and the data groups
pub tree_there : (f : List ℕ) (given : Head) (entries : List History) (rows : List DataRow) → ((kind : Kind) → IsBlock f 0 kind → ⊥)
    → IsHead f given entries → IsWithinTree f given entries rows
    → (dropped : ℕ) × (tree f ≡ Ok (record { head = given; history = entries; rows = rows; dropped = dropped }))
unfolding tree
tree_there f given entries rows none stands limits =
    let b = the_block f 64 Hd in
    let first = block_some f 64 Hd refl stands.block in
    let text = head_reached f 67108864 given entries (none Fh) stands limits.entries (omega (arith, limits.text)) in
    let spent = head_spends f 67108864 ((given, entries), text.0) text.1 in
    let budget : Budget = record whole_budget { text = text.0 } in
    let enough : IsEnough (rows_cost f rows) budget = record { text = omega (arith, limits.text, spent.0); conversions = limits.conversions } in
    let third = rows_there f given.first_dg budget rows (none Cn) (none Cg) (none Dg) limits.shallow limits.few enough in
    ((with_dropped (passed_over f b.at) third.0).dropped, rw (first, text.1, third.1) refl)

-- all of a file
pub measurement_there : (f : List ℕ) (given : Head) (entries : List History) (measures : List Measure) (is : IsMeasurement f given entries measures)
    → IsWithinLimits f given entries is.rows → (m : Measured) × (measurement f ≡ Ok m)
unfolding measurement whole whole_found all_found
measurement_there f given entries measures is limits =
    let first = finalized_there f is.ident in
    let second = tree_there f given entries is.rows (none_first f is.ident.finalized) is.stands limits.tree in
    let third = every_there f 0 is.rows is.contents 0 is.hold limits.each in
    let all : WholeFound = record {
      ident = the_ident f;
      tree = record { head = given; history = entries; rows = is.rows; dropped = second.0 };
      found = third.0.0;
    } in
    (measured_from f all, rw (first, second.1, third.1) refl)
