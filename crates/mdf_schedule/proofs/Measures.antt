-- Files that keep recordings which hold the same say the same.
use Rattle.std.proofs.Common.{◌≡◌, ℕ, false, List, [], ◌∷◌, ◌++◌, map, sym, ◌∙◌, ap, subst, inl, inr}
use Rattle.std.proofs.lemmas.Bool.{cond-true, cond-false}
use Rattle.std.specs.Prelude.{codes, filter, not}
use Rattle.std.specs.List.{AllByRecursion, AllZip}
use Rattle.mdf_block.specs.declared.note.Note.{Note}
use Rattle.mdf_head.specs.declared.entry.Head.{Head}
use Rattle.mdf_head.specs.declared.entry.History.{History}
use Rattle.mdf_group.specs.declared.row.GroupRow.{GroupRow}
use Rattle.mdf_group.specs.declared.row.DataRow.{DataRow}
use Rattle.mdf_group.specs.Group.{is_variable}
use Rattle.mdf_content.specs.declared.contents.Contents.{Contents}
use Rattle.mdf_model.specs.declared.part.Measure.{Measure}
use Rattle.mdf_model.specs.Measurement.{Measured, holds_samples, contents_of}
use Rattle.mdf_model.specs.InWords.{IsMeasurement}
use Rattle.mdf_model.specs.Same.{plain_group, plain_head}
use Rattle.mdf_block.proofs.Cases.{two_ways}
use Rattle.mdf_tree.specs.Head.{new_entry}
use Rattle.mdf_carried.specs.Recovered.{Recovery}
use Rattle.tool_final.specs.Keeping.{plain_entry, row_of, HasComment, KeepsRecovery}
use Rattle.tool_sort.specs.Kept.{SameRecords}
use Rattle.tool_sort.specs.Same.{AreOfSamples, SameMeasured}

-- groups that hold samples, wherever they stand
abbrev OfSamples : GroupRow → Type 0
OfSamples row = is_variable row ≡ false

kept_of_samples : (rows : List GroupRow) → AllByRecursion OfSamples (filter holds_samples rows)
kept_of_samples [] = tt
kept_of_samples (row ∷ rows) =
    let more = filter holds_samples rows in
    elim (two_ways (is_variable row)) [
      | inl values ↦ subst (AllByRecursion OfSamples) (sym (cond-false (holds_samples row) (row ∷ more) more (ap not values))) (kept_of_samples rows)
      | inr samples ↦
          subst (AllByRecursion OfSamples) (sym (cond-true (holds_samples row) (row ∷ more) more (ap not samples))) (samples, kept_of_samples rows)
    ]

same_of_samples : (rows : List GroupRow) (groups : List Measure) → AllByRecursion OfSamples rows → map plain_group rows ≡ map plain_group (map row_of groups)
    → AreOfSamples groups
same_of_samples rows [] each same = tt
same_of_samples [] (m ∷ groups) each same = let wrong : [] ≡ plain_group m.part.row ∷ map plain_group (map row_of groups) = same in cc
same_of_samples (row ∷ rows) (m ∷ groups) each same =
    let first : plain_group row ≡ plain_group m.part.row = cc in
    let rest : map plain_group rows ≡ map plain_group (map row_of groups) = cc in
    (sym (ap (λ (r : GroupRow). is_variable r) first) ∙ each.0, same_of_samples rows groups each.1 rest)

-- groups that hold the same
records_same : (comment : Note) (groups others : List Measure) → map contents_of groups ≡ map contents_of others
    → AllByRecursion (HasComment comment) groups → AllByRecursion (HasComment comment) others → AllZip SameRecords groups others
records_same comment [] [] same one two = tt
records_same comment [] (m ∷ others) same one two = let wrong : [] ≡ contents_of m ∷ map contents_of others = same in cc
records_same comment (m ∷ groups) [] same one two = let wrong : contents_of m ∷ map contents_of groups ≡ [] = same in cc
records_same comment (m ∷ groups) (n ∷ others) same one two =
    let first : contents_of m ≡ contents_of n = cc in
    let rest : map contents_of groups ≡ map contents_of others = cc in (
      record {
        shape = ap (λ (c : Contents). c.shape) first;
        count = ap (λ (c : Contents). c.count) first;
        content = ap (λ (c : Contents). c.content) first;
        streams = ap (λ (c : Contents). c.streams) first;
        comment = one.0 ∙ sym two.0;
      },
      records_same comment groups others rest one.1 two.1,
    )

abbrev pub MeasurementsAgree : Type 0
MeasurementsAgree = (file : List ℕ) (head other : Head) (history others : List History) (groups more : List Measure)
    → IsMeasurement file head history groups → IsMeasurement file other others more → (head ≡ other) × (history ≡ others) × (groups ≡ more)

pub keeps_same : MeasurementsAgree → (one two : Recovery) (final last : List ℕ) (now : ℕ) (m n : Measured) → one.head ≡ two.head → one.history ≡ two.history
    → one.row ≡ two.row → one.groups ≡ two.groups → KeepsRecovery one final now → KeepsRecovery two last now
    → IsMeasurement final m.head m.history m.groups → IsMeasurement last n.head n.history n.groups → SameMeasured m n
keeps_same agree one two final last now m n heads histories rows groups kept kept' of_final of_last =
    let first = agree final m.head kept.head m.history kept.history m.groups kept.groups of_final kept.measurement in
    let second = agree last n.head kept'.head n.history kept'.history n.groups kept'.groups of_last kept'.measurement in
    let entry = new_entry (codes "finalize") now in
    let same_rows : map plain_group (filter holds_samples one.row.groups) ≡ map plain_group (map row_of m.groups) =
    kept.same_rows ∙ ap (λ (gs : List Measure). map plain_group (map row_of gs)) (sym first.2) in
    let same_rows' : map plain_group (filter holds_samples one.row.groups) ≡ map plain_group (map row_of n.groups) =
    ap (λ (r : DataRow). map plain_group (filter holds_samples r.groups)) rows
    ∙ kept'.same_rows ∙ ap (λ (gs : List Measure). map plain_group (map row_of gs)) (sym second.2) in
    let contents : map contents_of m.groups ≡ map contents_of n.groups =
    ap (map contents_of) first.2 ∙ kept.contents ∙ groups ∙ sym kept'.contents ∙ ap (map contents_of) (sym second.2) in
    let comments : AllByRecursion (HasComment one.row.comment) m.groups =
    subst (AllByRecursion (HasComment one.row.comment)) (sym first.2) kept.comments in
    let comments' : AllByRecursion (HasComment one.row.comment) n.groups =
    subst (λ (r : DataRow). AllByRecursion (HasComment r.comment) n.groups) (sym rows)
    (subst (AllByRecursion (HasComment two.row.comment)) (sym second.2) kept'.comments) in
    record {
      head = ap plain_head first.0 ∙ sym kept.same_head ∙ ap plain_head heads ∙ kept'.same_head ∙ ap plain_head (sym second.0);
      history =
          ap (map plain_entry) first.1 ∙ kept.one_more ∙ ap (λ (entries : List History). map plain_entry (entries ++ entry ∷ [])) histories
          ∙ sym kept'.one_more ∙ ap (map plain_entry) (sym second.1);
      samples = same_of_samples (filter holds_samples one.row.groups) m.groups (kept_of_samples one.row.groups) same_rows;
      rows = sym same_rows ∙ same_rows';
      records = records_same one.row.comment m.groups n.groups contents comments comments';
    }
