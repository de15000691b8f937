-- The finished file of a recording holds the samples of its history, group by group.
use Rattle.std.proofs.Common.{◌≡◌, ◌≢◌, ◌+◌, ◌*◌, ◌%◌, ◌<◌, ℕ, true, false, Bool, List, [], ◌∷◌, length, get_or, map, Some, sym, ◌∙◌, ap, subst, arith}
use Rattle.std.proofs.lemmas.Bool.{cond-false}
use Rattle.std.proofs.lemmas.List.{length-map, get_or-map}
use Rattle.std.proofs.lemmas.Option.{slice_get-get_or, get_or_from_slice_get}
use Rattle.std.specs.Prelude.{nat_eq, slice_get}
use Rattle.std.specs.List.{AllByRecursion, AllZip}
use Rattle.mdf_block.proofs.Items.{one_of}
use Rattle.mdf_group.specs.declared.row.ChannelRow.{ChannelRow}
use Rattle.mdf_group.specs.declared.row.GroupRow.{GroupRow}
use Rattle.mdf_group.specs.Group.{is_variable}
use Rattle.mdf_group.specs.Recordable.{AreRecordable, IsRecordableChannel, IsRecordableGroup, numbers_of}
use Rattle.mdf_layout.specs.History.{group_samples}
use Rattle.mdf_layout.specs.Behind.{first_id, variables}
use Rattle.mdf_layout.specs.Layout.{Layout, record_size}
use Rattle.mdf_layout.specs.Row.{kind_in}
use Rattle.mdf_layout.specs.declared.field.FieldKind.TheVariants as kinds
use Rattle.mdf_layout.specs.declared.field.FieldKind.TheVariants.{Virtual}
use Rattle.mdf_layout.specs.declared.sample.Sample.{Sample}
use Rattle.mdf_layout.proofs.Bridge.{length-streams}
use Rattle.mdf_content.specs.declared.contents.Contents.{Contents}
use Rattle.mdf_content.specs.Layouts.{field_of, layout_of}
use Rattle.mdf_content.specs.Samples.{sample_at}
use Rattle.mdf_model.specs.declared.part.Measure.{Measure}
use Rattle.mdf_model.specs.Measurement.{Measured, contents_of}
use Rattle.mdf_carried.specs.Recovered.{Recovery, IsRecovery}
use Rattle.mdf_carried.specs.Samples.{IsRecovered}
use Rattle.mdf_spell.specs.Recording.{IsRecordingTree, recorded_row}
use Rattle.tool_final.specs.Keeping.{HaveOwn}
use Rattle.mdf_gate.specs.Carried.{IsCarried}
use Rattle.mdf_carried.proofs.Holds.{contents_at, contents_from, contents_many, contents_there}
use Rattle.mdf_carried.proofs.Lists.{all_along, length-joined}
use Rattle.mdf_carried.proofs.Placed.{RulesAgree}
use Rattle.mdf_carried.proofs.Records.{own_long}
use Rattle.mdf_carried.proofs.Rows.{IsRecorded}
use Rattle.mdf_carried.proofs.Records as records_
use Rattle.mdf_data.specs.Bodies.{joined}
use Rattle.acq_script.proofs.Layings.{form_by, form_is, test_number, test_signed, test_values}
use Rattle.mdf_layout.specs.Read.{IsPiece, Piece, streams_from}
use Rattle.mdf_schedule.specs.Joined.{IsFinished}
use Rattle.mdf_schedule.specs.Records.{AreBytes}
use Rattle.mdf_schedule.specs.Schedules.{IsLeftOf}
use Rattle.mdf_schedule.proofs.Found.{found, held, is, is_found, layouts_keep, layouts_stored, pieces, tree}
use Rattle.mdf_schedule.proofs.Joins.{AreReal}
use Rattle.mdf_schedule.proofs.Measures.{MeasurementsAgree}
use Rattle.mdf_schedule.proofs.Parts.{AreKept, HoldHistory, HoldsGroup}
use Rattle.mdf_schedule.proofs.Stored.{row_at}

-- what the laws below say
abbrev pub RecoveriesAgree : Type 0
RecoveriesAgree = (file : List ℕ) (found other : Recovery) → IsRecovery file found → IsRecovery file other → found ≡ other

abbrev pub SamplesAgree : Type 0
SamplesAgree = (file : List ℕ) (samples others : List Sample) → IsRecovered file samples → IsRecovered file others → samples ≡ others

abbrev pub CarriedIsRecovered : Type 0
CarriedIsRecovered = (start : ℕ) (rows : List GroupRow) (file : List ℕ) (samples : List Sample) → AreRecordable rows
    → IsRecordingTree file start rows → IsCarried (map layout_of rows) file samples → IsRecovered file samples

-- the records of a group among pieces
abbrev records_of : ℕ → List Piece → List (List ℕ)
records_of k pieces = records_.own k pieces

-- a channel that can be recorded has bits of its own
real_by : (a b c : Bool) → kind_in (form_by a b c) ≢ Virtual
real_by true b c wrong = let w : kinds.Variable ≡ Virtual = wrong in cc
real_by false true c wrong = let w : kinds.Signed ≡ Virtual = wrong in cc
real_by false false true wrong = let w : kinds.Unsigned ≡ Virtual = wrong in cc
real_by false false false wrong = let w : kinds.Fixed ≡ Virtual = wrong in cc

channel_real : (channel : ChannelRow) → IsRecordableChannel channel → (field_of channel).kind ≢ Virtual
channel_real channel is wrong =
    let row = numbers_of channel in
    real_by (test_values row) (test_signed row) (test_number row) (ap kind_in (sym (form_is row is.kind)) ∙ wrong)

channels_real : (channels : List ChannelRow) → AllByRecursion IsRecordableChannel channels → AreReal (map field_of channels)
channels_real [] each = tt
channels_real (channel ∷ channels) each = (channel_real channel each.0, channels_real channels each.1)

layout_real : (row : GroupRow) → IsRecordableGroup row → AreReal (layout_of row).rows
layout_real row is =
    let samples : is_variable row ≡ false = ap (λ (flags : ℕ). nat_eq (flags % 2) 1) is.flags in
    subst (λ (channels : List ChannelRow). AreReal (map field_of channels)) (sym (cond-false (is_variable row) [] row.channels samples)) (channels_real row.channels is.each)

module _ (agree : RulesAgree) (start : ℕ) (rows : List GroupRow) (are : AreRecordable rows) where
  abbrev layouts : List Layout
  layouts = map layout_of rows

  -- of a recording of the rows
  pub layouts_kept : IsRecorded layouts (recorded_row start rows) → AreKept layouts
  layouts_kept is =
      let there : (k : ℕ) (l : Layout) → k < length layouts → slice_get layouts k ≡ Some (get_or layouts k l) = λ k l below. slice_get-get_or layouts k l below in
      record {
        stored = λ k l below. layouts_stored rows (recorded_row start rows) are is k (get_or layouts k l) (there k l below);
        rules = λ k l below. layouts_keep rows (recorded_row start rows) is k (get_or layouts k l) (there k l below);
        real = λ k l below.
            let found = row_at rows k (get_or layouts k l) are.each (there k l below) in
            subst (λ (layout : Layout). AreReal layout.rows) found.2 (layout_real found.0 found.1);
      }

  module _ (laws : RecoveriesAgree) (samples_laws : SamplesAgree) (carried : CarriedIsRecovered) (measured : MeasurementsAgree)
      (history : List Sample) (m : Measured) (done : IsFinished start rows history m) where
    abbrev recorded : IsLeftOf done.form start rows history done.file
    recorded = done.recording

    abbrev here : Recovery
    here = found agree start rows are done.form done.read history done.file recorded

    abbrev pieces_in : List Piece
    pieces_in = pieces agree start rows are done.form done.read history done.file recorded

    abbrev is_row : IsRecorded layouts (recorded_row start rows)
    is_row = is agree start rows are done.form done.read history done.file recorded

    pub kept : AreKept layouts
    kept = layouts_kept is_row

    -- the groups that are measured hold what the recording's do
    contents_are : map contents_of m.groups ≡ contents_from layouts pieces_in 0 layouts
    contents_are =
        let keeps = done.finalized.keeps in
        let same = laws done.file done.finalized.recovered.found here done.finalized.recovered.recovery
        (is_found agree start rows are done.form done.read history done.file recorded) in
        let groups = (measured done.final m.head keeps.head m.history keeps.history m.groups keeps.groups done.measured keeps.measurement).2 in
        ap (map contents_of) groups ∙ keeps.contents ∙ ap (λ (r : Recovery). r.groups) same

    -- and the samples of the history
    own : HaveOwn m.groups history
    own =
        let keeps = done.finalized.keeps in
        let groups = (measured done.final m.head keeps.head m.history keeps.history m.groups keeps.groups done.measured keeps.measurement).2 in
        let recovered = carried start rows done.file history are (tree agree start rows are done.form done.read history done.file recorded) recorded.carried in
        let same = samples_laws done.file done.finalized.samples history done.finalized.recovered recovered in
        subst (HaveOwn m.groups) same (subst (λ (gs : List Measure). HaveOwn gs done.finalized.samples) (sym groups) done.finalized.own)

    many : length m.groups ≡ length layouts
    many = sym (length-map m.groups contents_of) ∙ ap length contents_are ∙ contents_many layouts pieces_in 0 layouts

    group_holds : (g : ℕ) (d : Measure) (l : Layout) → g < length layouts → HoldsGroup (get_or layouts g l) (group_samples history g) (get_or m.groups g d)
    group_holds g d l below =
        let layout = get_or layouts g l in
        let group = get_or m.groups g d in
        let inside : g < length m.groups = omega (arith, below, many) in
        let laid : slice_get layouts g ≡ Some layout = slice_get-get_or layouts g l below in
        let there : slice_get m.groups g ≡ Some group = slice_get-get_or m.groups g d inside in
        let zero_on : 0 + g ≡ g = omega arith in
        let in_list : get_or (map contents_of m.groups) g (contents_of d) ≡ contents_of group = get_or-map contents_of m.groups g d (contents_of d) inside in
        let in_file : get_or (contents_from layouts pieces_in 0 layouts) g (contents_of d) ≡ contents_at layouts pieces_in (0 + g) layout =
        get_or_from_slice_get (contents_from layouts pieces_in 0 layouts) g (contents_at layouts pieces_in (0 + g) layout) (contents_of d)
        (contents_there layouts pieces_in 0 g layouts layout laid) in
        let is : contents_of group ≡ contents_at layouts pieces_in g layout =
        sym in_list ∙ ap (λ (cs : List Contents). get_or cs g (contents_of d)) contents_are ∙ in_file ∙ ap (λ (k : ℕ). contents_at layouts pieces_in k layout) zero_on in
        let records = records_of g pieces_in in
        let shape : group.shape ≡ layout = ap (λ (c : Contents). c.shape) is in
        let count : group.count ≡ length records = ap (λ (c : Contents). c.count) is in
        let content : group.part.content ≡ joined records = ap (λ (c : Contents). c.content) is in
        let streams : group.part.streams ≡ streams_from pieces_in (first_id layouts g) (variables layout.rows) = ap (λ (c : Contents). c.streams) is in
        let each = all_along (IsPiece layouts) pieces_in (held agree start rows are done.form done.read history done.file recorded).each in
        let sized = own_long layouts g layout pieces_in laid each in
        let samples = own g group there in
        record {
          shape = shape;
          hold = record {
            many = samples.count;
            long = ap length content ∙ length-joined (record_size layout) records sized ∙ ap (λ (k : ℕ). k * record_size layout) (sym count);
            small = one_of (λ (m : Measure). AreBytes m.part.content) m.groups g d done.bytes inside;
            each_stream = ap length streams ∙ length-streams pieces_in (first_id layouts g) (variables layout.rows);
            each = λ i sample at. subst (λ (l : Layout). sample_at l group.part.content group.part.streams i ≡ Some sample.values) shape (samples.each i sample at);
          };
        }

    pub history_holds : HoldHistory layouts history m.groups
    history_holds = record { count = many; each = group_holds }

  module _ (laws : RecoveriesAgree) (samples_laws : SamplesAgree) (carried : CarriedIsRecovered) (measured : MeasurementsAgree) where
    pub histories_hold : (histories : List (List Sample)) (later : List Measured) → AllZip (IsFinished start rows) histories later
        → AllZip (λ (history : List Sample) (m : Measured). HoldHistory layouts history m.groups) histories later
    histories_hold [] [] each = tt
    histories_hold [] (m ∷ later) each = absurd each
    histories_hold (history ∷ histories) [] each = absurd each
    histories_hold (history ∷ histories) (m ∷ later) each =
        (history_holds laws samples_laws carried measured history m each.0, histories_hold histories later each.1)
