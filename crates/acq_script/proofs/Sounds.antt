-- What holds of every stage of a script.
use Rattle.std.proofs.Common.{◌≡◌, ◌∙◌, sym, ap, subst, ℕ, ◌<◌, ◌≤◌, inl, inr, Bool, true, Option, Some, None, List, [], ◌∷◌, ◌++◌, length, get_or, refl, arith}
use Rattle.std.specs.Prelude.{nat_lt, nat_le, not, ◌&&◌, All, slice_get, slice_index, is_none}
use Rattle.std.specs.Option.{option_and_then, option_map}
use Rattle.std.proofs.lemmas.Bool.{leb-true, le-leb, lt-leb, ltb-true, and_parts, cases_eq, cond-true, cond-false}
use Rattle.std.proofs.lemmas.Option.{slice_get_within}
use Rattle.std.proofs.lemmas.List.{length-set, get_or-set_same, get_or-set_other}
use Rattle.std.proofs.lemmas.List.Elements.{All-append}
use Rattle.mdf_format.specs.Form.{form_numbered}
use Rattle.mdf_format.specs.declared.form.Form.{Form}
use Rattle.mdf_layout.specs.Layout.{Layout}
use Rattle.mdf_layout.specs.Record.{SampleFits, encoded_size}
use Rattle.mdf_layout.specs.declared.sample.Entry.{Entry}
use Rattle.mdf_layout.specs.declared.sample.Sample.{Sample}
use Rattle.script_line.specs.Value.{entries_of}
use Rattle.script_line.specs.declared.float.Width.{Width}
use Rattle.script_line.specs.Line as said
use Rattle.script_line.specs.Line.{IsSaid}
use Rattle.acq_script.specs.Plan.{TaskFits, IsTaskOf, layout_of}
use Rattle.acq_script.specs.Sketch.{opening_of, first_sketch, with_group, channel_in, unit_in, begun, IsSketch}
use Rattle.acq_script.specs.Stage.{sample_of, list_with, with_task, admitted, with_sample, with_flush, empty, planned, running, step, IsScript, IsLimit, Sound}
use Rattle.acq_script.specs.declared.script.Script.{Script}
use Rattle.acq_script.specs.declared.script.Task.{Task}
use Rattle.acq_script.specs.declared.script.Task.TheVariants as task
use Rattle.acq_script.specs.declared.sketch.Preamble.{Preamble}
use Rattle.acq_script.specs.declared.sketch.Sketch.{Sketch}
use Rattle.acq_script.specs.declared.stage.Stage.{Stage}
use Rattle.acq_script.specs.declared.stage.Stage.TheVariants.{Empty, Planned, Running, Ended}
use Rattle.script_line.proofs.Entries.{kept, mapped, then_some, entries_fit}
use Rattle.acq_script.proofs.Layings.{only_one}
use Rattle.acq_script.proofs.Sketches.{opening_is, first_is, group_more, channel_more, unit_more, begun_is, long_mapped}

-- the sample that words are fits the layouts
pub sample_fits : (layouts : List Layout) (widths : List (Option Width)) (group : ℕ) (words : List (List ℕ)) (sample : Sample) → sample_of layouts widths group words ≡ Some sample → SampleFits layouts sample
sample_fits layouts widths group words sample e =
    let found = then_some (λ (layout : Layout). option_map (λ (entries : List Entry). record { group = group; values = entries }) (entries_of widths layout.rows words)) (slice_get layouts group) sample e in
    let read = mapped (λ (entries : List Entry). record { group = group; values = entries }) (entries_of widths found.0.rows words) sample found.2 in
    subst (SampleFits layouts) read.2 (record { layout = found.0; known = found.1; entries = entries_fit widths found.0.rows words read.0 read.1 })

-- one task more in a list
each_list : (P : ℕ → Task → Type 0) (lists : List (List Task)) (source : ℕ) (does : Task) → source < length lists → P source does
    → ((s : ℕ) (d : List Task) → s < length lists → All (P s) (get_or lists s d)) → (s : ℕ) (d : List Task) → s < length (list_with lists source does) → All (P s) (get_or (list_with lists source does) s d)
each_list P lists source does there here each s d within =
    let before : s < length lists = omega (arith, within, length-set lists source (get_or lists source [] ++ does ∷ [])) in
    elim (cases_eq s source) [
      | inl same ↦ subst (λ k. All (P k) (get_or (list_with lists source does) k d)) (sym same)
          (subst (All (P source)) (sym (get_or-set_same lists source (get_or lists source [] ++ does ∷ []) d there))
          (All-append (P source) (get_or lists source []) (does ∷ []) (each source [] there) (only_one (P source) does here)))
      | inr other ↦ subst (All (P s)) (sym (get_or-set_other lists source s (get_or lists source [] ++ does ∷ []) d other)) (each s d before)
    ]

pub task_more : (script : Script) (source : ℕ) (does : Task) → IsScript script → source < length script.lists → TaskFits script.plan does → IsTaskOf script.plan source does → IsScript (with_task script source does)
task_more script source does is there fits owns = record {
  plan = is.plan;
  lists = length-set script.lists source (get_or script.lists source [] ++ does ∷ []) ∙ is.lists;
  fit = each_list (λ s t. TaskFits script.plan t) script.lists source does there fits is.fit;
  own = each_list (IsTaskOf script.plan) script.lists source does there owns is.own;
}

-- the source of a sample is one of the sources
pub owner_there : (script : Script) (sample : Sample) → IsScript script → SampleFits script.plan.shapes sample → slice_index script.plan.owners sample.group < length script.lists
owner_there script sample is fits =
    let within : sample.group < length script.plan.shapes = slice_get_within script.plan.shapes sample.group fits.layout fits.known in
    let long : length script.plan.shapes ≡ length script.plan.rows = ap length is.plan.shapes ∙ long_mapped layout_of script.plan.rows in
    let less = is.plan.owned sample.group 0 (omega (arith, within, long, is.plan.owners)) in
    omega (arith, less, is.lists)

-- what comes of a sample: it is none, or its records are longer than a block, or it is handed in
module _ (script : Script) (group : ℕ) (words : List (List ℕ)) where
  pub sample_none : None ≡ sample_of script.plan.shapes [] group words → with_sample script group words ≡ None
  sample_none is = ap (option_and_then (admitted script)) (sym is)

  module _ (sample : Sample) (is : Some sample ≡ sample_of script.plan.shapes [] group words) where
    abbrev handed : Option Script
    handed = Some (with_task script (slice_index script.plan.owners sample.group) (task.Sample sample))

    pub sample_long : script.plan.block < encoded_size script.plan.shapes sample → with_sample script group words ≡ None
    sample_long long =
        ap (option_and_then (admitted script)) (sym is) ∙ cond-false _ handed None (lt-leb (encoded_size script.plan.shapes sample) script.plan.block long)

    pub sample_done : encoded_size script.plan.shapes sample ≤ script.plan.block → with_sample script group words ≡ handed
    sample_done short =
        ap (option_and_then (admitted script)) (sym is) ∙ cond-true _ handed None (le-leb (encoded_size script.plan.shapes sample) script.plan.block short)

    pub sample_there : IsScript script → slice_index script.plan.owners sample.group < length script.lists
    sample_there whole = owner_there script sample whole (sample_fits script.plan.shapes [] group words sample (sym is))

sample_more : (script changed : Script) (group : ℕ) (words : List (List ℕ)) → IsScript script → with_sample script group words ≡ Some changed → IsScript changed
sample_more script changed group words is e =
    let found = then_some (admitted script) (sample_of script.plan.shapes [] group words) changed e in
    let sample : Sample = found.0 in
    let fits = sample_fits script.plan.shapes [] group words sample found.1 in
    let does : Task = task.Sample sample in
    let source = slice_index script.plan.owners sample.group in
    let both : (nat_le (encoded_size script.plan.shapes sample) script.plan.block ≡ true) × (Some (with_task script source does) ≡ Some changed) =
    kept (nat_le (encoded_size script.plan.shapes sample) script.plan.block) (Some (with_task script source does)) changed found.2 in
    let same : with_task script source does ≡ changed = cc in
    subst IsScript same (task_more script source does is (owner_there script sample is fits) (fits, leb-true _ _ both.0) refl)

flush_more : (script changed : Script) (source : ℕ) → IsScript script → with_flush script source ≡ Some changed → IsScript changed
flush_more script changed source is e =
    let both : (nat_lt source script.plan.sources ≡ true) × (Some (with_task script source task.Flush) ≡ Some changed) =
    kept (nat_lt source script.plan.sources) (Some (with_task script source task.Flush)) changed e in
    let same : with_task script source task.Flush ≡ changed = cc in
    let less : source < script.plan.sources = ltb-true _ _ both.0 in
    subst IsScript same (task_more script source task.Flush is (omega (arith, less, is.lists)) tt tt)

in_range : (first : Bool) (limit most : ℕ) → (first && nat_le 1 limit && nat_le limit most) ≡ true → (1 ≤ limit) × (limit ≤ most)
in_range first limit most e =
    let outer = and_parts (first && nat_le 1 limit) (nat_le limit most) e in
    let inner = and_parts first (nat_le 1 limit) outer.0 in
    (leb-true _ _ inner.1, leb-true _ _ outer.1)

some_is : {A : Type 0} (P : A → Type 0) (x y : A) → P x → Some x ≡ Some y → P y
some_is P x y here e = let same : x ≡ y = cc in subst P same here

empty_sound : (p : Preamble) (line : said.Line) (stage : Stage) → IsLimit 16777216 p.block × IsLimit 268435456 p.session → IsSaid line → empty p line ≡ Some stage → Sound stage
empty_sound p said.Passed stage is ok e = some_is Sound (Empty p) stage is e
empty_sound p (said.Block limit) stage is ok e =
    let changed = Empty (record p { block = Some limit }) in
    let both = kept (is_none p.block && nat_le 1 limit && nat_le limit 16777216) (Some changed) stage e in
    some_is Sound changed stage (in_range (is_none p.block) limit 16777216 both.0, is.1) both.1
empty_sound p (said.Session limit) stage is ok e =
    let changed = Empty (record p { session = Some limit }) in
    let both = kept (is_none p.session && nat_le 1 limit && nat_le limit 268435456) (Some changed) stage e in
    some_is Sound changed stage (is.0, in_range (is_none p.session) limit 268435456 both.0) both.1
empty_sound p (said.Form number) stage is ok e =
    let changed : Form → Stage = λ form. Empty (record p { form = Some form }) in
    let both = kept (is_none p.form) (option_map changed (form_numbered number)) stage e in
    let found = mapped changed (form_numbered number) stage both.1 in
    subst Sound found.2 is
empty_sound p said.Live stage is ok e =
    let changed = Empty (record p { live = true }) in
    some_is Sound changed stage is (kept (not p.live) (Some changed) stage e).1
empty_sound p (said.Group source name) stage is ok e =
    let found = mapped Planned (first_sketch (opening_of p) source name) stage e in
    subst Sound found.2 (first_is (opening_of p) source name found.0 (opening_is p is.0 is.1) ok found.1)
empty_sound p _ stage is ok e = absurd (cc)

planned_sound : (sketch : Sketch) (line : said.Line) (stage : Stage) → IsSketch sketch → IsSaid line → planned sketch line ≡ Some stage → Sound stage
planned_sound sketch said.Passed stage is ok e = some_is Sound (Planned sketch) stage is e
planned_sound sketch (said.Group source name) stage is ok e =
    let found = mapped Planned (with_group sketch source name) stage e in subst Sound found.2 (group_more sketch source name found.0 is ok found.1)
planned_sound sketch (said.Channel name form) stage is ok e =
    let found = mapped Planned (channel_in sketch name form) stage e in subst Sound found.2 (channel_more sketch name form found.0 is ok.0 ok.1 found.1)
planned_sound sketch (said.Measured unit) stage is ok e =
    let found = mapped Planned (unit_in sketch unit) stage e in subst Sound found.2 (unit_more sketch unit found.0 is ok found.1)
planned_sound sketch said.Begin stage is ok e =
    let found = mapped Running (begun sketch) stage e in subst Sound found.2 (begun_is sketch found.0 is found.1)
planned_sound sketch _ stage is ok e = absurd (cc)

running_sound : (script : Script) (line : said.Line) (stage : Stage) → IsScript script → running script line ≡ Some stage → Sound stage
running_sound script said.Passed stage is e = some_is Sound (Running script) stage is e
running_sound script (said.Sample group words) stage is e =
    let found = mapped Running (with_sample script group words) stage e in subst Sound found.2 (sample_more script found.0 group words is found.1)
running_sound script (said.Flush source) stage is e =
    let found = mapped Running (with_flush script source) stage e in subst Sound found.2 (flush_more script found.0 source is found.1)
running_sound script said.End stage is e = some_is Sound (Ended script) stage is e
running_sound script _ stage is e = absurd (cc)

-- what a line makes of a sound stage is sound
pub step_sound : (stage changed : Stage) (line : said.Line) → Sound stage → IsSaid line → step stage line ≡ Some changed → Sound changed
step_sound (Empty preamble) changed line is ok e = empty_sound preamble line changed is ok e
step_sound (Planned sketch) changed line is ok e = planned_sound sketch line changed is ok e
step_sound (Running script) changed line is ok e = running_sound script line changed is e
step_sound (Ended script) changed _ is ok e = absurd (cc)
