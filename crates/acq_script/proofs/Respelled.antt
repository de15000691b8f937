-- A script that was spelled is read as what it was spelled for, line by line.
use Rattle.std.proofs.Common.{◌≡◌, ◌∙◌, sym, ap, subst, ℕ, zero, suc, ◌+◌, ◌-◌, ◌*◌, ◌<◌, ◌≤◌, Bool, true, false, cond, Option, Some, None, List, [], ◌∷◌, ◌++◌, length, map, refl, arith, append_assoc, append-nil, length-append, All, ◌^◌}
use Rattle.std.specs.Prelude.{◌&&◌, ◌||◌, not, Result, Ok, count_by, codes, decimal, slice_get, slice_index, is_some, take, nat_le, nat_lt, IfSome}
use Rattle.std.specs.List.{AllByRecursion}
use Rattle.std.specs.Option.{ok_or, option_and_then, option_map}
use Rattle.std.proofs.lemmas.Bool.{lt-ltb, le-leb}
use Rattle.std.proofs.lemmas.List.Elements.{All-nil, All-cons, All-head, All-tail}
use Rattle.std.proofs.lemmas.List.Sums.{sum_by-cons}
use Rattle.mdf_format.specs.Form.{form_number, form_numbered}
use Rattle.mdf_format.specs.declared.form.Form.{Form}
use Rattle.mdf_format.specs.declared.form.Form.TheVariants.{Bare, Listed}
use Rattle.mdf_group.specs.Recordable.{numbers_of}
use Rattle.mdf_group.specs.declared.row.ChannelRow.{ChannelRow}
use Rattle.mdf_layout.specs.Row.{field_row}
use Rattle.mdf_layout.specs.Written.{ValueFits, IsEntryOf, AreEntriesOf}
use Rattle.mdf_layout.specs.Layout.{Layout}
use Rattle.mdf_layout.specs.Record.{encoded_size}
use Rattle.mdf_layout.specs.declared.field.FieldKind.TheVariants.{Unsigned}
use Rattle.mdf_layout.specs.declared.field.FieldRow.{FieldRow}
use Rattle.mdf_layout.specs.declared.sample.Value.{Value}
use Rattle.mdf_layout.specs.declared.sample.Value.TheVariants as value
use Rattle.mdf_layout.specs.declared.sample.Entry.{Entry}
use Rattle.mdf_layout.specs.declared.sample.Sample.{Sample}
use Rattle.script_line.specs.Text.{lines_of, is_name}
use Rattle.script_line.specs.Number.{number_of}
use Rattle.script_line.specs.Kind.{packed, count_behind, number_type, type_of}
use Rattle.script_line.specs.Value.{held_in, unsigned_value, value_as, value_of, entry_with, entry_of, entries_of}
use Rattle.acq_script.specs.Draft.{channel_row, drawn, with_channel, group_row}
use Rattle.script_line.specs.Line as said
use Rattle.script_line.specs.Line.{line_of, worded, worded_plan, group_of, channel_of, channel_with, marks_of, inval_of, one_number, block_of, session_of, form_of, flush_of, alone}
use Rattle.acq_script.specs.Plan.{layout_of, TaskFits}
use Rattle.acq_script.specs.Sketch.{preamble_of, opening_of, sketch_with, counted, channel_in, plan_with, script_with}
use Rattle.acq_script.specs.Stage.{step, admitted, with_task}
use Rattle.acq_script.specs.Script.{read_from, script_of}
use Rattle.acq_script.specs.Spelled.{Channel, Spelling, limit_lines, form_lines, live_lines, group_words, channel_words, value_word, task_words, line_with, text_with, spelled, word_form, word_rows, sketch_of, script_said, IsSpellable}
use Rattle.acq_script.specs.declared.script.Plan.{Plan}
use Rattle.acq_script.specs.declared.script.Script.{Script}
use Rattle.acq_script.specs.declared.script.Task.{Task}
use Rattle.acq_script.specs.declared.script.Task.TheVariants as task
use Rattle.acq_script.specs.declared.sketch.Opening.{Opening}
use Rattle.acq_script.specs.declared.stage.Stage.{Stage}
use Rattle.acq_script.specs.declared.stage.Stage.TheVariants.{Empty, Planned, Running, Ended}
use Rattle.script_line.proofs.Parts.{some_part}
use Rattle.script_line.proofs.Numerals.{of_decimal, number_zero, decimal_digits}
use Rattle.script_line.proofs.Fronts.{not_marked}
use Rattle.acq_script.proofs.Steps.{taken, at_end}
use Rattle.acq_script.proofs.Spells.{IsByte, AreWords, line_back, line_said, literal, name_bytes, digit_bytes}

-- what these lines make of the lines before them
abbrev pub reads : Stage → ℕ → List (List (List ℕ)) → Result Script ℕ
reads stage line lines = read_from stage line (lines_of (text_with lines))

one_line : (stage : Stage) (line : ℕ) (words : List (List ℕ)) (lines : List (List (List ℕ))) (says : said.Line) (changed : Stage) (script : Script) → AreWords words → line_of (line_with words) ≡ Some says → step stage says ≡ Some changed → reads changed (line + 1) lines ≡ Ok script → reads stage line (words ∷ lines) ≡ Ok script
one_line stage line words lines says changed script are is steps follows =
    ap (read_from stage line) (line_back words lines are)
    ∙ taken stage line (line_with words) (lines_of (text_with lines)) changed (some_part 10 (text_with lines))
    (ap (λ o. ok_or (option_and_then (step stage) o) line) is ∙ ap (λ o. ok_or o line) steps)
    ∙ follows

two : (word next : List ℕ) → All IsByte word → All IsByte next → AreWords (word ∷ next ∷ [])
two word next first second = All-cons (All IsByte) word (next ∷ []) first (All-cons (All IsByte) next [] second (All-nil (All IsByte)))

one : (word : List ℕ) → All IsByte word → AreWords (word ∷ [])
one word bytes = All-cons (All IsByte) word [] bytes (All-nil (All IsByte))

-- the line of the group
group_are : (name : List ℕ) → is_name name ≡ true → AreWords (group_words name)
group_are name ok =
    All-cons (All IsByte) (codes "group") (codes "0" ∷ name ∷ []) (literal (codes "group") refl) (two (codes "0") name (literal (codes "0") refl) (name_bytes name ok))

group_says : (name : List ℕ) → is_name name ≡ true → line_of (line_with (group_words name)) ≡ Some (said.Group 0 name)
unfolding worded_plan group_of
group_says name ok =
    line_said 103 (codes "roup") (codes "0" ∷ name ∷ []) refl (group_are name ok)
    ∙ ap (λ b. cond (b && true) (option_map (λ s. said.Group s name) (number_of (codes "0"))) None) ok
    ∙ ap (option_map (λ s. said.Group s name)) number_zero

-- the lines of the channels
channel_are : (name : List ℕ) (master : Bool) → is_name name ≡ true → AreWords (channel_words (record { name = name; master = master }))
channel_are name true ok =
    All-cons (All IsByte) (codes "channel") (name ∷ codes "u64" ∷ codes "master" ∷ []) (literal (codes "channel") refl)
    (All-cons (All IsByte) name (codes "u64" ∷ codes "master" ∷ []) (name_bytes name ok) (two (codes "u64") (codes "master") (literal (codes "u64") refl) (literal (codes "master") refl)))
channel_are name false ok =
    All-cons (All IsByte) (codes "channel") (name ∷ codes "u64" ∷ []) (literal (codes "channel") refl) (two name (codes "u64") (name_bytes name ok) (literal (codes "u64") refl))

word_type : type_of (codes "u64") ≡ Some (packed 0 64)
unfolding number_of type_of number_type count_behind
word_type = refl

channel_says : (name : List ℕ) (master : Bool) → is_name name ≡ true → line_of (line_with (channel_words (record { name = name; master = master }))) ≡ Some (said.Channel name (word_form master))
unfolding worded_plan channel_of marks_of inval_of
channel_says name true ok =
    line_said 99 (codes "hannel") (name ∷ codes "u64" ∷ codes "master" ∷ []) refl (channel_are name true ok)
    ∙ ap (λ b. cond b (option_and_then (λ k. option_and_then (channel_with name k) (marks_of (codes "master" ∷ []))) (type_of (codes "u64"))) None) ok
    ∙ ap (option_and_then (λ k. option_and_then (channel_with name k) (marks_of (codes "master" ∷ [])))) word_type
channel_says name false ok =
    line_said 99 (codes "hannel") (name ∷ codes "u64" ∷ []) refl (channel_are name false ok)
    ∙ ap (λ b. cond b (option_and_then (λ k. option_and_then (channel_with name k) (marks_of [])) (type_of (codes "u64"))) None) ok
    ∙ ap (option_and_then (λ k. option_and_then (channel_with name k) (marks_of []))) word_type

one_master : (had master : Bool) (rest : ℕ) → cond had 1 0 + (cond master 1 0 + rest) ≤ 1 → (not (had && master) ≡ true) × (cond (had || master) 1 0 + rest ≤ 1)
one_master true true rest few = absurd (omega arith)
one_master true false rest few = (refl, omega arith)
one_master false true rest few = (refl, omega arith)
one_master false false rest few = (refl, omega arith)

abbrev row_at : Channel → ℕ → ChannelRow
row_at channel free = channel_row channel.name (word_form channel.master) free 0

more_room : (a b : Bool) → a ≡ true → b ≡ true → (a && b) ≡ true
more_room a b first second = ap (λ x. x && b) first ∙ second

admitted_channel : (opening : Opening) (name : List ℕ) (rows : List ChannelRow) (n free : ℕ) (had unit : Bool) (channel : Channel) → n < 256 → length rows ≡ n → not (had && channel.master) ≡ true
    → channel_in (sketch_of opening name rows n free had unit) channel.name (word_form channel.master) ≡ Some (sketch_of opening name (rows ++ row_at channel free ∷ []) (n + 1) (free + 64) (had || channel.master) true)
admitted_channel opening name rows n free had unit channel room long one =
    let old = sketch_of opening name rows n free had unit in
    let form = word_form channel.master in
    let more = drawn old.draft channel.name form in
    ap (λ b. cond b (option_map (sketch_with old (counted old.counts form)) (with_channel old.draft channel.name form)) None) (more_room (nat_lt n 1024) true (lt-ltb n 1024 (omega (arith, room))) refl)
    ∙ ap (λ b. option_map (sketch_with old (counted old.counts form)) (cond b (Some more) None))
    (more_room (nat_lt (length rows) 256) (not (had && channel.master)) (lt-ltb (length rows) 256 (omega (arith, room, long))) one)

channels_read : (opening : Opening) (name : List ℕ) (rows all : List ChannelRow) (n m free e : ℕ) (had unit : Bool) (channels : List Channel) (line : ℕ) (lines : List (List (List ℕ))) (script : Script) → length rows ≡ n → n + length channels ≡ m → m ≤ 256 → free + 64 * length channels ≡ e → rows ++ word_rows free channels ≡ all → cond had 1 0 + count_by (λ c. c.master) channels ≤ 1 → All (λ c. is_name c.name ≡ true) channels → ((had unit : Bool) (line : ℕ) → reads (Planned (sketch_of opening name all m e had unit)) line lines ≡ Ok script) → reads (Planned (sketch_of opening name rows n free had unit)) line (map channel_words channels ++ lines) ≡ Ok script
channels_read opening name rows all n m free e had unit [] line lines script long count few bits are one names follow =
    let same : m ≡ n = omega (arith, count) in
    let end_ : e ≡ free = omega (arith, bits) in
    let rows_same : all ≡ rows = sym are ∙ append-nil rows in
    subst (λ r. reads (Planned (sketch_of opening name r n free had unit)) line lines ≡ Ok script) rows_same
    (subst (λ k. reads (Planned (sketch_of opening name all k free had unit)) line lines ≡ Ok script) same
    (subst (λ k. reads (Planned (sketch_of opening name all m k had unit)) line lines ≡ Ok script) end_ (follow had unit line)))
channels_read opening name rows all n m free e had unit (channel ∷ channels) line lines script long count few bits are one names follow =
    let ok : is_name channel.name ≡ true = All-head (λ (c : Channel). is_name c.name ≡ true) channel channels names in
    let more : count_by (λ c. c.master) (channel ∷ channels) ≡ cond channel.master 1 0 + count_by (λ c. c.master) channels = sum_by-cons (λ (c : Channel). cond c.master 1 0) channel channels in
    let master : (not (had && channel.master) ≡ true) × (cond (had || channel.master) 1 0 + count_by (λ c. c.master) channels ≤ 1) = one_master had channel.master (count_by (λ c. c.master) channels) (subst (λ k. cond had 1 0 + k ≤ 1) more one) in
    let row = row_at channel free in
    one_line (Planned (sketch_of opening name rows n free had unit)) line (channel_words channel) (map channel_words channels ++ lines) (said.Channel channel.name (word_form channel.master)) (Planned (sketch_of opening name (rows ++ row ∷ []) (n + 1) (free + 64) (had || channel.master) true)) script
    (channel_are channel.name channel.master ok) (channel_says channel.name channel.master ok)
    (ap (option_map Planned) (admitted_channel opening name rows n free had unit channel (omega (arith, count, few)) long master.0))
    (channels_read opening name (rows ++ row ∷ []) all (n + 1) m (free + 64) e (had || channel.master) true channels (line + 1) lines script (length-append rows (row ∷ []) ∙ omega (arith, long)) (omega (arith, count)) few (omega (arith, bits))
    (append_assoc rows (row ∷ []) (word_rows (free + 64) channels) ∙ are) master.1
    (All-tail (λ (c : Channel). is_name c.name ≡ true) channel channels names) follow)

-- a field of a 64-bit number
record IsWord (row : FieldRow) : Type 0 where
  kind : row.kind ≡ Unsigned
  bits : row.bits ≡ 64
  inval : row.inval ≡ None

abbrev field_of : ChannelRow → FieldRow
field_of channel = field_row (numbers_of channel)

word_field : (name : List ℕ) (master : Bool) (bit : ℕ) → IsWord (field_of (channel_row name (word_form master) bit 0))
word_field name true bit = record { kind = refl; bits = refl; inval = refl }
word_field name false bit = record { kind = refl; bits = refl; inval = refl }

word_fields : (bit : ℕ) (channels : List Channel) → AllByRecursion IsWord (map field_of (word_rows bit channels))
word_fields bit [] = tt
word_fields bit (channel ∷ channels) = (word_field channel.name channel.master bit, word_fields (bit + 64) channels)

-- the value of a channel is read back
abbrev word_of : Entry → List ℕ
word_of entry = value_word entry.value

record IsRead (row : FieldRow) (entry : Entry) : Type 0 where
  bytes : All IsByte (word_of entry)
  says : entry_of None row (word_of entry) ≡ Some entry

value_read : (row : FieldRow) (v : Value) (valid : Bool) → IsWord row → valid ≡ true → ValueFits Unsigned 64 v → IsRead row (record { value = v; valid = valid })
unfolding entry_of value_of unsigned_value
value_read row (value.Unsigned n) valid word ok small =
    let digits = decimal_digits n small in record {
      bytes = digit_bytes (decimal n) digits;
      says =
          ap (λ b. cond b (cond (is_some row.inval) (option_map (entry_with false) (value_of row (take (length (decimal n) - 1) (decimal n)))) None) (option_map (entry_with true) (value_of row (decimal n)))) (not_marked (decimal n) digits)
          ∙ ap (λ k. option_map (entry_with true) (value_as k row.bits (decimal n))) word.kind
          ∙ ap (λ b. option_map (entry_with true) (option_and_then (held_in b) (number_of (decimal n)))) word.bits
          ∙ ap (λ o. option_map (entry_with true) (option_and_then (held_in 64) o)) (of_decimal (decimal n) n small refl)
          ∙ ap (λ b. option_map (entry_with true) (cond b (Some (value.Unsigned n)) None)) (lt-ltb n (2 ^ 64) small)
          ∙ ap (λ b. Some (record { value = value.Unsigned n; valid = b })) (sym ok);
    }
value_read row (value.Signed z) valid word ok small = absurd small
value_read row (value.Bytes b) valid word ok small = absurd small
value_read row (value.Index n) valid word ok small = absurd small

entry_read : (row : FieldRow) (entry : Entry) → IsWord row → IsEntryOf row entry → IsRead row entry
entry_read row entry word is =
    value_read row entry.value entry.valid word (is.valid word.inval) (subst (λ b. ValueFits Unsigned b entry.value) word.bits (subst (λ k. ValueFits k row.bits entry.value) word.kind is.value))

record AreRead (rows : List FieldRow) (entries : List Entry) : Type 0 where
  bytes : AreWords (map word_of entries)
  says : entries_of [] rows (map word_of entries) ≡ Some entries

tail_fits : (row : FieldRow) (rows : List FieldRow) (entry : Entry) (entries : List Entry) → AreEntriesOf (row ∷ rows) (entry ∷ entries) → AreEntriesOf rows entries
tail_fits row rows entry entries are = record { count = omega (arith, are.count); each = λ k r d below. are.each (suc k) r d (omega (arith, below)) }

entries_read : (rows : List FieldRow) (entries : List Entry) → AllByRecursion IsWord rows → AreEntriesOf rows entries → AreRead rows entries
unfolding entries_of
entries_read [] [] words are = record { bytes = All-nil (All IsByte); says = refl }
entries_read [] (entry ∷ entries) words are = absurd (omega (arith, are.count))
entries_read (row ∷ rows) [] words are = absurd (omega (arith, are.count))
entries_read (row ∷ rows) (entry ∷ entries) words are =
    let first = entry_read row entry words.0 (are.each 0 row entry (omega arith)) in
    let rest = entries_read rows entries words.1 (tail_fits row rows entry entries are) in record {
      bytes = All-cons (All IsByte) (word_of entry) (map word_of entries) first.bytes rest.bytes;
      says =
          ap (option_and_then (λ e. option_map (λ es. e ∷ es) (entries_of [] rows (map word_of entries)))) first.says
          ∙ ap (option_map (λ es. entry ∷ es)) rest.says;
    }

only_layout : (one layout : Layout) (group : ℕ) → slice_get (one ∷ []) group ≡ Some layout → (group ≡ 0) × (layout ≡ one)
only_layout one layout zero e = (refl, cc)
only_layout one layout (suc group) e = absurd (cc)

-- the plan of the one group, its layout, and the script of what was done
abbrev plan_at : Opening → List ℕ → List ChannelRow → ℕ → ℕ → Plan
plan_at opening name rows n free = plan_with (sketch_of opening name rows n free false false)

abbrev layout_at : Opening → List ℕ → List ChannelRow → ℕ → ℕ → Layout
layout_at opening name rows n free = layout_of (group_row (sketch_of opening name rows n free false false).draft)

abbrev script_at : Plan → List Task → Script
script_at plan tasks = record { plan = plan; lists = tasks ∷ [] }

-- the lines of what the source does
record IsTaken (plan : Plan) (done : List Task) (does : Task) : Type 0 where
  says : said.Line
  are : AreWords (task_words does)
  line : line_of (line_with (task_words does)) ≡ Some says
  steps : step (Running (script_at plan done)) says ≡ Some (Running (script_at plan (done ++ does ∷ [])))

sample_taken : (opening : Opening) (name : List ℕ) (rows : List ChannelRow) (n free : ℕ) (done : List Task) (sample : Sample) → AllByRecursion IsWord (map field_of rows)
    → TaskFits (plan_at opening name rows n free) (task.Sample sample) → IsTaken (plan_at opening name rows n free) done (task.Sample sample)
unfolding worded_plan worded
sample_taken opening name rows n free done sample words fits =
    let plan = plan_at opening name rows n free in
    let layout = layout_at opening name rows n free in
    let script = script_at plan done in
    let both : (sample.group ≡ 0) × (fits.0.layout ≡ layout) = only_layout layout fits.0.layout sample.group fits.0.known in
    let read : AreRead layout.rows sample.values = entries_read layout.rows sample.values words (subst (λ (l : Layout). AreEntriesOf l.rows sample.values) both.1 fits.0.entries) in
    let are : AreWords (task_words (task.Sample sample)) = All-cons (All IsByte) (codes "0") (map word_of sample.values) (literal (codes "0") refl) read.bytes in record {
      says = said.Sample 0 (map word_of sample.values);
      are = are;
      line = line_said 48 [] (map word_of sample.values) refl are ∙ ap (option_map (λ group. said.Sample group (map word_of sample.values))) number_zero;
      steps =
          ap (λ o. option_map Running (option_and_then (admitted script) (option_map (λ (es : List Entry). record { group = 0; values = es }) o))) read.says
          ∙ ap (λ (g : ℕ). option_map Running (admitted script (record { group = g; values = sample.values }))) (sym both.0)
          ∙ ap (λ b. option_map Running (cond b (Some (with_task script (slice_index (0 ∷ []) sample.group) (task.Sample sample))) None)) (le-leb (encoded_size plan.shapes sample) plan.block fits.1)
          ∙ ap (λ s. Some (Running (with_task script (slice_index (0 ∷ []) s) (task.Sample sample)))) both.0;
    }

flush_taken : (opening : Opening) (name : List ℕ) (rows : List ChannelRow) (n free : ℕ) (done : List Task) → IsTaken (plan_at opening name rows n free) done task.Flush
unfolding worded_plan worded flush_of one_number
flush_taken opening name rows n free done =
    let are : AreWords (task_words task.Flush) = two (codes "!") (codes "0") (literal (codes "!") refl) (literal (codes "0") refl) in record {
      says = said.Flush 0;
      are = are;
      line = line_said 33 [] (codes "0" ∷ []) refl are ∙ ap (option_map said.Flush) number_zero;
      steps = refl;
    }

task_taken : (opening : Opening) (name : List ℕ) (rows : List ChannelRow) (n free : ℕ) (done : List Task) (does : Task) → AllByRecursion IsWord (map field_of rows)
    → TaskFits (plan_at opening name rows n free) does → IsTaken (plan_at opening name rows n free) done does
task_taken opening name rows n free done (task.Sample sample) words fits = sample_taken opening name rows n free done sample words fits
task_taken opening name rows n free done task.Flush words fits = flush_taken opening name rows n free done

tasks_read : (opening : Opening) (name : List ℕ) (rows : List ChannelRow) (n free : ℕ) (done tasks : List Task) (line : ℕ) (lines : List (List (List ℕ))) (script : Script) → AllByRecursion IsWord (map field_of rows)
    → All (TaskFits (plan_at opening name rows n free)) tasks → ((line : ℕ) → reads (Running (script_at (plan_at opening name rows n free) (done ++ tasks))) line lines ≡ Ok script)
    → reads (Running (script_at (plan_at opening name rows n free) done)) line (map task_words tasks ++ lines) ≡ Ok script
tasks_read opening name rows n free done [] line lines script words fit follow =
    subst (λ all. reads (Running (script_at (plan_at opening name rows n free) all)) line lines ≡ Ok script) (append-nil done) (follow line)
tasks_read opening name rows n free done (does ∷ tasks) line lines script words fit follow =
    let plan = plan_at opening name rows n free in
    let taken : IsTaken plan done does = task_taken opening name rows n free done does words (All-head (TaskFits plan) does tasks fit) in
    one_line (Running (script_at plan done)) line (task_words does) (map task_words tasks ++ lines) taken.says (Running (script_at plan (done ++ does ∷ []))) script taken.are taken.line taken.steps
    (tasks_read opening name rows n free (done ++ does ∷ []) tasks (line + 1) lines script words (All-tail (TaskFits plan) does tasks fit)
    (λ line. subst (λ all. reads (Running (script_at plan all)) line lines ≡ Ok script) (sym (append_assoc done (does ∷ []) tasks)) (follow line)))

-- the lines `begin` and `end`
begin_says : line_of (line_with (codes "begin" ∷ [])) ≡ Some said.Begin
unfolding worded_plan worded alone
begin_says = line_said 98 (codes "egin") [] refl (one (codes "begin") (literal (codes "begin") refl))

end_says : line_of (line_with (codes "end" ∷ [])) ≡ Some said.End
unfolding worded_plan worded alone
end_says = line_said 101 (codes "nd") [] refl (one (codes "end") (literal (codes "end") refl))

end_read : (script : Script) (line : ℕ) → reads (Running script) line ((codes "end" ∷ []) ∷ []) ≡ Ok script
end_read script line =
    one_line (Running script) line (codes "end" ∷ []) [] said.End (Ended script) script (one (codes "end") (literal (codes "end") refl)) end_says refl
    (at_end (Ended script) (line + 1) [])

begin_read : (opening : Opening) (name : List ℕ) (rows : List ChannelRow) (n free : ℕ) (had unit : Bool) (line : ℕ) (lines : List (List (List ℕ))) (script : Script) → 1 ≤ length rows
    → reads (Running (script_at (plan_at opening name rows n free) [])) (line + 1) lines ≡ Ok script → reads (Planned (sketch_of opening name rows n free had unit)) line ((codes "begin" ∷ []) ∷ lines) ≡ Ok script
begin_read opening name rows n free had unit line lines script some follows =
    one_line (Planned (sketch_of opening name rows n free had unit)) line (codes "begin" ∷ []) lines said.Begin (Running (script_at (plan_at opening name rows n free) [])) script (one (codes "begin") (literal (codes "begin") refl)) begin_says
    (ap (λ b. option_map Running (cond b (Some (script_with (sketch_of opening name rows n free had unit))) None)) (lt-ltb 0 (length rows) (omega (arith, some)))) follows

-- the lines of the limits
abbrev pub IsSaidLimit : ℕ → Option ℕ → Type 0
IsSaidLimit most limit = IfSome limit (λ n. (1 ≤ n) × (n ≤ most))

limit_are : (word : List ℕ) (limit : ℕ) → All IsByte word → limit < 2 ^ 64 → AreWords (word ∷ decimal limit ∷ [])
limit_are word limit bytes small = two word (decimal limit) bytes (digit_bytes (decimal limit) (decimal_digits limit small))

block_says : (limit : ℕ) → limit < 2 ^ 64 → line_of (line_with (codes "block" ∷ decimal limit ∷ [])) ≡ Some (said.Block limit)
unfolding worded_plan block_of one_number
block_says limit small =
    line_said 98 (codes "lock") (decimal limit ∷ []) refl (limit_are (codes "block") limit (literal (codes "block") refl) small)
    ∙ ap (option_map said.Block) (of_decimal (decimal limit) limit small refl)

session_says : (limit : ℕ) → limit < 2 ^ 64 → line_of (line_with (codes "session" ∷ decimal limit ∷ [])) ≡ Some (said.Session limit)
unfolding worded_plan session_of one_number
session_says limit small =
    line_said 115 (codes "ession") (decimal limit ∷ []) refl (limit_are (codes "session") limit (literal (codes "session") refl) small)
    ∙ ap (option_map said.Session) (of_decimal (decimal limit) limit small refl)

in_range : (limit most : ℕ) (changed : Option Stage) → 1 ≤ limit → limit ≤ most → cond (nat_le 1 limit && nat_le limit most) changed None ≡ changed
in_range limit most changed low high =
    ap (λ b. cond (b && nat_le limit most) changed None) (le-leb 1 limit low) ∙ ap (λ b. cond b changed None) (le-leb limit most high)

block_read : (block : Option ℕ) (lines : List (List (List ℕ))) (script : Script) → IsSaidLimit 16777216 block → ((line : ℕ) → reads (Empty (preamble_of block None None false)) line lines ≡ Ok script) → (line : ℕ) → reads (Empty (preamble_of None None None false)) line (limit_lines (codes "block") block ++ lines) ≡ Ok script
block_read None lines script is follow line = follow line
block_read (Some limit) lines script is follow line =
    one_line (Empty (preamble_of None None None false)) line (codes "block" ∷ decimal limit ∷ []) lines (said.Block limit) (Empty (preamble_of (Some limit) None None false)) script
    (limit_are (codes "block") limit (literal (codes "block") refl) (omega (arith, is.1))) (block_says limit (omega (arith, is.1)))
    (in_range limit 16777216 (Some (Empty (preamble_of (Some limit) None None false))) is.0 is.1) (follow (line + 1))

session_read : (block session : Option ℕ) (lines : List (List (List ℕ))) (script : Script) → IsSaidLimit 268435456 session → ((line : ℕ) → reads (Empty (preamble_of block session None false)) line lines ≡ Ok script) → (line : ℕ) → reads (Empty (preamble_of block None None false)) line (limit_lines (codes "session") session ++ lines) ≡ Ok script
session_read block None lines script is follow line = follow line
session_read block (Some limit) lines script is follow line =
    one_line (Empty (preamble_of block None None false)) line (codes "session" ∷ decimal limit ∷ []) lines (said.Session limit) (Empty (preamble_of block (Some limit) None false)) script
    (limit_are (codes "session") limit (literal (codes "session") refl) (omega (arith, is.1))) (session_says limit (omega (arith, is.1)))
    (in_range limit 268435456 (Some (Empty (preamble_of block (Some limit) None false))) is.0 is.1) (follow (line + 1))

-- the line of the form
form_says : (number : ℕ) → number < 2 ^ 64 → line_of (line_with (codes "form" ∷ decimal number ∷ [])) ≡ Some (said.Form number)
unfolding worded_plan form_of one_number
form_says number small =
    line_said 102 (codes "orm") (decimal number ∷ []) refl (limit_are (codes "form") number (literal (codes "form") refl) small)
    ∙ ap (option_map said.Form) (of_decimal (decimal number) number small refl)

number_small : (form : Form) → form_number form < 2 ^ 64
number_small Bare = omega arith
number_small Listed = omega arith

form_back : (form : Form) → form_numbered (form_number form) ≡ Some form
form_back Bare = refl
form_back Listed = refl

form_read : (block session : Option ℕ) (form : Option Form) (lines : List (List (List ℕ))) (script : Script) → ((line : ℕ) → reads (Empty (preamble_of block session form false)) line lines ≡ Ok script) → (line : ℕ) → reads (Empty (preamble_of block session None false)) line (form_lines form ++ lines) ≡ Ok script
form_read block session None lines script follow line = follow line
form_read block session (Some form) lines script follow line =
    one_line (Empty (preamble_of block session None false)) line (codes "form" ∷ decimal (form_number form) ∷ []) lines (said.Form (form_number form)) (Empty (preamble_of block session (Some form) false)) script
    (limit_are (codes "form") (form_number form) (literal (codes "form") refl) (number_small form)) (form_says (form_number form) (number_small form))
    (ap (option_map (λ f. Empty (preamble_of block session (Some f) false))) (form_back form)) (follow (line + 1))

live_says : line_of (line_with (codes "live" ∷ [])) ≡ Some said.Live
unfolding worded_plan alone
live_says = line_said 108 (codes "ive") [] refl (one (codes "live") (literal (codes "live") refl))

live_read : (block session : Option ℕ) (form : Option Form) (live : Bool) (lines : List (List (List ℕ))) (script : Script) → ((line : ℕ) → reads (Empty (preamble_of block session form live)) line lines ≡ Ok script) → (line : ℕ) → reads (Empty (preamble_of block session form false)) line (live_lines live ++ lines) ≡ Ok script
live_read block session form false lines script follow line = follow line
live_read block session form true lines script follow line =
    one_line (Empty (preamble_of block session form false)) line (codes "live" ∷ []) lines said.Live (Empty (preamble_of block session form true)) script
    (one (codes "live") (literal (codes "live") refl)) live_says refl (follow (line + 1))

-- as many rows as channels
length-word_rows : (bit : ℕ) (channels : List Channel) → length (word_rows bit channels) ≡ length channels
length-word_rows bit [] = refl
length-word_rows bit (channel ∷ channels) = ap suc (length-word_rows (bit + 64) channels)

-- the whole
group_read : (s : Spelling) → IsSpellable s → (line : ℕ) → reads (Empty (preamble_of s.block s.session s.form s.live)) line (group_words s.name ∷ (map channel_words s.channels ++ (codes "begin" ∷ []) ∷ (map task_words s.tasks ++ (codes "end" ∷ []) ∷ []))) ≡ Ok (script_said s)
group_read s is line =
    let behind : List (List (List ℕ)) = (codes "begin" ∷ []) ∷ (map task_words s.tasks ++ (codes "end" ∷ []) ∷ []) in
    let opening : Opening = opening_of (preamble_of s.block s.session s.form s.live) in
    let rows = word_rows 0 s.channels in
    let n = length s.channels in
    one_line (Empty (preamble_of s.block s.session s.form s.live)) line (group_words s.name) (map channel_words s.channels ++ behind) (said.Group 0 s.name) (Planned (sketch_of opening s.name [] 0 0 false false)) (script_said s) (group_are s.name is.name) (group_says s.name is.name) refl
    (channels_read opening s.name [] rows 0 n 0 (64 * n) false false s.channels (line + 1) behind (script_said s) refl (omega arith) is.few (omega arith) refl (omega (arith, is.master)) is.names
    (λ had unit line. begin_read opening s.name rows n (64 * n) had unit line (map task_words s.tasks ++ (codes "end" ∷ []) ∷ []) (script_said s) (omega (arith, is.some, length-word_rows 0 s.channels))
    (tasks_read opening s.name rows n (64 * n) [] s.tasks (line + 1) ((codes "end" ∷ []) ∷ []) (script_said s) (word_fields 0 s.channels) is.tasks (λ line. end_read (script_said s) line))))

pub spelled_back : (s : Spelling) → IsSpellable s → script_of (spelled s) ≡ Ok (script_said s)
spelled_back s is =
    block_read s.block _ (script_said s) is.block
    (session_read s.block s.session _ (script_said s) is.session
    (form_read s.block s.session s.form _ (script_said s)
    (live_read s.block s.session s.form s.live _ (script_said s) (group_read s is)))) 1
