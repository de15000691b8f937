-- Texts that are given one behind the other.
use Rattle.std.proofs.Common.{◌≡◌, ◌+◌, ◌-◌, ◌≤◌, ℕ, zero, suc, true, Result, Ok, Err, List, [], ◌++◌, Option, refl, sym, ◌∙◌, ap, subst, arith, append_assoc, append-nil}
use Rattle.std.specs.Prelude.{IfErr}
use Rattle.std.specs.Io.KnownBytes.{Appends}
use Rattle.mdf_layout.specs.declared.sample.Entry.{Entry}
use Rattle.mdf_num.specs.declared.failure.Failed.{Failed}
use Rattle.mdf_num.specs.declared.halt.Halt.{Halt}
use Rattle.mdf_num.specs.declared.halt.Halt.TheVariants as halts
use Rattle.mdf_num.specs.declared.halt.Stop.{Stop}
use Rattle.mdf_num.specs.declared.halt.Stop.TheVariants as stops
use Rattle.mdf_num.specs.Halt.{HaltCause, halt_of}
use Rattle.mdf_port.specs.Sink.{AppendsFront}
use Rattle.mdf_port.specs.State.{SinkState}
use Rattle.mdf_port.proofs.Streams.{appends_more, appends_none}
use Rattle.tool_export.specs.Export.{GivesText, IsOfSink, SinkCause}
use Rattle.tool_export.specs.Table.{line_at, sample_lines}

-- a front of a text behind a text that was given
front_behind : (old mid new : Option (List ℕ)) (xs ys : List ℕ) → Appends old mid xs → AppendsFront mid new ys → AppendsFront old new (xs ++ ys)
front_behind old mid new xs ys first front =
    (xs ++ front.0, (front.1.0, append_assoc xs front.0 front.1.0 ∙ ap (λ (zs : List ℕ). xs ++ zs) front.1.1), appends_more old mid new xs front.0 first front.2)

-- a front of a text is one of a longer text
front_longer : (old new : Option (List ℕ)) (xs rest : List ℕ) → AppendsFront old new xs → AppendsFront old new (xs ++ rest)
front_longer old new xs rest front =
    (front.0, (front.1.0 ++ rest, sym (append_assoc front.0 front.1.0 rest) ∙ ap (λ (zs : List ℕ). zs ++ rest) front.1.1), front.2)

-- a text behind a text that was given
pub gives_behind : (xs ys : List ℕ) (old mid new : SinkState) (result : Result Unit (Halt Failed))
    → Appends old.held mid.held xs → GivesText ys mid new result → GivesText (xs ++ ys) old new result
gives_behind xs ys old mid new (Ok done) first gives = record { ok = appends_more old.held mid.held new.held xs ys first gives.ok; err = tt }
gives_behind xs ys old mid new (Err halt) first gives = record { ok = tt; err = front_behind old.held mid.held new.held xs ys first gives.err }

-- a longer text, of which giving the first part failed
pub gives_failed : (xs rest : List ℕ) (old new : SinkState) (halt : Halt Failed) → GivesText xs old new (Err halt) → GivesText (xs ++ rest) old new (Err halt)
gives_failed xs rest old new halt gives = record { ok = tt; err = front_longer old.held new.held xs rest gives.err }

-- a text of which nothing is given
pub gives_none : (text : List ℕ) (old : SinkState) (halt : Halt Failed) → GivesText text old old (Err halt)
gives_none text old halt = record { ok = tt; err = ([], (text, refl), appends_none old.held) }

-- why the sink's count is what it is after a call behind another
pub cause_behind : (before mid now : ℕ) (result : Result Unit (Halt Failed)) → mid ≡ before → SinkCause mid now result → SinkCause before now result
cause_behind before mid now result same = subst (λ (n : ℕ). SinkCause n now result) same

-- a span that stopped is no fault of the sink
pub span_stopped : (before now : ℕ) (stop : Stop) → now ≡ before → SinkCause before now (Err (halt_of Failed stop))
span_stopped before now stops.Failed same = record { later = omega (arith, same); reason = same }
span_stopped before now stops.Memory same = record { later = omega (arith, same); reason = same }

-- and a sink that failed is none of the span
pub sink_stopped : (before now : ℕ) (result : Result Unit (Halt Failed)) → before ≤ now → IfErr result IsOfSink → HaltCause true before now result
sink_stopped before now (Ok done) later is = record { later = later; reason = tt }
sink_stopped before now (Err (halts.Fault failed)) later is = record { later = later; reason = tt }
sink_stopped before now (Err halts.Failed) later is = absurd is
sink_stopped before now (Err halts.Memory) later is = record { later = later; reason = tt }

-- lines that were given behind others
pub lines_given : (before made text lines : List ℕ) → lines ≡ before ++ made → text ≡ made → lines ≡ before ++ text
lines_given before made text lines are given = are ∙ ap (λ (all : List ℕ). before ++ all) (sym given)

-- the lines of samples begin with those of the first so many
module _ (sample : ℕ → Option (List Entry)) where
  behind_more : (i d : ℕ) → (rest : List ℕ) × (sample_lines sample (d + i) ≡ sample_lines sample i ++ rest)
  unfolding sample_lines
  behind_more i zero =
      let same : zero + i ≡ i = omega arith in
      ([], ap (sample_lines sample) same ∙ sym (append-nil (sample_lines sample i)))
  behind_more i (suc d) =
      let before = behind_more i d in
      let next : suc d + i ≡ suc (d + i) = omega arith in (
        before.0 ++ line_at (d + i) (sample (d + i)),
        ap (sample_lines sample) next
            ∙ ap (λ (front : List ℕ). front ++ line_at (d + i) (sample (d + i))) before.1
            ∙ append_assoc (sample_lines sample i) before.0 (line_at (d + i) (sample (d + i))),
      )

  pub lines_behind : (i n : ℕ) → i ≤ n → (rest : List ℕ) × (sample_lines sample n ≡ sample_lines sample i ++ rest)
  lines_behind i n within =
      let found = behind_more i (n - i) in
      let same : n ≡ n - i + i = omega (arith, within) in
      (found.0, ap (sample_lines sample) same ∙ found.1)

  -- the lines up to a sample, and its line
  pub lines_more : (i : ℕ) → sample_lines sample (i + 1) ≡ sample_lines sample i ++ line_at i (sample i)
  unfolding sample_lines
  lines_more i =
      let next : i + 1 ≡ suc i = omega arith in
      ap (sample_lines sample) next
