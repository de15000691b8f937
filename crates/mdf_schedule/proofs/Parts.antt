-- What the finished file of a recording holds of its history, and what measurements hold that are joined.
use Rattle.std.proofs.Common.{◌≡◌, ◌<◌, ℕ, List, [], ◌∷◌, ◌++◌, length, get_or, Some, sym, ◌∙◌, subst, arith, append-nil, append_assoc}
use Rattle.std.proofs.lemmas.List.Elements.{filter-append}
use Rattle.std.proofs.lemmas.Option.{slice_get_within, get_or_from_slice_get}
use Rattle.std.specs.Prelude.{◌==◌, flat_map}
use Rattle.std.specs.List.{AllZip}
use Rattle.mdf_block.proofs.Items.{one_of}
use Rattle.mdf_layout.specs.History.{group_samples}
use Rattle.mdf_layout.specs.Layout.{Layout}
use Rattle.mdf_layout.specs.declared.sample.Sample.{Sample}
use Rattle.mdf_content.specs.Samples.{sample_at}
use Rattle.mdf_model.specs.declared.part.Measure.{Measure}
use Rattle.mdf_model.specs.Contents.{KeepsRules}
use Rattle.mdf_model.specs.Measurement.{Measured}
use Rattle.tool_final.specs.Keeping.{HaveOwn}
use Rattle.tool_concat.specs.Joined.{AreJoined, IsJoinedGroup}
use Rattle.tool_concat.specs.Moved.{AreMoved}
use Rattle.mdf_schedule.specs.Joined.{AreJoinedTo, AreOfBytes}
use Rattle.mdf_schedule.specs.Records.{AreBytes, AreStored}
use Rattle.mdf_schedule.proofs.Bits.{bytes_behind}
use Rattle.mdf_schedule.proofs.Joins.{AreReal, HoldSamples, joined_samples}

-- a group has these samples, by this layout
pub record HoldsGroup (layout : Layout) (samples : List Sample) (m : Measure) : Type 0 where
  pub shape : m.shape ≡ layout
  pub hold : HoldSamples layout samples m.count m.part.content m.part.streams

-- as many groups as layouts, and each has its own samples of the history
pub record HoldHistory (layouts : List Layout) (history : List Sample) (groups : List Measure) : Type 0 where
  pub count : length groups ≡ length layouts
  pub each : (g : ℕ) (d : Measure) (l : Layout) → g < length layouts → HoldsGroup (get_or layouts g l) (group_samples history g) (get_or groups g d)

no_layout : Layout
no_layout = record { rows = []; data_bytes = 0; inval_bytes = 0 }

-- so each group has its own
pub own_samples : (layouts : List Layout) (history : List Sample) (groups : List Measure) → HoldHistory layouts history groups → HaveOwn groups history
own_samples layouts history groups is g m there =
    let below : g < length layouts = omega (arith, slice_get_within groups g m there, is.count) in
    let here : HoldsGroup (get_or layouts g no_layout) (group_samples history g) m =
    subst (HoldsGroup (get_or layouts g no_layout) (group_samples history g)) (get_or_from_slice_get groups g m m there) (is.each g m no_layout below) in
    record {
      count = here.hold.many;
      each = λ i sample at. subst (λ (l : Layout). sample_at l m.part.content m.part.streams i ≡ Some sample.values) (sym here.shape) (here.hold.each i sample at);
    }

-- what all layouts keep
pub record AreKept (layouts : List Layout) : Type 0 where
  pub stored : (k : ℕ) (l : Layout) → k < length layouts → AreStored (get_or layouts k l)
  pub rules : (k : ℕ) (l : Layout) → k < length layouts → KeepsRules (get_or layouts k l)
  pub real : (k : ℕ) (l : Layout) → k < length layouts → AreReal (get_or layouts k l).rows

group_joined : (layout : Layout) (xs ys : List Sample) (first second joined : Measure) → AreStored layout → KeepsRules layout → AreReal layout.rows
    → HoldsGroup layout xs first → HoldsGroup layout ys second → IsJoinedGroup first second joined → AreBytes joined.part.content
    → HoldsGroup layout (xs ++ ys) joined
group_joined layout xs ys first second joined stored rules real one two is small =
    let small' : AreBytes (first.part.content ++ is.moved) = subst (λ (m : Measure). AreBytes m.part.content) is.is small in
    let moved = subst (λ (l : Layout). AreMoved l first.part.streams second.part.content second.count is.moved) two.shape is.are_moved in
    subst (HoldsGroup layout (xs ++ ys)) (sym is.is) (record {
      shape = one.shape;
      hold = joined_samples layout stored rules real xs ys first.count second.count first.part.content second.part.content is.moved first.part.streams
          second.part.streams one.hold two.hold moved (bytes_behind first.part.content is.moved small') small';
    })

pub histories_joined : (layouts : List Layout) (history other : List Sample) (groups others joined : List Measure) → AreKept layouts
    → HoldHistory layouts history groups → HoldHistory layouts other others → AreJoined groups others joined → AreOfBytes joined
    → HoldHistory layouts (history ++ other) joined
histories_joined layouts history other groups others joined kept one two are bytes = record {
  count = are.count ∙ one.count;
  each = λ g d l below.
      let inside : g < length groups = omega (arith, below, one.count) in
      let there : g < length joined = omega (arith, inside, are.count) in
      let both : group_samples (history ++ other) g ≡ group_samples history g ++ group_samples other g =
      filter-append (λ (sample : Sample). sample.group == g) history other in
      subst (λ (xs : List Sample). HoldsGroup (get_or layouts g l) xs (get_or joined g d)) (sym both)
      (group_joined (get_or layouts g l) (group_samples history g) (group_samples other g) (get_or groups g d) (get_or others g d) (get_or joined g d)
      (kept.stored g l below) (kept.rules g l below) (kept.real g l below) (one.each g d l below) (two.each g d l below) (are.each g d inside)
      (one_of (λ (m : Measure). AreBytes m.part.content) joined g d bytes there));
}

-- and so all that are joined behind the first
pub all_joined : (layouts : List Layout) (first : List Sample) (histories : List (List Sample)) (one : Measured) (later : List Measured) (whole : Measured)
    → AreKept layouts → HoldHistory layouts first one.groups
    → AllZip (λ (history : List Sample) (m : Measured). HoldHistory layouts history m.groups) histories later → AreJoinedTo one later whole
    → HoldHistory layouts (first ++ flat_map (λ (history : List Sample). history) histories) whole.groups
all_joined layouts first [] one [] whole kept holds each are =
    subst (λ (m : Measured). HoldHistory layouts (first ++ []) m.groups) (sym are)
    (subst (λ (xs : List Sample). HoldHistory layouts xs one.groups) (sym (append-nil first)) holds)
all_joined layouts first [] one (next ∷ later) whole kept holds each are = absurd each
all_joined layouts first (history ∷ histories) one [] whole kept holds each are = absurd each
all_joined layouts first (history ∷ histories) one (next ∷ later) whole kept holds each are =
    let both = are.0 in
    let here = histories_joined layouts first history one.groups next.groups both.groups kept holds each.0 are.1.groups are.2 in
    let rest = flat_map (λ (h : List Sample). h) histories in
    let all : first ++ history ++ rest ≡ first ++ (history ++ rest) = append_assoc first history rest in
    subst (λ (xs : List Sample). HoldHistory layouts xs whole.groups) all
    (all_joined layouts (first ++ history) histories both later whole kept here each.1 are.3)
