use Rattle.std.proofs.Common.{◌≡◌, ◌<◌, ℕ, List, Some, ◌∙◌, subst}
use Rattle.std.specs.Prelude.{slice_index_or}
use Rattle.std.proofs.lemmas.Option.{get_or_from_slice_get}
use Rattle.std.proofs.lemmas.Result.{IfOk-weaker}
use Rattle.mdf_layout.specs.declared.sample.Entry.{Entry}
use Rattle.mdf_model.specs.Measurement.{measured_from, sample_of}
use Rattle.mdf_paged.specs.Groups.{Located, groups_of, located, sample_in}
use Rattle.mdf_paged.proofs.Asked.{asked_sample}
use Rattle.mdf_paged.proofs.Measures.{sample_is}
use Rattle.mdf_paged.proofs.measurement.PagedMeasurement.sample_with.Goals as goal

pub sample_of-requires-clause-view : goal.sample_of-requires-clause-view
sample_of-requires-clause-view g c = (c.place.ensures.inside (g.P.Span.size c.args.span.now) c.requires.inside).0

pub sample_of-requires-clause-inside : goal.sample_of-requires-clause-inside
sample_of-requires-clause-inside g c = (c.place.ensures.inside (g.P.Span.size c.args.span.now) c.requires.inside).1

pub sample_of-requires-clause-index : goal.sample_of-requires-clause-index
sample_of-requires-clause-index g c =
    let place = located c.place.result.0.now c.place.result.1.now in
    subst (λ (p : Located). c.args.i < p.group.count) (get_or_from_slice_get (groups_of c.args.self.now) c.args.group place place c.place.ensures.place)
    (c.requires.index place)

pub returns-clause-sample : goal.returns-clause-sample
returns-clause-sample g c = λ f d told read.
    let place = located c.place.result.0.now c.place.result.1.now in
    IfOk-weaker c.sample_of.result
    (λ (entries : List Entry). (f : List ℕ) → g.P.Span.bytes c.args.span.now ≡ Some f → sample_in f place c.args.i ≡ Some entries)
    (λ (entries : List Entry). sample_of (slice_index_or (measured_from f c.args.self.now).groups c.args.group d) c.args.i ≡ Some entries)
    (λ entries is. sample_is f c.args.self.now c.args.group d place c.args.i read c.place.ensures.place ∙ is f told)
    c.sample_of.ensures.reads.seen

pub returns-clause-asked : goal.returns-clause-asked
returns-clause-asked g c = λ f m d told read measured.
    let place = located c.place.result.0.now c.place.result.1.now in
    IfOk-weaker c.sample_of.result
    (λ (entries : List Entry). (f : List ℕ) → g.P.Span.bytes c.args.span.now ≡ Some f → sample_in f place c.args.i ≡ Some entries)
    (λ (entries : List Entry). sample_of (slice_index_or m.groups c.args.group d) c.args.i ≡ Some entries)
    (λ entries is. asked_sample f c.args.group c.args.self.now m read measured d place c.args.i c.place.ensures.place ∙ is f told)
    c.sample_of.ensures.reads.seen
