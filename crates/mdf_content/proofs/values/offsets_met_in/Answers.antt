use Rattle.std.proofs.Common.{sym, ◌∙◌, arith, rules}
use Rattle.std.proofs.lemmas.Result.{err_from_is_err_and}
use Rattle.mdf_stream.specs.Parts.{stream_of}
use Rattle.mdf_content.specs.Fault.{read_refusal}
use Rattle.mdf_content.specs.Values.{offset_in, records_of}
use Rattle.mdf_content.proofs.Offsets.{is_done, goes_on, ends}
use Rattle.mdf_block.proofs.Readers.{says_of}
use Rattle.mdf_content.proofs.values.offsets_met_in.Goals as goal

pub returns-in_err-offset_met_in : goal.returns-in_err-offset_met_in
returns-in_err-offset_met_in g c = record {
  reads = says_of (search rules) (λ f told.
      let p = err_from_is_err_and c.from_residual.result c.from_residual.ensures.1 in
      let loop = c.loop-row in
      let values = c.args.values.now in
      let records = c.args.records.now in
      rw (p.1, p.2) (
      ends (g.V.Met.meets values f) (offset_in (stream_of f c.args.view.now) (records_of records) c.args.channel.now) c.args.c
      read_refusal _ loop.row records.count c.loop-row-test.true (c.in_err-offset_met_in.ensures.reads.found f (loop.invariant.same ∙ told)) _
      (loop.invariant.found f told)
      ));
}

pub loop-row-preserved : goal.loop-row-preserved
loop-row-preserved g c = record {
  found = λ f told.
      let loop = c.loop-row in
      let values = c.args.values.now in
      let records = c.args.records.now in
      sym (goes_on (g.V.Met.meets values f) (offset_in (stream_of f c.args.view.now) (records_of records) c.args.channel.now) c.args.c
      loop.row records.count c.loop-row-test.true (c.in_ok-offset_met_in.ensures.reads.found f (loop.invariant.same ∙ told)))
      ∙ loop.invariant.found f told;
  same = c.in_ok-offset_met_in.ensures.reads.same ∙ c.loop-row.invariant.same;
  size = c.in_ok-offset_met_in.ensures.reads.size ∙ c.loop-row.invariant.size;
  later = omega (arith, c.in_ok-offset_met_in.ensures.reads.cause.later);
}

pub returns : goal.returns
returns g c = record {
  reads = says_of (search rules) (λ f told.
      let loop = c.loop-row in
      let values = c.args.values.now in
      let records = c.args.records.now in
      sym (loop.invariant.found f told)
      ∙ is_done (g.V.Met.meets values f) (offset_in (stream_of f c.args.view.now) (records_of records) c.args.channel.now) c.args.c
      loop.row records.count c.loop-row-test.false);
}
