use Rattle.std.proofs.Common.{◌≤◌, length, sym, ap, subst, arith}
use Rattle.std.specs.Io.KnownBytes.{Consumes}
use Rattle.mdf_port.specs.State.{source_state}
use Rattle.mdf_command.specs.Faults.{SCRIPT_LIMIT}
use Rattle.mdf_record.proofs.Texts.{refused_of, says_of}
use Rattle.mdf_record.proofs.record.read_source.Goals as goal

pub returns-clause-says : goal.returns-clause-says
returns-clause-says g c =
    let took = c.in_ok-text.ensures in
    let text = c.as_slice.result.now in
    let short : length text ≤ SCRIPT_LIMIT = omega (arith, ap length c.as_slice.ensures, took.short) in
    says_of (source_state g.S.Source c.args.source.now) (source_state g.S.Source c.take_all.new.source) text
    (subst (Consumes (g.S.Source.left c.args.source.now) (g.S.Source.left c.take_all.new.source)) (sym c.as_slice.ensures) took.all) took.end short took.calm
    c.script_from.result c.script_from.ensures.says

pub returns-clause-fault : goal.returns-clause-fault
returns-clause-fault g c =
    let took = c.in_ok-text.ensures in
    let text = c.as_slice.result.now in
    let short : length text ≤ SCRIPT_LIMIT = omega (arith, ap length c.as_slice.ensures, took.short) in
    refused_of (source_state g.S.Source c.args.source.now) (source_state g.S.Source c.take_all.new.source) text
    (subst (Consumes (g.S.Source.left c.args.source.now) (g.S.Source.left c.take_all.new.source)) (sym c.as_slice.ensures) took.all) took.end short took.calm
    c.script_from.result c.script_from.ensures.fault
