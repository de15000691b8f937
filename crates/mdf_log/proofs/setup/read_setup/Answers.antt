use Rattle.mdf_port.specs.State.{source_state}
use Rattle.mdf_log.proofs.Texts.{refused_of, says_of}
use Rattle.mdf_log.proofs.setup.read_setup.Goals as goal

pub returns-clause-says : goal.returns-clause-says
returns-clause-says g c =
    let took = c.in_ok-text.ensures in
    says_of (source_state g.S.Source c.args.source.now) (source_state g.S.Source c.take_all.new.source) _ took.all took.end took.short took.calm
    c.setup_in.result c.setup_in.ensures.says

pub returns-clause-fault : goal.returns-clause-fault
returns-clause-fault g c =
    let took = c.in_ok-text.ensures in
    refused_of (source_state g.S.Source c.args.source.now) (source_state g.S.Source c.take_all.new.source) _ took.all took.end took.short took.calm
    c.setup_in.result c.setup_in.ensures.fault
