use Rattle.mdf_layout.proofs.Once.{encodings_once}
use Rattle.mdf_layout.proofs.Pieces.{read_once}
use Rattle.mdf_layout.proofs.Bridge.{encodings_read}
use Rattle.mdf_layout.proofs.law.records_are_of_one_list.Goals as goal

pub returns-clause-written : goal.returns-clause-written
returns-clause-written c = encodings_once

pub returns-clause-read : goal.returns-clause-read
returns-clause-read c = read_once

pub returns-clause-both : goal.returns-clause-both
returns-clause-both c = encodings_read
