use Rattle.script_line.specs.Text.{words_left}
use Rattle.script_line.proofs.Fronts.{line_is_sample}
use Rattle.script_line.proofs.line.sample_of.Goals as goal

pub returns : goal.returns
returns c =
    let found = c.in_ok-found.found in
    line_is_sample c.args.text.now found.number (words_left found.behind) c.in_ok-found.ensures
