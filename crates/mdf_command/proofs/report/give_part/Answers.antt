use Rattle.std.proofs.Common.{◌∷◌, ◌++◌, ◌∙◌, [], take, ap, sym, arith}
use Rattle.std.proofs.lemmas.List.{length-set, take_more_set}
use Rattle.std.specs.List.{flat_map}
use Rattle.mdf_command.specs.Texts.{shown}
use Rattle.mdf_command.proofs.Pieces.{bytes_more}
use Rattle.mdf_command.proofs.report.give_part.Goals as goal

pub loop-i-preserved : goal.loop-i-preserved
loop-i-preserved g c = record {
  long = length-set c.loop-i.bytes c.loop-i.i c.shown.result ∙ c.loop-i.invariant.long;
  most = omega (arith, c.loop-i-test.true);
  filled = take_more_set c.loop-i.bytes c.loop-i.i c.shown.result (omega (arith, c.loop-i-test.true, c.requires.few, c.loop-i.invariant.long)) ∙ ap (λ zs. zs ++ c.shown.result ∷ []) c.loop-i.invariant.filled
      ∙ ap (λ zs. flat_map shown (take c.loop-i.i c.args.part.now) ++ zs) c.shown.ensures ∙ sym (bytes_more c.args.part.now c.loop-i.i _ c.loop-i-test.true);
}
