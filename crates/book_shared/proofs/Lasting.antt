-- What a back keeps of some samples it keeps of more.
use Rattle.std.proofs.Common.{List, length, length-append, ap, inl, inr, ⊎_elim, arith}
use Rattle.std.proofs.lemmas.List.Elements.{All-weaker}
use mathlib.Core.List.{IsPrefix}
use Rattle.mdf_layout.specs.declared.sample.Sample.{Sample}
use Rattle.mdf_gate.specs.Gated.{Gated}
use Rattle.mdf_gate.specs.Images.{head_of}
use Rattle.mdf_gate.proofs.Carrying.{carries_longer}
use Rattle.book_owned.specs.Members.{DiskOf}
use Rattle.book_owned.specs.Kept.{MarkHolds}
use Rattle.book_owned.specs.declared.mark.Mark.{Mark}
use Rattle.book_shared.specs.Basis.{Basis}
use Rattle.book_shared.specs.Rule.{KeepsAll}

pub keeps_on : {D : Type 0} (disk : DiskOf D) (basis : Basis) (back : Gated D) (samples longer : List Sample) (marks : List Mark) → IsPrefix samples longer
    → KeepsAll disk basis back samples marks → KeepsAll disk basis back longer marks
keeps_on disk basis back samples longer marks begins keeps =
    let head = head_of (disk.story back.disk) back.first in
    let layouts = basis.terms.layouts in
    record {
      marks_hold = All-weaker (MarkHolds layouts head (disk.story back.disk) (disk.moment back.disk) samples) (MarkHolds layouts head (disk.story back.disk) (disk.moment back.disk) longer) (λ mark h. record {
        past = h.past;
        within = omega (arith, h.within, ap length begins.1, length-append samples begins.0);
        carries = λ file left. carries_longer layouts head samples longer mark.through file begins (h.carries file left);
      }) marks keeps.marks_hold;
      start_holds = λ file left. ⊎_elim inl (λ c. inr (carries_longer layouts head samples longer 0 file begins c)) (keeps.start_holds file left);
      moments = keeps.moments;
    }
