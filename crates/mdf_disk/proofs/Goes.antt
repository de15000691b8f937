-- What calls leave of a disk, one call behind the other.
use Rattle.std.proofs.Common.{◌∙◌, ap, arith}
use Rattle.std.specs.Prelude.{is_some}
use Rattle.mdf_disk.specs.Goes.{GoesOn, OnlyRead}
use Rattle.mdf_disk.specs.declared.disk.Disk.{Ghosts}

pub goes_further : {D : Type 0} (tells : Ghosts D) (old mid new : D) → GoesOn tells old mid → GoesOn tells mid new
    → GoesOn tells old new
goes_further tells old mid new first second = record {
  asked = second.asked ∙ first.asked;
  attached = second.attached ∙ first.attached;
  moment = omega (arith, first.moment, second.moment);
  told = second.told ∙ first.told;
  told_content = second.told_content ∙ first.told_content;
}

pub read_further : {D : Type 0} (tells : Ghosts D) (old mid new : D) → OnlyRead tells old mid → OnlyRead tells mid new
    → OnlyRead tells old new
read_further tells old mid new first second = record {
  asked = second.asked ∙ first.asked;
  attached = second.attached ∙ first.attached;
  content = second.content ∙ first.content;
  story = second.story ∙ first.story;
  moment = omega (arith, first.moment, second.moment);
}

-- a disk that was only read goes on
pub read_goes : {D : Type 0} (tells : Ghosts D) (old new : D) → OnlyRead tells old new → GoesOn tells old new
read_goes tells old new read = record {
  asked = read.asked;
  attached = read.attached;
  moment = read.moment;
  told = ap is_some read.story;
  told_content = ap is_some read.content;
}
