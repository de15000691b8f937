use Rattle.std.proofs.Common.{◌≡◌, ◌++◌, None, length, All}
use Rattle.std.specs.Prelude.{vec_capacity}
use Rattle.std.specs.List.{AllZip}
use Rattle.mdf_record.specs.Recovers.{AreRecovered}
use Rattle.mdf_rotate.specs.Part.{PartsCome, outcomes, states}
use Rattle.mdf_rotate.proofs.part.record_all.Given as goal

-- the parts so far are those of the disks so far
abbrev pub invariant-loop-out : goal.invariant-loop-out
invariant-loop-out g l = record {
  outs : l.yielded ++ l.out-iterator.rest.items ≡ l.fn.outs.items;
  number : l.number ≡ length l.yielded;
  count : length l.parts.items ≡ length l.yielded;
  come : PartsCome l.output l.means.now_ns 0 (states g.C.Disk l.yielded) (outcomes g.C.Disk l.parts.items) l.fn.course l.course;
  untouched : AllZip (λ out part. g.C.Disk.asked part.out ≡ None → part.out ≡ out) l.yielded l.parts.items;
  recovered : AllZip (λ disk left. AreRecovered disk.moment left) (states g.C.Disk l.yielded) (outcomes g.C.Disk l.parts.items);
  room : vec_capacity l.parts ≡ vec_capacity l.fn.parts;
  asked : All (λ out. g.C.Disk.asked out ≡ None) l.out-iterator.rest.items;
}
