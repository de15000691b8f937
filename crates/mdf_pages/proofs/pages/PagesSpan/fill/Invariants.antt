use Rattle.std.proofs.Common.{◌≡◌, ◌+◌, ◌-◌, ◌/◌, ◌<◌, ◌≤◌, ◌⊎◌, ℕ, List, Some, true, length, take}
use Rattle.mdf_format.specs.Number.{bytes_at}
use Rattle.mdf_disk.specs.Goes.{OnlyRead}
use Rattle.mdf_pages.specs.Page.{is_kept, first_page, AreKept, AreOfOnePage, StillKept}
use Rattle.mdf_pages.proofs.pages.PagesSpan.fill.Given as goal

abbrev pub invariant-loop-done : goal.invariant-loop-done
invariant-loop-done g l = record {
  within : l.done ≤ length l.buf;
  filled : (file : List ℕ) → g.D.Disk.content l.initial.self.disk ≡ Some file → take l.done l.buf ≡ bytes_at l.done file l.at;
  first : 0 < l.done → first_page l.self.cache ≡ Some ((l.at + l.done - 1) / 65536);
  kept : AreKept l.at (length l.initial.buf) l.initial.self.cache → l.self.disk ≡ l.initial.self.disk;
  held : AreKept l.at (length l.initial.buf) l.initial.self.cache → AreKept l.at (length l.initial.buf) l.self.cache;
  stays : AreOfOnePage l.at (length l.initial.buf) → length l.initial.self.cache < 256
      → ((l.done ≡ 0) × (l.self.cache ≡ l.initial.self.cache)) ⊎ ((is_kept (l.at / 65536) l.self.cache ≡ true) × StillKept l.initial.self.cache l.self.cache);
  size : l.self.size ≡ l.initial.self.size;
  calm : g.D.Disk.faults l.self.disk ≡ g.D.Disk.faults l.initial.self.disk;
  only_read : OnlyRead g.D.Disk l.initial.self.disk l.self.disk;
}

abbrev pub decreases-loop-done : goal.decreases-loop-done
decreases-loop-done g l = length l.buf - l.done
