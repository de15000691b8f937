-- What a book begins with.
use Rattle.std.specs.Prelude.{ℕ, ◌≡◌, ◌≤◌, ◌<◌, ◌^◌, false, List, [], ◌∷◌, length, All, sum_by, is_some}
use Rattle.mdf_disk.specs.Crash.{HoldsSince}
use Rattle.mdf_layout.specs.Layout.{Layout}
use Rattle.mdf_layout.specs.Written.{AreApart}
use Rattle.mdf_layout.specs.Behind.{variables}
use Rattle.mdf_layout.specs.Stored.{IsStored}
use Rattle.mdf_gate.specs.Gated.{Gated, RestsOn}
use Rattle.mdf_gate.specs.Images.{head_of, IsBegun}
use Rattle.book_owned.specs.Members.{DiskOf, ViewOf}
use Rattle.book_owned.specs.Account.{Account}

-- A file that was just created: its head is shorter than 2^61 bytes and nothing stands behind it. Each crash since it was
-- begun leaves no MDF file, or the head with no opened block.
pub record IsNewFile {D : Type 0} (disk : DiskOf D) (file : Gated D) : Type 0 where
  pub going : file.failed ≡ false
  pub rests : RestsOn (disk.content file.disk) (disk.story file.disk) file.first [] file.place
  pub short : file.place < 2 ^ 61
  pub begun : HoldsSince (disk.story file.disk) file.start (IsBegun (head_of (disk.story file.disk) file.first))

-- at most 64 groups with at most 1,024 channels in all, 128 of them of variable length, no two of a group sharing a bit,
-- each one that a recording stores, and limits within bounds
pub record IsAdmissible (layouts : List Layout) (block_limit session_limit : ℕ) : Type 0 where
  pub groups : length layouts ≤ 64
  pub fields : sum_by (λ layout. length layout.rows) layouts ≤ 1024
  pub variable : sum_by (λ layout. length (variables layout.rows)) layouts ≤ 128
  pub disjoint : All (λ layout. AreApart layout.rows) layouts
  pub stored : All (λ layout. All IsStored layout.rows) layouts
  pub some : 1 ≤ block_limit
  pub block : block_limit ≤ 16777216
  pub session : session_limit ≤ 268435456

-- the book over that file has no sample, and one mark of the present moment
pub record HasBegun {D V N : Type 0} (disk : DiskOf D) (view : ViewOf V N)
    (file : Gated D) (layouts : List Layout) (block_limit session_limit : ℕ) (first : V) (book : Account D V) : Type 0 where
  pub disk_is : book.disk ≡ file.disk
  pub view_is : book.view ≡ first
  pub history : book.history ≡ []
  pub marks : book.marks ≡ record { moment = disk.moment file.disk; through = 0 } ∷ []
  pub going : book.stopped ≡ false
  pub terms : book.terms ≡ record {
    layouts = layouts;
    block_limit = block_limit;
    session_limit = session_limit;
    which = view.which first;
    head = head_of (disk.story file.disk) file.first;
    start = file.start;
    faults = file.faults;
    told = is_some (disk.story file.disk);
    asked = disk.asked file.disk;
  }
