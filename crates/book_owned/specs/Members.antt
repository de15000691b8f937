-- The ghost members of a bound as one record, which a clause writes `D.Disk` or `V.Shown`.
pub use Rattle.mdf_disk.specs.declared.disk.Disk.{Ghosts as DiskOf}
pub use Rattle.book_owned.specs.declared.view.Shown.{Ghosts as ViewOf}
