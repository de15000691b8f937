use Rattle.mdf_inspect.proofs.reading.read_kept.Given as goal

-- the brand stands for what the disk was asked for
abbrev pub ghosts-read_branded : goal.ghosts-read_branded
ghosts-read_branded g a = record { asked = g.A.Disk.asked a.first }
