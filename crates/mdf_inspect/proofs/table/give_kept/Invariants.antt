use Rattle.mdf_inspect.proofs.table.give_kept.Given as goal

-- the brand stands for what the disk was asked for
abbrev pub ghosts-give_branded : goal.ghosts-give_branded
ghosts-give_branded g a = record { asked = g.A.Disk.asked a.first }
