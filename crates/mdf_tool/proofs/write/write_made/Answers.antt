use Rattle.mdf_tool.proofs.Images.{some_bytes, adds_image}
use Rattle.mdf_tool.proofs.write.write_made.Goals as goal

pub write_sealed-requires-clause-some : goal.write_sealed-requires-clause-some
write_sealed-requires-clause-some g c = some_bytes c.args.made.bytes c.requires.marked

pub returns-in_err-write_sealed-clause-any_moment : goal.returns-in_err-write_sealed-clause-any_moment
returns-in_err-write_sealed-clause-any_moment g c =
    adds_image c.args.made.bytes c.requires.marked (g.C.Disk.story c.args.out.now) (g.C.Disk.story c.write_sealed.new.disk) c.write_sealed.ensures.any_moment

pub returns-clause-any_moment : goal.returns-clause-any_moment
returns-clause-any_moment g c =
    adds_image c.args.made.bytes c.requires.marked (g.C.Disk.story c.args.out.now) (g.C.Disk.story c.write_sealed.new.disk) c.write_sealed.ensures.any_moment
