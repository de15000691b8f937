use Rattle.mdf_layout.proofs.Longs.{take_put}
use Rattle.mdf_layout.proofs.long.append.Goals as goal

pub returns-clause-front : goal.returns-clause-front
returns-clause-front c = take_put c.args.out.now c.put_bytes.new.content c.args.bytes.now c.args.at c.put_bytes.ensures.before c.put_bytes.ensures.there
