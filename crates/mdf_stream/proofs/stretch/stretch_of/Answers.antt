use Rattle.std.proofs.Common.{arith}
use Rattle.mdf_stream.proofs.Joins.{none, joined_order, part_begins, part_fits, part_inside, bytes_there, below_end}
use Rattle.mdf_stream.proofs.Ranges.{range_first}
use Rattle.mdf_stream.proofs.stretch.stretch_of.Goals as goal

pub stretch_at-k-requires : goal.stretch_at-k-requires
stretch_at-k-requires c = joined_order 0 c.args.items.now c.args.end c.requires.joined

pub bounds-items-k : goal.bounds-items-k
bounds-items-k c =
    below_end c.args.at c.args.items.now c.args.end c.stretch_at-k.result c.requires.joined c.requires.within c.stretch_at-k.ensures.bound
    c.stretch_at-k.ensures.before

pub returns-clause-begins : goal.returns-clause-begins
returns-clause-begins c =
    let k = c.stretch_at-k in
    let below =
    below_end c.args.at c.args.items.now c.args.end k.result c.requires.joined c.requires.within k.ensures.bound k.ensures.before in
    part_begins c.args.at none 0 c.args.items.now c.args.end k.result c.requires.joined (omega arith) below (λ j less. k.ensures.before j none less)

pub returns-clause-behind : goal.returns-clause-behind
returns-clause-behind c =
    let k = c.stretch_at-k in
    let below =
    below_end c.args.at c.args.items.now c.args.end k.result c.requires.joined c.requires.within k.ensures.bound k.ensures.before in
    k.ensures.behind none below

pub returns-clause-fits : goal.returns-clause-fits
returns-clause-fits c =
    let k = c.stretch_at-k in
    let below =
    below_end c.args.at c.args.items.now c.args.end k.result c.requires.joined c.requires.within k.ensures.bound k.ensures.before in
    part_fits c.args.at none 0 c.args.items.now c.args.end k.result c.requires.joined below

pub returns-clause-inside : goal.returns-clause-inside
returns-clause-inside c = λ size inside.
    let k = c.stretch_at-k in
    let below =
    below_end c.args.at c.args.items.now c.args.end k.result c.requires.joined c.requires.within k.ensures.bound k.ensures.before in
    part_inside c.args.at none size c.args.items.now k.result inside below

pub returns-clause-bytes : goal.returns-clause-bytes
returns-clause-bytes c = λ f n inside within.
    let k = c.stretch_at-k in
    let below =
    below_end c.args.at c.args.items.now c.args.end k.result c.requires.joined c.requires.within k.ensures.bound k.ensures.before in
    bytes_there f n c.args.at none c.args.items.now c.args.end k.result c.requires.joined below
    (λ j less. k.ensures.before j none less) (k.ensures.behind none below) inside within

pub returns-clause-range : goal.returns-clause-range
returns-clause-range c = λ len some.
    let k = c.stretch_at-k in
    let below =
    below_end c.args.at c.args.items.now c.args.end k.result c.requires.joined c.requires.within k.ensures.bound k.ensures.before in
    range_first c.args.at len none c.args.items.now c.args.end k.result c.requires.joined below
    (λ j less. k.ensures.before j none less) (k.ensures.behind none below) some
