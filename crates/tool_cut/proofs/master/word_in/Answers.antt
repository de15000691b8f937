use Rattle.std.proofs.Common.{◌≡◌, ◌∙◌, ap, arith, sym}
use Rattle.mdf_layout.specs.Rule.{bits_in, spot_in}
use Rattle.tool_cut.proofs.Words.{word_number}
use Rattle.tool_cut.proofs.master.word_in.Goals as goal

pub word_at-requires : goal.word_at-requires
word_at-requires c =
    let row = c.args.row in
    let word = c.requires.word in
    let bits : bits_in row.kind row.bits ≡ 64 = ap (λ kind. bits_in kind row.bits) word.kind ∙ word.bits in
    omega (arith, c.requires.placed.inside, word.bit, bits)

pub returns : goal.returns
returns c =
    let row = c.args.row in
    let word = c.requires.word in
    let bits : bits_in row.kind row.bits ≡ 64 = ap (λ kind. bits_in kind row.bits) word.kind ∙ word.bits in
    c.word_at.ensures ∙ sym (word_number (spot_in row) c.args.content.now word.bit bits word.big c.type_inv.content)
