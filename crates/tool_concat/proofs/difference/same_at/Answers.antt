use Rattle.std.proofs.Common.{◌≡◌, subst, sym}
use Rattle.mdf_model.specs.declared.part.GroupPart.{GroupPart}
use Rattle.mdf_block.proofs.Items.{item_of}
use Rattle.tool_concat.specs.Same.{SameGroup}
use Rattle.tool_concat.proofs.difference.same_at.Goals as goal

-- equal parts
same_parts : (one other first second : GroupPart) → one ≡ first → other ≡ second → SameGroup one.row other.row → SameGroup first.row second.row
same_parts one other first second is are same =
    subst (λ (part : GroupPart). SameGroup first.row part.row) are (subst (λ (part : GroupPart). SameGroup part.row other.row) is same)

pub returns : goal.returns
returns c = (
  λ is d. same_parts _ _ _ _ (c.part.ensures d) (c.part-2.ensures d) (c.same_group.ensures.0 is),
  λ same.
      let d = item_of c.args.first.now.groups c.args.group c.requires.first in
      c.same_group.ensures.1 (same_parts _ _ _ _ (sym (c.part.ensures d)) (sym (c.part-2.ensures d)) (same d)),
)
