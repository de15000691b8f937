-- What is cut of the block that is last.
use Rattle.std.proofs.Common.{◌≡◌, ◌≢◌, ℕ, List, Option, Some, None, Ok, Err, sym, ◌∙◌, ap}
use Rattle.std.proofs.lemmas.Bool.{cond-true, cond-false, eq-eqb, ne_eqb}
use Rattle.std.specs.Prelude.{nat_eq}
use Rattle.mdf_format.specs.declared.kind.Kind.TheVariants.{Dt}
use Rattle.mdf_block.specs.Block.{block}
use Rattle.mdf_block.specs.Refusal.{Read, Refusal}
use Rattle.mdf_block.specs.declared.place.BlockAt.{BlockAt}
use Rattle.mdf_group.specs.declared.row.DataRow.{DataRow}
use Rattle.tool_complete.specs.declared.cut.Cut.{Cut}
use Rattle.tool_complete.specs.Completed.{Split, cut_by, cut_with}
use Rattle.tool_complete.specs.Named.{final_name}

module _ (file : List ℕ) (last : ℕ) (row : DataRow) (split : Split) where
  abbrev of_block : Read BlockAt → Option Cut
  of_block read = cut_by file last row read (Some split)

  -- no block stands there
  pub no_block : (refusal : Refusal) → block file last Dt ≡ Err refusal → None ≡ cut_by file last row (block file last Dt) (Some split)
  no_block refusal is = sym (ap of_block is)

  -- the stream ends with another
  pub not_final : (b : BlockAt) → block file last Dt ≡ Ok b → final_name file row.content ≢ last
      → None ≡ cut_by file last row (block file last Dt) (Some split)
  not_final b is other =
      sym (ap of_block is ∙ cond-false (nat_eq (final_name file row.content) last) _ _ (ne_eqb (final_name file row.content) last other))

  -- the stream ends with it
  pub is_final : (b : BlockAt) (cut : Cut) → block file last Dt ≡ Ok b → final_name file row.content ≡ last → cut ≡ cut_with split b
      → Some cut ≡ cut_by file last row (block file last Dt) (Some split)
  is_final b cut is same cut_is =
      ap Some cut_is
      ∙ sym (ap of_block is ∙ cond-true (nat_eq (final_name file row.content) last) _ _ (eq-eqb (final_name file row.content) last same))
