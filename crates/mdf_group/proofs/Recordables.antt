-- Some rows can be recorded: a group `g` with one master `t` of 64 bits.
use Rattle.std.proofs.Common.{◌≡◌, ℕ, zero, suc, [], ◌∷◌, Option, Some, None, refl, sym, subst, inl, inr, arith, lit≤}
use Rattle.std.specs.Prelude.{slice_get}
use Rattle.mdf_format.specs.Row.{RowNumbers, Unsigned, Variable, BreaksRowRule}
use Rattle.mdf_block.specs.declared.note.Note.TheVariants as notes
use Rattle.mdf_group.specs.declared.row.ChannelRow.{ChannelRow}
use Rattle.mdf_group.specs.declared.row.GroupRow.{GroupRow}
use Rattle.mdf_group.specs.Recordable.{numbers_of, ArePlaced, AreRecordable}

abbrev pub master : ChannelRow
master = record {
  at = 0;
  kind = 2;
  sync = 1;
  data_type = 0;
  bit = 0;
  byte = 0;
  bits = 64;
  flags = 0;
  inval = 0;
  precision = 0;
  ranges = [];
  name = notes.Plain (116 ∷ []);
  source = None;
  conv = None;
  unit = notes.Nothing;
  comment = notes.Nothing;
  values = 0;
  extra = 0;
}

abbrev pub one_group : GroupRow
one_group = record {
  at = 0;
  id = 1;
  cycles = 0;
  flags = 0;
  separator = 0;
  data_bytes = 8;
  inval_bytes = 0;
  name = notes.Plain (103 ∷ []);
  source = None;
  comment = notes.Nothing;
  channels = master ∷ [];
}

only_row : (k : ℕ) (first row : RowNumbers) → slice_get (first ∷ []) k ≡ Some row → first ≡ row
only_row zero first row is = cc
only_row (suc k) first row is = let wrong : ◌≡◌ {A = Option RowNumbers} None (Some row) = is in cc

keeps_rules : (k : ℕ) → BreaksRowRule 8 0 (numbers_of master ∷ []) k (numbers_of master) → ⊥
keeps_rules k (inl unplaced) = unplaced (record { bit = omega arith; some = omega arith; few = omega arith; inside = lit≤ tt })
keeps_rules k (inr (inl no_position)) = no_position (λ uses. absurd (omega (arith, uses)))
keeps_rules k (inr (inr offset)) = let wrong : Unsigned ≡ Variable = offset.0 in cc

is_placed : ArePlaced 8 0 (numbers_of master ∷ [])
is_placed = record {
  rules = λ k row there breaks. keeps_rules k (subst (BreaksRowRule 8 0 (numbers_of master ∷ []) k) (sym (only_row k (numbers_of master) row there)) breaks);
  bits = λ i j d before within. absurd (omega (arith, before, within));
  positions = λ i j d before within. absurd (omega (arith, before, within));
}

pub some_are_recordable : AreRecordable (one_group ∷ [])
some_are_recordable = record {
  some = omega arith;
  few = omega arith;
  channels = lit≤ tt;
  variable = lit≤ tt;
  each = (
    record {
      flags = refl;
      name = record { some = omega arith; few = omega arith; whole = ((λ is_zero. omega (arith, is_zero)), tt) };
      source = refl;
      comment = refl;
      some = omega arith;
      few = omega arith;
      each = (
        record {
          kind = omega arith;
          data_type = omega arith;
          flags = inl refl;
          long = λ of_values. absurd (omega (arith, of_values));
          name = record { some = omega arith; few = omega arith; whole = ((λ is_zero. omega (arith, is_zero)), tt) };
          unit = tt;
          source = refl;
          conv = refl;
          comment = refl;
          values = refl;
          extra = refl;
        },
        tt,
      );
      placed = is_placed;
    },
    tt,
  );
}
