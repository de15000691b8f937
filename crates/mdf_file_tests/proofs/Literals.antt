-- The rows that the tests write can be recorded.
use Rattle.std.proofs.Common.{[], ◌∷◌, refl, inl, arith, lit≤}
use Rattle.mdf_group.specs.Recordable.{AreRecordable}
use Rattle.mdf_group.proofs.Recordables.{some_are_recordable}
use Rattle.mdf_file_tests.specs.Recorded.{group}

pub recordable : AreRecordable (group ∷ [])
recordable =
    let known = some_are_recordable.each.0 in record {
      some = omega arith;
      few = omega arith;
      channels = lit≤ tt;
      variable = lit≤ tt;
      each = (
        record {
          flags = refl;
          name = known.name;
          source = refl;
          comment = refl;
          some = omega arith;
          few = omega arith;
          each = (
            record {
              kind = omega arith;
              data_type = omega arith;
              flags = inl refl;
              long = λ of_values. absurd (omega (arith, of_values));
              name = known.each.0.name;
              unit = tt;
              source = refl;
              conv = refl;
              comment = refl;
              values = refl;
              extra = refl;
            },
            tt,
          );
          placed = known.placed;
        },
        tt,
      );
    }
