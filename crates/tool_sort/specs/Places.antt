-- Where the parts of a data group of a sorted file stand, as the code counts them before they are placed.
use Rattle.std.specs.Prelude.{ℕ, ◌≡◌}
use Rattle.mdf_model.specs.declared.part.GroupPart.{GroupPart}
use Rattle.tool_sort.specs.declared.places.PartPlaces.{PartPlaces}
use Rattle.tool_sort.specs.Sorted.{group_number, records_number, values_number, past_part}

pub record ArePartPlaces (n : ℕ) (part : GroupPart) (places : PartPlaces) : Type 0 where
  pub group : places.group ≡ group_number n part
  pub records : places.records ≡ records_number n part
  pub values : places.values ≡ values_number n part
  pub past : places.past ≡ past_part n part
