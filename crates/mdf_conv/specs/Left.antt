-- What is left of a budget.
use Rattle.std.specs.Prelude.{ℕ, ◌+◌, ◌-◌, ◌^◌, min, nat_eq, if◌then◌else◌}
use Rattle.mdf_conv.specs.declared.limits.Budget.{Budget}

-- so many links more are passed over; the count stays at the last u64
abbrev pub with_dropped : ℕ → Budget → Budget
with_dropped links left = record left { dropped = min (left.dropped + links) (2 ^ 64 - 1) }

-- how many links that name something this one is
abbrev pub link_count : ℕ → ℕ
link_count link = if nat_eq link 0 then 0 else 1
