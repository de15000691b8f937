-- The numbers among the command words are what the words say.
use Rattle.std.proofs.Common.{◌≡◌, ℕ, List, SFits, to_z, of_z, to_z-of_z, subst, arith}
use mir.Syntax.{w128}
use Rattle.std.specs.Prelude.{ℤ, pos, negsuc}
use Rattle.std.specs.Fmt.{decimal, signed_decimal}
use Rattle.std.proofs.lemmas.Fmt.{decimal_injective}
use Rattle.mdf_command.specs.Words.{Asks, IsBound, shown, made}
use Rattle.mdf_command.specs.declared.command.Aspect.TheVariants.{Table}
use Rattle.mdf_command.specs.declared.command.Product.TheVariants.{Cut}
use Rattle.mdf_command.proofs.Bounds.{one_bound}

fits : (z : ℤ) → IsBound z → SFits w128 z
fits (pos n) within = record { sfits = omega (arith, within) }
fits (negsuc n) within = record { sfits = omega (arith, within) }

-- a range is passed on as it is
pub passed : (P : ℤ → ℤ → Type 0) (from to : ℤ) → IsBound from × IsBound to → P (to_z w128 (of_z w128 from)) (to_z w128 (of_z w128 to)) → P from to
passed P from to within holds =
    subst (λ t. P from t) (to_z-of_z (fits to within.1)) (subst (λ f. P f (to_z w128 (of_z w128 to))) (to_z-of_z (fits from within.0)) holds)

-- the words ask for one range
pub same_range : (words : List (List ℕ)) (input output input' output' : List ℕ) (from to from' to' : ℤ) → Asks words (made input output (Cut from to))
    → Asks words (made input' output' (Cut from' to')) → (from ≡ from') × (to ≡ to')
same_range words input output input' output' from to from' to' asks also =
    let first : signed_decimal from ≡ signed_decimal from' = cc (asks.0, also.0) in
    let last : signed_decimal to ≡ signed_decimal to' = cc (asks.0, also.0) in
    (one_bound from from' asks.1.0 also.1.0 first, one_bound to to' asks.1.1 also.1.1 last)

-- and for one group
pub same_group : (words : List (List ℕ)) (input input' : List ℕ) (group group' : ℕ) → Asks words (shown input (Table group)) → Asks words (shown input' (Table group')) → group ≡ group'
same_group words input input' group group' asks also =
    let written : decimal group ≡ decimal group' = cc (asks.0, also.0) in decimal_injective group group' asks.1 also.1 written
