-- What is read of a file is what is found of it, with the bytes there.
use Rattle.std.proofs.Common.{◌≡◌, ℕ, List, [], ◌∷◌, ◌++◌, map, reverse, Result, Ok, Err, refl, sym, ◌∙◌, ap, subst}
use Rattle.std.proofs.lemmas.List.{reverse-append, reverse-reverse}
use Rattle.mdf_num.specs.declared.halt.Halt.{Halt}
use Rattle.mdf_block.specs.Refusal.{Gives, Halts, Read, ◌>>=◌}
use Rattle.mdf_block.proofs.Refusals.{halts_then}
use Rattle.mdf_content.specs.declared.fault.ReadFault.{ReadFault}
use Rattle.mdf_content.specs.Fault.{read_refusal}
use Rattle.mdf_content.proofs.Founds.{then_turned}
use Rattle.mdf_model.specs.declared.whole.Whole.{Whole}
use Rattle.mdf_model.specs.declared.whole.WholeFound.{WholeFound}
use Rattle.mdf_model.specs.Found.{whole, whole_fetched, whole_found}
use Rattle.mdf_model.specs.Measurement.{GivesSeen, Measured, measured, measured_from, measurement}

-- items in the other order, of which the last is turned apart
pub first_turned : {B C : Type 0} (turn : B → C) (items turned rest : List B) (first : B) (all : List C) (made : C) → turned ≡ reverse items
    → turned ≡ rest ++ first ∷ [] → all ≡ map turn (reverse rest) → made ≡ turn first → made ∷ all ≡ map turn items
first_turned turn items turned rest first all made is ends behind made_is =
    ap (λ (one : _). one ∷ all) made_is ∙ ap (λ (xs : List _). turn first ∷ xs) behind
    ∙ ap (map turn) (sym (sym (reverse-reverse items) ∙ ap reverse (sym is ∙ ends) ∙ reverse-append rest (first ∷ [])))

module _ (file : List ℕ) where
  abbrev pub fetched_of : WholeFound → Read Whole
  fetched_of all = Ok (whole_fetched file all)

  pub whole_is : whole file ≡ (whole_found file >>= fetched_of)
  unfolding whole
  whole_is = refl

  abbrev measured_of : WholeFound → Read Measured
  measured_of all = Ok (measured_from file all)

  pub measurement_is : measurement file ≡ (whole_found file >>= measured_of)
  unfolding measurement whole
  measurement_is =
      let last : Whole → Read Measured = λ all. Ok (measured all) in
      sym (then_turned last (whole_found file) fetched_of measured_of (λ all. refl))

  pub measurement_seen : (result : Result WholeFound (Halt ReadFault)) → Gives read_refusal result (whole_found file)
      → GivesSeen read_refusal (measured_from file) result (measurement file)
  measurement_seen (Ok all) gives = measurement_is ∙ ap (λ (found : Read WholeFound). found >>= measured_of) gives
  measurement_seen (Err halt) halted =
      subst (Halts read_refusal halt) (sym measurement_is) (halts_then read_refusal halt (whole_found file) measured_of halted)
