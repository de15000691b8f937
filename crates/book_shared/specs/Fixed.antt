-- What the table is told once, and the first seat.
use Rattle.std.specs.Prelude.{ℕ, zero, suc, List, [], ◌∷◌}
use Rattle.mdf_layout.specs.declared.sample.Sample.{Sample}
use Rattle.mdf_gate.specs.Gated.{Gated}
use Rattle.book_owned.specs.Members.{DiskOf}
use Rattle.book_owned.specs.BackHalf.{back_terms}
use Rattle.book_owned.specs.FrontHalf.{FrontAccount}
use Rattle.book_owned.specs.Split.{terms_of_parts}
use Rattle.book_shared.specs.Basis.{Basis}
use Rattle.book_shared.specs.Plays.{fresh}
use Rattle.book_shared.specs.declared.view.View.{View}
use Rattle.book_shared.specs.declared.fixed.Fixed.{Fixed}

abbrev pub basis_of : {D V : Type 0} → DiskOf D → Fixed (FrontAccount V) (Gated D) → Basis
basis_of disk fixed = record {
  owners = fixed.owners;
  sources = fixed.sources;
  terms = terms_of_parts fixed.front.value.terms (back_terms disk fixed.back.value);
  begun = fixed.front.value.marks;
}

-- so many sources from this one on, with no sample yet
abbrev pub sources_from : ℕ → ℕ → List (ℕ × List Sample)
sources_from first zero = []
sources_from first (suc more) = (first, []) ∷ sources_from (suc first) more

-- the first seat has all sources
abbrev pub first_view : Basis → View
first_view basis = fresh basis (sources_from 0 basis.sources)
