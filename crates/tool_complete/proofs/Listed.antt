-- The loops that list what a data link names.
use Rattle.std.proofs.Common.{◌≡◌, ◌+◌, ◌-◌, ◌<◌, ◌≤◌, ℕ, zero, suc, List, [], ◌∷◌, ◌++◌, Ok, Err, refl, sym, ◌∙◌, ap, arith, append_assoc, append-nil}
use Rattle.std.specs.Prelude.{min}
use Rattle.mdf_format.specs.Block.{link_at}
use Rattle.mdf_format.specs.declared.kind.Kind.TheVariants.{Dl}
use Rattle.mdf_block.specs.declared.fault.BlockFault.{BlockFault}
use Rattle.mdf_block.specs.declared.fault.BlockFault.TheVariants as faults
use Rattle.mdf_block.specs.declared.place.BlockAt.{BlockAt}
use Rattle.mdf_block.specs.Refusal.{Bad, Compressed, Fails, Read, Refusal}
use Rattle.mdf_block.specs.Block.{block, block_refusal}
use Rattle.mdf_stream.specs.Stream.{links_from}
use Rattle.tool_complete.specs.Named.{listed_by, listed_from}

-- a fault of a block is a refusal
pub refused_block : {A : Type 0} (read : Read A) (fault : BlockFault) → Fails (block_refusal fault) read → (refusal : Refusal) × (read ≡ Err refusal)
refused_block read (faults.Bad at want) fails = (Bad at want, fails)
refused_block read (faults.Compressed at) fails = (Compressed at, fails)

module _ (file : List ℕ) where
  links_next : (at k count : ℕ) → k < count
      → links_from file at (k + 1) (count - k) ≡ link_at file at (k + 1) ∷ links_from file at (k + 1 + 1) (count - (k + 1))
  unfolding links_from
  links_next at k count below = let more : count - k ≡ suc (count - (k + 1)) = omega arith in rw more refl

  -- one more link is listed
  pub links_more : (names next : List ℕ) (at k count link : ℕ) (whole : List ℕ) → k < count → link ≡ link_at file at (k + 1)
      → next ≡ names ++ link ∷ [] → names ++ links_from file at (k + 1) (count - k) ≡ whole
      → next ++ links_from file at (k + 1 + 1) (count - (k + 1)) ≡ whole
  links_more names next at k count link whole below is added so_far =
      let rest = links_from file at (k + 1 + 1) (count - (k + 1)) in
      ap (λ (xs : List ℕ). xs ++ rest) added
      ∙ append_assoc names (link ∷ []) rest
      ∙ ap (λ (n : ℕ). names ++ n ∷ rest) is
      ∙ ap (λ (xs : List ℕ). names ++ xs) (sym (links_next at k count below))
      ∙ so_far

  -- all are listed
  pub links_done : (names : List ℕ) (at k count : ℕ) (whole : List ℕ) → count ≤ k → names ++ links_from file at (k + 1) (count - k) ≡ whole → names ≡ whole
  unfolding links_from
  links_done names at k count whole past so_far =
      let none : count - k ≡ 0 = omega arith in
      sym (append-nil names) ∙ ap (λ (n : ℕ). names ++ links_from file at (k + 1) n) (sym none) ∙ so_far

  -- where no block may come, none is listed
  none_by : (behind : ℕ → ℕ → List ℕ) (read : Read BlockAt) → ((at : ℕ) → behind 0 at ≡ []) → listed_by file behind 0 read ≡ []
  unfolding links_from
  none_by behind (Ok b) none =
      let few : min (0 - 1) (b.links - 1) ≡ 0 = omega arith in
      let less : 0 - b.links ≡ 0 = omega arith in
      ap (λ (n : ℕ). links_from file b.at 1 n ++ behind (0 - b.links) (link_at file b.at 0)) few
      ∙ ap (λ (n : ℕ). behind n (link_at file b.at 0)) less
      ∙ none (link_at file b.at 0)
  none_by behind (Err refusal) none = refl

  listed_none : (fuel at : ℕ) → listed_from file fuel 0 at ≡ []
  unfolding listed_from
  listed_none zero at = refl
  listed_none (suc fuel) at = none_by (listed_from file fuel) (block file at Dl) (listed_none fuel)

  -- what is listed so far, and from an address on, is the whole
  pub record LeadsListed (names : List ℕ) (left at : ℕ) (whole : List ℕ) : Type 0 where
    pub fuel : ℕ
    pub enough : left ≤ fuel
    pub same : names ++ listed_from file fuel left at ≡ whole

  -- one more DLBLOCK lists its blocks
  pub listed_more : (names next : List ℕ) (left at less link : ℕ) (b : BlockAt) (whole : List ℕ) → 0 < left → 1 ≤ b.links → block file at Dl ≡ Ok b
      → next ≡ names ++ links_from file b.at 1 (min (left - 1) (b.links - 1)) → link ≡ link_at file b.at 0 → less ≡ left - b.links
      → LeadsListed names left at whole → LeadsListed next less link whole
  unfolding listed_from
  listed_more names next left at less link b whole some linked is added is_link fewer so_far =
      step so_far.fuel so_far.enough so_far.same
    where
      step : (fuel : ℕ) → left ≤ fuel → names ++ listed_from file fuel left at ≡ whole → LeadsListed next less link whole
      step zero enough same = absurd (omega (arith, some, enough))
      step (suc fuel) enough same =
          let here = links_from file b.at 1 (min (left - 1) (b.links - 1)) in
          record {
            fuel = fuel;
            enough = omega (arith, enough, linked, fewer);
            same =
                ap (λ (n : ℕ). next ++ listed_from file fuel n link) fewer
                ∙ ap (λ (n : ℕ). next ++ listed_from file fuel (left - b.links) n) is_link
                ∙ ap (λ (xs : List ℕ). xs ++ listed_from file fuel (left - b.links) (link_at file b.at 0)) added
                ∙ append_assoc names here (listed_from file fuel (left - b.links) (link_at file b.at 0))
                ∙ ap (λ (read : Read BlockAt). names ++ listed_by file (listed_from file fuel) left read) (sym is)
                ∙ same;
          }

  -- no more block may come
  pub listed_full : (names : List ℕ) (left at : ℕ) (whole : List ℕ) → left ≤ 0 → LeadsListed names left at whole → names ≡ whole
  listed_full names left at whole full so_far =
      let none : left ≡ 0 = omega arith in
      sym (append-nil names)
      ∙ ap (λ (xs : List ℕ). names ++ xs) (sym (listed_none so_far.fuel at))
      ∙ ap (λ (n : ℕ). names ++ listed_from file so_far.fuel n at) (sym none)
      ∙ so_far.same

  -- no DLBLOCK stands there
  pub listed_ends : (names : List ℕ) (left at : ℕ) (whole : List ℕ) (refusal : Refusal) → block file at Dl ≡ Err refusal
      → LeadsListed names left at whole → names ≡ whole
  unfolding listed_from
  listed_ends names left at whole refusal is so_far = by_fuel so_far.fuel so_far.same
    where
      by_fuel : (fuel : ℕ) → names ++ listed_from file fuel left at ≡ whole → names ≡ whole
      by_fuel zero same = sym (append-nil names) ∙ same
      by_fuel (suc fuel) same =
          sym (append-nil names) ∙ ap (λ (read : Read BlockAt). names ++ listed_by file (listed_from file fuel) left read) (sym is) ∙ same
