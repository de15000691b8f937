-- Blocks along their links, with a count of those that may still come.
use Rattle.std.specs.Prelude.{ℕ, zero, suc, ◌≡◌, nat_eq, if◌then◌else◌, List, [], ◌∷◌, Ok, Err}
use Rattle.mdf_format.specs.Block.{link_at, IsBlock}
use Rattle.mdf_format.specs.declared.kind.Kind.{Kind}
use Rattle.mdf_block.specs.declared.what.What.{What}
use Rattle.mdf_block.specs.Refusal.{TooMany, Read, ◌>>=◌}
use Rattle.mdf_block.specs.Block.{block}

-- what is read at an address: an item, the address of the next one, and what is left for those that follow
abbrev pub Step : Type 0 → Type 0 → Type 0
Step A S = ℕ → S → Read (A × ℕ × S)

-- the items from an address on up to the link 0, how many more may come, and what is left; where no more may come,
-- what stands at the address is looked at for its refusal alone
unfoldable pub chain : {A S : Type 0} → Step A S → (ℕ → Read (List A × ℕ × S)) → ℕ → ℕ → S → Read (List A × ℕ × S)
chain step full zero at left = if nat_eq at 0 then Ok ([], zero, left) else full at
chain step full (suc room) at left =
    if nat_eq at 0 then Ok ([], suc room, left)
    else (step at left >>= λ found. chain step full room found.1 found.2 >>= λ rest. Ok (found.0 ∷ rest.0, rest.1, rest.2))

-- a block past the count: no block of the kind, or too many of them
unfoldable pub full : {A : Type 0} → What → Kind → List ℕ → ℕ → Read A
full what kind file at = block file at kind >>= λ _. Err (TooMany what at)

-- blocks of the kind stand at these places along the first links from an address on, and the last of these links is `last`
unfoldable pub AreAlong : List ℕ → Kind → ℕ → List ℕ → ℕ → Type 0
AreAlong file kind at [] last = last ≡ at
AreAlong file kind at (place ∷ places) last =
    (place ≡ at) × IsBlock file at kind × AreAlong file kind (link_at file at 0) places last
