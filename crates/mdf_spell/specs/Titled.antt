-- The head of a file that says of itself what was done: its history has one entry more, with that title.
use Rattle.std.specs.Prelude.{ℕ, Bool, List, [], ◌∷◌, ◌++◌}
use Rattle.mdf_block.specs.Draft.{Placed}
use Rattle.mdf_head.specs.declared.entry.Head.{Head}
use Rattle.mdf_head.specs.declared.entry.History.{History}
use Rattle.mdf_tree.specs.Group.{next_if}
use Rattle.mdf_tree.specs.Head.{head_blocks, head_groups, new_entry}

-- the history with one entry more, which says what was done at a time in ns
abbrev pub titled_history : List History → List ℕ → ℕ → List History
titled_history history title now = history ++ new_entry title now ∷ []

-- the head with this history; where more follows, it names the block behind it as the first data group
abbrev pub titled_head : Head → List History → List ℕ → ℕ → Bool → List Placed
titled_head head history title now more =
    let entries = titled_history history title now in head_blocks head entries (next_if more (head_groups head entries))
