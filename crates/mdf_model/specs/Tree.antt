-- The identification of a finalized file, and what its links lead to from the header on.
use Rattle.std.specs.Prelude.{ℕ, ◌+◌, if◌then◌else◌, List, Ok, Err}
use Rattle.mdf_format.specs.Block.{link_at}
use Rattle.mdf_format.specs.declared.kind.Kind.TheVariants.{Hd}
use Rattle.mdf_block.specs.Refusal.{Unfinalized, Read, ◌>>=◌}
use Rattle.mdf_block.specs.Block.{block}
use Rattle.mdf_conv.specs.declared.limits.Budget.{Budget}
use Rattle.mdf_conv.specs.Left.{with_dropped, link_count}
use Rattle.mdf_head.specs.declared.identity.Ident.{Ident}
use Rattle.mdf_head.specs.declared.entry.Head.{Head}
use Rattle.mdf_head.specs.declared.entry.History.{History}
use Rattle.mdf_head.specs.Ident.{identify}
use Rattle.mdf_head.specs.Head.{head}
use Rattle.mdf_group.specs.Group.{groups}
use Rattle.mdf_model.specs.declared.tree.Tree.{Tree}

-- an identification that says that the file is finalized
abbrev pub finalized_by : Ident → Read Ident
finalized_by id = if id.finalized then Ok id else Err (Unfinalized id.std_flags id.custom_flags)

unfoldable pub finalized : List ℕ → Read Ident
finalized file = identify file >>= finalized_by

-- what may come of a file: 67,108,864 bytes of texts and 1,048,576 conversions
abbrev pub whole_budget : Budget
whole_budget = record { text = 67108864; conversions = 1048576; conversion_bytes = 134217728; dropped = 0 }

-- the header and the history, and what may still come
abbrev pub header_of : List ℕ → Budget → Read (Head × List History × Budget)
header_of file left = head file left.text >>= λ first. Ok (first.0.0, first.0.1, record left { text = first.1 })

-- how many of the links of the header at an address to its first hierarchy, attachment and event name something; they are
-- passed over
abbrev pub passed_over : List ℕ → ℕ → ℕ
passed_over file at = link_count (link_at file at 2) + link_count (link_at file at 3) + link_count (link_at file at 4)

-- the header, looked at first for the links that are passed over, with the history, and then the data groups
unfoldable pub tree : List ℕ → Read Tree
tree file = do
  b ← block file 64 Hd
  first ← header_of file whole_budget
  rows ← groups file first.0.first_dg first.2
  Ok (record {
    head = first.0;
    history = first.1;
    rows = rows.0;
    dropped = (with_dropped (passed_over file b.at) rows.1).dropped;
  })
