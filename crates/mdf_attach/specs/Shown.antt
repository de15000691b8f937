-- What is listed of the attachments of a file.
use Rattle.std.specs.Prelude.{ℕ, List, length, map, Ok}
use Rattle.mdf_format.specs.Block.{link_at}
use Rattle.mdf_format.specs.declared.kind.Kind.TheVariants.{Hd}
use Rattle.mdf_block.specs.Refusal.{Read, ◌>>=◌}
use Rattle.mdf_block.specs.declared.place.BlockAt.{BlockAt}
use Rattle.mdf_block.specs.Block.{block}
use Rattle.mdf_block.specs.Chain.{Step, chain}
use Rattle.mdf_attach.specs.declared.attachment.Attachment.{Attachment}
use Rattle.mdf_attach.specs.declared.budget.Budget.{Budget}
use Rattle.mdf_attach.specs.declared.entry.Entry.{Entry}
use Rattle.mdf_attach.specs.declared.field.Fields.{Fields}
use Rattle.mdf_attach.specs.Says.{the_verdict}
use Rattle.mdf_attach.specs.Listed.{attachment, attachment_of_block, past, whole_budget}

-- of an attachment its name, how many bytes it has outside of the file and embedded, and what is said of its MD5
abbrev pub entry_of : Attachment → Entry
entry_of row = record {
  name = row.name;
  original = row.original;
  embedded = length row.content;
  verdict = the_verdict row;
}

-- what is made of each of what is read
abbrev pub each_of : {A B : Type 0} → (A → B) → Read (List A) → Read (List B)
each_of make read = read >>= λ rows. Ok (map make rows)

-- what is made of an attachment, with the address of the next one and what may still come
abbrev pub made_behind : {A : Type 0} → (Attachment → A) → Attachment × ℕ × Budget → Read (A × ℕ × Budget)
made_behind make found = Ok (make found.0, found.1, found.2)

abbrev pub made_of_block : {A : Type 0} → (Attachment → A) → List ℕ → BlockAt → Fields → Budget → Read (A × ℕ × Budget)
made_of_block make file b fields left = attachment_of_block file b fields left >>= made_behind make

-- the same of a step along the chain
unfoldable pub made_step : {A : Type 0} → (Attachment → A) → List ℕ → Step A Budget
made_step make file at left = attachment file at left >>= made_behind make

-- and of all that the header names
unfoldable pub header_made : {A : Type 0} → (Attachment → A) → List ℕ → Read (List A)
header_made make file = do
  b ← block file 64 Hd
  rows ← chain (made_step make file) (past file) 65535 (link_at file b.at 3) whole_budget
  Ok rows.0
