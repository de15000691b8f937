-- The files that another tool left unfinished, and what their standard flags say is to be mended.
use Rattle.std.specs.Prelude.{ℕ, ◌≡◌, ◌/◌, ◌%◌, ◌^◌, Bool, ◌||◌, not, nat_eq, if◌then◌else◌, List, Ok, Err}
use Rattle.mdf_block.specs.Refusal.{NotRecording, Read, ◌>>=◌}
use Rattle.mdf_head.specs.declared.identity.Ident.{Ident}
use Rattle.mdf_head.specs.Ident.{identify}

-- bit k of a word is set
abbrev pub has_bit : ℕ → ℕ → Bool
has_bit word k = nat_eq (word / 2 ^ k % 2) 1

-- a word says that cycle counts are to be updated (bit 0), or the length of the last DTBLOCK (bit 2), or both, and nothing else
abbrev pub is_mendable : ℕ → Bool
is_mendable word = nat_eq word 1 || (nat_eq word 4 || nat_eq word 5)

-- an identification that says that the file is unfinalized, in no form of its maker's own, and can be mended
abbrev pub unfinished_by : Ident → Read Ident
unfinished_by id =
    if id.finalized || (not (nat_eq id.custom_flags 0) || not (is_mendable id.std_flags)) then Err (NotRecording id.std_flags id.custom_flags)
    else Ok id

unfoldable pub unfinished : List ℕ → Read Ident
unfinished file = identify file >>= unfinished_by

-- the identification is not refused: the file is one that can be mended
abbrev pub IsUnfinished : List ℕ → Type 0
IsUnfinished file = (id : Ident) × (unfinished file ≡ Ok id)
