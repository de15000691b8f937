use Rattle.std.proofs.Common.{ℕ, List, Ok, sym, ◌∙◌, ap, rules}
use Rattle.mdf_block.specs.Refusal.{Read}
use Rattle.mdf_content.specs.Values.{bytes_of}
use Rattle.mdf_block.proofs.Readers.{says_of}
use Rattle.mdf_content.proofs.streams.linked_stream_in.Goals as goal

-- what is found
abbrev ok_bytes : List ℕ → Read (List ℕ)
ok_bytes bytes = Ok bytes

pub returns : goal.returns
returns g c = record {
  reads = says_of (search rules) (λ f told.
      ap (bytes_of f) (c.in_ok-view.ensures.reads.found f told)
      ∙ ap ok_bytes (sym (c.in_ok-bytes.ensures.reads.seen f (c.in_ok-view.ensures.reads.same ∙ told))));
}
