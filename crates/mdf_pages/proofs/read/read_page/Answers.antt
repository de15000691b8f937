use Rattle.std.proofs.Common.{◌≡◌, ◌*◌, length, drop, sym, ◌∙◌, ap, refl, arith, rules}
use Rattle.std.proofs.lemmas.List.{take_at}
use Rattle.mdf_format.specs.Number.{bytes_at}
use Rattle.mdf_pages.specs.Page.{page_size}
use Rattle.mdf_pages.proofs.Fronts.{page_read}
use Rattle.mdf_pages.proofs.read.read_page.Goals as goal

pub returns-clause-page : goal.returns-clause-page
returns-clause-page g c =
    let items = c.in_ok-bytes.bytes.items in
    let read = c.read_at.new.buf in
    let len : c.in_ok-bytes.bytes.len ≡ length items = search rules in
    let long : length read ≡ length items = c.read_at.auto.buf ∙ ap length c.deref_mut.ensures.value in
    let whole : c.from_vec.result ≡ read = c.from_vec.ensures ∙ take_at read (drop (length read) items) c.in_ok-bytes.bytes.len (long ∙ sym len) in
    let count : length c.deref_mut.result.now ≡ c.min-count.result = search rules in
    let size : length c.deref_mut.result.now ≡ page_size c.args.size c.args.page = omega (arith, count, c.min-count.ensures) in (
      ap length whole ∙ c.read_at.auto.buf ∙ size,
      λ file told.
          let read_is : read ≡ bytes_at (length c.deref_mut.result.now) file (c.args.page * 65536) = rw told at c.in-Ok.ensures.bytes in
          let file_size : length file ≡ c.args.size = rw told at c.requires.sized in
          whole ∙ read_is ∙ page_read file c.args.size c.args.page (c.args.page * 65536) (length c.deref_mut.result.now) file_size refl size,
    )
