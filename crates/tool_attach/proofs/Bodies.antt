-- The body of an attachment that is written has its fields and its embedded data.
use Rattle.std.proofs.Common.{◌≡◌, ◌+◌, ℕ, List, [], ◌++◌, length, replicate, refl, sym, ◌∙◌, ap, arith, append-nil, append_assoc, length-append}
use Rattle.std.specs.Int.{to_le_bytes, w16, w64}
use Rattle.mdf_format.specs.Number.{le_number, bytes_at}
use Rattle.mdf_block.proofs.Laying.{bytes_at-part}
use Rattle.mdf_attach.specs.declared.attachment.Attachment.{Attachment}
use Rattle.mdf_attach.specs.Stands.{the_attachment}
use Rattle.mdf_tree.proofs.Numbers.{back16, back64}
use Rattle.tool_attach.specs.Attached.{attachment_body, IsAttachmentWritable}

module _ (row : Attachment) (fits : IsAttachmentWritable row) where
  -- the parts of the body, and what stands before each
  abbrev original_bytes : List ℕ
  original_bytes = to_le_bytes w64 row.original

  abbrev size_bytes : List ℕ
  size_bytes = to_le_bytes w64 (length row.content)

  abbrev front : List ℕ
  front = to_le_bytes w16 row.flags ++ (to_le_bytes w16 row.creator ++ replicate 4 0)

  abbrev front_md5 : List ℕ
  front_md5 = front ++ row.md5

  abbrev front_original : List ℕ
  front_original = front_md5 ++ original_bytes

  abbrev front_size : List ℕ
  front_size = front_original ++ size_bytes

  abbrev body : List ℕ
  body = attachment_body row

  split_md5 : body ≡ front ++ (row.md5 ++ (original_bytes ++ (size_bytes ++ row.content)))
  split_md5 = refl

  split_original : body ≡ front_md5 ++ (original_bytes ++ (size_bytes ++ row.content))
  split_original = split_md5 ∙ sym (append_assoc front row.md5 (original_bytes ++ (size_bytes ++ row.content)))

  split_size : body ≡ front_original ++ (size_bytes ++ row.content)
  split_size = split_original ∙ sym (append_assoc front_md5 original_bytes (size_bytes ++ row.content))

  split_content : body ≡ front_size ++ (row.content ++ [])
  split_content =
      split_size ∙ sym (append_assoc front_original size_bytes row.content) ∙ ap (λ (bytes : List ℕ). front_size ++ bytes) (sym (append-nil row.content))

  long_md5 : length front_md5 ≡ 24
  long_md5 = omega (arith, length-append front row.md5, fits.md5)

  long_original : length front_original ≡ 32
  long_original = omega (arith, length-append front_md5 original_bytes, long_md5)

  long_size : length front_size ≡ 40
  long_size = omega (arith, length-append front_original size_bytes, long_original)

  pub body_long : length body ≡ 40 + length row.content
  body_long = ap (λ (bytes : List ℕ). length bytes) split_content ∙ omega (arith, length-append front_size (row.content ++ []), length-append row.content [], long_size)

  flags_back : le_number (bytes_at 2 body 0) ≡ row.flags
  flags_back = back16 row.flags fits.flags

  creator_back : le_number (bytes_at 2 body 2) ≡ row.creator
  creator_back = back16 row.creator fits.creator

  md5_back : bytes_at 16 body 8 ≡ row.md5
  md5_back = bytes_at-part front row.md5 (original_bytes ++ (size_bytes ++ row.content)) 8 16 refl fits.md5

  original_back : le_number (bytes_at 8 body 24) ≡ row.original
  original_back =
      ap (λ (bytes : List ℕ). le_number (bytes_at 8 bytes 24)) split_original
      ∙ ap le_number (bytes_at-part front_md5 original_bytes (size_bytes ++ row.content) 24 8 long_md5 refl)
      ∙ back64 row.original fits.original

  pub size_back : le_number (bytes_at 8 body 32) ≡ length row.content
  size_back =
      ap (λ (bytes : List ℕ). le_number (bytes_at 8 bytes 32)) split_size
      ∙ ap le_number (bytes_at-part front_original size_bytes row.content 32 8 long_original refl)
      ∙ back64 (length row.content) fits.size

  content_back : bytes_at (length row.content) body 40 ≡ row.content
  content_back =
      ap (λ (bytes : List ℕ). bytes_at (length row.content) bytes 40) split_content
      ∙ bytes_at-part front_size row.content [] 40 (length row.content) long_size refl

  -- an attachment at this place with these fields
  abbrev with_fields : ℕ → ℕ → ℕ → List ℕ → ℕ → List ℕ → Attachment
  with_fields at flags creator md5 original content = record row {
    at = at;
    flags = flags;
    creator = creator;
    md5 = md5;
    original = original;
    content = content;
  }

  pub attachment_back : (at : ℕ) → the_attachment at body row.name row.mime row.comment ≡ record row { at = at }
  attachment_back at =
      let creator = le_number (bytes_at 2 body 2) in
      let md5 = bytes_at 16 body 8 in
      let first = le_number (bytes_at 8 body 24) in
      let content = bytes_at (le_number (bytes_at 8 body 32)) body 40 in
      ap (λ (n : ℕ). with_fields at n creator md5 first content) flags_back
      ∙ ap (λ (n : ℕ). with_fields at row.flags n md5 first content) creator_back
      ∙ ap (λ (bytes : List ℕ). with_fields at row.flags row.creator bytes first content) md5_back
      ∙ ap (λ (n : ℕ). with_fields at row.flags row.creator row.md5 n content) original_back
      ∙ ap (λ (n : ℕ). with_fields at row.flags row.creator row.md5 row.original (bytes_at n body 40)) size_back
      ∙ ap (λ (bytes : List ℕ). with_fields at row.flags row.creator row.md5 row.original bytes) content_back
