-- What the list of the attachments of a file is, stands in it; and for what they are refused is true of it.
use Rattle.std.proofs.Common.{◌≡◌, ℕ, true, false, List, codes, Ok, Err, refl, sym, ◌∙◌, ap, ◌⊎◌, inl, inr}
use Rattle.std.proofs.lemmas.Bool.{leb-true, le-leb, and_parts, and_from, or_cases, or_left, or_right}
use Rattle.std.proofs.lemmas.Slice.Eq.{bytes_eq-Decides}
use Rattle.mdf_format.specs.Number.{bytes_at}
use Rattle.mdf_format.specs.Identification.{IsMdf, HasReadVersion, IsFinalized, version_of}
use Rattle.mdf_block.specs.declared.what.What.{What}
use Rattle.mdf_block.specs.Refusal.{Refusal, NotMdf, Version, Unfinalized, Bad, TooMany, Read}
use Rattle.mdf_block.proofs.Refusals.{bind_ok, bind_err}
use Rattle.mdf_block.proofs.Wholes.{chosen}
use Rattle.mdf_head.specs.declared.identity.Ident.{Ident}
use Rattle.mdf_head.specs.Ident.{is_finalized, is_mdf, has_read_version, the_ident, identify}
use Rattle.mdf_head.proofs.Heads.{ok_is}
use Rattle.mdf_attach.specs.declared.attachment.Attachment.{Attachment}
use Rattle.mdf_attach.specs.declared.fault.AttachFault.{AttachFault}
use Rattle.mdf_attach.specs.declared.fault.AttachFault.TheVariants as faults
use Rattle.mdf_attach.specs.Listed.{attachments_by, header_attachments, attachments}
use Rattle.mdf_attach.specs.Stands.{BeginsFinalized, AreAttachments, AreFew}
use Rattle.mdf_attach.specs.Lacks.{AreRefused}
use Rattle.mdf_attach.proofs.Found.{header_found}
use Rattle.mdf_attach.proofs.Lacking.{what_of, header_lacks, fault_lacks}

module _ (f : List ℕ) where
  mdf_of : is_mdf f ≡ true → IsMdf f
  mdf_of holds =
      let parts = and_parts _ _ holds in record {
        long = leb-true _ _ parts.0;
        marked = elim (or_cases _ _ parts.1) [
          | inl first ↦ inl ((bytes_eq-Decides (bytes_at 8 f 0) (codes "MDF     ")).0 first)
          | inr second ↦ inr ((bytes_eq-Decides (bytes_at 8 f 0) (codes "UnFinMF ")).0 second)
        ];
      }

  not_mdf : is_mdf f ≡ false → ¬ IsMdf f
  not_mdf none is =
      let holds : is_mdf f ≡ true = and_from _ _ (le-leb _ _ is.long) (elim is.marked [
        | inl first ↦ or_left _ _ ((bytes_eq-Decides (bytes_at 8 f 0) (codes "MDF     ")).1 first)
        | inr second ↦ or_right _ _ ((bytes_eq-Decides (bytes_at 8 f 0) (codes "UnFinMF ")).1 second)
      ]) in
      cc

  read_version_of : has_read_version f ≡ true → HasReadVersion f
  read_version_of holds = let parts = and_parts _ _ holds in record { not_below = leb-true _ _ parts.0; not_above = leb-true _ _ parts.1 }

  no_read_version : has_read_version f ≡ false → ¬ HasReadVersion f
  no_read_version none is =
      let holds : has_read_version f ≡ true = and_from _ _ (le-leb _ _ is.not_below) (le-leb _ _ is.not_above) in cc

  -- the identification
  record IsIdentified (id : Ident) : Type 0 where
    mdf : IsMdf f
    version : HasReadVersion f
    is : id ≡ the_ident f

  ident_found : (id : Ident) → identify f ≡ Ok id → IsIdentified id
  unfolding identify
  ident_found id read = elim (chosen (is_mdf f) _ (Err NotMdf) (Ok id) read) [
    | inl mdf ↦ elim (chosen (has_read_version f) (Ok (the_ident f)) (Err (Version (version_of f))) (Ok id) mdf.1) [
      | inl version ↦ record { mdf = mdf_of mdf.0; version = read_version_of version.0; is = sym (ok_is (the_ident f) id version.1) }
      | inr other ↦ let wrong : ◌≡◌ {A = Read Ident} (Err (Version (version_of f))) (Ok id) = other.1 in cc
    ]
    | inr none ↦ let wrong : ◌≡◌ {A = Read Ident} (Err NotMdf) (Ok id) = none.1 in cc
  ]

  ident_lacks : (refusal : Refusal) → identify f ≡ Err refusal
      → ((refusal ≡ NotMdf) × (¬ IsMdf f)) ⊎ ((refusal ≡ Version (version_of f)) × IsMdf f × (¬ HasReadVersion f))
  unfolding identify
  ident_lacks refusal read = elim (chosen (is_mdf f) _ (Err NotMdf) (Err refusal) read) [
    | inl mdf ↦ elim (chosen (has_read_version f) (Ok (the_ident f)) (Err (Version (version_of f))) (Err refusal) mdf.1) [
      | inl version ↦ let wrong : ◌≡◌ {A = Read Ident} (Ok (the_ident f)) (Err refusal) = version.1 in cc
      | inr other ↦
          let same : ◌≡◌ {A = Read Ident} (Err (Version (version_of f))) (Err refusal) = other.1 in
          inr (cc, mdf_of mdf.0, no_read_version other.0)
    ]
    | inr none ↦ let same : ◌≡◌ {A = Read Ident} (Err NotMdf) (Err refusal) = none.1 in inl (cc, not_mdf none.0)
  ]

  begins_of : (id : Ident) → IsIdentified id → id.finalized ≡ true → BeginsFinalized f
  begins_of id all closed = record {
    mdf = all.mdf;
    version = all.version;
    finalized = (bytes_eq-Decides (bytes_at 8 f 0) (codes "MDF     ")).0 (sym (ap (λ (i : Ident). i.finalized) all.is) ∙ closed);
  }

  open_of : (id : Ident) → IsIdentified id → id.finalized ≡ false → ¬ IsFinalized f
  open_of id all left_open is =
      let closed : is_finalized f ≡ true = (bytes_eq-Decides (bytes_at 8 f 0) (codes "MDF     ")).1 is in
      let other : is_finalized f ≡ false = sym (ap (λ (i : Ident). i.finalized) all.is) ∙ left_open in cc

  -- what is found
  pub attachments_stand : (rows : List Attachment) → attachments f ≡ Ok rows → AreAttachments f rows × AreFew rows
  unfolding attachments
  attachments_stand rows is =
      let first = bind_ok (identify f) (attachments_by f) rows is in
      let all = ident_found first.0 first.1 in
      elim (chosen first.0.finalized (header_attachments f) (Err (Unfinalized first.0.std_flags first.0.custom_flags)) (Ok rows) first.2) [
        | inl closed ↦
            let found = header_found f rows closed.1 in
            (record { begins = begins_of first.0 all closed.0; header = found.header; chain = found.chain; each = found.each }, found.few)
        | inr left_open ↦
            let wrong : ◌≡◌ {A = Read (List Attachment)} (Err (Unfinalized first.0.std_flags first.0.custom_flags)) (Ok rows) = left_open.1 in cc
      ]

  -- the same fault as a refusal
  abbrev pub told_as : AttachFault → Refusal
  told_as faults.NotMdf = NotMdf
  told_as (faults.Version ver) = Version ver
  told_as (faults.Unfinalized std custom) = Unfinalized std custom
  told_as (faults.Bad at want) = Bad at want
  told_as (faults.TooMany at) = TooMany (what_of f at) at
  told_as faults.Memory = NotMdf

  -- why there are none
  abbrev pub AreRefusedAs : Refusal → Type 0
  AreRefusedAs refusal = (fault : AttachFault) × AreRefused f fault × (refusal ≡ told_as fault)

  list_lacks : (refusal : Refusal) → BeginsFinalized f → attachments f ≡ Err refusal → header_attachments f ≡ Err refusal → AreRefusedAs refusal
  list_lacks refusal begins all is = elim (header_lacks f refusal is) [
    | inl bad ↦
        let lacks = fault_lacks f (faults.Bad bad.0 bad.1) begins (is ∙ ap Err bad.2) (λ same. cc) in
        (faults.Bad bad.0 bad.1, (all ∙ ap Err bad.2, lacks), bad.2)
    | inr many ↦
        let lacks = fault_lacks f (faults.TooMany many.0) begins (many.1, is ∙ ap Err many.2) (λ same. cc) in
        (faults.TooMany many.0, ((many.1, all ∙ ap Err many.2), lacks), many.2 ∙ ap (λ (what : What). TooMany what many.0) many.3)
  ]

  pub attachments_lack : (refusal : Refusal) → attachments f ≡ Err refusal → AreRefusedAs refusal
  unfolding attachments
  attachments_lack refusal is = elim (bind_err (identify f) (attachments_by f) refusal is) [
    | inl none ↦ elim (ident_lacks refusal none) [
      | inl not ↦ (faults.NotMdf, (is ∙ ap Err not.0, not.1), not.0)
      | inr other ↦ (faults.Version (version_of f), (is ∙ ap Err other.0, (other.1, other.2, refl)), other.0)
    ]
    | inr some ↦
        let id = some.0 in
        let known = ident_found id some.1 in
        elim (chosen id.finalized (header_attachments f) (Err (Unfinalized id.std_flags id.custom_flags)) (Err refusal) some.2) [
          | inl closed ↦ list_lacks refusal (begins_of id known closed.0) is closed.1
          | inr left_open ↦
              let same : ◌≡◌ {A = Read (List Attachment)} (Err (Unfinalized id.std_flags id.custom_flags)) (Err refusal) = left_open.1 in
              let refused : refusal ≡ Unfinalized id.std_flags id.custom_flags = cc in (
                faults.Unfinalized id.std_flags id.custom_flags,
                (
                  is ∙ ap Err refused,
                  (
                    (known.mdf, known.version),
                    open_of id known left_open.0,
                    ap (λ (i : Ident). i.std_flags) known.is,
                    ap (λ (i : Ident). i.custom_flags) known.is,
                  ),
                ),
                refused,
              )
        ]
  ]
