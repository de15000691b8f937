-- The identification as it is read.
use Rattle.std.specs.Prelude.{ℕ, ◌≡◌, ◌↔◌, Bool, ◌&&◌, ◌||◌, nat_le, IsTrue, if◌then◌else◌, List, length, codes, Option, Some, Ok, Err}
use Rattle.std.specs.Str.{bytes_eq}
use Rattle.mdf_format.specs.Number.{bytes_at}
use Rattle.mdf_format.specs.Identification.{IsFinalized, IsMdf, HasReadVersion, version_of, standard_flags, custom_flags}
use Rattle.mdf_block.specs.Refusal.{Refusal, NotMdf, Version, Read}
use Rattle.mdf_head.specs.declared.identity.Ident.{Ident}
use Rattle.mdf_head.specs.declared.fault.IdentFault.{IdentFault}
use Rattle.mdf_head.specs.declared.fault.IdentFault.TheVariants as faults

-- what the identification says
pub record IsIdent (file : List ℕ) (id : Ident) : Type 0 where
  pub finalized : IsTrue id.finalized ↔ IsFinalized file
  pub ver : id.ver ≡ version_of file
  pub std_flags : id.std_flags ≡ standard_flags file
  pub custom_flags : id.custom_flags ≡ custom_flags file

-- why there is none
abbrev pub HasNoIdent : List ℕ → IdentFault → Type 0
HasNoIdent file faults.NotMdf = ¬ IsMdf file
HasNoIdent file (faults.Version ver) = IsMdf file × (¬ HasReadVersion file) × (ver ≡ version_of file)

-- the same as tests
abbrev pub is_finalized : List ℕ → Bool
is_finalized file = bytes_eq (bytes_at 8 file 0) (codes "MDF     ")

abbrev pub is_mdf : List ℕ → Bool
is_mdf file = nat_le 64 (length file) && (is_finalized file || bytes_eq (bytes_at 8 file 0) (codes "UnFinMF "))

abbrev pub has_read_version : List ℕ → Bool
has_read_version file = nat_le 400 (version_of file) && nat_le (version_of file) 419

abbrev pub the_ident : List ℕ → Ident
the_ident file = record {
  finalized = is_finalized file;
  ver = version_of file;
  std_flags = standard_flags file;
  custom_flags = custom_flags file;
}

-- what the first 64 bytes are
unfoldable pub identify : List ℕ → Read Ident
identify file =
    if is_mdf file then (if has_read_version file then Ok (the_ident file) else Err (Version (version_of file))) else Err NotMdf

abbrev pub ident_refusal : IdentFault → Option Refusal
ident_refusal faults.NotMdf = Some NotMdf
ident_refusal (faults.Version ver) = Some (Version ver)
