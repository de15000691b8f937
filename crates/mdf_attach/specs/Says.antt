-- What is said of the MD5 of an attachment.
use Rattle.std.specs.Prelude.{ℕ, ◌≡◌, ◌≢◌, ◌/◌, ◌%◌, Bool, ◌&&◌, nat_eq, if◌then◌else◌, List}
use Rattle.std.specs.Str.{bytes_eq}
use Rattle.md5.specs.Md5.{md5}
use Rattle.mdf_attach.specs.declared.attachment.Attachment.{Attachment}
use Rattle.mdf_attach.specs.declared.answer.Verdict.{Verdict}
use Rattle.mdf_attach.specs.declared.answer.Verdict.TheVariants as says

-- bits 0 and 2 of the flags are set, and bit 1 is not: the data is embedded as it is, and its MD5 is valid
abbrev pub IsChecked : ℕ → Type 0
IsChecked flags = (flags % 2 ≡ 1) × (flags / 2 % 2 ≡ 0) × (flags / 4 % 2 ≡ 1)

abbrev pub HasVerdict : Attachment → Verdict → Type 0
HasVerdict attachment says.Ok = IsChecked attachment.flags × (md5 attachment.content ≡ attachment.md5)
HasVerdict attachment says.Differs = IsChecked attachment.flags × (md5 attachment.content ≢ attachment.md5)
HasVerdict attachment says.Unchecked = ¬ IsChecked attachment.flags

-- the same as a value, which is printed
abbrev pub is_checked : ℕ → Bool
is_checked flags = nat_eq (flags % 2) 1 && nat_eq (flags / 2 % 2) 0 && nat_eq (flags / 4 % 2) 1

abbrev pub compared : List ℕ → List ℕ → Verdict
compared digest stored = if bytes_eq digest stored then says.Ok else says.Differs

abbrev pub verdict_of : ℕ → List ℕ → List ℕ → Verdict
verdict_of flags stored content = if is_checked flags then compared (md5 content) stored else says.Unchecked

abbrev pub the_verdict : Attachment → Verdict
the_verdict attachment = verdict_of attachment.flags attachment.md5 attachment.content
