-- What a run that has ended keeps of what the words ask for.
use Rattle.std.proofs.Common.{◌≡◌, ◌≢◌, ◌⊎◌, ◌≤◌, inl, inr, ⊎_elim, ℕ, List, length, Option, Some, None, refl, subst, arith}
use Rattle.std.specs.Prelude.{◌↔◌, ℤ, IfSome, MatchOption}
use Rattle.mdf_format.specs.Cause.{Rose}
use Rattle.mdf_disk.specs.declared.disk.Disk.{Ghosts}
use Rattle.mdf_disk.specs.declared.role.Role.{Role}
use Rattle.mdf_disk.specs.declared.role.Role.TheVariants.{Read, Create}
use Rattle.acq_script.specs.declared.script.Script.{Script}
use Rattle.acq_script.specs.Generated.{generated_script}
use Rattle.mdf_inspect.specs.Check.{verdict_text}
use Rattle.mdf_inspect.specs.Info.{contents_text}
use Rattle.mdf_make.specs.Cut.{Cuts}
use Rattle.mdf_make.specs.Concat.{AreNotJoined, Joins, OneFailed, two_inputs}
use Rattle.mdf_make.specs.Attach.{AreNotCarried, Carries}
use Rattle.mdf_make.specs.Finalize.{Finalizes, IsNotFinalized}
use Rattle.mdf_make.specs.Blamed.{only_blamed}
use Rattle.mdf_make.specs.Making.{one_input}
use Rattle.mdf_make.specs.Sort.{IsNotMeasured, Sorts}
use Rattle.mdf_record.specs.Recovers.{AreRecovered}
use Rattle.mdf_command.specs.Texts.{Prints, usage_line}
use Rattle.mdf_carried.specs.Recovers.{IsReadable}
use Rattle.mdf_record.specs.Recovers.{IsFinalizable}
use Rattle.mdf_command.specs.Faults.{INPUT_LIMIT, READING_LIMIT}
use Rattle.mdf_command.specs.Words.{Asks, AsksInput, AsksOutput, AsksSecond, AsksToMake, IsUsage, Request, shown, made, joined, recorded, input_of, output_of, second_of}
use Rattle.mdf_command.specs.Commands.{request_of}
use Rattle.mdf_command.specs.declared.command.Command.{Command}
use Rattle.mdf_command.specs.declared.command.Aspect.{Aspect}
use Rattle.mdf_command.specs.declared.command.Aspect.TheVariants.{Opened, Verdict, Contents, Table, Attachments}
use Rattle.mdf_command.specs.declared.command.Product.{Product}
use Rattle.mdf_command.specs.declared.command.Product.TheVariants.{Finalized, Sorted, Cut}
use Rattle.mdf_command.specs.declared.command.Union.{Union}
use Rattle.mdf_command.specs.declared.command.Union.TheVariants.{Concat, Attach}
use Rattle.mdf_command.specs.declared.command.Origin.TheVariants.{Source, Generated}
use Rattle.mdf_run.specs.Kept.{AreJoinable, AsksToJoin, HasGroup, IfRecorded, IsCompletable, IsDoneOrLacked, IsDurable, IsListable, IsMeasured, Keeps, OfRecording, RecordsNothing}
use Rattle.mdf_command.specs.Asked.{AsksOnly, IsOnlyMade, IsOnlyRead}
use Rattle.mdf_run.specs.Asked.{IsUnrecorded, TakesNothing, asked_by, file_asked}
use Rattle.mdf_run.specs.Ends.{Blames, Does, EndsJoin, EndsMake, EndsShow, HasEnded, IsCaused}
use Rattle.mdf_run.specs.Told.{Told}
use Rattle.mdf_run.proofs.Scripts.{if_none, of_generated, of_none, of_record}
use Rattle.mdf_run.proofs.Causes.{export_caused, listing_caused, making_caused, opened_caused, reading_caused, widened}
use Rattle.mdf_run.proofs.Joinable.{joinable_is_taken, listable_is_taken, two_are_made}
use Rattle.mdf_make.proofs.Finalizing.{source_is_none}
use Rattle.mdf_run.proofs.Keeps.{was_status}
use Rattle.mdf_run.proofs.Requests.{as_named, one_request}
use Rattle.mdf_run.proofs.Sound.{completable_is_taken, finalizable_is_taken, group_is_exported, listable_is_listed, measured_is_taken, one_is_made, read_is_taken}

-- the words ask for this, or for nothing
abbrev pub Says : List (List ℕ) → Option Request → Type 0
Says said asked = MatchOption asked (IsUsage said) (λ request. Asks said request)

pub said_by : (said : List (List ℕ)) (command : Option Command) → MatchOption command (IsUsage said) (λ c. Asks said (request_of c)) → Says said (asked_by command)
said_by said None says = says
said_by said (Some command) says = says

pub does : (said : List (List ℕ)) (asked : Option Request) (t : Told) → HasEnded asked t → Says said asked → (request : Request) → Asks said request → Does request t
does said None t ended none request asks = absurd (none request asks)
does said (Some one) t ended also request asks = subst (λ r. Does r t) (one_request said one request also asks) ended.ends

-- the input that is blamed
pub blames : (said : List (List ℕ)) (asked : Option Request) (t : Told) → HasEnded asked t → Says said asked → (request : Request) → Asks said request → Blames request t
blames said None t ended none request asks = absurd (none request asks)
blames said (Some one) t ended also request asks = subst (λ r. Blames r t) (one_request said one request also asks) ended.blames

-- a request for no recording
records_nothing : (said : List (List ℕ)) (request : Request) → IsUnrecorded (Some request) → Asks said request → RecordsNothing said
records_nothing said request other asks = (
  λ name also. subst (λ r. IsUnrecorded (Some r)) (one_request said request (recorded name Source) asks also) other,
  λ samples name also. subst (λ r. IsUnrecorded (Some r)) (one_request said request (recorded name (Generated samples)) asks also) other,
)

pub unrecorded : (said : List (List ℕ)) (asked : Option Request) → Says said asked → RecordsNothing said → IsUnrecorded asked
unrecorded said None says nothing = tt
unrecorded said (Some (shown input aspect)) says nothing = tt
unrecorded said (Some (made input output product)) says nothing = tt
unrecorded said (Some (joined input second output union)) says nothing = tt
unrecorded said (Some (recorded output Source)) says nothing = absurd (nothing.0 output says)
unrecorded said (Some (recorded output (Generated samples))) says nothing = absurd (nothing.1 samples output says)

pub takes_nothing : (said : List (List ℕ)) (asked : Option Request) → Says said asked → ((name : List ℕ) → ¬ Asks said (recorded name Source)) → TakesNothing asked
takes_nothing said None says none = tt
takes_nothing said (Some (shown input aspect)) says none = tt
takes_nothing said (Some (made input output product)) says none = tt
takes_nothing said (Some (joined input second output union)) says none = tt
takes_nothing said (Some (recorded output Source)) says none = absurd (none output says)
takes_nothing said (Some (recorded output (Generated samples))) says none = tt

-- what is kept of a recording of the script
of_other : (said : List (List ℕ)) (left : Option (List ℕ)) (P : Script → Type 0) (request : Request) → IsUnrecorded (Some request) → Asks said request → OfRecording said left P
of_other said left P request other asks =
    let nothing = records_nothing said request other asks in
    (λ name also text told script means. absurd (nothing.0 name also), λ samples name also. absurd (nothing.1 samples name also))

pub of_kept : (said : List (List ℕ)) (asked : Option Request) (t : Told) → HasEnded asked t → Says said asked → (P : Script → Type 0)
    → ((script : Script) → Keeps t.out.moment t.now script t.left.disk t.left.history t.left.marks t.sink t.sink' t.status → AreRecovered t.out.moment t.left → P script)
    → OfRecording said t.source.left P
of_kept said None t ended none P keeps = of_none said t.source.left P none
of_kept said (Some (shown input aspect)) t ended asks P keeps = of_other said t.source.left P (shown input aspect) tt asks
of_kept said (Some (made input output product)) t ended asks P keeps = of_other said t.source.left P (made input output product) tt asks
of_kept said (Some (joined input second output union)) t ended asks P keeps = of_other said t.source.left P (joined input second output union) tt asks
of_kept said (Some (recorded output Source)) t ended asks P keeps =
    of_record said t.source.left P output asks (λ text told script means. keeps script (ended.ends.keeps text told script means) ended.ends.recovered)
of_kept said (Some (recorded output (Generated samples))) t ended asks P keeps =
    of_generated said t.source.left P samples output asks (keeps (generated_script samples) ended.ends.keeps ended.ends.recovered)

if_other : (said : List (List ℕ)) (P : Type 0) (request : Request) → IsUnrecorded (Some request) → Asks said request → IfRecorded said P
if_other said P request other asks =
    let nothing = records_nothing said request other asks in (λ name also. absurd (nothing.0 name also), λ samples name also. absurd (nothing.1 samples name also))

pub if_recovered : (said : List (List ℕ)) (asked : Option Request) (t : Told) → HasEnded asked t → Says said asked → (P : Type 0)
    → (AreRecovered t.out.moment t.left → IsDurable t.status t.left.history t.left.marks → P) → IfRecorded said P
if_recovered said None t ended none P recovered = if_none said P none
if_recovered said (Some (shown input aspect)) t ended asks P recovered = if_other said P (shown input aspect) tt asks
if_recovered said (Some (made input output product)) t ended asks P recovered = if_other said P (made input output product) tt asks
if_recovered said (Some (joined input second output union)) t ended asks P recovered = if_other said P (joined input second output union) tt asks
if_recovered said (Some (recorded output origin)) t ended asks P recovered =
    let holds = recovered ended.ends.recovered ended.ends.durable in (λ name also. holds, λ samples name also. holds)

pub only_blames : (said : List (List ℕ)) (asked : Option Request) (t : Told) → HasEnded asked t → Says said asked → ¬ AsksToJoin said → RecordsNothing said
    → t.blamed ≡ only_blamed t.status
only_blames said None t ended says alone nothing = ended.blames
only_blames said (Some (shown input aspect)) t ended says alone nothing = ended.blames
only_blames said (Some (made input output product)) t ended says alone nothing = ended.blames
only_blames said (Some (joined input second output union)) t ended says alone nothing = absurd (alone (input, second, output, union, says))
only_blames said (Some (recorded output Source)) t ended says alone nothing = absurd (nothing.0 output says)
only_blames said (Some (recorded output (Generated samples))) t ended says alone nothing = absurd (nothing.1 samples output says)

-- why a status comes of what was asked for
abbrev Why : List (List ℕ) → Told → Type 0
Why said t = IsCaused (Rose t.source.faults t.source'.faults)
    (Rose t.first.faults t.first'.faults ⊎ (Rose t.out.faults t.left.disk.faults ⊎ (AsksToJoin said × Rose t.second.faults t.second'.faults)))
    (Rose t.sink.faults t.sink'.faults) t.status

module _ (said : List (List ℕ)) (t : Told) where
  of_disk : IsCaused ⊥ (Rose t.first.faults t.first'.faults) (Rose t.sink.faults t.sink'.faults) t.status → Why said t
  of_disk caused = widened _ _ _ _ _ _ t.status caused (λ wrong. absurd wrong) (λ first. inl first) (λ sink. sink)

  of_disks : IsCaused ⊥ (Rose t.first.faults t.first'.faults ⊎ Rose t.out.faults t.left.disk.faults) (Rose t.sink.faults t.sink'.faults) t.status → Why said t
  of_disks caused =
      widened _ _ _ _ _ _ t.status caused (λ wrong. absurd wrong) (λ disks. ⊎_elim (λ first. inl first) (λ out. inr (inl out)) disks) (λ sink. sink)

  show_caused : (aspect : Aspect) → EndsShow aspect t.first t.first' t.sink t.sink' t.status
      → IsCaused ⊥ (Rose t.first.faults t.first'.faults) (Rose t.sink.faults t.sink'.faults) t.status
  show_caused Opened ends = opened_caused t.first t.first' t.sink t.sink' t.status ends
  show_caused Verdict ends = reading_caused t.first t.first' t.sink t.sink' t.status verdict_text ends
  show_caused Contents ends = reading_caused t.first t.first' t.sink t.sink' t.status contents_text ends
  show_caused (Table group) ends = export_caused t.first t.first' t.sink t.sink' t.status group ends.1 ends.0
  show_caused Attachments ends = listing_caused t.first t.first' t.sink t.sink' t.status ends

  make_caused : (product : Product) → EndsMake product t.now t.first t.first' t.out t.left.disk t.sink t.sink' t.status
      → IsCaused ⊥ (Rose t.first.faults t.first'.faults ⊎ Rose t.out.faults t.left.disk.faults) (Rose t.sink.faults t.sink'.faults) t.status
  make_caused Finalized ends =
      making_caused (one_input t.first t.first') (Finalizes t.now) IsNotFinalized source_is_none t.out t.left.disk t.sink t.sink' t.status ends
  make_caused Sorted ends =
      making_caused (one_input t.first t.first') (Sorts t.now) IsNotMeasured (λ file refused. refused) t.out t.left.disk t.sink t.sink' t.status ends
  make_caused (Cut from to) ends =
      making_caused (one_input t.first t.first') (Cuts (record { from = from; to = to; now = t.now })) IsNotMeasured (λ file refused. refused)
      t.out t.left.disk t.sink t.sink' t.status ends

  join_caused : (union : Union) → EndsJoin union t.now t.first t.first' t.second t.second' t.out t.left.disk t.sink t.sink' t.status
      → IsCaused ⊥ (OneFailed t.first t.first' t.second t.second' ⊎ Rose t.out.faults t.left.disk.faults) (Rose t.sink.faults t.sink'.faults) t.status
  join_caused Concat ends =
      making_caused (two_inputs t.now t.first t.first' t.second t.second') Joins AreNotJoined (λ joining refused. refused) t.out t.left.disk t.sink t.sink' t.status ends
  join_caused Attach ends =
      making_caused (two_inputs t.now t.first t.first' t.second t.second') Carries AreNotCarried (λ carried refused. refused) t.out t.left.disk t.sink t.sink' t.status ends

  caused_by : (request : Request) → Asks said request → Does request t → Why said t
  caused_by (shown input aspect) asks ends = of_disk (show_caused aspect ends)
  caused_by (made input output product) asks ends = of_disks (make_caused product ends.0)
  caused_by (joined input second output union) asks ends =
      widened _ _ _ _ _ _ t.status (join_caused union ends.0) (λ wrong. absurd wrong)
      (λ disks. ⊎_elim (λ inputs. ⊎_elim (λ first. inl first.0) (λ other. inr (inr ((input, second, output, union, asks), other.1))) inputs) (λ out. inr (inl out)) disks)
      (λ sink. sink)
  caused_by (recorded output origin) asks ends =
      widened _ _ _ _ _ _ t.status ends.caused (λ source. source) (λ out. inr (inl out)) (λ sink. sink)

  usage_status : Prints usage_line 1 t.sink t.sink' t.status → t.status ≡ 1
  usage_status prints = ⊎_elim (λ is. is) (λ is. is) (was_status usage_line 1 t.sink t.sink' t.status prints)

  why : (asked : Option Request) → HasEnded asked t → Says said asked → t.status ≢ 1 → Why said t
  why None ended none other = absurd (other (usage_status ended.ends))
  why (Some request) ended asks other = caused_by request asks ended.ends

pub usage_is : (said : List (List ℕ)) (asked : Option Request) (t : Told) → HasEnded asked t → Says said asked → (t.status ≡ 1) ↔ IsUsage said
usage_is said None t ended none = (λ is. none, λ is. usage_status said t ended.ends)
usage_is said (Some request) t ended asks = (λ is. absurd ((caused_by said t request asks ended.ends).usage is), λ none. absurd (none request asks))

pub usage_printed : (said : List (List ℕ)) (asked : Option Request) (t : Told) → HasEnded asked t → Says said asked → IsUsage said → Prints usage_line 1 t.sink t.sink' t.status
usage_printed said None t ended says none = ended.ends
usage_printed said (Some request) t ended asks none = absurd (none request asks)

module _ (said : List (List ℕ)) (asked : Option Request) (t : Told) (ended : HasEnded asked t) (says : Says said asked) where
  pub source_failed : t.status ≡ 2 → Rose t.source.faults t.source'.faults
  source_failed is = (why said t asked ended says (λ one. omega (arith, is, one))).source is

  pub disk_failed : t.status ≡ 4
      → Rose t.first.faults t.first'.faults ⊎ (Rose t.out.faults t.left.disk.faults ⊎ (AsksToJoin said × Rose t.second.faults t.second'.faults))
  disk_failed is = (why said t asked ended says (λ one. omega (arith, is, one))).device is

  pub sink_failed : t.status ≡ 6 → Rose t.sink.faults t.sink'.faults
  sink_failed is = (why said t asked ended says (λ one. omega (arith, is, one))).sink is

-- the disks are asked for the files that the words name
module _ (said : List (List ℕ)) (disk : Option (List ℕ × Role)) where
  pub as_input : (asked : Option Request) → Says said asked → AsksOnly Read (file_asked input_of asked) disk → AsksInput said disk
  as_input None none only = inl only
  as_input (Some request) asks only = as_named said Read input_of request disk (input_of request) refl asks only

  pub as_second : (asked : Option Request) → Says said asked → AsksOnly Read (file_asked second_of asked) disk → AsksSecond said disk
  as_second None none only = inl only
  as_second (Some request) asks only = as_named said Read second_of request disk (second_of request) refl asks only

  pub as_output : (asked : Option Request) → Says said asked → AsksOnly Create (file_asked output_of asked) disk → AsksOutput said disk
  as_output None none only = inl only
  as_output (Some request) asks only = as_named said Create output_of request disk (output_of request) refl asks only

no_second : (said : List (List ℕ)) (asked : Option Request) → Says said asked → ¬ AsksToJoin said → file_asked second_of asked ≡ None
no_second said None says none = refl
no_second said (Some (shown input aspect)) says none = refl
no_second said (Some (made input output product)) says none = refl
no_second said (Some (joined input second output union)) says none = absurd (none (input, second, output, union, says))
no_second said (Some (recorded output origin)) says none = refl

no_output : (said : List (List ℕ)) (asked : Option Request) → Says said asked → ((output : List ℕ) → ¬ AsksToMake said output) → file_asked output_of asked ≡ None
no_output said None says none = refl
no_output said (Some (shown input aspect)) says none = refl
no_output said (Some (made input output product)) says none = absurd (none output (made input output product, says, refl))
no_output said (Some (joined input second output union)) says none = absurd (none output (joined input second output union, says, refl))
no_output said (Some (recorded output origin)) says none = absurd (none output (recorded output origin, says, refl))

-- a disk that no word names is as it was
pub second_alone : {D : Type 0} (tells : Ghosts D) (said : List (List ℕ)) (asked : Option Request) (old new : D) → IsOnlyRead tells (file_asked second_of asked) old new
    → Says said asked → ¬ AsksToJoin said → new ≡ old
second_alone tells said asked old new only says none =
    only.untouched (subst (λ name. AsksOnly Read name (tells.asked new)) (no_second said asked says none) only.asked)

pub out_alone : {D : Type 0} (tells : Ghosts D) (said : List (List ℕ)) (asked : Option Request) (old new : D) → IsOnlyMade tells (file_asked output_of asked) old new
    → Says said asked → ((output : List ℕ) → ¬ AsksToMake said output) → new ≡ old
out_alone tells said asked old new only says none =
    only.untouched (subst (λ name. AsksOnly Create name (tells.asked new)) (no_output said asked says none) only.asked)

-- Each sound input is made of and shown, unless a disk fails or memory is wanted.
module _ (said : List (List ℕ)) (asked : Option Request) (t : Told) (ended : HasEnded asked t) (says : Says said asked) where
  pub finalizes : (input output : List ℕ) → Asks said (made input output Finalized) → IfSome t.first.content (λ file. IsFinalizable file → IsDoneOrLacked t.status)
  finalizes input output asks =
      finalizable_is_taken t.first.content (IsDoneOrLacked t.status) (one_is_made (Finalizes t.now) IsNotFinalized IsReadable read_is_taken t.first t.first' t.out t.left.disk
      t.sink t.sink' t.status t.first.content refl (does said asked t ended says (made input output Finalized) asks).0)

  pub completes : (input output : List ℕ) → Asks said (made input output Finalized)
      → IfSome t.first.content (λ file. IsCompletable file → length file ≤ INPUT_LIMIT → IsDoneOrLacked t.status)
  completes input output asks =
      one_is_made (Finalizes t.now) IsNotFinalized IsCompletable completable_is_taken t.first t.first' t.out t.left.disk t.sink t.sink' t.status t.first.content refl
      (does said asked t ended says (made input output Finalized) asks).0

  pub sorts : (input output : List ℕ) → Asks said (made input output Sorted) → IfSome t.first.content (λ file. IsMeasured file → length file ≤ INPUT_LIMIT → IsDoneOrLacked t.status)
  sorts input output asks =
      one_is_made (Sorts t.now) IsNotMeasured IsMeasured measured_is_taken t.first t.first' t.out t.left.disk t.sink t.sink' t.status t.first.content refl
      (does said asked t ended says (made input output Sorted) asks).0

  pub cuts : (input output : List ℕ) (from to : ℤ) → Asks said (made input output (Cut from to))
      → IfSome t.first.content (λ file. IsMeasured file → length file ≤ INPUT_LIMIT → IsDoneOrLacked t.status)
  cuts input output from to asks =
      one_is_made (Cuts (record { from = from; to = to; now = t.now })) IsNotMeasured IsMeasured measured_is_taken t.first t.first' t.out t.left.disk t.sink t.sink' t.status
      t.first.content refl (does said asked t ended says (made input output (Cut from to)) asks).0

  pub exports : (input : List ℕ) (group : ℕ) → Asks said (shown input (Table group))
      → IfSome t.first.content (λ file. HasGroup file group → length file ≤ READING_LIMIT → IsDoneOrLacked t.status)
  exports input group asks =
      group_is_exported group t.first t.first' t.sink t.sink' t.status t.first.content refl (does said asked t ended says (shown input (Table group)) asks).0

  pub lists : (input : List ℕ) → Asks said (shown input Attachments)
      → IfSome t.first.content (λ file. IsListable file → length file ≤ INPUT_LIMIT → IsDoneOrLacked t.status)
  lists input asks =
      listable_is_listed t.first t.first' t.sink t.sink' t.status t.first.content refl (does said asked t ended says (shown input Attachments) asks)

  pub concats : (input other output : List ℕ) → Asks said (joined input other output Concat) → IfSome t.first.content (λ one. IfSome t.second.content (λ two. AreJoinable one two
      → length one ≤ INPUT_LIMIT → length two ≤ INPUT_LIMIT → IsDoneOrLacked t.status))
  concats input other output asks =
      two_are_made Joins AreNotJoined AreJoinable joinable_is_taken t.now t.first t.first' t.second t.second' t.out t.left.disk t.sink t.sink' t.status
      (does said asked t ended says (joined input other output Concat) asks).0 t.first.content t.second.content refl refl

  pub carries : (input other output : List ℕ) → Asks said (joined input other output Attach) → IfSome t.first.content (λ one. IfSome t.second.content (λ two.
      IsListable one × IsMeasured two → length one ≤ INPUT_LIMIT → length two ≤ INPUT_LIMIT → IsDoneOrLacked t.status))
  carries input other output asks =
      two_are_made Carries AreNotCarried (λ one two. IsListable one × IsMeasured two) listable_is_taken t.now t.first t.first' t.second t.second' t.out t.left.disk
      t.sink t.sink' t.status (does said asked t ended says (joined input other output Attach) asks).0 t.first.content t.second.content refl refl
