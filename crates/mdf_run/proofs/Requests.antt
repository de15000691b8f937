-- The words ask for one request at most.
use Rattle.std.proofs.Common.{◌≡◌, ◌⊎◌, ◌+◌, ◌∙◌, inl, inr, ℕ, List, ◌∷◌, length, Option, Some, None, refl, sym, ap, arith}
use Rattle.std.specs.Prelude.{◌||◌, nat_eq, if◌then◌else◌}
use Rattle.mdf_disk.specs.declared.role.Role.{Role}
use Rattle.mdf_command.specs.Words.{Asks, Request, shown, made, joined, recorded, words_of}
use Rattle.mdf_command.specs.declared.command.Aspect.{Aspect}
use Rattle.mdf_command.specs.declared.command.Aspect.TheVariants.{Opened, Verdict, Contents, Table, Attachments}
use Rattle.mdf_command.specs.declared.command.Product.{Product}
use Rattle.mdf_command.specs.declared.command.Product.TheVariants.{Finalized, Sorted, Cut}
use Rattle.mdf_command.specs.declared.command.Union.{Union}
use Rattle.mdf_command.specs.declared.command.Union.TheVariants.{Concat, Attach}
use Rattle.mdf_command.specs.declared.command.Origin.{Origin}
use Rattle.mdf_command.specs.declared.command.Origin.TheVariants.{Source, Generated}
use Rattle.mdf_run.proofs.Scripts.{one_number}
use Rattle.mdf_run.proofs.Words.{same_group, same_range}
use Rattle.mdf_command.specs.Asked.{AsksOnly}

-- the first letter of the first word and the length of the rest tell the commands apart
abbrev tag : List (List ℕ) → ℕ
tag ((letter ∷ rest) ∷ others) = letter + length rest
tag _ = 0

apart : (said : List (List ℕ)) (one other : Request) → Asks said one → Asks said other → tag (words_of one) ≡ tag (words_of other)
apart said one other asks also = ap tag (sym asks.0 ∙ also.0)

-- and so the kinds: these are of the commands that show a file, make one of another, and make one of two
abbrev kind_of : ℕ → ℕ
kind_of n =
    if nat_eq n 116 || nat_eq n 103 || nat_eq n 108 || nat_eq n 106 || nat_eq n 107 then 0
    else (if nat_eq n 109 || nat_eq n 118 || nat_eq n 101 then 1 else (if nat_eq n 104 || nat_eq n 102 then 2 else 3))

abbrev kind : Request → ℕ
kind (shown input aspect) = 0
kind (made input output product) = 1
kind (joined input second output union) = 2
kind (recorded output origin) = 3

kind_is : (request : Request) → kind_of (tag (words_of request)) ≡ kind request
kind_is (shown input Opened) = refl
kind_is (shown input Verdict) = refl
kind_is (shown input Contents) = refl
kind_is (shown input (Table group)) = refl
kind_is (shown input Attachments) = refl
kind_is (made input output Finalized) = refl
kind_is (made input output Sorted) = refl
kind_is (made input output (Cut from to)) = refl
kind_is (joined input second output Concat) = refl
kind_is (joined input second output Attach) = refl
kind_is (recorded output Source) = refl
kind_is (recorded output (Generated samples)) = refl

one_shown : (said : List (List ℕ)) (input input' : List ℕ) (aspect aspect' : Aspect) → Asks said (shown input aspect) → Asks said (shown input' aspect')
    → shown input aspect ≡ shown input' aspect'
one_shown said input input' Opened Opened asks also = cc (asks.0, also.0)
one_shown said input input' Verdict Verdict asks also = cc (asks.0, also.0)
one_shown said input input' Contents Contents asks also = cc (asks.0, also.0)
one_shown said input input' (Table group) (Table group') asks also =
    let same : group ≡ group' = same_group said input input' group group' asks also in cc (asks.0, also.0, same)
one_shown said input input' Attachments Attachments asks also = cc (asks.0, also.0)
one_shown said input input' aspect aspect' asks also = absurd (omega (arith, apart said (shown input aspect) (shown input' aspect') asks also))

one_made : (said : List (List ℕ)) (input output input' output' : List ℕ) (product product' : Product) → Asks said (made input output product)
    → Asks said (made input' output' product') → made input output product ≡ made input' output' product'
one_made said input output input' output' Finalized Finalized asks also = cc (asks.0, also.0)
one_made said input output input' output' Sorted Sorted asks also = cc (asks.0, also.0)
one_made said input output input' output' (Cut from to) (Cut from' to') asks also =
    let range = same_range said input output input' output' from to from' to' asks also in
    let first : from ≡ from' = range.0 in
    let last : to ≡ to' = range.1 in
    cc (asks.0, also.0, first, last)
one_made said input output input' output' product product' asks also =
    absurd (omega (arith, apart said (made input output product) (made input' output' product') asks also))

one_joined : (said : List (List ℕ)) (input second output input' second' output' : List ℕ) (union union' : Union) → Asks said (joined input second output union)
    → Asks said (joined input' second' output' union') → joined input second output union ≡ joined input' second' output' union'
one_joined said input second output input' second' output' Concat Concat asks also = cc (asks.0, also.0)
one_joined said input second output input' second' output' Attach Attach asks also = cc (asks.0, also.0)
one_joined said input second output input' second' output' union union' asks also =
    absurd (omega (arith, apart said (joined input second output union) (joined input' second' output' union') asks also))

one_recorded : (said : List (List ℕ)) (output output' : List ℕ) (origin origin' : Origin) → Asks said (recorded output origin)
    → Asks said (recorded output' origin') → recorded output origin ≡ recorded output' origin'
one_recorded said output output' Source Source asks also = cc (asks.0, also.0)
one_recorded said output output' (Generated samples) (Generated samples') asks also =
    let same : samples ≡ samples' = one_number said samples output samples' output' asks also in cc (asks.0, also.0, same)
one_recorded said output output' origin origin' asks also =
    absurd (omega (arith, apart said (recorded output origin) (recorded output' origin') asks also))

pub one_request : (said : List (List ℕ)) (one other : Request) → Asks said one → Asks said other → one ≡ other
one_request said (shown input aspect) (shown input' aspect') asks also = one_shown said input input' aspect aspect' asks also
one_request said (made input output product) (made input' output' product') asks also = one_made said input output input' output' product product' asks also
one_request said (joined input second output union) (joined input' second' output' union') asks also =
    one_joined said input second output input' second' output' union union' asks also
one_request said (recorded output origin) (recorded output' origin') asks also = one_recorded said output output' origin origin' asks also
one_request said one other asks also =
    let kinds : kind one ≡ kind other = sym (kind_is one) ∙ ap kind_of (apart said one other asks also) ∙ kind_is other in
    absurd (omega (arith, kinds))

-- a disk that was asked for nothing but the file that a request names
pub as_named : (said : List (List ℕ)) (role : Role) (file_of : Request → Option (List ℕ)) (request : Request) (disk : Option (List ℕ × Role)) (name : Option (List ℕ))
    → file_of request ≡ name → Asks said request → AsksOnly role name disk
    → (disk ≡ None) ⊎ ((r : Request) × (file : List ℕ) × Asks said r × (file_of r ≡ Some file) × (disk ≡ Some (file, role)))
as_named said role file_of request disk None is asks only = inl only
as_named said role file_of request disk (Some name) is asks (inl none) = inl none
as_named said role file_of request disk (Some name) is asks (inr named) = inr (request, name, asks, is, named)
