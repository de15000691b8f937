-- The command words, without the program's name.
use Rattle.std.specs.Prelude.{◌≡◌, ◌⊎◌, ◌≤◌, ◌<◌, ◌^◌, List, [], ◌∷◌, ℕ, ℤ, pos, negsuc, Option, None, Some, codes}
use Rattle.std.specs.Fmt.{decimal, signed_decimal}
use Rattle.mdf_disk.specs.declared.role.Role.{Role}
use Rattle.mdf_disk.specs.declared.role.Role.TheVariants.{Read, Create}
use Rattle.mdf_command.specs.declared.command.Aspect.{Aspect}
use Rattle.mdf_command.specs.declared.command.Aspect.TheVariants.{Opened, Verdict, Contents, Table, Attachments}
use Rattle.mdf_command.specs.declared.command.Product.{Product}
use Rattle.mdf_command.specs.declared.command.Product.TheVariants.{Finalized, Sorted, Cut}
use Rattle.mdf_command.specs.declared.command.Union.{Union}
use Rattle.mdf_command.specs.declared.command.Union.TheVariants.{Concat, Attach}
use Rattle.mdf_command.specs.declared.command.Origin.{Origin}
use Rattle.mdf_command.specs.declared.command.Origin.TheVariants.{Source, Generated}

-- an end of a range of numbers is from -2 ^ 63 to 2 ^ 64 - 1
abbrev pub IsBound : ℤ → Type 0
IsBound (pos n) = n < 2 ^ 64
IsBound (negsuc n) = n < 2 ^ 63

-- a word is this one, in decimal with a `-` before a negative number alone and without leading zeros; and it is none
abbrev pub SaysBound : List ℕ → ℤ → Type 0
SaysBound word bound = (word ≡ signed_decimal bound) × IsBound bound

abbrev pub SaysNoBound : List ℕ → Type 0
SaysNoBound word = (bound : ℤ) → ¬ SaysBound word bound

-- how many samples are generated
abbrev pub IsGenerable : ℕ → Type 0
IsGenerable samples = (1 ≤ samples) × (samples ≤ 1000000)

-- a word says how many, and it does not
abbrev pub IsCount : List ℕ → ℕ → Type 0
IsCount word samples = (word ≡ decimal samples) × IsGenerable samples

abbrev pub IsNoCount : List ℕ → Type 0
IsNoCount word = (samples : ℕ) → ¬ IsCount word samples

-- what the words may ask for: to show a file, to make one of another, to make one of two, or to record one
pub data Request : Type 0 where
  shown : (input : List ℕ) (aspect : Aspect) → Request
  made : (input output : List ℕ) (product : Product) → Request
  joined : (input second output : List ℕ) (union : Union) → Request
  recorded : (output : List ℕ) (origin : Origin) → Request

-- the words of each command
abbrev pub words_of : Request → List (List ℕ)
words_of (shown input Opened) = codes "opened" ∷ input ∷ []
words_of (shown input Verdict) = codes "check" ∷ input ∷ []
words_of (shown input Contents) = codes "info" ∷ input ∷ []
words_of (shown input (Table group)) = codes "export" ∷ input ∷ decimal group ∷ []
words_of (shown input Attachments) = codes "attachments" ∷ input ∷ []
words_of (made input output Finalized) = codes "finalize" ∷ input ∷ output ∷ []
words_of (made input output Sorted) = codes "sort" ∷ input ∷ output ∷ []
words_of (made input output (Cut from to)) = codes "cut" ∷ input ∷ output ∷ signed_decimal from ∷ signed_decimal to ∷ []
words_of (joined input second output Concat) = codes "concat" ∷ input ∷ second ∷ output ∷ []
words_of (joined input second output Attach) = codes "attach" ∷ input ∷ second ∷ output ∷ []
words_of (recorded output Source) = codes "record" ∷ output ∷ []
words_of (recorded output (Generated samples)) = codes "gen" ∷ decimal samples ∷ output ∷ []

-- its numbers are such as it takes
abbrev pub IsInRange : Request → Type 0
IsInRange (shown input (Table group)) = group < 2 ^ 64
IsInRange (made input output (Cut from to)) = IsBound from × IsBound to
IsInRange (recorded output (Generated samples)) = IsGenerable samples
IsInRange _ = Unit {0}

-- the words that ask for it
abbrev pub Asks : List (List ℕ) → Request → Type 0
Asks words request = (words ≡ words_of request) × IsInRange request

-- no command of the table
abbrev pub IsUsage : List (List ℕ) → Type 0
IsUsage words = (request : Request) → ¬ Asks words request

-- the file that it reads, the second one, and the file that it makes
abbrev pub input_of : Request → Option (List ℕ)
input_of (shown input aspect) = Some input
input_of (made input output product) = Some input
input_of (joined input second output union) = Some input
input_of (recorded output origin) = None

abbrev pub second_of : Request → Option (List ℕ)
second_of (joined input second output union) = Some second
second_of _ = None

abbrev pub output_of : Request → Option (List ℕ)
output_of (shown input aspect) = None
output_of (made input output product) = Some output
output_of (joined input second output union) = Some output
output_of (recorded output origin) = Some output

-- the words ask for a file to be made
abbrev pub AsksToMake : List (List ℕ) → List ℕ → Type 0
AsksToMake words output = (request : Request) × Asks words request × (output_of request ≡ Some output)

-- the input disk was asked for nothing, or for the input that the words name, to be read
abbrev pub AsksInput : List (List ℕ) → Option (List ℕ × Role) → Type 0
AsksInput words asked = (asked ≡ None)
    ⊎ ((request : Request) × (input : List ℕ) × Asks words request × (input_of request ≡ Some input) × (asked ≡ Some (input, Read)))

-- so the disk of the second input
abbrev pub AsksSecond : List (List ℕ) → Option (List ℕ × Role) → Type 0
AsksSecond words asked = (asked ≡ None)
    ⊎ ((request : Request) × (second : List ℕ) × Asks words request × (second_of request ≡ Some second) × (asked ≡ Some (second, Read)))

-- the output disk was asked for nothing, or for the output that the words name, to be made
abbrev pub AsksOutput : List (List ℕ) → Option (List ℕ × Role) → Type 0
AsksOutput words asked = (asked ≡ None)
    ⊎ ((request : Request) × (output : List ℕ) × Asks words request × (output_of request ≡ Some output) × (asked ≡ Some (output, Create)))
