-- A record has the same sample where its offsets are moved as the values are that they find, and no other channel changes.
use Rattle.std.proofs.Common.{◌≡◌, ◌≢◌, ◌+◌, ◌*◌, ◌/◌, ◌%◌, ◌<◌, ◌≤◌, ℕ, List, [], ◌∷◌, length, get_or, drop, Option, Some, None, refl, sym, ◌∙◌, ap, subst, arith}
use Rattle.std.proofs.lemmas.List.{get_or-take, get_or-drop, length-take-le, length-drop}
use Rattle.std.specs.List.{AllByRecursion}
use Rattle.std.specs.Int.{bit_at}
use Rattle.std.specs.Option.{option_and_then, option_map}
use Rattle.mdf_bits.proofs.Spots.{lies_at, same_number}
use Rattle.mdf_bits.specs.Field.{bit_within}
use Rattle.mdf_format.specs.Field.{Spot, HasBit, bit_of, covered_end, field_number, signed_number}
use Rattle.mdf_format.specs.Number.{bytes_at}
use Rattle.mdf_format.specs.Row.{AreBytesPlaced}
use Rattle.mdf_layout.specs.Rule.{IsPlacedAs, bits_in, spot_in}
use Rattle.mdf_layout.specs.Values.{Finder, entry_of, first_finder, finders_behind, is_valid, sample_by, value_in}
use Rattle.mdf_layout.specs.declared.field.FieldKind.{FieldKind}
use Rattle.mdf_layout.specs.declared.field.FieldKind.TheVariants.{Unsigned, Signed, Fixed, Variable, Virtual}
use Rattle.mdf_layout.specs.declared.field.FieldRow.{FieldRow}
use Rattle.mdf_layout.specs.declared.sample.Value.{Value}
use Rattle.mdf_layout.specs.declared.sample.Value.TheVariants as value
use Rattle.mdf_layout.specs.declared.sample.Entry.{Entry}
use Rattle.mdf_layout.proofs.Entered.{parts_of_entries}
use Rattle.tool_concat.specs.Moved.{offset_in}
use Rattle.tool_concat.proofs.Finds.{FindsSame, finds_behind}
use Rattle.mdf_schedule.specs.Records.{AreBytes}
use Rattle.mdf_schedule.proofs.Bits.{same_bytes}
use Rattle.mdf_schedule.proofs.Stored.{left, taken}

-- a channel whose field is in both records the same
pub record IsFieldKept (row : FieldRow) (old new : List ℕ) : Type 0 where
  pub real : row.kind ≢ Virtual
  pub number : row.kind ≢ Variable → field_number (spot_in row) old ≡ field_number (spot_in row) new
  pub bytes : row.kind ≡ Fixed → bytes_at (row.bits / 8) old row.byte ≡ bytes_at (row.bits / 8) new row.byte

-- what is mapped of two options that hold the same
mapped_same : {A B : Type 0} (f : A → B) (one other : Option A) (y : B) → ((x : A) → one ≡ Some x → other ≡ Some x) → option_map f one ≡ Some y
    → option_map f other ≡ Some y
mapped_same f None other y same is = absurd (cc is)
mapped_same f (Some x) other y same is = ap (option_map f) (same x refl) ∙ is

value_same : (kind : FieldKind) (spot : Spot) (old new : List ℕ) (find other : Finder) (i j : ℕ) (v : Value) → kind ≢ Virtual
    → (kind ≢ Variable → field_number spot old ≡ field_number spot new)
    → (kind ≡ Fixed → bytes_at (spot.bits / 8) old spot.byte ≡ bytes_at (spot.bits / 8) new spot.byte)
    → (kind ≡ Variable → (u : List ℕ) → find (field_number spot old) ≡ Some u → other (field_number spot new) ≡ Some u)
    → value_in kind spot old find i ≡ Some v → value_in kind spot new other j ≡ Some v
value_same Unsigned spot old new find other i j v real number bytes finds is =
    ap (λ (n : ℕ). Some (value.Unsigned n)) (sym (number (λ wrong. let no : ◌≡◌ {A = FieldKind} Unsigned Variable = wrong in cc))) ∙ is
value_same Signed spot old new find other i j v real number bytes finds is =
    ap (λ (n : ℕ). Some (value.Signed (signed_number spot.bits n))) (sym (number (λ wrong. let no : ◌≡◌ {A = FieldKind} Signed Variable = wrong in cc))) ∙ is
value_same Fixed spot old new find other i j v real number bytes finds is = ap (λ (b : List ℕ). Some (value.Bytes b)) (sym (bytes refl)) ∙ is
value_same Variable spot old new find other i j v real number bytes finds is =
    mapped_same {A = List ℕ} {B = Value} value.Bytes (find (field_number spot old)) (other (field_number spot new)) v (finds refl) is
value_same Virtual spot old new find other i j v real number bytes finds is = absurd (real refl)

entry_same : (row : FieldRow) (old new inval : List ℕ) (find other : Finder) (i j : ℕ) (entry : Entry) → IsFieldKept row old new
    → (row.kind ≡ Variable → (u : List ℕ) → find (offset_in row old) ≡ Some u → other (offset_in row new) ≡ Some u)
    → entry_of row old inval find i ≡ Some entry → entry_of row new inval other j ≡ Some entry
entry_same row old new inval find other i j entry kept finds is =
    let make : Value → Entry = λ (v : Value). record { value = v; valid = is_valid row inval } in
    mapped_same {A = Value} {B = Entry} make (value_in row.kind (spot_in row) old find i) (value_in row.kind (spot_in row) new other j) entry
    (λ v here. value_same row.kind (spot_in row) old new find other i j v kept.real kept.number
    (λ fixed. subst (λ (n : ℕ). bytes_at (n / 8) old row.byte ≡ bytes_at (n / 8) new row.byte) (sym (ap (λ (k : FieldKind). bits_in k row.bits) fixed)) (kept.bytes fixed))
    finds here) is

pub sample_same : (rows : List FieldRow) (old new inval : List ℕ) (finders others : List Finder) (i j : ℕ) (entries : List Entry)
    → AllByRecursion (λ row. IsFieldKept row old new) rows → FindsSame rows old new finders others
    → sample_by rows old inval finders i ≡ Some entries → sample_by rows new inval others j ≡ Some entries
unfolding sample_by
sample_same [] old new inval finders others i j entries kept finds is = is
sample_same (row ∷ rows) old new inval finders others i j entries kept finds is =
    let behind = finders_behind row finders in
    let after = finders_behind row others in
    let parts = parts_of_entries (entry_of row old inval (first_finder finders) i) (sample_by rows old inval behind i) entries is in
    let one = entry_same row old new inval (first_finder finders) (first_finder others) i j parts.0 kept.0
    (λ kind u found. finds 0 row u (record { there = refl; kind = kind }) found) parts.2 in
    let more = sample_same rows old new inval behind after i j parts.1 kept.1 (finds_behind row rows old new finders others finds) parts.3 in
    ap (option_and_then (λ (entry : Entry). option_map (λ (rest : List Entry). entry ∷ rest) (sample_by rows new inval after j))) one
    ∙ ap (option_map (λ (rest : List Entry). parts.0 ∷ rest)) more
    ∙ ap Some parts.4

-- a channel with bits of its own has its place
inside_of : (kind : FieldKind) (n : ℕ) (spot : Spot) → kind ≢ Virtual → IsPlacedAs kind n spot → covered_end spot ≤ n
inside_of Unsigned n spot real at = at.inside
inside_of Signed n spot real at = at.inside
inside_of Fixed n spot real at = at.inside
inside_of Variable n spot real at = at.inside
inside_of Virtual n spot real at = absurd (real refl)

fixed_at : (kind : FieldKind) (n : ℕ) (spot : Spot) → kind ≡ Fixed → IsPlacedAs kind n spot → AreBytesPlaced n spot
fixed_at kind n spot is at = subst (λ (k : FieldKind). IsPlacedAs k n spot) is at

-- bytes of a field whose bits are the same
bit_in : (n at : ℕ) (bytes : List ℕ) (p : ℕ) → p < 8 * n → bit_of (bytes_at n bytes at) p ≡ bit_of bytes (8 * at + p)
bit_in n at bytes p below =
    let byte : (8 * at + p) / 8 ≡ at + p / 8 = omega arith in
    let bit : (8 * at + p) % 8 ≡ p % 8 = omega arith in
    ap (λ (b : ℕ). bit_at b (p % 8))
    (get_or-take n (drop at bytes) (p / 8) 0 (omega (arith, below)) ∙ get_or-drop at bytes (p / 8) 0 ∙ ap (λ (k : ℕ). get_or bytes k 0) (sym byte))
    ∙ ap (λ (b : ℕ). bit_at (get_or bytes ((8 * at + p) / 8) 0) b) (sym bit)

slice_long : (n at : ℕ) (bytes : List ℕ) → at + n ≤ length bytes → length (bytes_at n bytes at) ≡ n
slice_long n at bytes within = length-take-le n (drop at bytes) (omega (arith, within, length-drop at bytes))

fixed_same : (n : ℕ) (s : Spot) (old new : List ℕ) → AreBytesPlaced n s → length old ≡ n → length new ≡ n → AreBytes old → AreBytes new
    → ((p : ℕ) → HasBit s p → bit_of new p ≡ bit_of old p) → bytes_at (s.bits / 8) old s.byte ≡ bytes_at (s.bits / 8) new s.byte
fixed_same n s old new at long long' small small' same =
    let count = s.bits / 8 in
    let within : s.byte + count ≤ n = omega (arith, at.bit, at.whole, at.inside) in
    let first = slice_long count s.byte old (omega (arith, within, long)) in
    let second = slice_long count s.byte new (omega (arith, within, long')) in
    same_bytes (bytes_at count old s.byte) (bytes_at count new s.byte) (first ∙ sym second)
    (taken count (drop s.byte old) (left s.byte old small)) (taken count (drop s.byte new) (left s.byte new small'))
    (λ p below.
    let inside : p < 8 * count = omega (arith, below, first) in
    let here = lies_at s (8 * s.byte + p) (omega arith) (omega (arith, inside, at.bit, at.whole)) in
    bit_in count s.byte old p inside
    ∙ sym (same (8 * s.byte + p) (record {
      k = bit_within s (8 * s.byte + p);
      low = omega (arith, at.bit);
      high = omega (arith, here.within, at.bit, at.whole);
      there = here.there;
    }))
    ∙ sym (bit_in count s.byte new p inside))

-- so a channel is kept whose bits are
pub field_kept : (n : ℕ) (row : FieldRow) (old new : List ℕ) → IsPlacedAs row.kind n (spot_in row) → row.kind ≢ Virtual → length old ≡ n → length new ≡ n
    → AreBytes old → AreBytes new → (row.kind ≢ Variable → (p : ℕ) → HasBit (spot_in row) p → bit_of new p ≡ bit_of old p) → IsFieldKept row old new
field_kept n row old new at real long long' small small' same =
    let inside = inside_of row.kind n (spot_in row) real at in
    record {
      real = real;
      number = λ other. sym (same_number (spot_in row) old new (omega (arith, inside, long)) (omega (arith, inside, long')) (same other));
      bytes = λ fixed.
          let bits : (spot_in row).bits ≡ row.bits = ap (λ (k : FieldKind). bits_in k row.bits) fixed in
          let other : row.kind ≢ Variable = λ wrong. let no : ◌≡◌ {A = FieldKind} Fixed Variable = sym fixed ∙ wrong in cc in
          subst (λ (b : ℕ). bytes_at (b / 8) old row.byte ≡ bytes_at (b / 8) new row.byte) bits
          (fixed_same n (spot_in row) old new (fixed_at row.kind n (spot_in row) fixed at) long long' small small' (same other));
    }
