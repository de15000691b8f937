-- The records and the values that are read are those that were found.
use Rattle.std.proofs.Common.{◌≡◌, ◌+◌, ◌*◌, ◌<◌, ◌≤◌, ℕ, Bool, true, false, List, [], length, get_or, map, take, Option, Some, None, refl, sym, ◌∙◌, ap, subst, arith}
use Rattle.std.specs.Prelude.{slice_index_or, if◌then◌else◌}
use Rattle.std.specs.Option.{option_map}
use Rattle.std.proofs.lemmas.List.{get_or-map, get_or-take, length-map, length-take-le}
use Rattle.mdf_format.specs.Number.{bytes_at}
use Rattle.mdf_num.specs.Span.{IsTold}
use Rattle.mdf_stream.specs.declared.part.Part.{Part}
use Rattle.mdf_stream.specs.Parts.{ArePartsInside, stream_of, stream_size}
use Rattle.mdf_vlsd.specs.Value.{size_there, value_at}
use Rattle.mdf_layout.specs.Layout.{record_size}
use Rattle.mdf_layout.specs.Values.{finder_at}
use Rattle.mdf_layout.proofs.Entered.{finder_found}
use Rattle.mdf_content.specs.declared.found.DataFound.{DataFound}
use Rattle.mdf_content.specs.declared.found.Found.{Found}
use Rattle.mdf_content.specs.Contents.{content_of}
use Rattle.mdf_content.specs.Found.{IsGroupInside}
use Rattle.mdf_content.specs.Samples.{record_at}
use Rattle.mdf_content.specs.Values.{has_value}
use Rattle.mdf_content.proofs.Samples.{HaveRoom, content_at, front_room}
use Rattle.mdf_content.proofs.Takes.{told_long}
use Rattle.mdf_paged.specs.Groups.{held_at, located}

-- record i is what stands at its place
record_there : (stream : List ℕ) (size : ℕ) (places : List ℕ) (count i : ℕ) → HaveRoom (length stream) size places → count ≤ length places → i < count
    → bytes_at size (content_of stream size (take count places)) (i * size) ≡ bytes_at size stream (slice_index_or places i 0)
record_there stream size places count i room few below =
    let long : length (take count places) ≡ count = length-take-le count places few in
    content_at stream size (take count places) i 0 (front_room (length stream) size count places room) (omega (arith, below, long))
    ∙ ap (bytes_at size stream) (get_or-take count places i 0 below)

pub record_read : (told : Option (List ℕ)) (size : ℕ) (f : List ℕ) (parent : DataFound) (group : Found) (i : ℕ) → IsTold told size → told ≡ Some f
    → ArePartsInside size parent.view → IsGroupInside size parent.view parent.lists group → i < group.count
    → bytes_at (record_size group.shape) (stream_of f parent.view) (slice_index_or (slice_index_or parent.lists group.which []) i 0)
    ≡ record_at group.shape (held_at f (located parent group)).content i
record_read told size f parent group i whole is view inside below =
    let places = slice_index_or parent.lists group.which [] in
    let long : length (stream_of f parent.view) ≡ stream_size parent.view = told_long told size f parent.view whole is view in
    let room : HaveRoom (length (stream_of f parent.view)) (record_size group.shape) places =
    subst (λ (n : ℕ). HaveRoom n (record_size group.shape) places) (sym long) inside.room in
    sym (record_there (stream_of f parent.view) (record_size group.shape) places group.count i room inside.few below)

-- how long the value at an offset is
abbrev size_if : Bool → ℕ → Option ℕ
size_if has size = if has then Some size else None

pub size_none : (stream : List ℕ) (offset : ℕ) → false ≡ has_value stream offset
    → ◌≡◌ {A = Option ℕ} None (if has_value stream offset then Some (size_there stream offset) else None)
size_none stream offset is = ap (λ (b : Bool). size_if b (size_there stream offset)) is

pub size_some : (stream : List ℕ) (offset size : ℕ) → true ≡ has_value stream offset → size ≡ size_there stream offset
    → Some size ≡ (if has_value stream offset then Some (size_there stream offset) else None)
size_some stream offset size is same = ap Some same ∙ ap (λ (b : Bool). size_if b (size_there stream offset)) is

-- the value at an offset is what stands behind its length
value_by : (stream : List ℕ) (offset : ℕ) (has : Bool)
    → option_map (λ (n : ℕ). bytes_at n stream (offset + 4)) (if has then Some (size_there stream offset) else None)
    ≡ (if has then Some (bytes_at (size_there stream offset) stream (offset + 4)) else None)
value_by stream offset true = refl
value_by stream offset false = refl

value_of_size : (stream : List ℕ) (offset : ℕ) (size : Option ℕ) → size ≡ (if has_value stream offset then Some (size_there stream offset) else None)
    → option_map (λ (n : ℕ). bytes_at n stream (offset + 4)) size ≡ value_at stream offset
value_of_size stream offset size is = ap (option_map (λ (n : ℕ). bytes_at n stream (offset + 4))) is ∙ value_by stream offset (has_value stream offset)

pub value_none : (stream : List ℕ) (offset : ℕ) → ◌≡◌ {A = Option ℕ} None (if has_value stream offset then Some (size_there stream offset) else None)
    → ◌≡◌ {A = Option (List ℕ)} None (value_at stream offset)
value_none stream offset is = value_of_size stream offset None is

pub value_some : (stream : List ℕ) (offset size : ℕ) (bytes : List ℕ) → Some size ≡ (if has_value stream offset then Some (size_there stream offset) else None)
    → bytes ≡ bytes_at size stream (offset + 4) → Some bytes ≡ value_at stream offset
value_some stream offset size bytes is there = ap Some there ∙ value_of_size stream offset (Some size) is

-- the finder of a stream is that of its bytes
pub finder_there : (f : List ℕ) (views : List (List Part)) (n : ℕ) (d : List Part) → n < length views
    → finder_at (map value_at (map (stream_of f) views)) n ≡ value_at (stream_of f (get_or views n d))
finder_there f views n d below =
    finder_found (map (stream_of f) views) n (stream_of f (get_or views n d)) (omega (arith, below, length-map views (stream_of f)))
    (sym (get_or-map (stream_of f) views n d (stream_of f (get_or views n d)) below))
