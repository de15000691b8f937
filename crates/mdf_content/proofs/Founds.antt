-- The streams of channels are the values that are found, with the bytes there.
use Rattle.std.proofs.Common.{◌≡◌, ◌+◌, ℕ, Bool, true, false, List, [], ◌∷◌, ◌++◌, map, Option, Some, None, Ok, Err, refl, ◌∙◌, ap}
use Rattle.std.specs.Option.{option_map, option_to_list}
use Rattle.std.specs.Prelude.{if◌then◌else◌, nat_eq}
use Rattle.mdf_block.specs.Every.{every}
use Rattle.mdf_block.specs.Refusal.{Read, ◌>>=◌}
use Rattle.mdf_stream.specs.declared.part.Part.{Part}
use Rattle.mdf_stream.specs.Parts.{stream_of}
use Rattle.mdf_group.specs.declared.row.ChannelRow.{ChannelRow}
use Rattle.mdf_content.specs.Found.{channel_found, channel_place, values_found}
use Rattle.mdf_content.specs.Values.{DataStream, GroupRecords, channel_item, channel_stream, channel_values, has_value, offset_in, offsets_met, streams}

-- a step more before what is turned
pub then_turned : {A B C : Type 0} (turn : B → Read C) (read : Read A) (finds : A → Read B) (reads : A → Read C)
    → ((x : A) → reads x ≡ (finds x >>= turn)) → (read >>= reads) ≡ ((read >>= finds) >>= turn)
then_turned turn (Ok x) finds reads same = same x
then_turned turn (Err refusal) finds reads same = refl

-- what is found of each item is turned
module _ {B C S : Type 0} (turn : B → C) where
  abbrev one : Option B × S → Read (Option C × S)
  one found = Ok (option_map turn found.0, found.1)

  abbrev pub all : List B × S → Read (List C × S)
  all found = Ok (map turn found.0, found.1)

  abbrev joined : {D : Type 0} → Option D → List D × S → Read (List D × S)
  joined first rest = Ok (option_to_list first ++ rest.0, rest.1)

  turned_rest : (first : Option B) (rest : Read (List B × S)) → ((rest >>= all) >>= joined (option_map turn first)) ≡ ((rest >>= joined first) >>= all)
  turned_rest None (Ok rest) = refl
  turned_rest (Some first) (Ok rest) = refl
  turned_rest first (Err refusal) = refl

  turned_first : (first : Read (Option B × S)) (later : S → Read (List C × S)) (lately : S → Read (List B × S))
      → ((left : S) → later left ≡ (lately left >>= all))
      → ((first >>= one) >>= λ found. later found.1 >>= joined found.0) ≡ ((first >>= λ found. lately found.1 >>= joined found.0) >>= all)
  turned_first (Ok found) later lately same =
      ap (λ (rest : Read (List C × S)). rest >>= joined (option_map turn found.0)) (same found.1) ∙ turned_rest found.0 (lately found.1)
  turned_first (Err refusal) later lately same = refl

  -- an item of one list is read as that of another, turned
  every_turned : {A : Type 0} (item : ℕ → A → S → Read (Option B × S)) (other : ℕ → A → S → Read (Option C × S))
      → ((k : ℕ) (x : A) (left : S) → other k x left ≡ (item k x left >>= one)) → (k : ℕ) (xs : List A) (left : S)
      → every other k xs left ≡ (every item k xs left >>= all)
  unfolding every
  every_turned item other same k [] left = refl
  every_turned item other same k (x ∷ xs) left =
      ap (λ (first : Read (Option C × S)). first >>= λ found. every other (k + 1) xs found.1 >>= joined found.0) (same k x left)
      ∙ turned_first (item k x left) (every other (k + 1) xs) (every item (k + 1) xs) (every_turned item other same (k + 1) xs)

-- the list of what is found, with no more
abbrev pub firsts : {B S : Type 0} → List B × S → Read (List B)
firsts found = Ok found.0

abbrev pub turned_list : {B C : Type 0} → (B → C) → List B → Read (List C)
turned_list turn found = Ok (map turn found)

list_turned : {B C S : Type 0} (turn : B → C) (found : Read (List B × S))
    → ((found >>= all turn) >>= firsts) ≡ ((found >>= firsts) >>= turned_list turn)
list_turned turn (Ok found) = refl
list_turned turn (Err refusal) = refl

module _ (file : List ℕ) (held : DataStream) where
  -- the stream of a channel
  channel_is : (records : GroupRecords) (channel : ChannelRow) (c : ℕ)
      → channel_stream file held records channel c ≡ (channel_found file held records channel c >>= λ parts. Ok (stream_of file parts))
  unfolding channel_stream channel_found
  channel_is records channel c =
      let met : List Part → Read (Unit {0}) = λ parts.
      offsets_met (has_value (stream_of file parts)) (offset_in (stream_of file held.parts) records channel) c 0 records.count in
      let here : List Part → Read (List Part) = λ parts. Ok parts in
      let last : List Part → Read (List ℕ) = λ parts. Ok (stream_of file parts) in
      then_turned last (channel_values file held channel.values) (λ parts. met parts >>= λ _. here parts) (λ parts. met parts >>= λ _. last parts)
      (λ parts. then_turned last (met parts) (λ _. here parts) (λ _. last parts) (λ _. refl))

  item_by : (b : Bool) (found : Read (List Part)) (stream : Read (List ℕ)) (left : Unit {0}) → stream ≡ (found >>= λ parts. Ok (stream_of file parts))
      → ◌≡◌ {A = Read (Option (List ℕ) × Unit {0})} (if b then (stream >>= λ one. Ok (Some one, left)) else Ok (None, left))
      ((if b then (found >>= λ parts. Ok (Some parts, left)) else Ok (None, left)) >>= one (stream_of file))
  item_by true (Ok parts) stream left same = ap (λ (one : Read (List ℕ)). one >>= λ one. Ok (Some one, left)) same
  item_by true (Err refusal) stream left same = ap (λ (one : Read (List ℕ)). one >>= λ one. Ok (Some one, left)) same
  item_by false found stream left same = refl

  pub streams_are : (records : GroupRecords) (channels : List ChannelRow)
      → streams file held records channels ≡ (values_found file held records channels >>= turned_list (stream_of file))
  unfolding streams values_found channel_item channel_place
  streams_are records channels =
      ap (λ (found : Read (List (List ℕ) × Unit {0})). found >>= firsts)
      (every_turned (stream_of file) (channel_place file held records) (channel_item file held records)
      (λ c channel left. item_by (nat_eq channel.kind 1) (channel_found file held records channel c) (channel_stream file held records channel c) left
      (channel_is records channel c)) 0 channels tt)
      ∙ list_turned (stream_of file) (every (channel_place file held records) 0 channels tt)
