-- Bytes that are written into the buffer of a block.
use Rattle.std.proofs.Common.{◌≡◌, ℕ, ◌+◌, ◌-◌, ◌≤◌, List, [], ◌∷◌, ◌++◌, length, take, drop, replicate, refl, sym, ◌∙◌, ap, arith, length-append, length-drop, append_assoc, take-append-drop}
use Rattle.std.proofs.lemmas.List.{take_at, drop_at, take-take, take-append-le, drop-append-le, drop-take, drop-drop, length-take-le, length-replicate, replicate-append-replicate}
use Rattle.std.proofs.Math.Seq.{take-add}
use borrow.Rule.Slice.PartMut.{put_mid, post_of}
use Rattle.std.specs.Prelude.{codes}
use Rattle.std.specs.Int.{to_le_bytes, w32, w64}
use Rattle.mdf_format.specs.Number.{bytes_at, patched}
use Rattle.mdf_format.specs.Form.{lead}
use Rattle.mdf_gate.specs.Written.{block_header, lead_bytes, list_block, payload_of, room_of}
use Rattle.mdf_format.specs.declared.form.Form.{Form}
use Rattle.mdf_format.specs.declared.form.Form.TheVariants.{Bare, Listed}

-- bytes put over others leave the length
pub length-patched : (at : ℕ) (part items : List ℕ) → at + length part ≤ length items → length (patched at part items) ≡ length items
length-patched at part items within =
    omega (
      arith,
      within,
      length-append (take at items ++ part) (drop (at + length part) items),
      length-append (take at items) part,
      length-take-le at items (omega (arith, within)),
      length-drop (at + length part) items,
    )

-- bytes behind those that were put from a place on
pub put_behind : (from : ℕ) (xs part items : List ℕ) (at : ℕ) → from ≤ length items → from + length xs ≡ at
    → patched at part (patched from xs items) ≡ patched from (xs ++ part) items
put_behind from xs part items at within is_at =
    let front = take from items in
    let rest = drop (from + length xs) items in
    let long : length (front ++ xs) ≡ at = omega (arith, is_at, length-append front xs, length-take-le from items within) in
    let behind : drop (at + length part) ((front ++ xs) ++ rest) ≡ drop (from + length (xs ++ part)) items =
    sym (drop-drop (length part) at ((front ++ xs) ++ rest)) ∙ ap (drop (length part)) (drop_at (front ++ xs) rest at long)
    ∙ drop-drop (length part) (from + length xs) items ∙ ap (λ (n : ℕ). drop n items) (omega (arith, length-append xs part)) in
    ap (λ (before : List ℕ). before ++ part ++ drop (at + length part) ((front ++ xs) ++ rest)) (take_at (front ++ xs) rest at long)
    ∙ ap (λ (end : List ℕ). (front ++ xs) ++ part ++ end) behind
    ∙ ap (λ (before : List ℕ). before ++ drop (from + length (xs ++ part)) items) (append_assoc front xs part)

-- the same where what was put is known by its equations
put_on : (from : ℕ) (xs part items old new : List ℕ) (at : ℕ) → from ≤ length items → from + length xs ≡ at
    → new ≡ patched at part old → old ≡ patched from xs items → new ≡ patched from (xs ++ part) items
put_on from xs part items old new at within is_at second first = second ∙ ap (patched at part) first ∙ put_behind from xs part items at within is_at

-- bytes that are put from a place on leave those before it, and are put into those from an earlier place on
pub take_patched : (n at : ℕ) (part items : List ℕ) → n ≤ at → at ≤ length items → take n (patched at part items) ≡ take n items
take_patched n at part items before within =
    let front = take at items in
    let rest = drop (at + length part) items in
    ap (take n) (append_assoc front part rest)
    ∙ take-append-le n front (part ++ rest) (omega (arith, before, length-take-le at items within))
    ∙ take-take n at items before

pub drop_patched : (n at : ℕ) (part items : List ℕ) → n + at ≤ length items → drop n (patched (n + at) part items) ≡ patched at part (drop n items)
drop_patched n at part items within =
    let front = take (n + at) items in
    let rest = drop (n + at + length part) items in
    let behind : rest ≡ drop (at + length part) (drop n items) =
    ap (λ (m : ℕ). drop m items) (omega arith) ∙ sym (drop-drop (at + length part) n items) in
    ap (drop n) (append_assoc front part rest)
    ∙ drop-append-le n front (part ++ rest) (omega (arith, length-take-le (n + at) items within))
    ∙ ap (λ (xs : List ℕ). xs ++ (part ++ rest)) (drop-take n at items)
    ∙ ap (λ (xs : List ℕ). take at (drop n items) ++ (part ++ xs)) behind
    ∙ sym (append_assoc (take at (drop n items)) part (drop (at + length part) (drop n items)))

module _ (items : List ℕ) (used : ℕ) (within : 23 + used ≤ length items) where
  abbrev pub data_bytes : List ℕ
  data_bytes = bytes_at used items 23

  length-data : length data_bytes ≡ used
  length-data = length-take-le used (drop 23 items) (omega (arith, length-drop 23 items))

  -- what is put behind the data
  behind : (part : List ℕ) → drop 23 (patched (23 + used) part items) ≡ data_bytes ++ (part ++ drop (23 + used + length part) items)
  behind part =
      let rest = drop (23 + used + length part) items in
      let long : 23 ≤ length (take (23 + used) items) = omega (arith, length-take-le (23 + used) items within) in
      ap (drop 23) (append_assoc (take (23 + used) items) part rest)
      ∙ drop-append-le 23 (take (23 + used) items) (part ++ rest) long
      ∙ ap (λ (front : List ℕ). front ++ (part ++ rest)) (drop-take 23 used items)

  pub still_there : (part : List ℕ) → bytes_at used (patched (23 + used) part items) 23 ≡ data_bytes
  still_there part = ap (take used) (behind part) ∙ take_at data_bytes _ used length-data

  pub headed : (header : List ℕ) → length header ≡ 23 → bytes_at used (patched 0 header items) 23 ≡ data_bytes
  headed header is =
      ap (take used) (drop_at header (drop (0 + length header) items) 23 is)
      ∙ ap (λ (n : ℕ). take used (drop n items)) is_from
    where
      is_from : 0 + length header ≡ 23
      is_from = omega (arith, is)

  front_is : (header : List ℕ) → length header ≡ 23 → take (23 + used) (patched 0 header items) ≡ header ++ data_bytes
  front_is header is =
      let from : 0 + length header ≡ 23 = omega (arith, is) in
      ap (λ (n : ℕ). take (23 + used) (header ++ drop n items)) from
      ∙ ap (λ (rest : List ℕ). take (23 + used) (header ++ rest)) (sym (take-append-drop used (drop 23 items)))
      ∙ ap (take (23 + used)) (sym (append_assoc header data_bytes (drop used (drop 23 items))))
      ∙ take_at (header ++ data_bytes) (drop used (drop 23 items)) (23 + used) (omega (arith, is, length-data, length-append header data_bytes))

  -- the header, the data, and some of the zeros behind them
  pub framed : (header : List ℕ) (fill more : ℕ) → length header ≡ 23
      → take (23 + used + fill) (patched (23 + used) (replicate (fill + more) 0) (patched 0 header items)) ≡ header ++ data_bytes ++ replicate fill 0
  framed header fill more is =
      let zeros : List ℕ = replicate fill 0 in
      let others : List ℕ = replicate more 0 in
      let rest = drop (23 + used + length (replicate {A = ℕ} (fill + more) 0)) (patched 0 header items) in
      let split : replicate (fill + more) 0 ≡ zeros ++ others = sym (replicate-append-replicate fill more 0) in
      ap (λ (front : List ℕ). take (23 + used + fill) (front ++ replicate (fill + more) 0 ++ rest)) (front_is header is)
      ∙ ap (λ (part : List ℕ). take (23 + used + fill) (header ++ data_bytes ++ part ++ rest)) split
      ∙ ap (λ (whole : List ℕ). take (23 + used + fill) (whole ++ rest)) (sym (append_assoc (header ++ data_bytes) zeros others))
      ∙ ap (take (23 + used + fill)) (append_assoc (header ++ data_bytes ++ zeros) others rest)
      ∙ take_at (header ++ data_bytes ++ zeros) (others ++ rest) (23 + used + fill)
      (omega (arith, is, length-data, length-append header data_bytes, length-append (header ++ data_bytes) zeros, length-replicate {A = ℕ} fill 0))

-- the header of a data block but for its first byte
abbrev head_rest : ℕ → List ℕ
head_rest count = drop 1 (block_header count)

-- the zero bytes up to the next place and on it
abbrev zeros_behind : ℕ → List ℕ
zeros_behind count = replicate (room_of Bare count - (23 + count)) 0

-- the header, the data and the zero bytes, in a buffer whose data stand behind a header
block_framed : (items : List ℕ) (used : ℕ) → 31 + used ≤ length items
    → take (room_of Bare used) (patched (23 + used) (replicate 8 0) (patched 0 (head_rest used) items))
    ≡ head_rest used ++ bytes_at used items 23 ++ zeros_behind used
block_framed items used within =
    let inside : 23 + used ≤ length items = omega (arith, within) in
    let fill = room_of Bare used - (23 + used) in
    let room : room_of Bare used ≡ 23 + used + fill = omega arith in
    let eight : 8 ≡ fill + (8 - fill) = omega arith in
    ap (λ (n : ℕ). take n (patched (23 + used) (replicate 8 0) (patched 0 (head_rest used) items))) room
    ∙ ap (λ (n : ℕ). take (23 + used + fill) (patched (23 + used) (replicate n 0) (patched 0 (head_rest used) items))) eight
    ∙ framed items used inside (head_rest used) fill (8 - fill) refl

-- what stands in the buffer once it is framed: what was before the header, the header, the data, and zero bytes
module _ (old led new : List ℕ) (used : ℕ) (within : 87 + used ≤ length old) (long : length led ≡ length old) (same : drop 56 led ≡ drop 56 old)
    (is : new ≡ patched (79 + used) (replicate 8 0) (patched 56 (head_rest used) led)) where
  abbrev headed_led : List ℕ
  headed_led = patched 56 (head_rest used) led

  long_headed : length headed_led ≡ length old
  long_headed = length-patched 56 (head_rest used) led (omega (arith, within, long)) ∙ long

  behind_is : drop 56 new ≡ patched (23 + used) (replicate 8 0) (patched 0 (head_rest used) (drop 56 old))
  behind_is =
      let at : 79 + used ≡ 56 + (23 + used) = omega arith in
      ap (drop 56) (is ∙ ap (λ (n : ℕ). patched n (replicate 8 0) headed_led) at)
      ∙ drop_patched 56 (23 + used) (replicate 8 0) headed_led (omega (arith, within, long_headed))
      ∙ ap (patched (23 + used) (replicate 8 0)) (drop_patched 56 0 (head_rest used) led (omega (arith, within, long)))
      ∙ ap (λ (xs : List ℕ). patched (23 + used) (replicate 8 0) (patched 0 (head_rest used) xs)) same

  front_is_led : take 56 new ≡ take 56 led
  front_is_led =
      ap (take 56) is
      ∙ take_patched 56 (79 + used) (replicate 8 0) headed_led (omega arith) (omega (arith, within, long_headed))
      ∙ take_patched 56 56 (head_rest used) led (omega arith) (omega (arith, within, long))

  rest_long : 31 + used ≤ length (drop 56 old)
  rest_long = omega (arith, within, length-drop 56 old)

  pub length-framed : length new ≡ length old
  length-framed =
      ap length is ∙ length-patched (79 + used) (replicate 8 0) headed_led (omega (arith, within, long_headed)) ∙ long_headed

  data_at : (items : List ℕ) → bytes_at used (drop 56 items) 23 ≡ bytes_at used items 79
  data_at items = ap (take used) (drop-drop 23 56 items)

  pub data_framed : bytes_at used new 79 ≡ bytes_at used old 79
  data_framed =
      let rest = drop 56 old in
      let inside : 23 + used ≤ length rest = omega (arith, rest_long) in
      let headed_rest = patched 0 (head_rest used) rest in
      let still : 23 + used ≤ length headed_rest =
      omega (arith, inside, length-patched 0 (head_rest used) rest (omega (arith, inside))) in
      sym (data_at new)
      ∙ ap (λ (xs : List ℕ). bytes_at used xs 23) behind_is
      ∙ still_there headed_rest used still (replicate 8 0)
      ∙ headed rest used inside (head_rest used) refl
      ∙ data_at old

  data_long : length (bytes_at used old 79) ≡ used
  data_long = length-take-le used (drop 79 old) (omega (arith, within, length-drop 79 old))

  block_is : take (room_of Bare used) (drop 56 new) ≡ head_rest used ++ bytes_at used old 79 ++ zeros_behind used
  block_is =
      ap (take (room_of Bare used)) behind_is
      ∙ block_framed (drop 56 old) used rest_long
      ∙ ap (λ (xs : List ℕ). head_rest used ++ xs ++ zeros_behind used) (data_at old)

  pub payload_framed : (form : Form) (place offset : ℕ)
      → bytes_at (lead form) led (56 - lead form) ≡ take (lead form) (drop 1 (lead_bytes form place offset used ++ block_header used))
      → bytes_at (room_of form used) new (56 - lead form) ≡ payload_of form place offset (bytes_at used old 79)
  payload_framed Bare place offset lead_is =
      block_is ∙ ap (λ (n : ℕ). head_rest n ++ bytes_at used old 79 ++ zeros_behind n) (sym data_long)
  payload_framed Listed place offset lead_is =
      let room : room_of Listed used ≡ 56 + room_of Bare used = omega arith in
      let list : List ℕ = drop 1 (list_block place (place + room_of Listed used) offset) ++ 35 ∷ [] in
      ap (λ (n : ℕ). take n new) room
      ∙ take-add 56 (room_of Bare used) new
      ∙ ap (λ (xs : List ℕ). xs ++ take (room_of Bare used) (drop 56 new)) (front_is_led ∙ lead_is)
      ∙ ap (λ (xs : List ℕ). list ++ xs) block_is
      ∙ ap (λ (n : ℕ). drop 1 (list_block place (place + room_of Listed n) offset) ++ 35 ∷ [] ++ (head_rest n ++ bytes_at used old 79 ++ zeros_behind n)) (sym data_long)
      ∙ ap (λ (n : ℕ). drop 1 (list_block place (place + room_of Listed (length (bytes_at used old 79))) offset) ++ 35 ∷ []
      ++ (head_rest (length (bytes_at used old 79)) ++ bytes_at used old 79 ++ replicate n 0)) same_fill
    where
      same_fill : room_of Bare (length (bytes_at used old 79)) - (23 + length (bytes_at used old 79))
          ≡ room_of Listed (length (bytes_at used old 79)) - (79 + length (bytes_at used old 79))
      same_fill = omega arith

-- the header in its three parts
pub header_written : (items one two three : List ℕ) (count number : ℕ) → 79 ≤ length items → number ≡ count
    → one ≡ patched 56 (codes "#DT" ++ replicate 4 0) items
    → two ≡ patched 63 (to_le_bytes w64 (24 + number)) one
    → three ≡ patched 71 (to_le_bytes w64 0) two
    → three ≡ patched 56 (head_rest count) items
header_written items one two three count number within is first second third =
    let mark = codes "#DT" ++ replicate 4 0 in
    let size = to_le_bytes w64 (24 + number) in
    let inside : 56 ≤ length items = omega (arith, within) in
    put_on 56 (mark ++ size) (to_le_bytes w64 0) items two three 71 inside refl third (put_on 56 mark size items one two 63 inside refl second first)
    ∙ ap (λ (n : ℕ). patched 56 (head_rest n) items) is

-- the list block in its parts, and the first byte behind it
pub list_written : (items a b c d e f g h : List ℕ) (place next offset : ℕ) → 56 ≤ length items
    → a ≡ patched 0 (codes "#DL" ++ replicate 4 0) items
    → b ≡ patched 7 (to_le_bytes w64 56) a
    → c ≡ patched 15 (to_le_bytes w64 2) b
    → d ≡ patched 23 (to_le_bytes w64 next) c
    → e ≡ patched 31 (to_le_bytes w64 (place + 56)) d
    → f ≡ patched 39 (replicate 4 0 ++ to_le_bytes w32 1) e
    → g ≡ patched 47 (to_le_bytes w64 offset) f
    → h ≡ patched 55 (35 ∷ []) g
    → h ≡ patched 0 (drop 1 (list_block place next offset) ++ 35 ∷ []) items
list_written items a b c d e f g h place next offset within is_a is_b is_c is_d is_e is_f is_g is_h =
    let none : 0 ≤ length items = omega arith in
    let one = codes "#DL" ++ replicate 4 0 in
    let two = one ++ to_le_bytes w64 56 in
    let three = two ++ to_le_bytes w64 2 in
    let four = three ++ to_le_bytes w64 next in
    let five = four ++ to_le_bytes w64 (place + 56) in
    let six = five ++ (replicate 4 0 ++ to_le_bytes w32 1) in
    let seven = six ++ to_le_bytes w64 offset in
    put_on 0 seven (35 ∷ []) items g h 55 none refl is_h
    (put_on 0 six (to_le_bytes w64 offset) items f g 47 none refl is_g
    (put_on 0 five (replicate 4 0 ++ to_le_bytes w32 1) items e f 39 none refl is_f
    (put_on 0 four (to_le_bytes w64 (place + 56)) items d e 31 none refl is_e
    (put_on 0 three (to_le_bytes w64 next) items c d 23 none refl is_d
    (put_on 0 two (to_le_bytes w64 2) items b c 15 none refl is_c
    (put_on 0 one (to_le_bytes w64 56) items a b 7 none refl is_b is_a))))))

-- a list block that was put at the start
module _ (items new : List ℕ) (place next offset : ℕ) (within : 79 ≤ length items)
    (is : new ≡ patched 0 (drop 1 (list_block place next offset) ++ 35 ∷ []) items) where
  pub list_in_front : take 56 new ≡ drop 1 (list_block place next offset) ++ 35 ∷ []
  list_in_front = ap (take 56) is ∙ take_at (drop 1 (list_block place next offset) ++ 35 ∷ []) (drop 56 items) 56 refl

  pub same_behind : drop 56 new ≡ drop 56 items
  same_behind = ap (drop 56) is ∙ drop_at (drop 1 (list_block place next offset) ++ 35 ∷ []) (drop 56 items) 56 refl

  pub length-listed : length new ≡ length items
  length-listed = ap length is ∙ length-patched 0 (drop 1 (list_block place next offset) ++ 35 ∷ []) items (omega (arith, within))

-- what is written of a framed buffer
pub written_payload : (items new slice body old : List ℕ) (form : Form) (place offset used len from leads room : ℕ) → len ≡ length items
    → length new ≡ length items → old ≡ items → slice ≡ take len (new ++ drop (length new) items)
    → leads ≡ lead form → from ≡ 56 - leads → room ≡ room_of form used
    → bytes_at (room_of form used) new (56 - lead form) ≡ payload_of form place offset (bytes_at used old 79) → bytes_at used items 79 ≡ body
    → bytes_at (from + room - from) slice from ≡ payload_of form place offset body
written_payload items new slice body old form place offset used len from leads room is_len long is_old is_slice is_leads is_from is_room framed_new is_body =
    let begins : from ≡ 56 - lead form = is_from ∙ ap (λ (n : ℕ). 56 - n) is_leads in
    let count : from + room - from ≡ room_of form used = omega (arith, is_room) in
    ap (λ (n : ℕ). bytes_at n slice from) count
    ∙ ap (λ (n : ℕ). bytes_at (room_of form used) slice n) begins
    ∙ ap (λ (xs : List ℕ). bytes_at (room_of form used) xs (56 - lead form)) (is_slice ∙ take_at new (drop (length new) items) len (omega (arith, long, is_len)))
    ∙ framed_new
    ∙ ap (λ (bytes : List ℕ). payload_of form place offset (bytes_at used bytes 79)) is_old
    ∙ ap (payload_of form place offset) is_body

-- bytes that are put behind the data, where what stands before them stays
pub put_behind_data : (items new : List ℕ) (used size len : ℕ) → len ≡ length items → length new ≡ length items → take (79 + used) new ≡ take (79 + used) items
    → bytes_at (used + size) (take len (new ++ drop (length new) items)) 79 ≡ bytes_at used items 79 ++ bytes_at size new (79 + used)
put_behind_data items new used size len is_len long before =
    ap (λ (xs : List ℕ). bytes_at (used + size) xs 79) (take_at new (drop (length new) items) len (omega (arith, long, is_len)))
    ∙ take-add used size (drop 79 new)
    ∙ ap (λ (xs : List ℕ). xs ++ take size (drop used (drop 79 new))) (sym (drop-take 79 used new) ∙ ap (drop 79) before ∙ drop-take 79 used items)
    ∙ ap (λ (xs : List ℕ). bytes_at used items 79 ++ take size xs) (drop-drop used 79 new)

-- bytes that were put over those from a place on are there
pub over_the_rest : (items new : List ℕ) (at count size : ℕ) → at ≤ length items → size ≤ length new → bytes_at size (put_mid at count items new) at ≡ take size new
over_the_rest items new at count size within few =
    ap (take size) (drop_at (take at items) (new ++ post_of at count items) at (length-take-le at items within))
    ∙ take-append-le size new (post_of at count items) few
