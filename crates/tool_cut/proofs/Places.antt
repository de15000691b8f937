-- Records that are kept are moved to the front, one behind the other.
use Rattle.std.proofs.Common.{◌≡◌, ◌+◌, ◌-◌, ◌*◌, ◌≤◌, ℕ, ℤ, Bool, List, [], ◌++◌, length, take, drop, refl, sym, ◌∙◌, ap, arith, drop-drop, length-drop, take-add, zero-mul, mul-le-mul_right}
use Rattle.std.proofs.Math.Seq.{paste, take-paste, drop-paste}
use Rattle.std.specs.Prelude.{if◌then◌else◌}
use Rattle.mdf_format.specs.Number.{bytes_at}
use Rattle.mdf_content.specs.Samples.{record_at}
use Rattle.mdf_layout.specs.Layout.{Layout, record_size}
use Rattle.mdf_layout.specs.declared.field.FieldRow.{FieldRow}
use Rattle.tool_cut.specs.Kept.{is_kept, kept_bytes, kept_count}
use Rattle.tool_cut.specs.Master.{lies_between}
use Rattle.tool_sort.proofs.Behind.{one_longer}
use Rattle.tool_cut.proofs.Keepings.{bytes_more, count_more}

-- what is copied to a place before its own, or to its own
module _ (xs : List ℕ) (size from to : ℕ) (inside : from + size ≤ length xs) (before : to ≤ from) where
  long : size ≤ length (drop from xs)
  long = omega (arith, length-drop from xs, inside)

  pub copied_front : take (to + size) (paste xs to (drop from xs) size) ≡ take to xs ++ bytes_at size xs from
  copied_front = take-paste xs to (drop from xs) size (omega (arith, before, inside)) long

  pub copied_rest : drop (from + size) (paste xs to (drop from xs) size) ≡ drop (from + size) xs
  copied_rest =
      let behind : from + size ≡ to + size + (from - to) = omega (arith, before) in
      ap (λ (n : ℕ). drop n (paste xs to (drop from xs) size)) behind
      ∙ sym (drop-drop (from - to) (to + size) (paste xs to (drop from xs) size))
      ∙ ap (drop (from - to)) (drop-paste xs to (drop from xs) size (omega (arith, before, inside)) long)
      ∙ drop-drop (from - to) (to + size) xs
      ∙ ap (λ (n : ℕ). drop n xs) (sym behind)

-- a record that is moved to a place before its own
module _ (xs ys : List ℕ) (size i kept : ℕ) (inside : i * size + size ≤ length xs) (before : kept ≤ i)
    (is : ys ≡ paste xs (kept * size) (drop (i * size) xs) (i * size + size - i * size)) where
  moved : ys ≡ paste xs (kept * size) (drop (i * size) xs) size
  moved =
      let count : i * size + size - i * size ≡ size = omega arith in
      is ∙ ap (paste xs (kept * size) (drop (i * size) xs)) count

  to_before : kept * size ≤ i * size
  to_before = mul-le-mul_right size before

  pub moved_front : take ((kept + 1) * size) ys ≡ take (kept * size) xs ++ bytes_at size xs (i * size)
  moved_front =
      ap (λ (n : ℕ). take n ys) (sym (one_longer kept size))
      ∙ ap (take (kept * size + size)) moved
      ∙ copied_front xs size (i * size) (kept * size) inside to_before

  pub moved_rest : drop ((i + 1) * size) ys ≡ drop ((i + 1) * size) xs
  moved_rest =
      ap (λ (n : ℕ). drop n ys) (sym (one_longer i size))
      ∙ ap (drop (i * size + size)) moved
      ∙ copied_rest xs size (i * size) (kept * size) inside to_before
      ∙ ap (λ (n : ℕ). drop n xs) (one_longer i size)

-- and one that stays where it is
pub stayed_front : (xs : List ℕ) (size i kept : ℕ) → kept ≡ i → take ((kept + 1) * size) xs ≡ take (kept * size) xs ++ bytes_at size xs (i * size)
stayed_front xs size i kept same =
    ap (λ (n : ℕ). take n xs) (sym (one_longer kept size))
    ∙ take-add (kept * size) size xs
    ∙ ap (λ (n : ℕ). take (kept * size) xs ++ bytes_at size xs (n * size)) same

-- of the first i records of all those that are kept stand in front, and behind the first i all stands as it was
pub record Keeps (layout : Layout) (keeps : ℕ → Bool) (all : List ℕ) (i kept : ℕ) (content : List ℕ) : Type 0 where
  pub count : kept ≡ kept_count keeps i
  pub front : take (kept * record_size layout) content ≡ kept_bytes keeps (record_at layout all) i
  pub rest : drop (i * record_size layout) content ≡ drop (i * record_size layout) all
  pub len : length content ≡ length all

-- before the first
pub keeps_none : (layout : Layout) (keeps : ℕ → Bool) (all : List ℕ) → Keeps layout keeps all 0 0 all
unfolding kept_count kept_bytes
keeps_none layout keeps all = record { count = refl; front = ap (λ (n : ℕ). take n all) (zero-mul (record_size layout)); rest = refl; len = refl }

-- one more is moved, where it is to be kept
module _ (layout : Layout) (from to : ℤ) (field : FieldRow) (all content next : List ℕ) (i kept count : ℕ)
    (so_far : Keeps layout (is_kept from to layout field all) all i kept content) where
  abbrev test : List ℕ → Bool
  test bytes = lies_between from to field (take layout.data_bytes bytes)

  same : record_at layout content i ≡ record_at layout all i
  same = ap (take (record_size layout)) so_far.rest

  behind : drop ((i + 1) * record_size layout) content ≡ drop ((i + 1) * record_size layout) all
  behind =
      let more : (i + 1) * record_size layout ≡ i * record_size layout + record_size layout = sym (one_longer i (record_size layout)) in
      ap (λ (n : ℕ). drop n content) more
      ∙ sym (drop-drop (record_size layout) (i * record_size layout) content)
      ∙ ap (drop (record_size layout)) so_far.rest
      ∙ drop-drop (record_size layout) (i * record_size layout) all
      ∙ ap (λ (n : ℕ). drop n all) (sym more)

  pub keeps_more : count ≡ kept + (if is_kept from to layout field content i then 1 else 0)
      → take (count * record_size layout) next
      ≡ take (kept * record_size layout) content ++ (if is_kept from to layout field content i then record_at layout content i else [])
      → drop ((i + 1) * record_size layout) next ≡ drop ((i + 1) * record_size layout) content
      → length next ≡ length content
      → Keeps layout (is_kept from to layout field all) all (i + 1) count next
  keeps_more counted front rest len = record {
    count = counted
        ∙ ap (λ (bytes : List ℕ). kept + (if test bytes then 1 else 0)) same
        ∙ ap (λ (n : ℕ). n + (if is_kept from to layout field all i then 1 else 0)) so_far.count
        ∙ sym (count_more (is_kept from to layout field all) i);
    front = front
        ∙ ap (λ (bytes : List ℕ). take (kept * record_size layout) content ++ (if test bytes then bytes else [])) same
        ∙ ap (λ (bytes : List ℕ). bytes ++ (if is_kept from to layout field all i then record_at layout all i else [])) so_far.front
        ∙ sym (bytes_more (is_kept from to layout field all) (record_at layout all) i);
    rest = rest ∙ behind;
    len = len ∙ so_far.len;
  }
