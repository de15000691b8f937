-- What the reader of a data link refuses is true of the file.
use Rattle.std.proofs.Common.{◌≡◌, ◌+◌, ◌-◌, ◌≤◌, ◌<◌, ℕ, cond, List, [], ◌∷◌, length, Option, Some, None, Result, Ok, Err, refl, sym, ◌∙◌, subst, ◌⊎◌, inl, inr, arith}
use Rattle.std.specs.Prelude.{nat_eq, sum_by, IfSome, IfErr}
use Rattle.std.proofs.lemmas.Bool.{eqb-true}
use Rattle.std.proofs.lemmas.List.Sums.{sum_by-cons}
use Rattle.mdf_format.specs.Block.{link_at, links_at, IsBlock}
use Rattle.mdf_format.specs.declared.kind.Kind.{Kind}
use Rattle.mdf_format.specs.declared.kind.Kind.TheVariants.{Dt, Sd, Dl}
use Rattle.mdf_num.specs.declared.halt.Halt.{Halt}
use Rattle.mdf_num.specs.declared.halt.Halt.TheVariants as halts
use Rattle.mdf_block.specs.declared.what.What.TheVariants as whats
use Rattle.mdf_block.specs.Refusal.{Refusal, Bad, Compressed, TooMany, Read, Refuses, Gives}
use Rattle.mdf_block.specs.Block.{is_block, is_compressed, the_block, block, is_named}
use Rattle.mdf_block.specs.Each.{each}
use Rattle.mdf_block.specs.declared.place.BlockAt.{BlockAt}
use Rattle.mdf_block.specs.Chain.{full, AreAlong}
use Rattle.mdf_block.specs.Limit.{IsListedBehind}
use Rattle.mdf_block.specs.Truth.{LacksBlock, IsCounted, IsTrueOf}
use Rattle.mdf_block.proofs.Wholes.{block_found, not_block, is_compressed_true}
use Rattle.mdf_block.proofs.Truths.{Refusing, refusing_none, refusing_one, refusing_then, refusing_if, refusing_as, refusing_behind, refusing_range}
use Rattle.mdf_block.proofs.Chains.{GoesAlong}
use Rattle.mdf_block.proofs.Limits.{lists_below_links}
use Rattle.mdf_stream.specs.declared.part.Part.{Part}
use Rattle.mdf_stream.specs.declared.fault.DataFault.{DataFault}
use Rattle.mdf_stream.specs.Link.{data_refusal, most_blocks, one_less, data_block, named_block, data_list, data_lists, listed_parts, one_part, data_parts}
use Rattle.mdf_stream.specs.Truth.{IsLinkedKind, LeadsTo, IsTrueOfLink, IfFault}
use Rattle.mdf_stream.proofs.Streams.{list_found}
use Rattle.mdf_stream.proofs.Counts.{one_less_counts, block_counts, list_counts}

module _ (f : List ℕ) (want : Kind) (link : ℕ) where
  -- all that is refused is true of the file
  abbrev Honest : {A : Type 0} → Read A → Type 0
  Honest read = Refusing (IsTrueOfLink f want link) read

  -- a block that does not stand
  linked_true : (at : ℕ) (kind : Kind) → IsLinkedKind want kind → LeadsTo f link at → Honest (block f at kind)
  unfolding block
  linked_true at kind linked leads =
      refusing_if (IsTrueOfLink f want link) (is_compressed f at kind) (Err (Compressed at))
      (cond (is_block f at kind) (Ok (the_block f at kind)) (Err (Bad at kind)))
      (λ packed. refusing_one (IsTrueOfLink f want link) (Compressed at) (kind, linked, is_compressed_true f at kind packed, leads))
      (λ _. refusing_if (IsTrueOfLink f want link) (is_block f at kind) (Ok (the_block f at kind)) (Err (Bad at kind))
      (λ _. refusing_none (IsTrueOfLink f want link) (the_block f at kind))
      (λ none. refusing_one (IsTrueOfLink f want link) (Bad at kind) (linked, not_block f at kind none, leads)))

  -- a block that was reached, where the limit is passed there if no more may come
  one_less_true : (at left : ℕ) (kind : Kind) → IsLinkedKind want kind → IsBlock f at kind → (left ≡ 0 → IsListedBehind f link most_blocks at)
      → Honest (one_less at left)
  unfolding one_less
  one_less_true at left kind linked there past =
      refusing_if (IsTrueOfLink f want link) (nat_eq left 0) _ _
      (λ none. refusing_one (IsTrueOfLink f want link) (TooMany whats.Block at) (kind, linked, there, past (eqb-true left 0 none)))
      (λ _. refusing_none (IsTrueOfLink f want link) _)

  -- a list past the count
  full_true : {A : Type 0} (at : ℕ) → (IsBlock f at Dl → IsListedBehind f link most_blocks at) → LeadsTo f link at → Honest (full {A = A} whats.Block Dl f at)
  unfolding full
  full_true at past leads =
      refusing_then (IsTrueOfLink f want link) (block f at Dl) (λ _. Err (TooMany whats.Block at)) (linked_true at Dl (inr refl) leads)
      (λ b found.
      let here = block_found f at Dl b found in
      refusing_one (IsTrueOfLink f want link) (TooMany whats.Block at) (Dl, inr refl, here.0, past here.0))

  block_of_data_true : (at left : ℕ) → LeadsTo f link at → (left ≡ 0 → IsListedBehind f link most_blocks at) → Honest (data_block f want at left)
  unfolding data_block
  block_of_data_true at left leads past =
      refusing_then (IsTrueOfLink f want link) (block f at want) _ (linked_true at want (inl refl) leads) (λ b found.
      refusing_then (IsTrueOfLink f want link) (one_less at left) _ (one_less_true at left want (inl refl) (block_found f at want b found).0 past)
      (λ less _. refusing_none (IsTrueOfLink f want link) _))

  -- so many blocks were counted before a list, and so many more may come
  abbrev Counted : ℕ → List ℕ → ℕ → Type 0
  Counted before lists after = after + sum_by (links_at f) lists ≡ before

  -- a list that is counted where no more may come
  itself : (lists : List ℕ) (at left : ℕ) → AreAlong f Dl link lists at → Counted most_blocks lists left → IsBlock f at Dl → left ≡ 0
      → IsListedBehind f link most_blocks at
  itself lists at left along counted there none = record {
    lists = lists;
    list = at;
    k = 0;
    along = along;
    block = there;
    is = inl (refl, refl);
    many = omega (arith, none, counted);
  }

  -- as many lists as blocks may come leave none
  none_left : (most count links left : ℕ) → count ≡ most → count ≤ links → left + links ≡ most → left ≡ 0
  none_left most count links left many below counted = omega (arith, many, below, counted)

  lists_go_along : GoesAlong f Dl (data_list f want)
  lists_go_along = record {
    there = λ at left x next rest is. let found = list_found f want at left (x, next, rest) is in (found.there, found.next);
  }

  lists_count : (at left : ℕ) (x : List Part) (next rest : ℕ) (lists : List ℕ) (last : ℕ) → data_list f want at left ≡ Ok (x, next, rest)
      → Counted rest lists last → Counted left (at ∷ lists) last
  lists_count at left x next rest lists last is behind =
      omega (arith, (list_counts f want at left (x, next, rest) is).0, behind, sum_by-cons (links_at f) at lists)

  -- the blocks that a list names
  named_true : (lists : List ℕ) (at left less : ℕ) → AreAlong f Dl link lists at → Counted most_blocks lists left → IsBlock f at Dl
      → less + 1 ≡ left → Honest (each (named_block f want at) 1 (links_at f at - 1) less)
  named_true lists at left less along counted there one =
      let inside : (k : ℕ) → k < 1 + (links_at f at - 1) → k < links_at f at = λ k within. omega (arith, within, there.linked) in
      refusing_range (IsTrueOfLink f want link) (named_block f want at) (λ k rest. rest + k ≡ left)
      (λ k before x rest found known. omega (arith, known, block_counts f want (link_at f at k) before (x, rest) found))
      1 (links_at f at - 1) less one
      (λ k rest after within known. block_of_data_true (link_at f at k) rest
      (lists, at, along, inr (there, (k, after, inside k within, refl))) (λ none. record {
        lists = lists;
        list = at;
        k = k;
        along = along;
        block = there;
        is = inr (after, inside k within, refl);
        many = omega (arith, none, known, counted);
      }))

  list_true : (lists : List ℕ) (at left : ℕ) → AreAlong f Dl link lists at → Counted most_blocks lists left
      → Honest (data_list f want at left)
  unfolding data_list
  list_true lists at left along counted =
      let leads : LeadsTo f link at = (lists, at, along, inl refl) in
      refusing_then (IsTrueOfLink f want link) (block f at Dl) _ (linked_true at Dl (inr refl) leads) (λ b found.
      let here = block_found f at Dl b found in
      refusing_then (IsTrueOfLink f want link) (one_less at left) _
      (one_less_true at left Dl (inr refl) here.0 (λ none. itself lists at left along counted here.0 none)) (λ less is_less.
      refusing_then (IsTrueOfLink f want link) (each (named_block f want b.at) 1 (b.links - 1) less) _
      (subst (λ (c : BlockAt). Honest (each (named_block f want c.at) 1 (c.links - 1) less)) (sym here.1)
      (named_true lists at left less along counted here.0 (one_less_counts at left less is_less)))
      (λ parts _. refusing_none (IsTrueOfLink f want link) _)))

  pub listed_true : Honest (listed_parts f want link)
  listed_true =
      refusing_then (IsTrueOfLink f want link) (data_lists f want link) _
      (refusing_behind (IsTrueOfLink f want link) f Dl (data_list f want) (full whats.Block Dl f) lists_go_along Counted
      (λ left. omega arith) lists_count most_blocks link most_blocks
      (λ lists list left along counted. list_true lists list left along counted)
      (λ lists list left along counted many. full_true list (λ there.
      itself lists list left along counted there
      (none_left most_blocks (length lists) (sum_by (links_at f) lists) left many (lists_below_links f link lists list along) counted))
      (lists, list, along, inl refl)))
      (λ lists _. refusing_none (IsTrueOfLink f want link) _)

  pub one_true : Honest (one_part f want link)
  unfolding AreAlong
  one_true =
      refusing_then (IsTrueOfLink f want link) (block f link want) _ (linked_true link want (inl refl) ([], link, refl, inl refl))
      (λ b _. refusing_none (IsTrueOfLink f want link) _)

  pub parts_true : Honest (data_parts f want link)
  unfolding data_parts
  parts_true =
      refusing_if (IsTrueOfLink f want link) (nat_eq link 0) _ _ (λ _. refusing_none (IsTrueOfLink f want link) _)
      (λ _. refusing_if (IsTrueOfLink f want link) (is_named f link Dl) _ _ (λ _. listed_true) (λ _. one_true))

-- a block of such a kind is missing, or one more is counted, where a DT or an SD is wanted
linked_lacks : (f : List ℕ) (at : ℕ) (want kind : Kind) → (want ≡ Dt) ⊎ (want ≡ Sd) → IsLinkedKind want kind → (IsBlock f at kind → ⊥)
    → LacksBlock f at kind
linked_lacks f at want kind data_kind (inr list) none =
    subst (LacksBlock f at) (sym list) (subst (λ (k : Kind). IsBlock f at k → ⊥) list none)
linked_lacks f at want kind (inl is) (inl wanted) none =
    subst (LacksBlock f at) (sym (wanted ∙ is)) (subst (λ (k : Kind). IsBlock f at k → ⊥) (wanted ∙ is) none)
linked_lacks f at want kind (inr is) (inl wanted) none =
    subst (LacksBlock f at) (sym (wanted ∙ is)) (subst (λ (k : Kind). IsBlock f at k → ⊥) (wanted ∙ is) none)

linked_counted : (f : List ℕ) (at : ℕ) (want kind : Kind) → (want ≡ Dt) ⊎ (want ≡ Sd) → IsLinkedKind want kind → IsBlock f at kind
    → IsCounted f whats.Block at
linked_counted f at want kind data_kind (inr list) there = inl (subst (λ (k : Kind). IsBlock f at k) list there)
linked_counted f at want kind (inl is) (inl wanted) there = inr (inl (subst (λ (k : Kind). IsBlock f at k) (wanted ∙ is) there))
linked_counted f at want kind (inr is) (inl wanted) there = inr (inr (subst (λ (k : Kind). IsBlock f at k) (wanted ∙ is) there))

-- what is refused then is true as every refusal of a block is
module _ (f : List ℕ) (want : Kind) (data_kind : (want ≡ Dt) ⊎ (want ≡ Sd)) where
  turned : (link : ℕ) (refusal : Refusal) → IsTrueOfLink f want link refusal → IsTrueOf f refusal
  turned link (Bad at kind) is = linked_lacks f at want kind data_kind is.0 is.1
  turned link (Compressed at) is = (is.0, is.2)
  turned link (TooMany whats.Block at) is = (linked_counted f at want is.0 data_kind is.1 is.2, (link, is.3))
  turned link _ is = absurd is

  pub data_true : (at : ℕ) → Refusing (IsTrueOf f) (data_parts f want at)
  data_true at = refusing_as (IsTrueOfLink f want at) (IsTrueOf f) (data_parts f want at) (turned at) (parts_true f want at)

-- a fault of a reader that refuses with the property
refuses_with : {A : Type 0} (P : Refusal → Type 0) (fault : Option Refusal) (read : Read A) → Refusing P read → Refuses fault read
    → IfSome fault P
refuses_with P None read is refused = absurd refused
refuses_with P (Some refusal) read is refused = is.tells refusal refused

-- an answer of such a reader over a span
pub gives_with : {A : Type 0} (P : Refusal → Type 0) (result : Result A (Halt DataFault)) (read : Read A) → Refusing P read
    → Gives data_refusal result read → IfErr result (IfFault P)
gives_with P (Ok x) read is given = tt
gives_with P (Err (halts.Fault fault)) read is given = refuses_with P (data_refusal fault) read is given
gives_with P (Err halts.Failed) read is given = tt
gives_with P (Err halts.Memory) read is given = tt
