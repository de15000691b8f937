-- The links of channels of variable length to their values, one after another.
use Rattle.std.proofs.Common.{◌≡◌, ◌≤◌, ℕ, true, false, List, [], ◌∷◌, ◌++◌, length, drop, map, refl, sym, ◌∙◌, ap, append_assoc, append-nil}
use Rattle.std.proofs.lemmas.Bool.{cond-true, cond-false}
use Rattle.std.proofs.lemmas.List.{drop_all, map-append}
use Rattle.std.specs.Prelude.{◌&&◌, nat_eq}
use Rattle.mdf_block.specs.declared.link.Link.{Link}
use Rattle.mdf_block.specs.declared.link.Link.TheVariants as links
use Rattle.mdf_block.specs.Draft.{Placed}
use Rattle.mdf_format.specs.declared.kind.Kind.TheVariants.{Sd}
use Rattle.mdf_group.specs.declared.row.GroupRow.{GroupRow}
use Rattle.mdf_group.specs.Group.{is_variable}
use Rattle.mdf_tree.specs.Group.{past_group}
use Rattle.mdf_spell.specs.Values.{group_numbers, values_group, stream_link, stream_behind, with_streams, own_stream, own_streams}
use Rattle.mdf_spell.specs.Session.{data_block}
use Rattle.mdf_spell.proofs.Lists.{pushed_on}

pub numbers_step : (n next : ℕ) (row : GroupRow) (rows : List GroupRow) (front after : List ℕ) → after ≡ front ++ n ∷ [] → next ≡ past_group n row
    → after ++ group_numbers next rows ≡ front ++ group_numbers n (row ∷ rows)
unfolding group_numbers
numbers_step n next row rows front after pushed is =
    ap (λ (m : ℕ). after ++ group_numbers m rows) is ∙ pushed_on front after n (group_numbers (past_group n row) rows) pushed

pub no_numbers : (n : ℕ) → group_numbers n [] ≡ []
unfolding group_numbers
no_numbers n = refl

-- a group is the one that is sought, or the next ones are looked at
pub is_group : (row : GroupRow) (rows : List GroupRow) (n : ℕ) (numbers : List ℕ) (at : ℕ) → (is_variable row && nat_eq row.at at) ≡ true
    → links.Block n ≡ values_group (row ∷ rows) (n ∷ numbers) at
unfolding values_group
is_group row rows n numbers at is = sym (cond-true (is_variable row && nat_eq row.at at) (links.Block n) (values_group rows numbers at) is)

pub other_group : (row : GroupRow) (rows : List GroupRow) (n : ℕ) (numbers : List ℕ) (at : ℕ) → (is_variable row && nat_eq row.at at) ≡ false
    → values_group rows numbers at ≡ values_group (row ∷ rows) (n ∷ numbers) at
unfolding values_group
other_group row rows n numbers at isnt = sym (cond-false (is_variable row && nat_eq row.at at) (links.Block n) (values_group rows numbers at) isnt)

-- no group is left
pub no_group : (rows : List GroupRow) (numbers : List ℕ) (at i : ℕ) → length rows ≤ i → links.Nothing ≡ values_group (drop i rows) (drop i numbers) at
unfolding values_group
no_group rows numbers at i past = sym (ap (λ (left : List GroupRow). values_group left (drop i numbers) at) (drop_all i rows past))

none_numbered : (rows : List GroupRow) (at : ℕ) → links.Nothing ≡ values_group rows [] at
unfolding values_group
none_numbered [] at = refl
none_numbered (row ∷ rows) at = refl

pub no_number : (rows : List GroupRow) (numbers : List ℕ) (at i : ℕ) → length numbers ≤ i → links.Nothing ≡ values_group (drop i rows) (drop i numbers) at
no_number rows numbers at i past =
    none_numbered (drop i rows) at ∙ sym (ap (λ (left : List ℕ). values_group (drop i rows) left at) (drop_all i numbers past))

-- a link to values is added
pub stream_step : (at next : ℕ) (name : Link) (rest front after : List Link) → after ≡ front ++ stream_link at name ∷ [] → next ≡ stream_behind at name
    → after ++ with_streams next rest ≡ front ++ with_streams at (name ∷ rest)
unfolding with_streams
stream_step at next name rest front after pushed is =
    ap (λ (m : ℕ). after ++ with_streams m rest) is ∙ pushed_on front after (stream_link at name) (with_streams (stream_behind at name) rest) pushed

pub no_streams : (at : ℕ) → with_streams at [] ≡ []
unfolding with_streams
no_streams at = refl

-- the block of one more stream
pub own_step : (w after : List Placed) (name : Link) (stream : List ℕ) (names : List Link) (streams : List (List ℕ))
    → after ≡ w ++ map (data_block Sd) (own_stream name stream)
    → after ++ map (data_block Sd) (own_streams names streams) ≡ w ++ map (data_block Sd) (own_streams (name ∷ names) (stream ∷ streams))
unfolding own_streams
own_step w after name stream names streams placed =
    let first = map (data_block Sd) (own_stream name stream) in
    let rest = map (data_block Sd) (own_streams names streams) in
    ap (λ (xs : List Placed). xs ++ rest) placed
    ∙ append_assoc w first rest
    ∙ ap (λ (xs : List Placed). w ++ xs) (sym (map-append (data_block Sd) (own_stream name stream) (own_streams names streams)))

-- no channel is left, or no stream
pub no_names : (w : List Placed) (names : List Link) (streams : List (List ℕ)) (i : ℕ) → length names ≤ i
    → w ≡ w ++ map (data_block Sd) (own_streams (drop i names) (drop i streams))
unfolding own_streams
no_names w names streams i past =
    sym (ap (λ (left : List Link). w ++ map (data_block Sd) (own_streams left (drop i streams))) (drop_all i names past) ∙ append-nil w)

no_own : (names : List Link) → own_streams names [] ≡ []
unfolding own_streams
no_own [] = refl
no_own (name ∷ names) = refl

pub no_contents : (w : List Placed) (names : List Link) (streams : List (List ℕ)) (i : ℕ) → length streams ≤ i
    → w ≡ w ++ map (data_block Sd) (own_streams (drop i names) (drop i streams))
no_contents w names streams i past =
    sym (ap (λ (left : List (List ℕ)). w ++ map (data_block Sd) (own_streams (drop i names) left)) (drop_all i streams past)
    ∙ ap (λ (left : List (List ℕ)). w ++ map (data_block Sd) left) (no_own (drop i names)) ∙ append-nil w)
