-- Blocks that are placed one behind the other are the blocks of a whole.
use Rattle.std.proofs.Common.{◌≡◌, ◌+◌, ◌<◌, ◌≤◌, ℕ, zero, suc, Bool, true, false, not, List, [], ◌∷◌, ◌++◌, length, get_or, take, drop, refl, sym, ◌∙◌, ap, subst, arith, add-one, append-nil, append_assoc, length-append, take-suc}
use Rattle.std.proofs.lemmas.Bool.{ltb-true, ltb-false}
use Rattle.std.proofs.lemmas.List.{drop_all}
use Rattle.std.specs.Prelude.{◌↔◌, IsTrue, nat_lt}
use Rattle.std.specs.List.{AllByRecursion}
use Rattle.mdf_format.specs.declared.kind.Kind.{Kind}
use Rattle.mdf_block.specs.declared.link.Link.{Link}
use Rattle.mdf_block.specs.declared.link.Link.TheVariants as links
use Rattle.mdf_block.specs.Draft.{Placed, linked}
use Rattle.mdf_conv.specs.declared.row.Conversion.{Conversion}
use Rattle.mdf_conv.specs.declared.row.Ref.{Ref}
use Rattle.mdf_group.specs.declared.row.ChannelRow.{ChannelRow}
use Rattle.mdf_group.specs.declared.row.GroupRow.{GroupRow}
use Rattle.mdf_tree.specs.declared.places.ChannelPlaces.{ChannelPlaces}
use Rattle.mdf_tree.specs.declared.places.GroupPlaces.{GroupPlaces}
use Rattle.mdf_tree.specs.Text.{note_blocks, note_link}
use Rattle.mdf_tree.specs.Conv.{ref_blocks, ref_link, refs_blocks, refs_links, conv_first, conv_own, conv_blocks_by, conv_blocks}
use Rattle.mdf_tree.specs.Count.{ref_count, conv_count}
use Rattle.mdf_tree.specs.Group.{source_part, source_link, conv_link, next_link, next_if, past_channel, channel_links, channel_own, channel_parts, channel_blocks, value_link, values_behind, channels_blocks, past_group, group_values, group_values_behind, group_own, group_blocks, groups_blocks}
use Rattle.mdf_tree.specs.Places.{AreChannelPlaces, AreGroupPlaces}
use Rattle.mdf_tree.proofs.Channels.{channel_long}
use Rattle.mdf_tree.proofs.Groups.{group_long}
use Rattle.mdf_tree.proofs.Counts.{ref_counts, conv_counts}

-- what comes behind these blocks begins at the number behind them
pub placed_step : (w own : List Placed) (rest : ℕ → List Placed) (after : List Placed) (past : ℕ) → after ≡ w ++ own → length w + length own ≡ past
    → after ++ rest (length after) ≡ w ++ (own ++ rest past)
placed_step w own rest after past is long =
    let size : length after ≡ past = ap (λ (xs : List Placed). length xs) is ∙ length-append w own ∙ long in
    ap (λ (n : ℕ). after ++ rest n) size ∙ ap (λ (xs : List Placed). xs ++ rest past) is ∙ append_assoc w own (rest past)

-- a block of equal links and an equal body
pub linked_is : (kind : Kind) (one other : List Link) (body whole : List ℕ) → one ≡ other → body ≡ whole → linked kind one body ≡ linked kind other whole
linked_is kind one other body whole same_links same_body =
    ap (λ (l : List Link). linked kind l body) same_links ∙ ap (λ (b : List ℕ). linked kind other b) same_body

-- nothing is left of a list
nothing_left : {A : Type 0} (w : List Placed) (rest : List A → List Placed) → rest [] ≡ [] → (xs : List A) (k : ℕ) → length xs ≤ k
    → w ≡ w ++ rest (drop k xs)
nothing_left {A} w rest none xs k past =
    sym (ap (λ (left : List A). w ++ rest left) (drop_all k xs past) ∙ ap (λ (left : List Placed). w ++ left) none ∙ append-nil w)

-- two lists have the property where each does
pub all_append : {A : Type 0} (P : A → Type 0) (xs ys : List A) → AllByRecursion P xs → AllByRecursion P ys → AllByRecursion P (xs ++ ys)
all_append P [] ys front back = back
all_append P (x ∷ xs) ys front back = (front.0, all_append P xs ys front.1 back)

-- one more of a list has the property
pub all_taken : {A : Type 0} (P : A → Type 0) (xs : List A) (k : ℕ) (x : A) → k < length xs → x ≡ get_or xs k x → AllByRecursion P (take k xs) → P x
    → AllByRecursion P (take (k + 1) xs)
all_taken {A} P xs k x below is all one =
    let longer : take k xs ++ x ∷ [] ≡ take (k + 1) xs =
    sym (ap (λ (n : ℕ). take n xs) (add-one k) ∙ take-suc xs k x below ∙ ap (λ (y : A). take k xs ++ y ∷ []) (sym is)) in
    subst (λ (ys : List A). AllByRecursion P ys) longer (all_append P (take k xs) (x ∷ []) all (one, tt))

-- the link to the next one of a chain, where it is told whether there is one
next_is : {A : Type 0} (more : Bool) (m j : ℕ) (xs : List A) → (more ≡ true → j < length xs) → (more ≡ false → length xs ≤ j)
    → next_if more m ≡ next_link m (drop j xs)
next_is true m zero [] on off = absurd (omega (arith, on refl))
next_is true m zero (x ∷ xs) on off = refl
next_is true m (suc j) [] on off = absurd (omega (arith, on refl))
next_is true m (suc j) (x ∷ xs) on off = next_is true m j xs (λ e. omega (arith, on e)) (λ e. cc)
next_is false m zero [] on off = refl
next_is false m zero (x ∷ xs) on off = absurd (omega (arith, off refl))
next_is false m (suc j) [] on off = refl
next_is false m (suc j) (x ∷ xs) on off = next_is false m j xs (λ e. cc) (λ e. omega (arith, off e))

pub next_less : {A : Type 0} (m j : ℕ) (xs : List A) → next_if (nat_lt j (length xs)) m ≡ next_link m (drop j xs)
next_less m j xs = next_is (nat_lt j (length xs)) m j xs (ltb-true j (length xs)) (ltb-false j (length xs))

-- the link to the first one of a list, where it is told whether the list is empty
pub next_some : {A : Type 0} (empty : Bool) (m : ℕ) (xs : List A) → (IsTrue empty ↔ (xs ≡ [])) → next_if (not empty) m ≡ next_link m xs
next_some true m [] is = refl
next_some true m (x ∷ xs) is = let wrong : x ∷ xs ≡ [] = is.0 refl in cc
next_some false m [] is = let wrong : false ≡ true = is.1 refl in cc
next_some false m (x ∷ xs) is = refl

-- references
pub refs_step : (inner : ℕ → Conversion → List Placed) (w after : List Placed) (found : Ref) (rest : List Ref)
    → after ≡ w ++ ref_blocks inner (length w) found → after ++ refs_blocks inner (length after) rest ≡ w ++ refs_blocks inner (length w) (found ∷ rest)
unfolding refs_blocks
refs_step inner w after found rest placed =
    placed_step w (ref_blocks inner (length w) found) (λ n. refs_blocks inner n rest) after (length w + length (ref_blocks inner (length w) found)) placed refl

pub refs_done : (inner : ℕ → Conversion → List Placed) (w : List Placed) (refs : List Ref) (k : ℕ) → length refs ≤ k
    → w ≡ w ++ refs_blocks inner (length w) (drop k refs)
unfolding refs_blocks
refs_done inner w refs k past = nothing_left w (λ left. refs_blocks inner (length w) left) refl refs k past

pub links_step : (levels n next count : ℕ) (found : Ref) (rest : List Ref) (front after : List Link) → after ≡ front ++ ref_link n found ∷ []
    → next ≡ n + count → count ≡ ref_count (conv_count levels) found
    → after ++ refs_links (conv_blocks levels) next rest ≡ front ++ refs_links (conv_blocks levels) n (found ∷ rest)
unfolding refs_links
links_step levels n next count found rest front after pushed is counted =
    let inner = conv_blocks levels in
    let size = ref_counts inner (conv_count levels) (conv_counts levels) n found in
    let number : next ≡ n + length (ref_blocks inner n found) = omega (arith, is, counted, size) in
    ap (λ (xs : List Link). xs ++ refs_links inner next rest) pushed
    ∙ append_assoc front (ref_link n found ∷ []) (refs_links inner next rest)
    ∙ ap (λ (m : ℕ). front ++ ref_link n found ∷ refs_links inner m rest) number

pub links_done : (inner : ℕ → Conversion → List Placed) (n : ℕ) (all : List Link) (refs : List Ref) (k : ℕ) → length refs ≤ k
    → all ≡ all ++ refs_links inner n (drop k refs)
unfolding refs_links
links_done inner n all refs k past =
    sym (ap (λ (left : List Ref). all ++ refs_links inner n left) (drop_all k refs past) ∙ append-nil all)

-- a conversion
pub conv_placed : (inner : ℕ → Conversion → List Placed) (conv : Conversion) (w0 w1 w2 w3 : List Placed) → w1 ≡ w0 ++ conv_own inner (length w0) conv ∷ []
    → w2 ≡ w1 ++ (note_blocks conv.name ++ (note_blocks conv.unit ++ note_blocks conv.comment)) → w3 ≡ w2 ++ refs_blocks inner (length w2) conv.refs
    → w3 ≡ w0 ++ conv_blocks_by inner (length w0) conv
unfolding conv_blocks_by
conv_placed inner conv w0 w1 w2 w3 own texts last =
    let name = note_blocks conv.name in
    let unit = note_blocks conv.unit in
    let comment = note_blocks conv.comment in
    let block = conv_own inner (length w0) conv ∷ [] in
    let rest : ℕ → List Placed = λ m. refs_blocks inner m conv.refs in
    let refs = rest (conv_first (length w0) conv) in
    let one = ap (λ (xs : List Placed). length xs) own ∙ length-append w0 block in
    last
    ∙ placed_step w1 (name ++ (unit ++ comment)) rest w2 (conv_first (length w0) conv) texts
    (omega (arith, one, length-append name (unit ++ comment), length-append unit comment))
    ∙ ap (λ (xs : List Placed). w1 ++ xs) (append_assoc name (unit ++ comment) refs ∙ ap (λ (xs : List Placed). name ++ xs) (append_assoc unit comment refs))
    ∙ ap (λ (xs : List Placed). xs ++ (name ++ (unit ++ (comment ++ refs)))) own
    ∙ append_assoc w0 block (name ++ (unit ++ (comment ++ refs)))

-- a channel
pub own_links : (m n : ℕ) (more : Bool) (values : Link) (row : ChannelRow) (at : ChannelPlaces) → n ≡ m → AreChannelPlaces n row at
    → ◌≡◌ {A = List Link} (next_if more at.past ∷ links.Nothing ∷ note_link (n + 1) row.name ∷ source_link at.source row.source
    ∷ conv_link at.conv row.conv ∷ values ∷ note_link at.unit row.unit ∷ note_link at.comment row.comment ∷ [])
    (channel_links m (next_if more (past_channel m row)) values row)
own_links m n more values row at same is = rw (is.past, is.source, is.conv, is.unit, is.comment, same) refl

pub channel_placed : (w0 w1 w2 : List Placed) (n : ℕ) (next values : Link) (row : ChannelRow) → n ≡ length w0
    → w1 ≡ w0 ++ channel_own (length w0) next values row ∷ [] → w2 ≡ w1 ++ channel_parts n row
    → w2 ≡ w0 ++ channel_blocks (length w0) next values row
unfolding channel_blocks
channel_placed w0 w1 w2 n next values row same own parts =
    parts
    ∙ ap (λ (m : ℕ). w1 ++ channel_parts m row) same
    ∙ ap (λ (xs : List Placed). xs ++ channel_parts (length w0) row) own
    ∙ append_assoc w0 (channel_own (length w0) next values row ∷ []) (channel_parts (length w0) row)

pub channels_step : (w after : List Placed) (values : List Link) (row : ChannelRow) (rows : List ChannelRow) (next value : Link)
    → next ≡ next_link (past_channel (length w) row) rows → value ≡ value_link values row
    → after ≡ w ++ channel_blocks (length w) next value row
    → after ++ channels_blocks (length after) (values_behind values row) rows ≡ w ++ channels_blocks (length w) values (row ∷ rows)
unfolding channels_blocks
channels_step w after values row rows next value is_next is_value placed =
    let last = next_link (past_channel (length w) row) rows in
    let own = channel_blocks (length w) last (value_link values row) row in
    placed_step w own (λ n. channels_blocks n (values_behind values row) rows) after (past_channel (length w) row)
    (placed ∙ ap (λ (link : Link). w ++ channel_blocks (length w) link value row) is_next
    ∙ ap (λ (link : Link). w ++ channel_blocks (length w) last link row) is_value)
    (channel_long (length w) last (value_link values row) row)

pub channels_done : (w : List Placed) (values : List Link) (rows : List ChannelRow) (k : ℕ) → length rows ≤ k
    → w ≡ w ++ channels_blocks (length w) values (drop k rows)
unfolding channels_blocks
channels_done w values rows k past = nothing_left w (λ left. channels_blocks (length w) values left) refl rows k past

-- a channel group
pub group_links : (m n : ℕ) (more : Bool) (first : Link) (row : GroupRow) (at : GroupPlaces) → n ≡ m → AreGroupPlaces n row at
    → first ≡ next_link at.channels row.channels
    → ◌≡◌ {A = List Link} (next_if more at.past ∷ first ∷ note_link (n + 1) row.name ∷ source_link at.source row.source
    ∷ links.Nothing ∷ note_link at.comment row.comment ∷ [])
    (group_own m (next_if more (past_group m row)) row).links
group_links m n more first row at same is named = rw (named, is.past, is.source, is.comment, is.channels, same) refl

pub group_placed : (w0 w1 w2 w3 w4 w5 : List Placed) (next : Link) (values : List Link) (row : GroupRow)
    → w1 ≡ w0 ++ group_own (length w0) next row ∷ [] → w2 ≡ w1 ++ note_blocks row.name → w3 ≡ w2 ++ source_part (length w2) row.source
    → w4 ≡ w3 ++ note_blocks row.comment → w5 ≡ w4 ++ channels_blocks (length w4) (group_values values row) row.channels
    → w5 ≡ w0 ++ group_blocks (length w0) next values row
unfolding group_blocks
group_placed w0 w1 w2 w3 w4 w5 next values row own first second third last =
    let name = note_blocks row.name in
    let source : ℕ → List Placed = λ m. source_part m row.source in
    let comment = note_blocks row.comment in
    let channels : ℕ → List Placed = λ m. channels_blocks m (group_values values row) row.channels in
    let behind : ℕ → List Placed = λ m. comment ++ channels (m + length comment) in
    let from_source : ℕ → List Placed = λ m. source m ++ behind (m + length (source m)) in
    last
    ∙ placed_step w3 comment channels w4 (length w3 + length comment) third refl
    ∙ placed_step w2 (source (length w2)) behind w3 (length w2 + length (source (length w2))) second refl
    ∙ placed_step w1 name from_source w2 (length w1 + length name) first refl
    ∙ placed_step w0 (group_own (length w0) next row ∷ []) (λ m. name ++ from_source (m + length name)) w1 (length w0 + 1) own refl

pub groups_step : (w after : List Placed) (values : List Link) (row : GroupRow) (rows : List GroupRow) (next : Link)
    → next ≡ next_link (past_group (length w) row) rows → after ≡ w ++ group_blocks (length w) next values row
    → after ++ groups_blocks (length after) (group_values_behind values row) rows ≡ w ++ groups_blocks (length w) values (row ∷ rows)
unfolding groups_blocks
groups_step w after values row rows next is_next placed =
    let last = next_link (past_group (length w) row) rows in
    let own = group_blocks (length w) last values row in
    placed_step w own (λ n. groups_blocks n (group_values_behind values row) rows) after (past_group (length w) row)
    (placed ∙ ap (λ (link : Link). w ++ group_blocks (length w) link values row) is_next)
    (group_long (length w) last values row)
