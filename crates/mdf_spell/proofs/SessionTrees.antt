-- The tree and the data of a finalized file stand in every file in which its blocks do.
use Rattle.std.proofs.Common.{◌≡◌, ◌+◌, ◌^◌, ◌<◌, ℕ, List, [], ◌∷◌, ◌++◌, length, map, refl, sym, ◌∙◌, subst, arith, length-append, append-nil}
use Rattle.std.specs.Prelude.{codes}
use Rattle.std.specs.List.{AllByRecursion}
use Rattle.mdf_format.specs.Block.{IsChain}
use Rattle.mdf_format.specs.declared.kind.Kind.TheVariants.{Dt, Sd}
use Rattle.mdf_block.specs.declared.link.Link.{Link}
use Rattle.mdf_block.specs.declared.link.Link.TheVariants as links
use Rattle.mdf_block.specs.Draft.{Placed, address_of, AllStand}
use Rattle.mdf_head.specs.declared.entry.Head.{Head}
use Rattle.mdf_head.specs.declared.entry.History.{History}
use Rattle.mdf_group.specs.declared.row.GroupRow.{GroupRow}
use Rattle.mdf_group.specs.declared.row.DataRow.{DataRow}
use Rattle.mdf_group.specs.Standing.{AreDistinct}
use Rattle.mdf_tree.specs.Text.{note_blocks, IsText}
use Rattle.mdf_tree.specs.Group.{past_group, past_groups, groups_blocks, data_groups, past_data_group, data_group_blocks}
use Rattle.mdf_tree.specs.Head.{history_blocks, linked_head_blocks, head_blocks, head_groups, entry_text, new_entry, IsEntryWritable}
use Rattle.mdf_tree.proofs.Has.{Has, has_left, has_right, has_more, here}
use Rattle.mdf_tree.proofs.Heads.{history_long, head_stands}
use Rattle.mdf_tree.proofs.Groups.{groups_long, data_group_stands}
use Rattle.mdf_spell.specs.declared.recovered.Recovered.{Recovered}
use Rattle.mdf_spell.specs.Values.{with_streams, own_streams}
use Rattle.mdf_spell.specs.Counts.{counted_groups, counted_data, IsCounted}
use Rattle.mdf_spell.specs.Session.{data_block, session_names, session_history, session_data, session_blocks}
use Rattle.mdf_spell.specs.Standing.{HoldsData, HoldStreams, data_number, records_number, IsRecoveredWritable, IsSessionTree}

-- a block of data holds its bytes
pub data_stands : (file : List ℕ) (blocks : List Placed) → AllStand file blocks → (n : ℕ) (content : List ℕ) (rest : List Placed)
    → Has blocks n (data_block Dt content ∷ rest) → HoldsData file (address_of blocks n) Dt content
data_stands file blocks all n content rest has =
    let s = here file blocks n (data_block Dt content) rest all has in (s.whole (record { linked = omega arith; filled = omega arith }), s.body)

pub streams_stand : (file : List ℕ) (blocks : List Placed) → AllStand file blocks → (n : ℕ) (streams : List (List ℕ))
    → Has blocks n (map (data_block Sd) streams) → HoldStreams file blocks n streams
streams_stand file blocks all n [] has = tt
streams_stand file blocks all n (stream ∷ streams) has =
    let rest = map (data_block Sd) streams in
    let s = here file blocks n (data_block Sd stream) rest all has in (
      (s.whole (record { linked = omega arith; filled = omega arith }), s.body),
      streams_stand file blocks all (n + 1) streams (has_more blocks n (data_block Sd stream) rest has),
    )

-- groups with their numbers stand in as many blocks
counted_past : (n : ℕ) (counts totals : List ℕ) (rows : List GroupRow) → length counts ≡ length rows → length totals ≡ length rows
    → past_groups n (counted_groups counts totals rows) ≡ past_groups n rows
unfolding counted_groups past_groups
counted_past n counts totals [] same_counts same_totals = refl
counted_past n [] totals (row ∷ rows) same_counts same_totals = absurd (omega (arith, same_counts))
counted_past n (count ∷ counts) [] (row ∷ rows) same_counts same_totals = absurd (omega (arith, same_totals))
counted_past n (count ∷ counts) (total ∷ totals) (row ∷ rows) same_counts same_totals =
    counted_past (past_group n row) counts totals rows (omega (arith, same_counts)) (omega (arith, same_totals))

-- the block behind a head, and the one behind a data group
pub linked_head_long : (head : Head) (entries : List History) (groups attached : Link)
    → length (linked_head_blocks head entries groups attached) ≡ head_groups head entries
linked_head_long head entries groups attached =
    omega (arith, length-append (history_blocks 1 entries) (note_blocks head.comment), history_long 1 entries)

pub head_long : (head : Head) (entries : List History) (groups : Link) → length (head_blocks head entries groups) ≡ head_groups head entries
unfolding head_blocks
head_long head entries groups = linked_head_long head entries groups links.Nothing

pub data_long : (n : ℕ) (next content : Link) (values : List Link) (row : DataRow)
    → n + length (data_group_blocks n next content values row) ≡ past_data_group n row
unfolding data_group_blocks
data_long n next content values row =
    omega (
      arith,
      length-append (note_blocks row.comment) (groups_blocks (data_groups n row) values row.groups),
      groups_long (data_groups n row) values row.groups,
    )

-- a new entry can be read back
pub entry_writable : (title : List ℕ) (now : ℕ) → IsText (entry_text title) → now < 2 ^ 64 → IsEntryWritable (new_entry title now)
entry_writable title now clean in_time = record { time = in_time; zone = omega arith; daylight = omega arith; comment = clean }

pub all_with : {A : Type 0} (P : A → Type 0) (xs : List A) (x : A) → AllByRecursion P xs → P x → AllByRecursion P (xs ++ x ∷ [])
all_with {A} P [] x all one = (one, tt)
all_with {A} P (first ∷ xs) x all one = (all.0, all_with P xs x all.1 one)

pub session_stands : (file : List ℕ) (recovered : Recovered) (now : ℕ) → now < 2 ^ 64 → IsCounted recovered → IsRecoveredWritable recovered
    → AllStand file (session_blocks recovered now) → IsSessionTree file recovered now
unfolding session_blocks session_data IsChain AreDistinct
session_stands file recovered now in_time counted is all =
    let blocks = session_blocks recovered now in
    let head = recovered.head.now in
    let row = recovered.row.now in
    let entries = session_history recovered.history.now now in
    let n = data_number recovered now in
    let records = records_number recovered now in
    let names = session_names n row in
    let values = with_streams (records + 1) names in
    let own = own_streams names recovered.streams.now in
    let sds = map (data_block Sd) own in
    let written = counted_data recovered.counts.now recovered.totals.now row in
    let hd = head_blocks head entries (links.Block n) in
    let dg = data_group_blocks n links.Nothing (links.Block records) values written in
    let dt = data_block Dt recovered.content.now in
    let whole : Has blocks 0 (hd ++ (dg ++ (dt ∷ sds))) = record { front = []; rest = []; split = sym (append-nil (hd ++ (dg ++ (dt ∷ sds)))); number = refl } in
    let behind : Has blocks n (dg ++ (dt ∷ sds)) =
    subst (λ (m : ℕ). Has blocks m (dg ++ (dt ∷ sds))) (omega (arith, head_long head entries (links.Block n))) (has_right blocks 0 hd (dg ++ (dt ∷ sds)) whole) in
    let clean : IsText (entry_text (codes "finalize")) = grind arith in
    let past : n + length dg ≡ records = data_long n links.Nothing (links.Block records) values written
    ∙ counted_past (data_groups n row) recovered.counts.now recovered.totals.now row.groups counted.counts counted.totals in
    let records_has : Has blocks records (dt ∷ sds) = subst (λ (m : ℕ). Has blocks m (dt ∷ sds)) past (has_right blocks n dg (dt ∷ sds) behind) in
    let groups = data_group_stands file blocks all n links.Nothing (links.Block records) values written is.row (has_left blocks n dg (dt ∷ sds) behind) in record {
      head = head_stands file blocks all head entries (links.Block n) is.head
          (all_with IsEntryWritable recovered.history.now (new_entry (codes "finalize") now) is.history
          (entry_writable (codes "finalize") now clean in_time))
          (has_left blocks 0 hd (dg ++ (dt ∷ sds)) whole);
      groups = record { chain = (refl, groups.0, groups.1); once = (tt, tt); each = (groups.2, tt) };
      records = data_stands file blocks all records recovered.content.now sds records_has;
      streams = streams_stand file blocks all (records + 1) own (has_more blocks records dt sds records_has);
    }
