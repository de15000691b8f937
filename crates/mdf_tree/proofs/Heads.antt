-- The head and the history that are written stand as they were given.
use Rattle.std.proofs.Common.{◌≡◌, ◌+◌, ◌-◌, ◌^◌, ℕ, suc, false, List, [], ◌∷◌, length, map, refl, sym, ◌∙◌, ap, subst, arith, length-append}
use Rattle.std.proofs.lemmas.Bool.{cond-true, cond-false, lt-ltb, lt-leb}
use Rattle.std.specs.Prelude.{ℤ, pos, negsuc, neg_ℤ, nat_lt}
use Rattle.std.specs.List.{AllByRecursion}
use Rattle.mdf_format.specs.Number.{le_number}
use Rattle.mdf_format.specs.Field.{signed_number}
use Rattle.mdf_format.specs.Block.{IsChain}
use Rattle.mdf_format.specs.declared.kind.Kind.TheVariants.{Fh}
use Rattle.mdf_block.specs.declared.link.Link.{Link}
use Rattle.mdf_block.specs.declared.link.Link.TheVariants as links
use Rattle.mdf_block.specs.Draft.{Placed, address_of, link_number, AllStand}
use Rattle.mdf_head.specs.declared.entry.Head.{Head}
use Rattle.mdf_head.specs.declared.entry.History.{History}
use Rattle.mdf_head.specs.Head.{the_head, the_history, IsHistory, IsHead}
use Rattle.mdf_tree.specs.Text.{note_blocks}
use Rattle.mdf_tree.specs.Group.{next_link}
use Rattle.mdf_tree.specs.Head.{signed_bytes, entry_body, entry_block, past_entry, past_history, history_blocks, placed_history, head_body, linked_head_blocks, head_blocks, IsSigned16, IsEntryWritable, IsHeadWritable}
use Rattle.mdf_tree.proofs.Has.{Has, has_left, has_right, has_more, here}
use Rattle.mdf_tree.proofs.Texts.{linked_note}
use Rattle.mdf_tree.proofs.Numbers.{back64}

-- a signed number reads back
pub signed_back : (z : ℤ) → IsSigned16 z → signed_number 16 (le_number (signed_bytes z)) ≡ z
signed_back (pos n) small =
    let number : le_number (signed_bytes (pos n)) ≡ n = omega (arith, small) in
    ap (signed_number 16) number ∙ cond-true (nat_lt n (2 ^ 15)) _ _ (lt-ltb n (2 ^ 15) small)
signed_back (negsuc n) small =
    let number : le_number (signed_bytes (negsuc n)) ≡ 2 ^ 16 - suc n = omega (arith, small) in
    let high : nat_lt (2 ^ 16 - suc n) (2 ^ 15) ≡ false = lt-leb (suc (2 ^ 16 - suc n)) (2 ^ 15) (omega (arith, small)) in
    let back : 2 ^ 16 - (2 ^ 16 - suc n) ≡ suc n = omega (arith, small) in
    ap (signed_number 16) number ∙ cond-false (nat_lt (2 ^ 16 - suc n) (2 ^ 15)) _ _ high ∙ ap (λ (m : ℕ). neg_ℤ (pos m)) back

-- entries that are placed say the same
pub entries_same : (blocks : List Placed) (n : ℕ) (entries : List History)
    → map (λ (entry : History). record entry { at = 0 }) (placed_history blocks n entries) ≡ map (λ (entry : History). record entry { at = 0 }) entries
unfolding placed_history
entries_same blocks n [] = refl
entries_same blocks n (entry ∷ entries) =
    ap (λ (rest : List History). record entry { at = 0 } ∷ rest) (entries_same blocks (past_entry n entry) entries)

entry_back : (at : ℕ) (entry : History) → IsEntryWritable entry
    → the_history at (entry_body entry) entry.comment ≡ record entry { at = at }
entry_back at entry fits =
    let time = back64 entry.time fits.time in
    let zone = signed_back entry.zone fits.zone in
    let daylight = signed_back entry.daylight fits.daylight in
    rw (time, zone, daylight) refl

head_back : (first_dg : ℕ) (head : Head) → IsHeadWritable head
    → the_head (head_body head) head.comment first_dg ≡ record head { first_dg = first_dg }
head_back first_dg head fits =
    let start = back64 head.start fits.start in
    let zone = signed_back head.zone fits.zone in
    let daylight = signed_back head.daylight fits.daylight in
    let angle = back64 head.angle fits.angle in
    let distance = back64 head.distance fits.distance in
    rw (start, zone, daylight, angle, distance) refl

pub history_long : (n : ℕ) (entries : List History) → n + length (history_blocks n entries) ≡ past_history n entries
unfolding history_blocks past_history
history_long n [] = omega arith
history_long n (entry ∷ entries) =
    let next = past_entry n entry in
    omega (
      arith,
      length-append (entry_block n (next_link next entries) entry ∷ note_blocks entry.comment) (history_blocks next entries),
      history_long next entries,
    )

module _ (file : List ℕ) (blocks : List Placed) (all : AllStand file blocks) where
  -- a chain of entries, each as it is
  record AreEntries (at : ℕ) (entries : List History) : Type 0 where
    chain : IsChain file at Fh (map (λ entry. entry.at) entries)
    each : AllByRecursion (IsHistory file) entries

  history_stands : (n : ℕ) (entries : List History) → AllByRecursion IsEntryWritable entries → Has blocks n (history_blocks n entries)
      → AreEntries (link_number blocks (next_link n entries)) (placed_history blocks n entries)
  unfolding history_blocks placed_history IsChain
  history_stands n [] is has = record { chain = refl; each = tt }
  history_stands n (entry ∷ entries) is has =
      let at = address_of blocks n in
      let next = past_entry n entry in
      let b = entry_block n (next_link next entries) entry in
      let rest = history_blocks next entries in
      let own = has_left blocks n (b ∷ note_blocks entry.comment) rest has in
      let s = here file blocks n b (note_blocks entry.comment) all own in
      let comment = has_more blocks n b (note_blocks entry.comment) own in
      let long : n + length (b ∷ note_blocks entry.comment) ≡ next = omega arith in
      let behind = history_stands next entries is.1
      (subst (λ (m : ℕ). Has blocks m rest) long (has_right blocks n (b ∷ note_blocks entry.comment) rest has)) in record {
        chain = (
          refl,
          s.whole (record { linked = omega arith; filled = omega arith }),
          subst (λ (place : ℕ). IsChain file place Fh (map (λ (e : History). e.at) (placed_history blocks next entries)))
              (sym (s.link 0 (omega arith))) behind.chain,
        );
        each = (
          record {
            fields = sym (entry_back at entry is.0) ∙ ap (λ (body : List ℕ). the_history at body entry.comment) (sym s.body);
            comment = linked_note file blocks all (n + 1) entry.comment at 1 (s.link 1 (omega arith)) is.0.comment comment;
          },
          behind.each,
        );
      }

  -- the head, whatever attachments it names
  pub linked_head_stands : (head : Head) (entries : List History) (groups attached : Link) → IsHeadWritable head
      → AllByRecursion IsEntryWritable entries → Has blocks 0 (linked_head_blocks head entries groups attached)
      → IsHead file (record head { first_dg = link_number blocks groups }) (placed_history blocks 1 entries)
  linked_head_stands head entries groups attached is are has =
      let s = here file blocks 0 _ _ all has in
      let parts = has_more blocks 0 _ _ has in
      let entries_has = has_left blocks 1 (history_blocks 1 entries) (note_blocks head.comment) parts in
      let comment = subst (λ (m : ℕ). Has blocks m (note_blocks head.comment)) (history_long 1 entries)
      (has_right blocks 1 (history_blocks 1 entries) (note_blocks head.comment) parts) in
      let along = history_stands 1 entries are entries_has in record {
        block = s.whole (record { linked = omega arith; filled = omega arith });
        fields = sym (head_back (link_number blocks groups) head is)
            ∙ ap (λ (body : List ℕ). the_head body head.comment (link_number blocks groups)) (sym s.body)
            ∙ ap (the_head _ head.comment) (sym (s.link 0 (omega arith)));
        comment = linked_note file blocks all (past_history 1 entries) head.comment 64 5 (s.link 5 (omega arith)) is.comment comment;
        chain = subst (λ (place : ℕ). IsChain file place Fh (map (λ (e : History). e.at) (placed_history blocks 1 entries)))
            (sym (s.link 1 (omega arith))) along.chain;
        entries = along.each;
      }

  pub head_stands : (head : Head) (entries : List History) (groups : Link) → IsHeadWritable head → AllByRecursion IsEntryWritable entries
      → Has blocks 0 (head_blocks head entries groups)
      → IsHead file (record head { first_dg = link_number blocks groups }) (placed_history blocks 1 entries)
  unfolding head_blocks
  head_stands head entries groups is are has = linked_head_stands head entries groups links.Nothing is are has
