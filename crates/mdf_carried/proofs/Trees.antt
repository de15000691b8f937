-- A recording is read.
use Rattle.std.proofs.Common.{◌≡◌, ℕ, true, false, List, [], ◌∷◌, length, get_or, Ok, Err, refl, sym, ◌∙◌, ap, inl, inr, arith}
use Rattle.std.proofs.lemmas.Bool.{le-leb, eq-eqb, and_from, or_left, or_right, cond-true, cond-false, false_from_ne_true}
use Rattle.std.proofs.lemmas.Slice.Eq.{bytes_eq-Decides}
use Rattle.std.specs.Prelude.{◌||◌, not, nat_eq, nat_le, codes, if◌then◌else◌}
use Rattle.mdf_format.specs.Form.{NamesForm, names_form}
use Rattle.mdf_format.specs.Number.{bytes_at}
use Rattle.mdf_format.specs.Identification.{version_of}
use Rattle.mdf_format.specs.declared.kind.Kind.TheVariants.{Hd}
use Rattle.mdf_block.specs.declared.place.BlockAt.{BlockAt}
use Rattle.mdf_block.specs.Refusal.{Read, ◌>>=◌, NotMdf, Version, NotRecording}
use Rattle.mdf_block.specs.Block.{the_block}
use Rattle.mdf_block.proofs.Wholes.{block_some}
use Rattle.mdf_conv.specs.declared.limits.Budget.{Budget}
use Rattle.mdf_conv.specs.Left.{with_dropped}
use Rattle.mdf_head.specs.declared.identity.Ident.{Ident}
use Rattle.mdf_head.specs.declared.entry.Head.{Head}
use Rattle.mdf_head.specs.declared.entry.History.{History}
use Rattle.mdf_head.specs.Ident.{is_finalized, is_mdf, has_read_version, the_ident, identify}
use Rattle.mdf_head.specs.Head.{text_size}
use Rattle.mdf_head.proofs.Spends.{head_spends}
use Rattle.mdf_group.specs.declared.row.GroupRow.{GroupRow}
use Rattle.mdf_group.specs.declared.row.DataRow.{DataRow}
use Rattle.mdf_group.specs.Group.{groups}
use Rattle.mdf_model.specs.declared.tree.Tree.{Tree}
use Rattle.mdf_model.specs.Tree.{whole_budget, header_of, passed_over, tree}
use Rattle.mdf_tree.specs.Head.{placed_history}
use Rattle.mdf_spell.specs.Recording.{recorded_row, recorded_head, recorded_history, IsRecordingTree, FindsHead, FindsGroups}
use Rattle.mdf_session.specs.Session.{recording_by, recording}
use Rattle.mdf_gate.specs.Recording.{IsRecording}

-- a word that names a form, as a test
form_named_true : (word : ℕ) → NamesForm word → names_form word ≡ true
form_named_true word (inl one) = or_left (nat_eq word 1) (nat_eq word 3) (eq-eqb word 1 one)
form_named_true word (inr two) = or_right (nat_eq word 1) (nat_eq word 3) (eq-eqb word 3 two)

-- the identification of a recording
pub ident_found : (file : List ℕ) → IsRecording file → recording file ≡ Ok (the_ident file)
unfolding recording identify
ident_found file is =
    let id = the_ident file in
    let begins = is.form.unfinalized in
    let mdf : is_mdf file ≡ true =
    and_from (nat_le 64 (length file)) _ (le-leb 64 (length file) is.identified.long)
    (or_right (is_finalized file) _ ((bytes_eq-Decides (bytes_at 8 file 0) (codes "UnFinMF ")).1 begins)) in
    let version : has_read_version file ≡ true =
    and_from (nat_le 400 (version_of file)) (nat_le (version_of file) 419) (le-leb 400 (version_of file) is.version.not_below)
    (le-leb (version_of file) 419 is.version.not_above) in
    let left_open : id.finalized ≡ false = false_from_ne_true (is_finalized file) (λ says.
    let closed = (bytes_eq-Decides (bytes_at 8 file 0) (codes "MDF     ")).0 says in
    let wrong : 77 ≡ 85 = ap (λ (xs : List ℕ). get_or xs 0 0) (sym closed ∙ begins) in omega (arith, wrong)) in
    let custom : not (names_form id.custom_flags) ≡ false = ap not (form_named_true id.custom_flags is.form.custom) in
    let read : identify file ≡ Ok id =
    cond-true (is_mdf file) (if has_read_version file then Ok id else Err (Version (version_of file))) (Err NotMdf) mdf
    ∙ cond-true (has_read_version file) (Ok id) (Err (Version (version_of file))) version in
    ap (λ (found : Read Ident). found >>= recording_by) read
    ∙ cond-false (id.finalized || not (names_form id.custom_flags)) (Err (NotRecording id.std_flags id.custom_flags)) (Ok id)
    (ap (λ b. b || not (names_form id.custom_flags)) left_open ∙ custom)

-- the tree of a recording
entry_bytes : (start : ℕ) (rows : List GroupRow) → text_size (recorded_head start rows) (recorded_history start rows) ≡ 125
unfolding placed_history
entry_bytes start rows = omega arith

pub tree_found : (file : List ℕ) (start : ℕ) (rows : List GroupRow) → IsRecordingTree file start rows → FindsHead file start rows → FindsGroups file start rows
    → (dropped : ℕ) × (tree file ≡ Ok (record {
      head = recorded_head start rows;
      history = recorded_history start rows;
      rows = recorded_row start rows ∷ [];
      dropped = dropped;
    }))
unfolding tree
tree_found file start rows stands finds_head finds_groups =
    let head = recorded_head start rows in
    let history = recorded_history start rows in
    let b = the_block file 64 Hd in
    let first = block_some file 64 Hd refl stands.head.block in
    let text = finds_head 67108864 (omega arith) in
    let spent = head_spends file 67108864 ((head, history), text.0) text.1 in
    let budget : Budget = record whole_budget { text = text.0 } in
    let second : header_of file whole_budget ≡ Ok (head, history, budget) =
    ap (λ (read : Read ((Head × List History) × ℕ)). read >>= λ found. Ok (found.0.0, found.0.1, record whole_budget { text = found.1 })) text.1 in
    let third = finds_groups budget (omega (arith, spent.0, entry_bytes start rows)) in
    let made : Head × List History × Budget → List DataRow × Budget → Tree = λ found groups_found. record {
      head = found.0;
      history = found.1;
      rows = groups_found.0;
      dropped = (with_dropped (passed_over file b.at) groups_found.1).dropped;
    } in
    let behind : Head × List History × Budget → Read Tree = λ found. groups file found.0.first_dg found.2 >>= λ rows_found. Ok (made found rows_found) in (
      (with_dropped (passed_over file b.at) third.0).dropped,
      ap (λ (read : Read BlockAt). read >>= λ block_found. header_of file whole_budget >>= λ found. groups file found.0.first_dg found.2
          >>= λ rows_found. Ok (record {
            head = found.0;
            history = found.1;
            rows = rows_found.0;
            dropped = (with_dropped (passed_over file block_found.at) rows_found.1).dropped;
          })) first
          ∙ ap (λ (read : Read (Head × List History × Budget)). read >>= behind) second
          ∙ ap (λ (read : Read (List DataRow × Budget)). read >>= λ rows_found. Ok (made (head, history, budget) rows_found)) third.1,
    )
