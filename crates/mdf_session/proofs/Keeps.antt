-- What the data group of a recording holds is put together.
use Rattle.std.proofs.Common.{◌≡◌, ◌<◌, ℕ, false, List, [], ◌∷◌, length, get_or, Some, Ok, Err, refl, sym, ◌∙◌, ap, subst, arith}
use Rattle.std.specs.Prelude.{slice_index_or}
use Rattle.mdf_block.specs.Refusal.{Read, ◌>>=◌}
use Rattle.mdf_stream.specs.declared.part.Part.{Part}
use Rattle.mdf_stream.specs.Parts.{stream_of}
use Rattle.mdf_group.specs.Group.{is_variable}
use Rattle.mdf_group.specs.declared.row.DataRow.{DataRow}
use Rattle.mdf_group.specs.declared.row.GroupRow.{GroupRow}
use Rattle.mdf_content.specs.Contents.{records_at}
use Rattle.mdf_content.specs.Layouts.{layout}
use Rattle.mdf_content.specs.Values.{DataStream, streams}
use Rattle.mdf_session.specs.declared.session.Kept.{Kept}
use Rattle.mdf_session.specs.Counted.{all_streams, counts_from, group_streams, places_by, records_content, streams_at, totals_from}
use Rattle.mdf_session.specs.Session.{kept_by, kept_of, IsCountedOf}

-- the streams, the records and what is counted
pub kept_is : (f : List ℕ) (row : DataRow) (parts : List Part) (lists streams : List (List ℕ)) (content counts totals : List ℕ)
    → all_streams f (record { parts = parts; groups = row.groups; lists = lists }) ≡ Ok streams
    → content ≡ records_content (stream_of f parts) row lists → counts ≡ counts_from lists 0 row.groups
    → totals ≡ totals_from (stream_of f parts) lists 0 row.groups
    → kept_of f row parts lists ≡ Ok (record { content = content; counts = counts; totals = totals; streams = streams })
unfolding kept_of
kept_is f row parts lists streams content counts totals read content_is counts_are totals_are =
    ap (λ (found : Read (List (List ℕ))). found >>= λ all. Ok (kept_by f row parts lists all)) read
    ∙ rw (content_is, counts_are, totals_are) refl

-- the first data group
pub first_counted : (rows : List DataRow) (row : DataRow) (found : Kept) → 0 < length rows → row ≡ get_or rows 0 row → IsCountedOf row found
    → (d : DataRow) → IsCountedOf (slice_index_or rows 0 d) found
first_counted [] row found there is counted d = absurd (omega (arith, there))
first_counted (first ∷ rows) row found there is counted d = subst (λ (one : DataRow). IsCountedOf one found) is counted

-- a step behind two steps is a step behind the second of them
steps_join : {A B C : Type 0} (read : Read A) (next : A → Read B) (last : B → Read C) → ((read >>= next) >>= last) ≡ (read >>= λ x. next x >>= last)
steps_join (Ok x) next last = refl
steps_join (Err refusal) next last = refl

-- a group that holds no values
pub group_read : (f : List ℕ) (held : DataStream) (k : ℕ) (group : GroupRow) (left : Unit {0}) (places : List ℕ)
    → is_variable group ≡ false → places ≡ places_by held.lists k
    → group_streams f held k group left ≡ (streams_at f held group places >>= λ found. Ok (Some found, left))
unfolding group_streams
group_read f held k group left places other placed =
    rw (other, placed) (sym (steps_join (layout group) (λ _. streams f held (records_at false group (places_by held.lists k)) group.channels) (λ found. Ok (Some found, left))))
