use Rattle.std.proofs.Common.{ℕ, List, length, map, ◌∙◌, ap, subst, arith}
use Rattle.std.proofs.lemmas.List.{length-map}
use Rattle.mdf_data.specs.declared.known.Known.{Known}
use Rattle.mdf_data.specs.Places.{HaveRoom}
use Rattle.mdf_group.specs.declared.row.GroupRow.{GroupRow}
use Rattle.mdf_content.specs.Records.{known_of}
use Rattle.mdf_content.proofs.records.kept_records_in.Goals as goal

pub returns-then-row-eq0-clause-room : goal.returns-then-row-eq0-clause-room
returns-then-row-eq0-clause-room g c =
    let lists = c.in_ok-lists.lists in
    subst (λ (n : ℕ). HaveRoom n (map known_of c.args.row.now.groups) lists) c.len.ensures.size
    (subst (λ (groups : List GroupRow). HaveRoom c.len.result (map known_of groups) lists) c.as_slice-groups.ensures c.in_ok-lists.ensures.room)

pub places_with-requires-clause-few : goal.places_with-requires-clause-few
places_with-requires-clause-few g c =
    let long = ap (λ (known : List Known). length known) (c.as_slice.ensures ∙ c.in_ok-known.ensures) ∙ length-map c.as_slice-groups.result.now known_of in
    omega (arith, long, c.if-groups.false)
