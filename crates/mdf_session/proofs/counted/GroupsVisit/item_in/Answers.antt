use Rattle.std.proofs.Common.{◌≡◌, false, List, ℕ, Some, Ok, rules, sym, ◌∙◌, ap, subst}
use Rattle.std.specs.Prelude.{slice_index_or}
use Rattle.mdf_block.specs.Refusal.{Read, Gives, ◌>>=◌}
use Rattle.mdf_group.specs.Group.{is_variable}
use Rattle.mdf_content.specs.Fault.{read_refusal}
use Rattle.mdf_content.specs.Values.{held_of}
use Rattle.mdf_session.specs.Counted.{places_by, streams_at}
use Rattle.mdf_block.proofs.Readers.{says_of}
use Rattle.mdf_session.proofs.Keeps.{group_read}
use Rattle.mdf_session.proofs.counted.GroupsVisit.item_in.Goals as goal

pub returns-in_err-found-clause-reads : goal.returns-in_err-found-clause-reads
returns-in_err-found-clause-reads g c = says_of (search rules) (λ f told.
    let held = held_of c.args.self.now.held.now in
    let item = c.args.item.now in
    let places = c.places_or-places.result.now in
    let other : is_variable item ≡ false = search rules in
    let placed : places ≡ places_by held.lists c.args.k = c.places_or-places.ensures ∙ ap (slice_index_or held.lists c.args.k) c.empty-none.ensures in
    let halted : Gives read_refusal c.from_residual.result (streams_at f held item places >>= λ found. Ok (Some found, c.args.state)) =
    search rules in
    subst (Gives read_refusal c.from_residual.result) (sym (group_read f held c.args.k item c.args.state places other placed)) halted)

pub returns-clause-reads : goal.returns-clause-reads
returns-clause-reads g c = says_of (search rules) (λ f told.
    let held = held_of c.args.self.now.held.now in
    let item = c.args.item.now in
    let places = c.places_or-places.result.now in
    let other : is_variable item ≡ false = search rules in
    let placed : places ≡ places_by held.lists c.args.k = c.places_or-places.ensures ∙ ap (slice_index_or held.lists c.args.k) c.empty-none.ensures in
    group_read f held c.args.k item c.args.state places other placed
    ∙ ap (λ (read : Read (List (List ℕ))). read >>= λ found. Ok (Some found, c.args.state)) (c.in_ok-found.ensures.reads.found f told))
