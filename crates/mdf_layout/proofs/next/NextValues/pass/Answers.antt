use Rattle.std.proofs.Common.{◌≡◌, ◌<◌, ◌^◌, ◌∙◌, ap, sym, subst, arith, length}
use Rattle.std.specs.Prelude.{All}
use Rattle.std.proofs.lemmas.List.{with_items_is}
use Rattle.std.proofs.lemmas.Option.{slice_get_within}
use Rattle.mdf_layout.specs.History.{group_samples}
use Rattle.mdf_layout.specs.Record.{long_values}
use Rattle.mdf_layout.specs.Behind.{first_id}
use Rattle.mdf_layout.specs.Next.{Next, AreNext, added, value_sizes}
use Rattle.mdf_layout.proofs.Nexts.{entries_of, offsets-count, offsets_small, next_there, next_more}
use Rattle.mdf_layout.proofs.next.NextValues.pass.Goals as goal

pub index_mut-requires : goal.index_mut-requires
index_mut-requires c =
    let are = subst (AreNext c.args.shapes.now c.requires.next.0) (sym c.self.view_is) c.requires.next.1 in
    omega (
      arith,
      slice_get_within c.self.inside.groups.items c.args.sample.now.group _ (are.each c.args.sample.now.group c.at.result.now c.at.ensures),
      c.self.inside.groups.ok.0,
    )

pub pass_in_group-requires-clause-offsets : goal.pass_in_group-requires-clause-offsets
pass_in_group-requires-clause-offsets c =
    let layouts = c.args.shapes.now in
    let before = c.requires.next.0 in
    let group = c.args.sample.now.group in
    let layout = c.at.result.now in
    let are = subst (AreNext layouts before) (sym c.self.view_is) c.requires.next.1 in
    let mine = next_there layouts before group layout c.self.inside.groups.items c.index_mut.result.now c.at.ensures are c.index_mut.ensures.value in
    let offsets_are = c.deref_mut.ensures.value ∙ ap (λ n. n.offsets) (c.behind-self.view_is ∙ mine) in
    ap length offsets_are ∙ offsets-count layout.rows 0 (group_samples before group)

pub pass_in_group-requires-clause-small : goal.pass_in_group-requires-clause-small
pass_in_group-requires-clause-small c =
    let layouts = c.args.shapes.now in
    let before = c.requires.next.0 in
    let group = c.args.sample.now.group in
    let layout = c.at.result.now in
    let are = subst (AreNext layouts before) (sym c.self.view_is) c.requires.next.1 in
    let mine = next_there layouts before group layout c.self.inside.groups.items c.index_mut.result.now c.at.ensures are c.index_mut.ensures.value in
    let offsets_are = c.deref_mut.ensures.value ∙ ap (λ n. n.offsets) (c.behind-self.view_is ∙ mine) in
    subst (All (λ offset. offset < 2 ^ 62)) (sym offsets_are) (offsets_small layouts group layout before c.at.ensures c.requires.next.2)

pub returns : goal.returns
returns c = λ before given.
    let layouts = c.args.shapes.now in
    let sample = c.args.sample.now in
    let group = sample.group in
    let layout = c.at.result.now in
    let are = subst (AreNext layouts before) (sym c.self.view_is) given in
    let mine = next_there layouts before group layout c.self.inside.groups.items c.index_mut.result.now c.at.ensures are c.index_mut.ensures.value in
    let next_is = c.behind-self.view_is ∙ mine in
    let passed = c.pass_in_group.ensures
    ∙ ap (λ os. added os (value_sizes (long_values layout.rows sample.values))) (c.deref_mut.ensures.value ∙ ap (λ n. n.offsets) next_is) in
    let long : length c.pass_in_group.new.offsets ≡ c.behind-self.inside.offsets.len = omega (arith, c.pass_in_group.auto.offsets, c.deref_mut.ensures.len) in
    let is = ap {B = Next} (λ os. record { id = c.behind-self.inside.id; offsets = os }) (with_items_is c.behind-self.inside.offsets c.pass_in_group.new.offsets long)
    ∙ ap {B = Next} (λ i. record { id = i; offsets = c.pass_in_group.new.offsets }) (ap (λ n. n.id) next_is)
    ∙ ap {B = Next} (λ os. record { id = first_id layouts group; offsets = os }) passed in
    next_more layouts before sample layout c.self.inside.groups.items _ c.at.ensures (entries_of layouts sample layout c.at.ensures c.requires.fits).count are is
