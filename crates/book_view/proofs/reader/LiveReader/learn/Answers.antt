use Rattle.std.proofs.Common.{rules, ◌∙◌, sym, ap}
use Rattle.book_view.specs.Names.{name_of}
use Rattle.book_view.proofs.Codes.{same_code}
use Rattle.book_view.proofs.reader.LiveReader.learn.Goals as goal

pub is_begun_by-requires : goal.is_begun_by-requires
is_begun_by-requires c =
    sym (same_code c.note.inside.front.seen.book c.self.inside.front.seen.book
    (ap (λ n. n.which) c.note.view_is ∙ (c.requires ∙ sym (ap (λ n. n.which) c.self.view_is))))

pub invariant_of-self : goal.invariant_of-self
invariant_of-self c =
    let same = same_code c.note.inside.front.seen.book c.self.inside.front.seen.book
    (ap (λ n. n.which) c.note.view_is ∙ (c.requires ∙ sym (ap (λ n. n.which) c.self.view_is))) in
    c.self.invariant ∙ ap name_of (sym same) ∙ sym (ap (λ f. name_of f.seen.book) c.again.ensures)

pub returns-clause-seen : goal.returns-clause-seen
returns-clause-seen c = search rules

pub returns-clause-told : goal.returns-clause-told
returns-clause-told c = search rules

pub returns-clause-either : goal.returns-clause-either
returns-clause-either c = search rules

pub returns-clause-same : goal.returns-clause-same
returns-clause-same c = search rules

pub returns-clause-views : goal.returns-clause-views
returns-clause-views c = search rules
