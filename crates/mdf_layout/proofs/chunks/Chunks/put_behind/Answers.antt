use Rattle.std.proofs.Common.{◌≡◌, ◌∙◌, ◌++◌, [], ◌∷◌, List, ap, arith, length, sym, subst, take}
use Rattle.std.specs.Arc.{arc_value}
use Rattle.mdf_layout.specs.Chunked.{start_of}
use Rattle.mdf_layout.specs.Parts.{AreParts, chunks_of}
use Rattle.mdf_layout.specs.declared.chunks.Part.{Part}
use Rattle.mdf_layout.specs.declared.sample.Sample.{Sample}
use Rattle.mdf_layout.proofs.Joined.{chunks_first, chunks_more, parts_first, parts_more}
use Rattle.mdf_layout.proofs.chunks.Chunks.put_behind.Goals as goal
use Rattle.mdf_layout.proofs.chunks.Chunks.put_behind.Goals.{After-push_reserved}

-- the parts that are kept, and the new one
abbrev part : After-push_reserved → Part
part c = record { start = c.start-start.result; chunk = c.in_ok-chunk.chunk }

parts_are : (c : After-push_reserved) → c.push_reserved.new.self.items ≡ take c.args.keep c.self.inside.parts.items ++ part c ∷ []
parts_are c =
    c.push_reserved.ensures.items
    ∙ ap (λ (xs : List Part). xs ++ part c ∷ []) (c.truncate.ensures.items ∙ ap (take c.args.keep) c.reserve.ensures.items)

pub invariant_of-self-2 : goal.invariant_of-self-2
invariant_of-self-2 c =
    let at = (goal.at.invariant_of-self-2 c).After-push_reserved in
    let parts = c.self.inside.parts.items in
    let start : c.start-start.result ≡ start_of (chunks_of parts) c.args.keep =
    c.start-start.ensures ∙ sym (ap (λ (xs : List (List Sample)). start_of xs c.args.keep) c.self.view_is) in
    let long = ap length c.deref.ensures in
    let same = ap length c.in_ok-chunk.ensures in
    subst (λ (xs : List Part). AreParts xs c.in-Some.len) (sym (parts_are at))
    (parts_more (take c.args.keep parts) (start_of (chunks_of parts) c.args.keep) c.in-Some.len (part at) (parts_first parts c.self.inside.len c.args.keep c.self.invariant) start
    (omega (arith, c.in-Some.ensures.1, c.len.ensures, long, same, start)))

pub returns-clause-ok : goal.returns-clause-ok
returns-clause-ok c =
    let at = (goal.at.returns-clause-ok c).After-push_reserved in
    let parts = c.self.inside.parts.items in
    ap chunks_of (parts_are at) ∙ chunks_more (take c.args.keep parts) (part at)
    ∙ ap (λ (xs : List (List Sample)). xs ++ arc_value c.in_ok-chunk.chunk ∷ []) (chunks_first parts c.args.keep ∙ ap (take c.args.keep) c.self.view_is)
    ∙ ap (λ (xs : List Sample). take c.args.keep c.args.self.now ++ xs ∷ []) c.in_ok-chunk.ensures
