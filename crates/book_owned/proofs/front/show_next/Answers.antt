use Rattle.std.proofs.Common.{List, subst, arith}
use Rattle.std.specs.Arc.{arc_value}
use Rattle.mdf_layout.specs.Chunked.{BeginsAt}
use Rattle.mdf_layout.specs.declared.sample.Sample.{Sample}
use Rattle.book_owned.proofs.Sharing.{begun, chunk_some, chunk_within, shared_more, shared_still, shared_within, shown}
use Rattle.book_owned.proofs.front.show_next.Given as given
use Rattle.book_owned.proofs.front.show_next.Goals as goal
use Rattle.book_owned.proofs.front.show_next.Goals.{After-chunk_from}

-- the chunk begins where the view ends
here : (g : given.Over) (c : After-chunk_from g) (chunk : List Sample) → BeginsAt c.args.history.now.chunks c.shown.result chunk
    → BeginsAt c.args.history.now.chunks (g.V.Shown.count c.args.view.now) chunk
here g c chunk = subst (λ n. BeginsAt c.args.history.now.chunks n chunk) c.shown.ensures

pub publish-requires-clause-room : goal.publish-requires-clause-room
publish-requires-clause-room g c =
    let chunks = c.args.history.now.chunks in
    let chunk = arc_value c.in-Some.chunk.now in
    let begins = here g (goal.at.publish-requires-clause-room g c).After-chunk_from chunk c.in-Some.ensures.some in
    omega (arith, chunk_within g.V.Shown c.args.view.now chunks c.requires.shared chunk c.chunk_from.ensures.sealed.some begins, c.requires.few)

pub publish-requires-clause-handed : goal.publish-requires-clause-handed
publish-requires-clause-handed g c =
    let chunks = c.args.history.now.chunks in
    let chunk = arc_value c.in-Some.chunk.now in
    let begins = here g (goal.at.publish-requires-clause-handed g c).After-chunk_from chunk c.in-Some.ensures.some in
    let shared = c.requires.shared in (
      shown g.V.Shown c.args.view.now chunks shared chunk c.chunk_from.ensures.sealed.some begins,
      shared.shown,
      begun g.V.Shown c.args.view.now chunks shared chunk c.chunk_from.ensures.sealed.some begins,
    )

pub returns-in-Ok-clause-shared : goal.returns-in-Ok-clause-shared
returns-in-Ok-clause-shared g c =
    let chunk = arc_value c.in-Some.chunk.now in
    let begins = here g (goal.at.returns-in-Ok-clause-shared g c).After-chunk_from chunk c.in-Some.ensures.some in
    shared_more g.V.Shown c.args.view.now c.args.history.now.chunks c.requires.shared chunk c.chunk_from.ensures.sealed.some begins
    c.publish.new.self c.publish.ensures.handed c.in-Ok.ensures.ok c.in-Ok.ensures.counted

pub returns-in-Ok-clause-more : goal.returns-in-Ok-clause-more
returns-in-Ok-clause-more g c =
    let chunk = arc_value c.in-Some.chunk.now in
    let begins = here g (goal.at.returns-in-Ok-clause-more g c).After-chunk_from chunk c.in-Some.ensures.some in
    omega (
      arith,
      c.in-Ok.ensures.counted,
      chunk_some g.V.Shown c.args.view.now c.args.history.now.chunks c.requires.shared chunk c.chunk_from.ensures.sealed.some begins,
    )

pub returns-in-Ok-clause-within : goal.returns-in-Ok-clause-within
returns-in-Ok-clause-within g c = shared_within g.V.Shown c.publish.new.self c.args.history.now.chunks (returns-in-Ok-clause-shared g c)

pub returns-in-Err-clause-shared : goal.returns-in-Err-clause-shared
returns-in-Err-clause-shared g c =
    let chunk = arc_value c.in-Some.chunk.now in
    let begins = here g (goal.at.returns-in-Err-clause-shared g c).After-chunk_from chunk c.in-Some.ensures.some in
    shared_still g.V.Shown c.args.view.now c.args.history.now.chunks c.requires.shared chunk c.chunk_from.ensures.sealed.some begins
    c.publish.new.self c.publish.ensures.handed c.in-Err.ensures.err c.in-Err.ensures.as_before

pub returns-in-Err-clause-within : goal.returns-in-Err-clause-within
returns-in-Err-clause-within g c = shared_within g.V.Shown c.publish.new.self c.args.history.now.chunks (returns-in-Err-clause-shared g c)

pub returns-in-None-clause-within : goal.returns-in-None-clause-within
returns-in-None-clause-within g c = shared_within g.V.Shown c.args.view.now c.args.history.now.chunks c.requires.shared
