use Rattle.std.proofs.Common.{◌≡◌, ◌++◌, [], ◌∷◌, List, ℕ, take, get_or, sym, ◌∙◌, ap, arith}
use Rattle.tool_concat.specs.Joined.{joined_streams}
use Rattle.tool_concat.proofs.Streams.{joined_more}
use Rattle.tool_concat.proofs.joined.joined_streams.Goals as goal

pub loop-k-preserved : goal.loop-k-preserved
loop-k-preserved c =
    let streams = c.args.streams.now in
    let others = c.args.others.now in
    let k = c.loop-k.k in
    let d = c.index-streams-k.result in
    let e = c.index-others-k.result in
    let value : c.from_bytes.result ≡ get_or streams k d ++ get_or others k e =
    c.from_bytes.ensures ∙ c.in_ok-push_slice.ensures.ok
    ∙ ap (λ (bytes : List ℕ). bytes ++ c.bytes-in-loop-k.result.now) (c.in_ok-bytes.ensures ∙ c.bytes.ensures ∙ c.index-streams-k.is)
    ∙ ap (λ (bytes : List ℕ). get_or streams k d ++ bytes) (c.bytes-in-loop-k.ensures ∙ c.index-others-k.is) in
    c.in_ok-push.ensures.ok
    ∙ ap (λ (all : List (List ℕ)). all ++ c.from_bytes.result ∷ []) c.loop-k.invariant
    ∙ ap (λ (bytes : List ℕ). joined_streams (take k streams) (take k others) ++ bytes ∷ []) value
    ∙ sym (joined_more streams others k d e (omega (arith, c.loop-k-test.true)) (omega (arith, c.loop-k-test.true, c.requires)))
