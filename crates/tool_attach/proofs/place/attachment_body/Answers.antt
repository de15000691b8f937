use Rattle.std.proofs.Common.{◌≡◌, ◌++◌, ℕ, List, [], length, replicate, ◌∙◌, ap, append-nil}
use Rattle.std.specs.Int.{to_le_bytes, w16, w64}
use Rattle.std.proofs.lemmas.Result.{IfOk-weaker}
use Rattle.tool_attach.specs.Attached.{attachment_body}
use Rattle.tool_attach.proofs.place.attachment_body.Goals as goal

pub returns : goal.returns
returns c =
    let row = c.args.row.now in
    let content : List ℕ = c.as_slice-content.result.now in
    let flags : List ℕ = to_le_bytes w16 row.flags in
    let creator : List ℕ = to_le_bytes w16 row.creator in
    let original : List ℕ = to_le_bytes w64 row.original in
    let parts : List ℕ → List ℕ → List ℕ → List ℕ → List ℕ → List ℕ = λ first second third fourth rest.
    first ++ (second ++ (replicate 4 0 ++ (row.md5 ++ (third ++ (fourth ++ rest))))) in
    let same : parts c.to_le_bytes.result c.to_le_bytes-2.result c.to_le_bytes-3.result c.to_le_bytes-4.result (content ++ []) ≡ attachment_body row =
    ap (λ (xs : List ℕ). parts xs c.to_le_bytes-2.result c.to_le_bytes-3.result c.to_le_bytes-4.result (content ++ [])) c.to_le_bytes.ensures
    ∙ ap (λ (xs : List ℕ). parts flags xs c.to_le_bytes-3.result c.to_le_bytes-4.result (content ++ [])) c.to_le_bytes-2.ensures
    ∙ ap (λ (xs : List ℕ). parts flags creator xs c.to_le_bytes-4.result (content ++ [])) c.to_le_bytes-3.ensures
    ∙ ap (λ (xs : List ℕ). parts flags creator original xs (content ++ [])) c.to_le_bytes-4.ensures
    ∙ ap (λ (xs : List ℕ). parts flags creator original (to_le_bytes w64 (length xs)) (xs ++ [])) c.as_slice-content.ensures
    ∙ ap (λ (xs : List ℕ). parts flags creator original (to_le_bytes w64 (length row.content)) xs) (append-nil row.content) in
    IfOk-weaker c.joined.result _ _ (λ body is. is ∙ same) c.joined.ensures
