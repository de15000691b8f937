-- What is left of bytes when the next of them were taken, and what known bytes are when more were given.
use Rattle.std.proofs.Common.{◌≡◌, ◌≤◌, ◌<◌, ◌+◌, ◌-◌, min, ℕ, List, [], ◌++◌, Option, Some, None, length, take, drop, sym, ◌∙◌, ap, arith, length-append, length-drop, take-append-drop, append_assoc, append-nil}
use Rattle.std.proofs.lemmas.List.{take_at, drop_all, drop-drop, length-take-le}
use Rattle.std.specs.Io.KnownBytes.{Appends, Keeps, Consumes}

-- a buffer whose front was written over with the next n bytes
pub taken : (bytes buf part : List ℕ) (at n : ℕ) → at ≤ length bytes → n ≡ min (length buf) (length bytes - at)
    → part ≡ take n (drop at bytes)
    → drop at bytes ≡ take n (part ++ drop n buf) ++ drop (at + n) bytes
taken bytes buf part at n within count is =
    let whole : length part ≡ n = ap length is ∙ length-take-le n (drop at bytes) (omega (arith, length-drop at bytes)) in
    sym (take-append-drop n (drop at bytes))
    ∙ ap (λ (front : List ℕ). front ++ drop n (drop at bytes)) (sym is ∙ sym (take_at part (drop n buf) n whole))
    ∙ ap (λ (rest : List ℕ). take n (part ++ drop n buf) ++ rest) (drop-drop n at bytes)

-- where none was taken into a buffer with room, none is left
pub at_end : (bytes buf part : List ℕ) (at n : ℕ) → at ≤ length bytes → n ≡ min (length buf) (length bytes - at)
    → part ≡ take n (drop at bytes) → n ≡ 0 → 0 < length (part ++ drop n buf) → drop (at + n) bytes ≡ []
at_end bytes buf part at n within count is none room =
    let whole : length part ≡ n = ap length is ∙ length-take-le n (drop at bytes) (omega (arith, length-drop at bytes)) in
    drop_all (at + n) bytes (omega (arith, length-append part (drop n buf), length-drop n buf))

-- no bytes, and bytes behind bytes
pub appends_none : (held : Option (List ℕ)) → Appends held held []
appends_none None = tt
appends_none (Some held) = sym (append-nil held)

pub appends_more : (old mid new : Option (List ℕ)) (xs ys : List ℕ) → Appends old mid xs → Appends mid new ys → Appends old new (xs ++ ys)
appends_more None mid new xs ys first second = tt
appends_more (Some bytes) None new xs ys first second = absurd first
appends_more (Some bytes) (Some more) None xs ys first second = absurd second
appends_more (Some bytes) (Some more) (Some most) xs ys first second =
    second ∙ ap (λ (front : List ℕ). front ++ ys) first ∙ append_assoc bytes xs ys

pub keeps_behind : (old mid new : Option (List ℕ)) (xs : List ℕ) → Appends old mid xs → Keeps mid new → Appends old new xs
keeps_behind None mid new xs first second = tt
keeps_behind (Some bytes) None new xs first second = absurd first
keeps_behind (Some bytes) (Some more) None xs first second = absurd second
keeps_behind (Some bytes) (Some more) (Some most) xs first second = second ∙ first

-- bytes taken behind bytes
pub consumes_more : (old mid new : Option (List ℕ)) (xs ys : List ℕ) → Consumes old mid xs → Consumes mid new ys → Consumes old new (xs ++ ys)
consumes_more None mid new xs ys first second = tt
consumes_more (Some bytes) None new xs ys first second = absurd first
consumes_more (Some bytes) (Some more) None xs ys first second = absurd second
consumes_more (Some bytes) (Some more) (Some most) xs ys first second =
    first ∙ ap (λ (rest : List ℕ). xs ++ rest) second ∙ sym (append_assoc xs ys most)
