-- A buffer that is filled page by page.
use Rattle.std.proofs.Common.{◌≡◌, ◌+◌, ◌-◌, ◌*◌, ◌/◌, ◌%◌, ◌≤◌, min, ℕ, List, ◌++◌, length, take, drop, sym, ◌∙◌, ap, arith}
use Rattle.std.proofs.Math.Seq.{take-add, drop-drop}
use Rattle.std.proofs.lemmas.List.{take-take, drop-take, take_min, take_at, drop_at, take-append-le, length-take, length-drop}
use borrow.Rule.Slice.PartMut.{put_mid, post_of}
use Rattle.mdf_format.specs.Number.{bytes_at}
use Rattle.mdf_pages.specs.Page.{page_of, page_size}

-- as many bytes as a page of the file has, read from its place on, are the page
pub page_read : (file : List ℕ) (size page at count : ℕ) → length file ≡ size → at ≡ page * 65536 → count ≡ page_size size page
    → bytes_at count file at ≡ page_of file page
page_read file size page at count long place is =
    let from : at ≡ 65536 * page = omega (arith, place) in
    let most : count ≡ min 65536 (length (drop (65536 * page) file)) = omega (arith, is, long, length-drop (65536 * page) file) in
    ap (λ (start : ℕ). take count (drop start file)) from
    ∙ ap (λ (n : ℕ). take n (drop (65536 * page) file)) most
    ∙ take_min 65536 (drop (65536 * page) file)

-- what the page of a place has from there on, the file has
pub page_part : (n at : ℕ) (file : List ℕ) → at % 65536 + n ≤ 65536
    → bytes_at n (page_of file (at / 65536)) (at % 65536) ≡ bytes_at n file at
page_part n at file within =
    let start = at % 65536 in
    let base = 65536 * (at / 65536) in
    let whole : 65536 ≡ start + (65536 - start) = omega (arith, within) in
    let place : base + start ≡ at = omega arith in
    ap (λ (count : ℕ). take n (drop start (take count (drop base file)))) whole
    ∙ ap (take n) (drop-take start (65536 - start) (drop base file))
    ∙ take-take n (65536 - start) (drop start (drop base file)) (omega (arith, within))
    ∙ ap (take n) (drop-drop start base file)
    ∙ ap (λ (from : ℕ). bytes_at n file from) place

-- a buffer whose front is filled so far, filled further
pub front_more : (file before part : List ℕ) (at done n : ℕ) → done ≤ length before → n ≤ length part
    → take done before ≡ bytes_at done file at → take n part ≡ bytes_at n file (at + done)
    → take (done + n) (put_mid done (length before - done) before part) ≡ bytes_at (done + n) file at
front_more file before part at done n short most so_far more =
    let behind = part ++ post_of done (length before - done) before in
    let long : length (take done before) ≡ done = length-take done before ∙ omega (arith, short) in
    take-add done n (take done before ++ behind)
    ∙ ap (λ (xs : List ℕ). xs ++ take n (drop done (take done before ++ behind))) (take_at (take done before) behind done long ∙ so_far)
    ∙ ap (λ (xs : List ℕ). bytes_at done file at ++ take n xs) (drop_at (take done before) behind done long)
    ∙ ap (λ (xs : List ℕ). bytes_at done file at ++ xs) (take-append-le n part (post_of done (length before - done) before) most ∙ more)
    ∙ sym (take-add done n (drop at file) ∙ ap (λ (xs : List ℕ). bytes_at done file at ++ take n xs) (drop-drop done at file))
