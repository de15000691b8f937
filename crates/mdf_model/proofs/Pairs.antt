-- A loop over two lists side by side goes over their pairs.
use Rattle.std.proofs.Common.{◌≡◌, List, length, Option, None, sym, ◌∙◌}
use Rattle.std.proofs.lemmas.Iterator.{YieldsList-from_zip, zips}
use Rattle.std.proofs.lemmas.Iterator.Adapters.{YieldsList-from_vec}
use Rattle.std.proofs.lemmas.Iterator.Consumers.{YieldsList-end}
use Rattle.std.proofs.lemmas.List.{map-id}
use Rattle.std.specs.Iterator.{Yields}
use Rattle.std.specs.List.{zip}
use Rattle.std.specs.Vec.Iter.{into_iter_items, into_iter_len, into_iter_steps}
use Rattle.std.specs.declared.iter.Zip.{Zip}
use Rattle.std.specs.declared.vec.IntoIter.{IntoIter}

pub all_pairs : {A B Y Z : Type 0} (xs : List A) (ys : List B) (begin end past : Zip (IntoIter A Y) (IntoIter B Z)) (pairs : List (A × B)) (next : Option (A × B))
    → into_iter_items begin.a ≡ xs → into_iter_len begin.a ≡ length xs → into_iter_items begin.b ≡ ys → into_iter_len begin.b ≡ length ys
    → Yields (zips into_iter_steps into_iter_steps) begin pairs end → next ≡ None → zips into_iter_steps into_iter_steps end next past → pairs ≡ zip xs ys
all_pairs xs ys begin end past pairs next xs_there xs_long ys_there ys_long run none step =
    let road = YieldsList-from_zip (YieldsList-from_vec xs xs_there xs_long) (YieldsList-from_vec ys ys_there ys_long) in
    sym (map-id pairs) ∙ (YieldsList-end road pairs end run next past none step).0
