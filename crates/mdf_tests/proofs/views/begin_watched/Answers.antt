use Rattle.std.proofs.Common.{◌≡◌, ◌+◌, List, [], ◌∷◌, ◌++◌, length, All, sym, ◌∙◌, ap, subst, arith, length-append}
use Rattle.std.proofs.Math.Seq.{get_or-append_seam}
use Rattle.book_view.specs.Known.{Known}
use Rattle.mdf_tests.proofs.Begins.{one_group}
use Rattle.mdf_tests.proofs.views.begin_watched.Goals as goal

-- what holds of all holds of the last
last_is : {A : Type 0} (P : A → Type 0) (items rest : List A) (item : A) → items ≡ rest ++ item ∷ [] → All P items → P item
last_is P items rest item is all =
    let whole : All P (rest ++ item ∷ []) = subst (All P) is all in
    subst P (get_or-append_seam rest item [] item) (whole (length rest) item (omega (arith, length-append rest (item ∷ []))))

pub begin-requires-2-clause-admissible : goal.begin-requires-2-clause-admissible
begin-requires-2-clause-admissible g c =
    let one = c.requires.one in
    one_group c.args.shapes one.0 65536 268435456 one.1 one.2 one.3 one.4 (omega arith) (omega arith) (omega arith)

pub invariant_of-result : goal.invariant_of-result
invariant_of-result g c =
    let P : Known → Type 0 = λ reader. reader ≡ record { samples = []; which = c.in-Ok.begun.0.which; refusals = 0; views = 0 } in
    let new : c.in-Some.reader ≡ record { samples = []; which = c.in-Ok.begun.0.which; refusals = 0; views = 0 } =
    last_is P c.in-Ok.begun.1.items c.pop.new.self.items c.in-Some.reader c.in-Some.ensures.items c.in-Ok.ensures.each in
    record { same = ap (λ r. r.which) new ∙ sym (ap (λ t. t.which) c.in-Ok-begin.ensures.begun.terms) }
