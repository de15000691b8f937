-- A chunk is queued behind what is shown.
use Rattle.std.proofs.Common.{◌≡◌, List, [], ◌∷◌, ◌++◌, length, take, fold, refl, sym, ◌∙◌, ap}
use Rattle.std.specs.Arc.{arc_value}
use Rattle.std.proofs.lemmas.List.{take_at}
use Rattle.std.proofs.lemmas.List.Sums.{fold-append}
use mathlib.Core.List.{IsPrefix}
use Rattle.mdf_gate.proofs.Carrying.{prefix_trans}
use Rattle.mdf_layout.specs.Chunked.{joined}
use Rattle.mdf_layout.specs.declared.sample.Sample.{Sample}
use Rattle.mdf_layout.proofs.Joined.{joined_more}
use Rattle.book_view.specs.Copies.{added}
use Rattle.book_view.specs.Handed.{Leads, Pends}
use Rattle.book_view.specs.declared.front.Front.{Front}
use Rattle.book_view.specs.declared.front.Fronts.{Fronts}
use Rattle.book_view.specs.declared.store.Store.{Store}
use Rattle.book_view.specs.declared.store.Addition.{Addition}

module _ (copy : Store) (pending : List Addition) (fronts : Fronts) (is : Pends copy pending fronts) where
  -- the log has more samples
  pub pends_longer : (log : Front) → log.seen.book ≡ fronts.log.seen.book → IsPrefix fronts.log.seen.log log.seen.log
      → Pends copy pending (record { shown = fronts.shown; log = log })
  pends_longer log book longer = record {
    front_is = is.front_is;
    whole = is.whole;
    stay = is.stay;
    one_log = book ∙ is.one_log;
    begins = prefix_trans fronts.shown.seen.log fronts.log.seen.log log.seen.log is.begins longer;
  }

  -- a chunk is queued behind all that are shown
  module _ (addition : Addition) (keep : addition.keep ≡ length copy.chunks) where
    abbrev chunk : List Sample
    chunk = arc_value addition.chunk

    last : fold added copy (pending ++ addition ∷ []) ≡ added (fold added copy pending) addition
    last = fold-append added copy pending (addition ∷ [])

    chunks_are : (fold added copy (pending ++ addition ∷ [])).chunks ≡ copy.chunks ++ chunk ∷ []
    chunks_are =
        ap (λ (store : Store). store.chunks) last ∙ ap (λ n. take n (fold added copy pending).chunks ++ chunk ∷ []) keep
        ∙ ap (λ (xs : List (List Sample)). xs ++ chunk ∷ []) is.stay

    pub pends_more : Pends copy (pending ++ addition ∷ []) fronts
    pends_more = record {
      front_is = is.front_is;
      whole = is.whole;
      stay = ap (take (length copy.chunks)) chunks_are ∙ take_at copy.chunks (chunk ∷ []) (length copy.chunks) refl;
      one_log = is.one_log;
      begins = is.begins;
    }

    pub leads_more : addition.front ≡ fronts.log → fronts.log.seen.log ≡ fronts.shown.seen.log ++ chunk → Leads copy (pending ++ addition ∷ []) fronts
    leads_more front longer =
        let front_is = ap (λ (store : Store). store.front) last ∙ front in
        record {
          front_is = front_is;
          whole = ap joined chunks_are ∙ joined_more copy.chunks chunk
              ∙ ap (λ xs. xs ++ chunk) (is.whole ∙ ap (λ (front : Front). front.seen.log) is.front_is) ∙ sym longer
              ∙ ap (λ (front : Front). front.seen.log) (sym front_is);
        }
