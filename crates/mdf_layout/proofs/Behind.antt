-- Records behind a history.
use Rattle.std.proofs.Common.{◌≡◌, ℕ, List, [], ◌∷◌, ◌++◌, take, drop, refl, sym, ◌∙◌, ap, subst}
use Rattle.std.proofs.lemmas.List.{append_assoc, append-nil, take-append-drop}
use Rattle.mdf_layout.specs.Layout.{Layout}
use Rattle.mdf_layout.specs.Behind.{IsEncodingBehind, AreEncodingsBehind}
use Rattle.mdf_layout.specs.declared.sample.Sample.{Sample}

pub encodings-append : (layouts : List Layout) (before : List Sample) (xs ys : List ℕ) (samples others : List Sample)
    → AreEncodingsBehind layouts before xs samples → AreEncodingsBehind layouts (before ++ samples) ys others
    → AreEncodingsBehind layouts before (xs ++ ys) (samples ++ others)
unfolding AreEncodingsBehind
encodings-append layouts before xs ys [] others none more =
    let same : xs ++ ys ≡ ys = rw none refl in
    subst (λ bytes. AreEncodingsBehind layouts before bytes others) (sym same)
    (subst (λ b. AreEncodingsBehind layouts b ys others) (append-nil before) more)
encodings-append layouts before xs ys (sample ∷ samples) others (first, rest, whole, one, behind) more =
    let history : before ++ (sample ∷ samples) ≡ (before ++ sample ∷ []) ++ samples = sym (append_assoc before (sample ∷ []) samples) in (
      first,
      rest ++ ys,
      ap (λ zs. zs ++ ys) whole ∙ append_assoc first rest ys,
      one,
      encodings-append layouts (before ++ sample ∷ []) rest ys samples others behind
          (subst (λ b. AreEncodingsBehind layouts b ys others) history more),
    )

pub one_encoding : (layouts : List Layout) (before : List Sample) (bytes : List ℕ) (sample : Sample)
    → IsEncodingBehind layouts before bytes sample → AreEncodingsBehind layouts before bytes (sample ∷ [])
unfolding AreEncodingsBehind
one_encoding layouts before bytes sample one = (bytes, [], sym (append-nil bytes), one, refl)

pub no_encodings : (layouts : List Layout) (before : List Sample) → AreEncodingsBehind layouts before [] []
unfolding AreEncodingsBehind
no_encodings layouts before = refl

-- a sample more behind a history whose first samples are durable
pub pending_more : (layouts : List Layout) (history : List Sample) (durable : ℕ) (pending record_bytes : List ℕ) (sample : Sample)
    → AreEncodingsBehind layouts (take durable history) pending (drop durable history) → IsEncodingBehind layouts history record_bytes sample
    → AreEncodingsBehind layouts (take durable history) (pending ++ record_bytes) (drop durable history ++ sample ∷ [])
pending_more layouts history durable pending record_bytes sample so_far one =
    encodings-append layouts (take durable history) pending record_bytes (drop durable history) (sample ∷ []) so_far
    (subst (λ b. AreEncodingsBehind layouts b record_bytes (sample ∷ [])) (sym (take-append-drop durable history)) (one_encoding layouts history record_bytes sample one))

-- the pending records behind the written ones
pub all_written : (layouts : List Layout) (history : List Sample) (durable : ℕ) (written pending : List ℕ)
    → AreEncodingsBehind layouts [] written (take durable history) → AreEncodingsBehind layouts (take durable history) pending (drop durable history)
    → AreEncodingsBehind layouts [] (written ++ pending) history
all_written layouts history durable written pending before behind =
    subst (λ samples. AreEncodingsBehind layouts [] (written ++ pending) samples) (take-append-drop durable history)
    (encodings-append layouts [] written pending (take durable history) (drop durable history) before behind)
