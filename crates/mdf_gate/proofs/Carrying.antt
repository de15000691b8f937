-- What a file carries, of a longer history and of fewer samples.
use Rattle.std.proofs.Common.{◌≡◌, ◌+◌, ◌≤◌, ◌⊎◌, ℕ, List, [], ◌∷◌, ◌++◌, length, take, drop, Option, Some, None, refl, sym, ◌∙◌, ap, subst, inl, inr, ⊎_elim, arith, append_assoc}
use Rattle.std.proofs.lemmas.List.{take-append-drop, length-take-le, append-nil}
use Rattle.std.proofs.lemmas.List.Folds.{concat-append}
use Rattle.std.proofs.lemmas.List.Sums.{sum_by-append}
use Rattle.std.specs.Prelude.{IfSome}
use Rattle.std.specs.List.{concat}
use Rattle.mdf_disk.specs.Story.{Story}
use mathlib.Core.List.{IsPrefix}
use Rattle.mdf_layout.specs.Layout.{Layout}
use Rattle.mdf_layout.specs.Behind.{AreEncodingsBehind}
use Rattle.mdf_layout.specs.Record.{cost_of, history_cost}
use Rattle.mdf_layout.specs.declared.sample.Sample.{Sample}
use Rattle.mdf_layout.proofs.Behind.{all_written, no_encodings}
use Rattle.mdf_layout.proofs.Bridge.{encodings_read}
use Rattle.mdf_gate.specs.Images.{IsNotMdf, IsBegun, Opens, OpensEither}
use Rattle.mdf_gate.specs.Carried.{Carries, IsCarried, IsEncoded}
use Rattle.mdf_gate.specs.Gated.{RestsOn}
use Rattle.mdf_gate.proofs.Resting.{rests_opens}

-- a list begins itself, and a beginning of a beginning begins the whole
pub prefix_self : {A : Type 0} (xs : List A) → IsPrefix xs xs
prefix_self xs = ([], append-nil xs)

pub prefix_trans : {A : Type 0} (xs ys zs : List A) → IsPrefix xs ys → IsPrefix ys zs → IsPrefix xs zs
prefix_trans xs ys zs (rest, first) (more, second) =
    (rest ++ more, sym (append_assoc xs rest more) ∙ ap (λ front. front ++ more) first ∙ second)

pub prefix_append : {A : Type 0} (xs ys : List A) → IsPrefix xs (xs ++ ys)
prefix_append xs ys = (ys, refl)

pub prefix_take : {A : Type 0} (n : ℕ) (xs : List A) → IsPrefix (take n xs) xs
prefix_take n xs = (drop n xs, take-append-drop n xs)

-- a longer history costs no less
cost_longer : (layouts : List Layout) (history longer : List Sample) → IsPrefix history longer → history_cost layouts history ≤ history_cost layouts longer
cost_longer layouts history longer (rest, is) = omega (arith, ap (history_cost layouts) is, sum_by-append (cost_of layouts) history rest)

module _ (layouts : List Layout) (head : List ℕ) where
  -- of a longer history, and of fewer samples
  pub carries_longer : (history longer : List Sample) (through : ℕ) (file : List ℕ) → IsPrefix history longer
      → Carries layouts head history through file → Carries layouts head longer through file
  carries_longer history longer through file begins c = record {
    begins = c.begins;
    samples = c.samples;
    carried = c.carried;
    beginning = prefix_trans c.samples history longer c.beginning begins;
    enough = c.enough;
    ends = omega (arith, c.ends, cost_longer layouts history longer begins);
  }

  pub carries_fewer : (history : List Sample) (through fewer : ℕ) (file : List ℕ) → fewer ≤ through
      → Carries layouts head history through file → Carries layouts head history fewer file
  carries_fewer history through fewer file less c = record {
    begins = c.begins;
    samples = c.samples;
    carried = c.carried;
    beginning = c.beginning;
    enough = omega (arith, c.enough);
    ends = c.ends;
  }

  -- a file with these opened blocks carries their samples
  pub carries_opened : (history samples : List Sample) (blocks : List (List ℕ)) (place : ℕ) (file : List ℕ) → Opens head blocks place file
      → AreEncodingsBehind layouts [] (concat blocks) samples → IsPrefix samples history → place ≤ length head + history_cost layouts history
      → Carries layouts head history (length samples) file
  carries_opened history samples blocks place file (begins, opened, ends) records beginning near = record {
    begins = begins;
    samples = samples;
    carried = record { blocks = blocks; opened = opened; records = encodings_read layouts (concat blocks) samples records };
    beginning = beginning;
    enough = omega arith;
    ends = omega (arith, ends, near);
  }

  -- the records of the blocks and of one block more
  pub concat_one_more : (blocks : List (List ℕ)) (body : List ℕ) → concat (blocks ++ body ∷ []) ≡ concat blocks ++ body
  concat_one_more blocks body = concat-append blocks (body ∷ []) ∙ ap (λ last. concat blocks ++ last) (append-nil body)

  -- while a block with the records of the last samples is appended
  pub carries_either : (history : List Sample) (through : ℕ) (blocks : List (List ℕ)) (body : List ℕ) (place : ℕ) → through ≤ length history
      → AreEncodingsBehind layouts [] (concat blocks) (take through history) → AreEncodingsBehind layouts (take through history) body (drop through history)
      → place ≤ length head + history_cost layouts history
      → (file : List ℕ) → OpensEither head blocks body place file → Carries layouts head history through file
  carries_either history through blocks body place within before behind near file (begins, opened, ends) =
      let long : length (take through history) ≡ through = length-take-le through history within in
      let all : AreEncodingsBehind layouts [] (concat (blocks ++ body ∷ [])) history =
      subst (λ bytes. AreEncodingsBehind layouts [] bytes history) (sym (concat_one_more blocks body))
      (all_written layouts history through (concat blocks) body before behind) in
      ⊎_elim
      (λ without. subst (λ n. Carries layouts head history n file) long
      (carries_opened history (take through history) blocks place file (begins, without, ends) before (prefix_take through history) near))
      (λ with. carries_fewer history (length history) through file within
      (carries_opened history history (blocks ++ body ∷ []) place file (begins, with, ends) all (prefix_self history) near))
      opened

  -- a file that was just begun carries no sample
  pub carries_begun : (history : List Sample) (file : List ℕ) → IsBegun head file → IsNotMdf file ⊎ Carries layouts head history 0 file
  carries_begun history file begun =
      ⊎_elim inl (λ h. inr (carries_opened history [] [] (length head) file h (no_encodings layouts []) (history, refl) (omega arith))) begun

-- the content of a file at rest carries the samples of its blocks, as they are written
pub rests_carry : (layouts : List Layout) (content : Option (List ℕ)) (story : Option Story) (first place : ℕ) (blocks : List (List ℕ)) (samples : List Sample)
    → RestsOn content story first blocks place → AreEncodingsBehind layouts [] (concat blocks) samples
    → IfSome content (λ file. IsCarried layouts file samples × IsEncoded layouts file samples)
rests_carry layouts None story first place blocks samples rests records = tt
rests_carry layouts (Some file) story first place blocks samples rests records =
    let opened = (rests_opens first blocks place file rests.rests).1 in (
      record { blocks = blocks; opened = opened; records = encodings_read layouts (concat blocks) samples records },
      record { blocks = blocks; opened = opened; records = records },
    )
