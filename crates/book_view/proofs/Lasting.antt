-- The last sample of a group, over chunks.
use Rattle.std.proofs.Common.{◌≡◌, ◌+◌, ◌<◌, ◌==◌, ℕ, List, [], ◌++◌, length, get_or, take, drop, Some, None, sym, ◌∙◌, ap, take-append-drop}
use Rattle.std.specs.Prelude.{find, reverse}
use Rattle.std.specs.Option.{option_or}
use Rattle.std.proofs.lemmas.List.{drop_more, reverse-append}
use Rattle.std.proofs.lemmas.List.Folds.{find-append}
use Rattle.mdf_layout.specs.Chunked.{joined}
use Rattle.mdf_layout.specs.declared.sample.Sample.{Sample}
use Rattle.mdf_layout.proofs.Joined.{joined-append}
use Rattle.book_view.specs.Latest.{latest_of}

module _ (group : ℕ) where
  latest-append : (samples more : List Sample) → latest_of group (samples ++ more) ≡ option_or (latest_of group more) (latest_of group samples)
  latest-append samples more =
      ap (find (λ (sample : Sample). sample.group == group)) (reverse-append samples more)
      ∙ find-append (λ (sample : Sample). sample.group == group) (reverse more) (reverse samples)

  -- chunk k, behind which no sample is of the group
  module _ (chunks : List (List Sample)) (k : ℕ) (within : k < length chunks) (none : latest_of group (joined (drop (k + 1) chunks)) ≡ None) where
    latest_from : latest_of group (joined (drop k chunks)) ≡ latest_of group (get_or chunks k [])
    latest_from =
        ap (λ (xs : List (List Sample)). latest_of group (joined xs)) (drop_more chunks k [] within)
        ∙ latest-append (get_or chunks k []) (joined (drop (k + 1) chunks)) ∙ ap (λ found. option_or found (latest_of group (get_or chunks k []))) none

    -- none of its samples is either
    pub still_none : None ≡ latest_of group (get_or chunks k []) → latest_of group (joined (drop k chunks)) ≡ None
    still_none here = latest_from ∙ sym here

    -- its last one is the last of all
    pub latest_is : (sample : Sample) → Some sample ≡ latest_of group (get_or chunks k []) → Some sample ≡ latest_of group (joined chunks)
    latest_is sample here =
        let found : latest_of group (joined (drop k chunks)) ≡ Some sample = latest_from ∙ sym here in
        sym (
        ap (λ (xs : List (List Sample)). latest_of group (joined xs)) (sym (take-append-drop k chunks))
        ∙ ap (latest_of group) (joined-append (take k chunks) (drop k chunks)) ∙ latest-append (joined (take k chunks)) (joined (drop k chunks))
        ∙ ap (λ found. option_or found (latest_of group (joined (take k chunks)))) found
        )
