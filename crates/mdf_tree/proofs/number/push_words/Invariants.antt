use Rattle.std.proofs.Common.{◌≡◌, ◌<◌, ◌^◌, ◌++◌, take}
use Rattle.std.specs.List.{AllByRecursion}
use Rattle.mdf_tree.specs.Conv.{words_of}
use Rattle.mdf_tree.proofs.number.push_words.Given as goal

abbrev pub invariant-loop-number : goal.invariant-loop-number
invariant-loop-number l = record {
  pushed : l.bytes ≡ l.initial.bytes ++ words_of (take l.number-index l.numbers);
  small : AllByRecursion (λ n. n < 2 ^ 64) (take l.number-index l.numbers);
}
