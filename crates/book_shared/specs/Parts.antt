-- How a seat is cut in two, and how two are made one.
use Rattle.std.specs.Prelude.{ℕ, ◌+◌, ◌||◌, nat_le, cond, max, false, None, List, [], ◌∷◌, ◌++◌, length}
use Rattle.mdf_layout.specs.declared.sample.Sample.{Sample}
use Rattle.book_shared.specs.Basis.{Basis}
use Rattle.book_shared.specs.Plays.{fresh}
use Rattle.book_shared.specs.declared.view.View.{View}

-- the first source, and the others
abbrev pub first_part : List (ℕ × List Sample) → List (ℕ × List Sample)
first_part [] = []
first_part (part ∷ parts) = part ∷ []

abbrev pub other_parts : List (ℕ × List Sample) → List (ℕ × List Sample)
other_parts [] = []
other_parts (part ∷ parts) = parts

-- a seat keeps its first source, and a new one has the others
abbrev pub kept_part : View → View
kept_part v = record v { mine = first_part v.mine }

abbrev pub split_part : View → View
split_part v = record v { steps = 0; turns = 0; found = []; rounds = 0; olds = []; asked = []; due = []; mine = other_parts v.mine }

-- the longer of two lists
abbrev pub longer : {A : Type 0} → List A → List A → List A
longer xs ys = cond (nat_le (length xs) (length ys)) ys xs

-- a seat that knows what both knew, and has the sources of both
abbrev pub joined : View → View → View
joined v w = record {
  met = max v.met w.met;
  prior = max v.prior w.prior;
  steps = v.steps + w.steps;
  turns = v.turns + w.turns;
  found = v.found ++ w.found;
  rounds = v.rounds + w.rounds;
  knows = v.knows || w.knows;
  seen = longer v.seen w.seen;
  kept = longer v.kept w.kept;
  from = max v.from w.from;
  olds = (v.seen, v.kept) ∷ (w.seen, w.kept) ∷ (v.olds ++ w.olds);
  asked = v.asked ++ w.asked;
  due = v.due ++ w.due;
  mine = v.mine ++ w.mine;
  turn = v.turn;
  last = v.last;
  device = v.device;
  basis = v.basis;
}

-- what is left of a seat that was joined into another: it knows nothing and has no source
abbrev pub nothing : Basis
nothing = record {
  owners = [];
  sources = 0;
  terms = record { layouts = []; block_limit = 0; session_limit = 0; which = 0; head = []; start = 0; faults = 0; told = false; asked = None };
  begun = [];
}

abbrev pub spent : View
spent = fresh nothing []
