use Rattle.std.proofs.Common.{Some, sym, ap, ◌≡◌, ◌∙◌, ◌+◌, [], ◌∷◌, ◌++◌, true, false, drop, get_or}
use Rattle.std.proofs.lemmas.List.{get_or_default}
use Rattle.std.proofs.lemmas.Option.{MatchOption-at_none, MatchOption-at_some}
use Rattle.script_line.specs.Text.{words_left, is_end}
use Rattle.script_line.specs.Value.{entry_of, entries_of}
use Rattle.script_line.proofs.Entries.{behind, some_row, row_next, none_left, one_entry, no_entry, too_few, too_many, all_entries, some_fit}
use Rattle.script_line.proofs.sample.entries_of.Goals as goal

pub returns-in_default-clause-found : goal.returns-in_default-clause-found
returns-in_default-clause-found c =
    let rows = c.args.rows.now in
    let i = c.loop-row.row-index in
    let row = get_or rows i some_row in
    sym (too_few c.loop-row.entries.items c.loop-row.left.now (drop i rows) row (drop (i + 1) rows) (words_left c.loop-row.rest) (row_next rows i some_row c.loop-row-test.true) (ap words_left c.in_default.is))
    ∙ c.loop-row.invariant

pub returns-in_default-2-clause-found : goal.returns-in_default-2-clause-found
returns-in_default-2-clause-found c =
    let rows = c.args.rows.now in
    let widths = c.loop-row.left.now in
    let i = c.loop-row.row-index in
    let refuses = MatchOption-at_none _ _ c.in_default-2.is c.in_ok-first.ensures in
    let parts : words_left c.loop-row.rest ≡ refuses.word ∷ refuses.words = ap words_left c.in-Some.is ∙ refuses.first in
    sym (no_entry c.loop-row.entries.items widths (drop i rows) (get_or rows i some_row) (drop (i + 1) rows) (words_left c.loop-row.rest) refuses.word refuses.words (row_next rows i some_row c.loop-row-test.true) parts
    (ap (λ w. entry_of w (get_or rows i some_row) refuses.word) (sym c.next_width-width.ensures.first)
    ∙ ap (λ r. entry_of c.next_width-width.result.0 r refuses.word) (get_or_default rows i some_row _ c.loop-row-test.true) ∙ refuses.is))
    ∙ c.loop-row.invariant

pub loop-row-preserved : goal.loop-row-preserved
loop-row-preserved c =
    let rows = c.args.rows.now in
    let widths = c.loop-row.left.now in
    let i = c.loop-row.row-index in
    let first = c.in-Some-2.first in
    let begins = MatchOption-at_some _ _ first c.in-Some-2.is c.in_ok-first.ensures in
    let parts : words_left c.loop-row.rest ≡ begins.word ∷ words_left first.behind = ap words_left c.in-Some.is ∙ begins.first in
    ap (λ entries. behind entries (entries_of c.next_width-width.result.1.now (drop (i + 1) rows) (words_left first.behind))) c.in_ok-push.ensures.items
    ∙ ap (λ left. behind (c.loop-row.entries.items ++ first.entry ∷ []) (entries_of left (drop (i + 1) rows) (words_left first.behind))) c.next_width-width.ensures.others
    ∙ sym (one_entry c.loop-row.entries.items widths (drop i rows) (get_or rows i some_row) (drop (i + 1) rows) first.entry (words_left c.loop-row.rest) begins.word (words_left first.behind) (row_next rows i some_row c.loop-row-test.true) parts
    (ap (λ w. entry_of w (get_or rows i some_row) begins.word) (sym c.next_width-width.ensures.first)
    ∙ ap (λ r. entry_of c.next_width-width.result.0 r begins.word) (get_or_default rows i some_row _ c.loop-row-test.true) ∙ begins.is))
    ∙ c.loop-row.invariant

pub returns-then-not-is_end-clause-found : goal.returns-then-not-is_end-clause-found
returns-then-not-is_end-clause-found c =
    let rows = c.args.rows.now in
    let more : is_end (words_left c.loop-row.rest) ≡ false = sym (c.is_end.ensures 32) ∙ c.if-not-is_end.true in
    sym (too_many c.loop-row.entries.items c.loop-row.left.now (drop c.loop-row.row-index rows) (words_left c.loop-row.rest) (none_left rows c.loop-row.row-index c.loop-row-test.false) more)
    ∙ c.loop-row.invariant

pub returns-clause-found : goal.returns-clause-found
returns-clause-found c =
    let rows = c.args.rows.now in
    let none : is_end (words_left c.loop-row.rest) ≡ true = sym (c.is_end.ensures 32) ∙ c.if-not-is_end.false in
    ap Some c.from_vec.ensures
    ∙ sym (all_entries c.loop-row.entries.items c.loop-row.left.now (drop c.loop-row.row-index rows) (words_left c.loop-row.rest) (none_left rows c.loop-row.row-index c.loop-row-test.false) none)
    ∙ c.loop-row.invariant

pub returns-clause-fit : goal.returns-clause-fit
returns-clause-fit c = some_fit c.args.widths.now c.args.rows.now (words_left c.args.words) (Some c.from_vec.result) (returns-clause-found c)
