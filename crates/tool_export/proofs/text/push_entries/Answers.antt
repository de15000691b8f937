use Rattle.std.proofs.Common.{◌++◌, List, map, sym, ◌∙◌, ap, arith, append-nil}
use Rattle.std.proofs.lemmas.List.{take_all}
use Rattle.csv.specs.Writing.{default_writer, fields_text}
use Rattle.mdf_layout.specs.declared.sample.Entry.{Entry}
use Rattle.tool_export.specs.Table.{entry_text}
use Rattle.tool_export.proofs.Plain.{entries_more}
use Rattle.tool_export.proofs.text.push_entries.Goals as goal

pub loop-entry-init : goal.loop-entry-init
unfolding fields_text
loop-entry-init c = sym (append-nil c.args.out.now.items)

pub loop-entry-preserved : goal.loop-entry-preserved
loop-entry-preserved c =
    entries_more c.args.entries.now c.loop-entry.entry-index c.entry-item.result c.args.out.now.items c.loop-entry.out.items c.push_text.new.out.items c.push_entry.new.out.items
    (omega (arith, c.loop-entry-test.true)) c.entry-item.is c.in_ok-push_entry.ensures.plain c.loop-entry.invariant c.in_ok-push_text.ensures c.in_ok-push_entry.ensures.text

pub returns : goal.returns
returns c =
    c.loop-entry.invariant
    ∙ ap (λ (entries : List Entry). c.args.out.now.items ++ fields_text default_writer (map entry_text entries))
    (take_all c.loop-entry.entry-index c.args.entries.now (omega (arith, c.loop-entry-test.false)))
