use Rattle.std.proofs.Common.{◌≡◌, ℕ, ◌∙◌, ap, arith}
use Rattle.tool_sort.specs.Made.{report_for}
use Rattle.mdf_tool.specs.declared.made.Report.{Report}
use Rattle.tool_concat.specs.Concat.{dropped_of}
use Rattle.tool_concat.proofs.Groups.{joined_stands}
use Rattle.tool_concat.proofs.joining.made_of.Goals as goal

pub returns-clause-made : goal.returns-clause-made
returns-clause-made c =
    let one = c.args.one in
    let other = c.args.other in
    let joined = c.in_ok-joined.joined in
    let dropped = c.saturating_add-dropped.result in
    let can = c.in_ok-joined.ensures.can in
    let count : dropped ≡ dropped_of one other = omega (arith, c.saturating_add-dropped.ensures, c.dropped.ensures, c.dropped-2.ensures) in
    record {
      can = can;
      joined = joined;
      is_joined = c.in_ok-joined.ensures.joined;
      bytes_are = c.in_ok-bytes.ensures.made.bytes_are;
      keeps = λ file stands. c.in_ok-bytes.ensures.keeps file
          (joined_stands file one other joined stands c.requires.one c.requires.other can.alike c.in_ok-joined.ensures.joined);
      report_is = ap (λ (report : Report). record report { dropped = dropped }) c.in_ok-bytes.ensures.made.report_is
          ∙ ap (λ (n : ℕ). record (report_for joined) { dropped = n }) count;
    }
