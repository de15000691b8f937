use Rattle.std.proofs.Common.{◌<◌, length, rules}
use Rattle.mdf_session.specs.Standing.{with_content}
use Rattle.mdf_session.proofs.Keeps.{first_counted}
use Rattle.mdf_session.proofs.standing.first_standing_in.Goals as goal

pub returns-clause-counted : goal.returns-clause-counted
returns-clause-counted g c = λ content.
    let there : 0 < length c.args.rows.now = search rules in record {
      there = there;
      counted = first_counted c.args.rows.now c.index-rows-0.result (with_content content c.in_ok-standing.standing) there c.index-rows-0.is (c.in_ok-standing.ensures.counted content);
    }
