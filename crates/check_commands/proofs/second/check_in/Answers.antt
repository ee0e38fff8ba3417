use Rattle.std.proofs.Common.{◌∙◌}
use Rattle.check_commands.proofs.Behind.{checked_whole, has_fault, finds_fault, finds_as}
use Rattle.check_commands.proofs.second.check_in.Goals as goal

pub returns-in-Ok-clause-answer : goal.returns-in-Ok-clause-answer
returns-in-Ok-clause-answer g c =
    let x = c.in_ok-give_text.ensures.ended _ c.start-check.ensures.checking in
    let whole = checked_whole _ g.row.K c.start-check.result.feeder _ _ _ x.2 _ c.in-Ok.is in (
      x.0,
      x.1,
      finds_as c.args.problem.now c.args.conditions.now c.is_said.ensures.formed c.requires.fit _ _ _ _ c.args.second.now.place c.verdict.result (c.start-check.ensures.names ∙ c.in_ok-names.ensures)
          (c.in_ok-give_text.ensures.conditions ∙ c.start-check.ensures.conditions) c.in_ok-first.ensures.value (c.verdict.ensures _ _ _ whole),
    )

pub returns-clause-answer : goal.returns-clause-answer
returns-clause-answer g c =
    let x = c.in_ok-give_text.ensures.ended _ c.start-check.ensures.checking in
    let wrong = has_fault _ g.row.K c.start-check.result.feeder _ _ _ x.2 c.in-Err.fault c.in-Err.is in (
      x.0,
      x.1,
      finds_fault c.args.problem.now c.args.conditions.now _ _ _ c.args.second.now.place c.in-Err.fault (c.start-check.ensures.names ∙ c.in_ok-names.ensures) c.start-check.ensures.place wrong,
    )
