use Rattle.geo_tokens.proofs.Ends.{step_inside}
use Rattle.geo_tokens.proofs.first_end.next_passed.Goals as goal

pub returns-clause-inside : goal.returns-clause-inside
returns-clause-inside c = step_inside c.passed_len.result c.args.bytes.now c.passed_len.ensures
