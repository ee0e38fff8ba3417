use Rattle.geo_tokens.specs.FirstEnd.{comment}
use Rattle.geo_tokens.proofs.first_end.passed_len.Goals as goal

pub returns-then-bytes-eq35 : goal.returns-then-bytes-eq35
returns-then-bytes-eq35 c = comment c.if-bytes-eq35.true c.line_len.ensures.value
