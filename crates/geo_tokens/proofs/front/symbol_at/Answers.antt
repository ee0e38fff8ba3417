use Rattle.std.proofs.Common.{arith}
use Rattle.geo_tokens.proofs.Symbols.{first_answer, second_answer, long_answer}
use Rattle.geo_tokens.proofs.front.symbol_at.Goals as goal

pub returns-in-len1 : goal.returns-in-len1
returns-in-len1 c = first_answer c.args.bytes.now c.short_symbol.result (omega arith) c.short_symbol.ensures

pub returns-in-Some : goal.returns-in-Some
returns-in-Some c = long_answer c.args.bytes.now c.in-Some.symbol c.in-len2-up.len_at_least c.in-Some.ensures

pub returns-in-None : goal.returns-in-None
returns-in-None c = second_answer c.args.bytes.now c.short_symbol-in-None.result c.in-len2-up.len_at_least (c.in-None.ensures {u = tt}) c.short_symbol-in-None.ensures
