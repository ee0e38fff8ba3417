use Rattle.std.proofs.Common.{arith}
use Rattle.serde_json.specs.View.{view}
use Rattle.json_parts.proofs.Lists.{pair_length}
use Rattle.json_parts.proofs.pair.read_pair.Goals as goal

pub returns-then-len-ne2-clause-form : goal.returns-then-len-ne2-clause-form
returns-then-len-ne2-clause-form c = λ a b e.
    let n = pair_length view (view c.args.value.now) a b c.in-Some.items.now.items c.in-Some.ensures e in
    omega (arith, n, c.len.ensures, c.if-len-ne2.true)
