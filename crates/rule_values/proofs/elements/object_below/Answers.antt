use Rattle.std.proofs.Common.{sym, arith, pos, map}
use Rattle.std.specs.List.{range_with_len}
use Rattle.std.proofs.lemmas.List.{get_or_past}
use Rattle.std.proofs.lemmas.List.FromFn.{length-map-range_with_len, get_or-map-range_with_len}
use Rattle.problem_data.specs.Value.{Number, Object}
use Rattle.rule_values.proofs.elements.object_below.Goals as goal

pub returns-then-i-count : goal.returns-then-i-count
returns-then-i-count c = sym (get_or-map-range_with_len Object 0 c.args.count c.args.i c.args.i (Number (pos 0)) (omega arith) (omega arith))

pub returns-else-i-count : goal.returns-else-i-count
returns-else-i-count c =
    let l = length-map-range_with_len Object 0 c.args.count in
    sym (get_or_past (map Object (range_with_len 0 c.args.count)) c.args.i (Number (pos 0)) (omega arith))
