use Rattle.std.proofs.Common.{◌≡◌, ◌≤◌, length, take, map, ap}
use Rattle.geo_tokens.specs.declared.fault.FaultWord.TheVariants as words
use Rattle.rule_syntax.specs.declared.tree.PlacedName.{PlacedName}
use Rattle.problem_data.specs.Least.{fault}
use Rattle.problem_data.proofs.Firsts.{tested, at_least, at_least_back}
use Rattle.problem_data.proofs.InLists.{among_none, more_view, all_view, before_length}
use Rattle.statement_faults.proofs.names.past_limit.Goals as goal

pub loop-i-init : goal.loop-i-init
loop-i-init g c = among_none (λ before n f. (c.args.most ≤ length before) × (f ≡ fault n.place words.Limit))

pub loop-i-preserved : goal.loop-i-preserved
loop-i-preserved g c =
    let e = before_length g.T.Named.name_of c.args.items.now c.loop-i.i c.loop-i-test.true in
    more_view g.T.Named.name_of c.args.items.now c.loop-i.i (λ before n f. (c.args.most ≤ length before) × (f ≡ fault n.place words.Limit)) c.index-items-i.result _ _ _ c.loop-i-test.true c.index-items-i.is c.earlier-found.ensures c.loop-i.invariant
    (tested (c.args.most ≤ length (take c.loop-i.i (map g.T.Named.name_of c.args.items.now))) _ _ _ _ _ c.fault_if-here.ensures (ap (λ (n : PlacedName). n.place) c.placed_name-name.ensures) (at_least c.args.most c.loop-i.i _ e) (at_least_back c.args.most c.loop-i.i _ e))

pub returns : goal.returns
returns g c = all_view g.T.Named.name_of c.args.items.now c.loop-i.i (λ before n f. (c.args.most ≤ length before) × (f ≡ fault n.place words.Limit)) _ c.loop-i-test.false c.loop-i.invariant
