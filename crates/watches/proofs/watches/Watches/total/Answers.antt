use Rattle.std.proofs.Common.{◌≡◌, ◌%◌, ◌<◌, length, rules, get_or}
use Rattle.watches.specs.declared.watches.TheConstants.{LAST}
use Rattle.watches.specs.Watches.{IsTotal}
use Rattle.watches.proofs.Holding.{added_total, kept_total, known_total}
use Rattle.watches.proofs.watches.Watches.total.Goals as goal

pub returns-then-known-self : goal.returns-then-known-self
returns-then-known-self g c =
    let w = c.args.self.now in
    let x = c.index-known.result.now in
    let k = c.args.i % c.len.result in
    let there : k < length w.totals.items = search rules in
    let read : x ≡ get_or w.totals.items k x = search rules in
    let is : x.condition ≡ c.args.i = search rules in
    let now : x.since ≡ w.clock = search rules in
    let early : w.clock < LAST = search rules in
    known_total c.args.i k c.args.f.now c.args.s.now x w there read is now early

pub returns : goal.returns
returns g c =
    let k = c.args.i % c.len.result in
    let r = c.least_value_of-value in
    let there : k < length c.args.self.now.totals.items = search rules in
    let total : IsTotal c.args.f.now c.args.s.now r.result = record { least = r.ensures.value; small = r.ensures.bound } in
    added_total c.args.i k c.args.f.now c.args.s.now _ c.of.result c.args.self.now c.put_total.new.self there c.put_total.ensures c.of.ensures (kept_total c.args.f.now c.args.s.now r.result total)
