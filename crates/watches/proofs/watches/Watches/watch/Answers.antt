use Rattle.std.proofs.Common.{◌<◌, length, rules}
use Rattle.watches.specs.declared.watches.TheConstants.{LAST}
use Rattle.watches.proofs.Holding.{watched_put}
use Rattle.watches.proofs.watches.Watches.watch.Goals as goal

pub returns : goal.returns
returns c =
    let there : c.if-is_kept.at < length c.args.self.now.found.items = search rules in
    let early : c.args.self.now.clock < LAST = search rules in
    watched_put c.args.i c.if-is_kept.at c.args.pair.first c.args.pair.second c.of-x.result c.args.self.now c.put.new.self there c.put.ensures c.of-x.ensures early
