use Rattle.std.proofs.Common.{◌≡◌, [], List, length}
use Rattle.geo_conditions.specs.Reach.{Reach}
use Rattle.stream_check.specs.Streaming.{IsChecking}
use Rattle.check_commands.specs.Checks.{bytes_behind}
use Rattle.check_commands.proofs.Pieces.{HasGiven, still}
use Rattle.check_commands.proofs.second.give_text.Given as goal

-- the check was given the first bytes and then those of the source that were taken
abbrev pub invariant-giving : goal.invariant-giving
invariant-giving g l = record {
  given : HasGiven g.row.K (λ (first : List Reach). IsChecking first g.row.K l.fn.check.feeder l.fn.check.checker l.fn.check.log [] []) l.fn.check.feeder.names.now l.fn.check.feeder.place l.text.is_whole
      (g.S.Source.left l.fn.source) (g.S.Source.left l.source) (g.S.Source.taken l.fn.source) (g.S.Source.taken l.source) (bytes_behind l.text) l.progress l.check.feeder l.check.checker l.check.log;
  names : l.check.feeder.names.now ≡ l.fn.check.feeder.names.now;
  place : l.check.feeder.place ≡ l.fn.check.feeder.place;
  conditions : l.check.checker.conds ≡ l.fn.check.checker.conds;
  size : length l.piece ≡ 4096;
  same : g.S.Source.faults l.source ≡ g.S.Source.faults l.fn.source;
}

abbrev pub decreases-giving : goal.decreases-giving
decreases-giving g l = still l.progress l.check.feeder
