use Rattle.std.proofs.Common.{◌≡◌, length}
use Rattle.geo_load.specs.Pairs.{IsRow}
use Rattle.geo_load.proofs.pairs.ask_row.Given as goal

-- the answers about the objects looked at
abbrev pub invariant-loop-j : goal.invariant-loop-j
invariant-loop-j l = record {
  long : length l.row.items ≡ l.j;
  right : IsRow l.problem l.layout l.d l.i.0 l.j l.row.items;
}
