use Rattle.std.proofs.Common.{◌≡◌, ℕ, ◌<◌}
use Rattle.geo_base.specs.Ways.{key}
use Rattle.geo_base.proofs.way.before.Given as goal

abbrev pub invariant-loop-j : goal.invariant-loop-j
invariant-loop-j g l =
    (i : ℕ) → i < l.j → key g.row.K l.way.lead l.way.up l.p.coordinates i ≡ key g.row.K l.way.lead l.way.up l.q.coordinates i
