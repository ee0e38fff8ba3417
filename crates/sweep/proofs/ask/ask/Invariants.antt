use Rattle.std.proofs.Common.{◌≡◌, ℕ, ◌+◌, ◌<◌, ◌≤◌, true, length, map}
use Rattle.geo_conditions.specs.declared.cond.Cond.{Cond}
use Rattle.geo_conditions.specs.Conditions.{possible}
use Rattle.geo_conditions.specs.Reach.{with_at, just}
use Rattle.sweep.specs.Picks.{PicksAt}
use Rattle.sweep.proofs.ask.ask.Given as goal

-- the picks that were asked are possible at the point
abbrev pub invariant-ahead : goal.invariant-ahead
invariant-ahead g l = record {
  asked : l.steps + l.from ≤ l.initial.steps + l.k;
  passed : (i : ℕ) → l.from ≤ i → i < l.k → (x : Cond) → PicksAt (map g.I.Indexical.cond l.list) l.picks i x → possible x (with_at l.s l.o.0 l.place (just l.c.coordinates)) ≡ true;
}

abbrev pub invariant-around : goal.invariant-around
invariant-around g l = record {
  asked : l.steps + l.from ≤ l.fn.steps + length l.picks + l.k;
  passed : (i : ℕ) → l.from ≤ i → i < length l.picks → (x : Cond) → PicksAt (map g.I.Indexical.cond l.list) l.picks i x → possible x (with_at l.s l.o.0 l.place (just l.c.coordinates)) ≡ true;
  passed_again : (i : ℕ) → i < l.k → (x : Cond) → PicksAt (map g.I.Indexical.cond l.list) l.picks i x → possible x (with_at l.s l.o.0 l.place (just l.c.coordinates)) ≡ true;
}
