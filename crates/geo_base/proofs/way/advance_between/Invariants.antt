use Rattle.std.proofs.Common.{◌≡◌, ℕ, ◌<◌, ◌≤◌}
use Rattle.geo_base.specs.Ways.{key}
use Rattle.geo_base.proofs.way.advance_between.Given as goal

-- the less significant dimensions have run out and begin again, the more significant ones are as they were
abbrev pub invariant-loop-j : goal.invariant-loop-j
invariant-loop-j g l =
    let k = key g.row.K l.way.lead l.way.up in
    record {
      stays : (i : ℕ) → i < l.j → (k l.c.coordinates i ≡ k l.initial.c.coordinates i) × (k l.n.coordinates i ≡ k l.initial.n.coordinates i);
      ran_out : (i : ℕ) → l.j ≤ i → i < g.row.K → (k l.initial.n.coordinates i ≡ k l.past.coordinates i) × (k l.c.coordinates i ≡ k l.first.coordinates i) × (k l.n.coordinates i ≡ k l.past.coordinates i);
    }
