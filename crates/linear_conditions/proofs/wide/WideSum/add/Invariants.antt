use Rattle.std.proofs.Common.{◌≡◌, drop}
use Rattle.linear_conditions.specs.Sums.{add_terms}
use Rattle.linear_conditions.specs.Room.{HaveRoom}
use Rattle.linear_conditions.specs.Views.{wide_terms}
use Rattle.linear_conditions.proofs.wide.WideSum.add.Given as goal

abbrev pub invariant-loop-a : goal.invariant-loop-a
invariant-loop-a l = record {
  terms : add_terms (wide_terms l.self.terms.items) (wide_terms (drop l.a-index l.a-items)) ≡ add_terms (wide_terms l.initial.self.terms.items) (wide_terms l.a-items);
  room : HaveRoom (wide_terms l.self.terms.items) (wide_terms (drop l.a-index l.a-items));
  constant : l.self.constant ≡ l.initial.self.constant;
}
