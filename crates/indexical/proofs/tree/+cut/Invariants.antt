use Rattle.std.proofs.Common.{◌≡◌, ◌-◌, length}
use Rattle.std.specs.List.{All}
use Rattle.geo_conditions.specs.Conditions.{FitsIn}
use Rattle.geo_conditions.specs.Regions.{region_of}
use Rattle.indexical.proofs.Tried.{Tried}
use Rattle.indexical.proofs.tree.+cut.Given as goal

abbrev pub invariant-cut_by_some-loop-child : goal.invariant-cut_by_some-loop-child
invariant-cut_by_some-loop-child g l = record {
  tried : Tried g.row.K l.child-items l.s l.o.0 l.place l.c.coordinates (region_of l.fn.b) (region_of l.b) l.child-index l.open l.sure;
  fits : All (λ x. FitsIn x l.s) l.child-items;
}

abbrev pub invariant-cut_by_each-loop-child : goal.invariant-cut_by_each-loop-child
invariant-cut_by_each-loop-child g l = record {
  tried : Tried g.row.K l.child-items l.s l.o.0 l.place l.c.coordinates (region_of l.fn.b) (region_of l.b) l.child-index (length l.child-items - l.child-index) 0;
  fits : All (λ x. FitsIn x l.s) l.child-items;
}

abbrev pub invariant-cut_by_first-loop-child : goal.invariant-cut_by_first-loop-child
invariant-cut_by_first-loop-child g l = record {
  tried : Tried g.row.K l.child-items l.s l.o.0 l.place l.c.coordinates (region_of l.fn.b) (region_of l.b) l.child-index (length l.child-items) l.child-index;
  fits : All (λ x. FitsIn x l.s) l.child-items;
  same : l.b ≡ l.fn.b;
}
