use Rattle.std.proofs.Common.{◌+◌, ℕ, List, refl, sym, subst, arith}
use Rattle.std.specs.List.{All}
use Rattle.std.proofs.lemmas.Int.{ints}
use Rattle.geo_conditions.specs.declared.cond.Cond.{Cond, AtLeast}
use Rattle.geo_conditions.specs.Conditions.{FitsIn}
use Rattle.geo_conditions.proofs.Children.{fit_out}
use Rattle.indexical.specs.Free.{Spares}
use Rattle.indexical.proofs.Unnamed.{SpareAmong, spare_start, spare_skip, spare_more, spare_enough}
use Rattle.indexical.proofs.spared.+anywhere.Goals as goal
use Rattle.indexical.proofs.spared.+anywhere.Goals.{enough_spare_anywhere-then-tree_spares_anywhere+else-least-sparing, enough_spare_anywhere-else-tree_spares_anywhere+else-most-others}

pub enough_spare_anywhere-loop-child-init : goal.enough_spare_anywhere-loop-child-init
enough_spare_anywhere-loop-child-init g t c = record {
  among = λ s. spare_start c.as_slice-child-items.result.now c.args.s.now c.args.o.0 s;
  few = omega arith;
  rest = omega arith;
  fits = subst (λ (ys : List Cond). All (λ e. FitsIn e c.args.s.now) ys) (sym c.as_slice-child-items.ensures) (fit_out c.args.n c.args.children.now c.args.s.now c.requires.fits);
}

pub enough_spare_anywhere-returns-then-least-sparing : goal.enough_spare_anywhere-returns-then-least-sparing
enough_spare_anywhere-returns-then-least-sparing g t c = λ h s.
    let xs = c.as_slice-child-items.result.now in
    let S = c.args.s.now in
    let o = c.args.o.0 in
    let i = c.loop-child.child-index in
    let x = c.child-item.result in
    let one : Spares x S o s = c.tree_spares_anywhere.ensures c.if-tree_spares_anywhere.true s in
    let more = spare_more xs S o s i c.loop-child.sparing x c.loop-child-test.true (c.loop-child.invariant.among s) (subst (λ (y : Cond). Spares y S o s) c.child-item.is one) in
    spare_enough (AtLeast c.args.n c.args.children.now) c.args.n c.args.children.now xs S o s (i + 1) (c.loop-child.sparing + 1) refl c.as_slice-child-items.ensures (omega (arith, ints, c.if-least-sparing.true, c.from-least.ensures)) more

pub enough_spare_anywhere-loop-child-preserved : goal.enough_spare_anywhere-loop-child-preserved
enough_spare_anywhere-loop-child-preserved g t c =
    let xs = c.as_slice-child-items.result.now in
    let S = c.args.s.now in
    let o = c.args.o.0 in
    let i = c.loop-child.child-index in
    let x = c.child-item.result in
    record {
      among = λ s. elim c.if-tree_spares_anywhere.branch [
        | enough_spare_anywhere-then-tree_spares_anywhere+else-least-sparing w ↦
            let one : Spares x S o s = c.tree_spares_anywhere.ensures w.if-tree_spares_anywhere.true s in
            subst (λ (n : ℕ). SpareAmong xs S o s (i + 1) n) (sym w.sparing-is) (spare_more xs S o s i c.loop-child.sparing x c.loop-child-test.true (c.loop-child.invariant.among s) (subst (λ (y : Cond). Spares y S o s) c.child-item.is one))
        | enough_spare_anywhere-else-tree_spares_anywhere+else-most-others w ↦
            subst (λ (n : ℕ). SpareAmong xs S o s (i + 1) n) (sym w.sparing-is) (spare_skip xs S o s i c.loop-child.sparing x c.loop-child-test.true (c.loop-child.invariant.among s))
      ];
      few = elim c.if-tree_spares_anywhere.branch [
        | enough_spare_anywhere-then-tree_spares_anywhere+else-least-sparing w ↦ omega (arith, w.sparing-is, c.loop-child.invariant.few)
        | enough_spare_anywhere-else-tree_spares_anywhere+else-most-others w ↦ omega (arith, w.sparing-is, c.loop-child.invariant.few)
      ];
      rest = elim c.if-tree_spares_anywhere.branch [
        | enough_spare_anywhere-then-tree_spares_anywhere+else-least-sparing w ↦ omega (arith, w.others-is, c.loop-child.invariant.rest)
        | enough_spare_anywhere-else-tree_spares_anywhere+else-most-others w ↦ omega (arith, w.others-is, c.loop-child.invariant.rest)
      ];
      fits = c.loop-child.invariant.fits;
    }
