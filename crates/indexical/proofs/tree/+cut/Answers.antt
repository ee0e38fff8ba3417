use Rattle.std.proofs.Common.{◌≡◌, suc, ◌+◌, ◌-◌, true, List, length, refl, sym, ap, ◌∙◌, subst, arith}
use Rattle.std.specs.List.{All}
use Rattle.std.proofs.lemmas.Int.{ints}
use Rattle.geo_base.specs.declared.kbox.KBox.{KBox}
use Rattle.geo_conditions.specs.declared.cond.Cond.{Cond, AtLeast}
use Rattle.geo_conditions.specs.Conditions.{possible, FitsIn}
use Rattle.geo_conditions.specs.Reach.{just, with_at}
use Rattle.geo_conditions.specs.Regions.{region_of}
use Rattle.geo_conditions.proofs.Children.{fit_out}
use Rattle.geo_conditions.proofs.Few.{dims_are}
use Rattle.indexical.specs.Forbidden.{IsForbiddenBox}
use Rattle.indexical.proofs.Tried.{Tried-start, Tried-some, Tried-none, Tried-box, Tried-possible, Tried-all, Tried-same}
use Rattle.indexical.proofs.tree.+cut.Goals as goal
use Rattle.indexical.proofs.tree.+cut.Goals.{cut_by_some-then-cut_tree+else-open-least, cut_by_some-else-cut_tree+else-least-sure}

pub cut_by_some-loop-child-init : goal.cut_by_some-loop-child-init
cut_by_some-loop-child-init g t c =
    let K = g.row.K in
    let dim = dims_are K c.args.s.now c.args.o.0 c.objects-objects.ensures.shape c.requires.object in
    let xs = c.as_slice-child-items.result.now in
    let region = region_of c.args.b.now in
    let len : c.len-open.result ≡ length xs = c.len-open.ensures ∙ ap length (sym c.as_slice-child-items.ensures) in
    record {
      tried = Tried-same K xs c.args.s.now c.args.o.0 c.args.place c.args.c.now.coordinates region region region 0 0 (length xs) c.len-open.result 0 0 refl refl len refl
          (Tried-start K xs c.args.s.now c.args.o.0 c.args.place c.args.c.now.coordinates region c.requires.object dim c.requires.inside);
      fits = subst (λ (ys : List Cond). All (λ e. FitsIn e c.args.s.now) ys) (sym c.as_slice-child-items.ensures) (fit_out c.args.n c.args.children.now c.args.s.now c.requires.fits);
    }

pub cut_by_some-returns-then-open-least-clause-cut : goal.cut_by_some-returns-then-open-least-clause-cut
cut_by_some-returns-then-open-least-clause-cut g t c = λ e.
    let K = g.row.K in
    let S = c.args.s.now in
    let o = c.args.o.0 in
    let s = c.args.place in
    let p = c.args.c.now.coordinates in
    let region = region_of c.args.b.now in
    let dim = dims_are K S o c.objects-objects.ensures.shape c.requires.object in
    let xs = c.as_slice-child-items.result.now in
    let x = c.child-item.result in
    let box = subst (λ (y : Cond). IsForbiddenBox K y S o s p (region_of c.loop-child.b) (region_of c.cut_tree.new.b)) c.child-item.is (c.cut_tree.ensures.cut c.if-cut_tree.true) in
    let was = Tried-some K xs S o s p region c.requires.object dim c.loop-child.invariant.fits (region_of c.loop-child.b) c.loop-child.child-index c.loop-child.open c.loop-child.sure x c.loop-child-test.true c.loop-child.invariant.tried (region_of c.cut_tree.new.b) box in
    Tried-box K xs S o s p region c.requires.object dim (AtLeast c.args.n c.args.children.now) c.args.n c.args.children.now refl c.as_slice-child-items.ensures (region_of c.cut_tree.new.b) (suc c.loop-child.child-index) (c.loop-child.open - 1) c.loop-child.sure (omega arith) was
    (omega (arith, ints, c.if-open-least.true, c.from-least.ensures, c.loop-child.invariant.tried.upper, c.loop-child-test.true))

pub cut_by_some-returns-then-least-sure-clause-possible : goal.cut_by_some-returns-then-least-sure-clause-possible
cut_by_some-returns-then-least-sure-clause-possible g t c = λ e.
    let K = g.row.K in
    let S = c.args.s.now in
    let o = c.args.o.0 in
    let s = c.args.place in
    let p = c.args.c.now.coordinates in
    let region = region_of c.args.b.now in
    let dim = dims_are K S o c.objects-objects.ensures.shape c.requires.object in
    let xs = c.as_slice-child-items.result.now in
    let x = c.child-item.result in
    let one = subst (λ (y : Cond). possible y (with_at S o s (just p)) ≡ true) c.child-item.is (c.cut_tree.ensures.possible c.if-cut_tree.false) in
    let was = Tried-none K xs S o s p region c.requires.object dim c.loop-child.invariant.fits (region_of c.loop-child.b) c.loop-child.child-index c.loop-child.open c.loop-child.sure x c.loop-child-test.true c.loop-child.invariant.tried one in
    Tried-possible K xs S o s p region c.requires.object dim (AtLeast c.args.n c.args.children.now) c.args.n c.args.children.now refl c.as_slice-child-items.ensures (region_of c.loop-child.b) (suc c.loop-child.child-index) c.loop-child.open (suc c.loop-child.sure) (omega arith) was
    (omega (arith, ints, c.if-least-sure.true, c.from-least.ensures))

pub cut_by_some-loop-child-preserved : goal.cut_by_some-loop-child-preserved
cut_by_some-loop-child-preserved g t c =
    let K = g.row.K in
    let S = c.args.s.now in
    let o = c.args.o.0 in
    let s = c.args.place in
    let p = c.args.c.now.coordinates in
    let region = region_of c.args.b.now in
    let dim = dims_are K S o c.objects-objects.ensures.shape c.requires.object in
    let xs = c.as_slice-child-items.result.now in
    let x = c.child-item.result in
    record {
      tried = elim c.if-cut_tree.branch [
        | cut_by_some-then-cut_tree+else-open-least w ↦
            let box = subst (λ (y : Cond). IsForbiddenBox K y S o s p (region_of c.loop-child.b) (region_of c.cut_tree.new.b)) c.child-item.is (c.cut_tree.ensures.cut w.if-cut_tree.true) in
            let was = Tried-some K xs S o s p region c.requires.object dim c.loop-child.invariant.fits (region_of c.loop-child.b) c.loop-child.child-index c.loop-child.open c.loop-child.sure x c.loop-child-test.true c.loop-child.invariant.tried (region_of c.cut_tree.new.b) box in
            Tried-same K xs S o s p region (region_of c.cut_tree.new.b) (region_of c.cut_tree.new.b) (suc c.loop-child.child-index) (c.loop-child.child-index + 1) (c.loop-child.open - 1) c.if-cut_tree.open c.loop-child.sure c.if-cut_tree.sure
            refl (omega arith) (omega (arith, w.open-is)) w.sure-is was
        | cut_by_some-else-cut_tree+else-least-sure w ↦
            let one = subst (λ (y : Cond). possible y (with_at S o s (just p)) ≡ true) c.child-item.is (c.cut_tree.ensures.possible w.if-cut_tree.false) in
            let was = Tried-none K xs S o s p region c.requires.object dim c.loop-child.invariant.fits (region_of c.loop-child.b) c.loop-child.child-index c.loop-child.open c.loop-child.sure x c.loop-child-test.true c.loop-child.invariant.tried one in
            Tried-same K xs S o s p region (region_of c.loop-child.b) (region_of c.cut_tree.new.b) (suc c.loop-child.child-index) (c.loop-child.child-index + 1) c.loop-child.open c.if-cut_tree.open (suc c.loop-child.sure) c.if-cut_tree.sure
            (ap (λ (k : KBox K). region_of k) (c.cut_tree.ensures.same w.if-cut_tree.false)) (omega arith) w.open-is (omega (arith, w.sure-is)) was
      ];
      fits = c.loop-child.invariant.fits;
    }

pub cut_by_some-returns-then-open-least-2-clause-cut : goal.cut_by_some-returns-then-open-least-2-clause-cut
cut_by_some-returns-then-open-least-2-clause-cut g t c = λ e.
    let K = g.row.K in
    let S = c.args.s.now in
    let o = c.args.o.0 in
    let dim = dims_are K S o c.objects-objects.ensures.shape c.requires.object in
    let xs = c.as_slice-child-items.result.now in
    Tried-box K xs S o c.args.place c.args.c.now.coordinates (region_of c.args.b.now) c.requires.object dim (AtLeast c.args.n c.args.children.now) c.args.n c.args.children.now refl c.as_slice-child-items.ensures (region_of c.loop-child.b) c.loop-child.child-index c.loop-child.open c.loop-child.sure (omega arith) c.loop-child.invariant.tried
    (omega (arith, ints, c.if-open-least-2.true, c.from-least.ensures))

pub cut_by_some-returns-clause-possible : goal.cut_by_some-returns-clause-possible
cut_by_some-returns-clause-possible g t c = λ e.
    let K = g.row.K in
    let S = c.args.s.now in
    let o = c.args.o.0 in
    let dim = dims_are K S o c.objects-objects.ensures.shape c.requires.object in
    let xs = c.as_slice-child-items.result.now in
    let enough = Tried-all K xs S o c.args.place c.args.c.now.coordinates (region_of c.args.b.now) c.requires.object dim (AtLeast c.args.n c.args.children.now) c.args.n c.args.children.now refl c.as_slice-child-items.ensures (region_of c.loop-child.b) c.loop-child.child-index c.loop-child.open c.loop-child.sure (omega arith) c.loop-child.invariant.tried
    (omega (arith, c.loop-child-test.false)) (omega (arith, ints, c.if-open-least-2.false, c.from-least.ensures)) in
    Tried-possible K xs S o c.args.place c.args.c.now.coordinates (region_of c.args.b.now) c.requires.object dim (AtLeast c.args.n c.args.children.now) c.args.n c.args.children.now refl c.as_slice-child-items.ensures (region_of c.loop-child.b) c.loop-child.child-index c.loop-child.open c.loop-child.sure (omega arith) c.loop-child.invariant.tried enough

pub cut_by_each-loop-child-init : goal.cut_by_each-loop-child-init
cut_by_each-loop-child-init g t c =
    let K = g.row.K in
    let S = c.args.s.now in
    let o = c.args.o.0 in
    let s = c.args.place in
    let p = c.args.c.now.coordinates in
    let region = region_of c.args.b.now in
    let dim = dims_are K S o c.objects-objects.ensures.shape c.requires.object in
    let xs = c.as_slice-child-items.result.now in
    record {
      tried = Tried-same K xs S o s p region region region 0 0 (length xs) (length xs - 0) 0 0 refl refl (omega arith) refl
          (Tried-start K xs S o s p region c.requires.object dim c.requires.inside);
      fits = subst (λ (ys : List Cond). All (λ e. FitsIn e S) ys) (sym c.as_slice-child-items.ensures) (fit_out c.args.n c.args.children.now S c.requires.fits);
    }

pub cut_by_each-returns-then-not-cut_tree-clause-possible : goal.cut_by_each-returns-then-not-cut_tree-clause-possible
cut_by_each-returns-then-not-cut_tree-clause-possible g t c = λ e.
    let K = g.row.K in
    let S = c.args.s.now in
    let o = c.args.o.0 in
    let s = c.args.place in
    let p = c.args.c.now.coordinates in
    let region = region_of c.args.b.now in
    let dim = dims_are K S o c.objects-objects.ensures.shape c.requires.object in
    let xs = c.as_slice-child-items.result.now in
    let x = c.child-item.result in
    let one = subst (λ (y : Cond). possible y (with_at S o s (just p)) ≡ true) c.child-item.is (c.cut_tree.ensures.possible c.if-not-cut_tree.true) in
    let was = Tried-none K xs S o s p region c.requires.object dim c.loop-child.invariant.fits (region_of c.loop-child.b) c.loop-child.child-index (length xs - c.loop-child.child-index) 0 x c.loop-child-test.true c.loop-child.invariant.tried one in
    Tried-possible K xs S o s p region c.requires.object dim (AtLeast c.args.n c.args.children.now) c.args.n c.args.children.now refl c.as_slice-child-items.ensures (region_of c.loop-child.b) (suc c.loop-child.child-index) (length xs - c.loop-child.child-index) 1 (omega (arith, c.loop-child-test.true)) was
    (omega (arith, ints, c.requires.one))

pub cut_by_each-loop-child-preserved : goal.cut_by_each-loop-child-preserved
cut_by_each-loop-child-preserved g t c =
    let K = g.row.K in
    let S = c.args.s.now in
    let o = c.args.o.0 in
    let s = c.args.place in
    let p = c.args.c.now.coordinates in
    let region = region_of c.args.b.now in
    let dim = dims_are K S o c.objects-objects.ensures.shape c.requires.object in
    let xs = c.as_slice-child-items.result.now in
    let x = c.child-item.result in
    let box = subst (λ (y : Cond). IsForbiddenBox K y S o s p (region_of c.loop-child.b) (region_of c.cut_tree.new.b)) c.child-item.is (c.cut_tree.ensures.cut c.if-not-cut_tree.false) in
    let was = Tried-some K xs S o s p region c.requires.object dim c.loop-child.invariant.fits (region_of c.loop-child.b) c.loop-child.child-index (length xs - c.loop-child.child-index) 0 x c.loop-child-test.true c.loop-child.invariant.tried (region_of c.cut_tree.new.b) box in
    record {
      tried = Tried-same K xs S o s p region (region_of c.cut_tree.new.b) (region_of c.cut_tree.new.b) (suc c.loop-child.child-index) (c.loop-child.child-index + 1) ((length xs - c.loop-child.child-index) - 1) (length xs - (c.loop-child.child-index + 1)) 0 0
          refl (omega arith) (omega arith) refl was;
      fits = c.loop-child.invariant.fits;
    }

pub cut_by_each-returns-clause-cut : goal.cut_by_each-returns-clause-cut
cut_by_each-returns-clause-cut g t c = λ e.
    let K = g.row.K in
    let S = c.args.s.now in
    let o = c.args.o.0 in
    let s = c.args.place in
    let p = c.args.c.now.coordinates in
    let region = region_of c.args.b.now in
    let dim = dims_are K S o c.objects-objects.ensures.shape c.requires.object in
    let xs = c.as_slice-child-items.result.now in
    Tried-box K xs S o s p region c.requires.object dim (AtLeast c.args.n c.args.children.now) c.args.n c.args.children.now refl c.as_slice-child-items.ensures (region_of c.loop-child.b) c.loop-child.child-index (length xs - c.loop-child.child-index) 0 c.loop-child.auto.child-index-end c.loop-child.invariant.tried
    (omega (arith, ints, c.requires.one, c.loop-child-test.false))

pub cut_by_first-loop-child-init : goal.cut_by_first-loop-child-init
cut_by_first-loop-child-init g t c =
    let K = g.row.K in
    let S = c.args.s.now in
    let o = c.args.o.0 in
    let s = c.args.place in
    let p = c.args.c.now.coordinates in
    let region = region_of c.args.b.now in
    let dim = dims_are K S o c.objects-objects.ensures.shape c.requires.object in
    let xs = c.as_slice-child-items.result.now in
    record {
      tried = Tried-start K xs S o s p region c.requires.object dim c.requires.inside;
      fits = subst (λ (ys : List Cond). All (λ e. FitsIn e S) ys) (sym c.as_slice-child-items.ensures) (fit_out c.args.n c.args.children.now S c.requires.fits);
      same = refl;
    }

pub cut_by_first-returns-then-cut_tree-clause-cut : goal.cut_by_first-returns-then-cut_tree-clause-cut
cut_by_first-returns-then-cut_tree-clause-cut g t c = λ e.
    let K = g.row.K in
    let S = c.args.s.now in
    let o = c.args.o.0 in
    let s = c.args.place in
    let p = c.args.c.now.coordinates in
    let region = region_of c.args.b.now in
    let dim = dims_are K S o c.objects-objects.ensures.shape c.requires.object in
    let xs = c.as_slice-child-items.result.now in
    let x = c.child-item.result in
    let box = subst (λ (y : Cond). IsForbiddenBox K y S o s p (region_of c.loop-child.b) (region_of c.cut_tree.new.b)) c.child-item.is (c.cut_tree.ensures.cut c.if-cut_tree.true) in
    let len : length xs ≡ length c.args.children.now.items.items = ap length c.as_slice-child-items.ensures in
    let was = Tried-some K xs S o s p region c.requires.object dim c.loop-child.invariant.fits (region_of c.loop-child.b) c.loop-child.child-index (length xs) c.loop-child.child-index x c.loop-child-test.true c.loop-child.invariant.tried (region_of c.cut_tree.new.b) box in
    Tried-box K xs S o s p region c.requires.object dim (AtLeast c.args.n c.args.children.now) c.args.n c.args.children.now refl c.as_slice-child-items.ensures (region_of c.cut_tree.new.b) (suc c.loop-child.child-index) (length xs - 1) c.loop-child.child-index (omega (arith, c.loop-child-test.true)) was
    (omega (arith, ints, c.requires.all, len, c.loop-child-test.true))

pub cut_by_first-loop-child-preserved : goal.cut_by_first-loop-child-preserved
cut_by_first-loop-child-preserved g t c =
    let K = g.row.K in
    let S = c.args.s.now in
    let o = c.args.o.0 in
    let s = c.args.place in
    let p = c.args.c.now.coordinates in
    let region = region_of c.args.b.now in
    let dim = dims_are K S o c.objects-objects.ensures.shape c.requires.object in
    let xs = c.as_slice-child-items.result.now in
    let x = c.child-item.result in
    let one = subst (λ (y : Cond). possible y (with_at S o s (just p)) ≡ true) c.child-item.is (c.cut_tree.ensures.possible c.if-cut_tree.false) in
    let was = Tried-none K xs S o s p region c.requires.object dim c.loop-child.invariant.fits (region_of c.loop-child.b) c.loop-child.child-index (length xs) c.loop-child.child-index x c.loop-child-test.true c.loop-child.invariant.tried one in
    let same = c.cut_tree.ensures.same c.if-cut_tree.false in
    record {
      tried = Tried-same K xs S o s p region (region_of c.loop-child.b) (region_of c.cut_tree.new.b) (suc c.loop-child.child-index) (c.loop-child.child-index + 1) (length xs) (length xs) (suc c.loop-child.child-index) (c.loop-child.child-index + 1)
          (ap (λ (k : KBox K). region_of k) same) (omega arith) refl (omega arith) was;
      fits = c.loop-child.invariant.fits;
      same = same ∙ c.loop-child.invariant.same;
    }

pub cut_by_first-returns-clause-possible : goal.cut_by_first-returns-clause-possible
cut_by_first-returns-clause-possible g t c = λ e.
    let K = g.row.K in
    let S = c.args.s.now in
    let o = c.args.o.0 in
    let s = c.args.place in
    let p = c.args.c.now.coordinates in
    let region = region_of c.args.b.now in
    let dim = dims_are K S o c.objects-objects.ensures.shape c.requires.object in
    let xs = c.as_slice-child-items.result.now in
    let len : length xs ≡ length c.args.children.now.items.items = ap length c.as_slice-child-items.ensures in
    Tried-possible K xs S o s p region c.requires.object dim (AtLeast c.args.n c.args.children.now) c.args.n c.args.children.now refl c.as_slice-child-items.ensures (region_of c.loop-child.b) c.loop-child.child-index (length xs) c.loop-child.child-index c.loop-child.auto.child-index-end c.loop-child.invariant.tried
    (omega (arith, ints, c.requires.all, len, c.loop-child-test.false))
