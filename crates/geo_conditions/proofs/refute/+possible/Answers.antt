use Rattle.geo_conditions.specs.Puts.{put_of}
use Rattle.geo_conditions.proofs.refute.+possible.Goals as goal
use Rattle.geo_conditions.proofs.refute.+possible.Goals.{are_enough-then-possible_in+else-least-sure, are_enough-else-possible_in+else-open-least}
use Rattle.std.proofs.Common.{length, true, false, refl, ◌+◌, ◌-◌, ◌≡◌, ℕ, ℤ, subst, sym, arith, pos, List, ap, ◌∙◌, rules, w64}
use Rattle.std.specs.List.{All}
use Rattle.std.proofs.lemmas.Int.{ints, to_z-of_z}
use Rattle.geo_conditions.specs.declared.cond.Cond.{Cond, AtLeast}
use Rattle.geo_conditions.specs.Conditions.{FitsIn, possible}
use Rattle.geo_conditions.specs.Reach.{put_on}
use Rattle.geo_conditions.proofs.Products.{test_kept}
use lib.Signed.{le_z}
use mir.Val.{to_z, of_z}
use Rattle.geo_conditions.proofs.Children.{many_possible, at_least_is, fit_out, many_end, enough_possible, too_few_possible, one_more, one_less, next_sure, next_not, many_behind, many_before, more_behind, less_behind}

pub are_enough-loop-child-init : goal.are_enough-loop-child-init
are_enough-loop-child-init g t c = record {
  value = omega arith;
  few = omega arith;
  left = omega (arith, c.len-open.ensures, ap length c.as_slice-child-items.ensures);
  fits = subst (λ (xs : List Cond). All (λ e. FitsIn e c.args.s.now) xs) (sym c.as_slice-child-items.ensures) (fit_out c.args.n c.args.children.now c.args.s.now c.requires.fits);
}

pub are_enough-loop-child-preserved : goal.are_enough-loop-child-preserved
are_enough-loop-child-preserved g t c =
    let S = put_on (put_of c.args.put.now) c.args.s.now in
    let xs = c.as_slice-child-items.result.now in
    let i = c.loop-child.child-index in
    let invariant = c.loop-child.invariant in
    elim c.if-possible_in.branch [
      | are_enough-then-possible_in+else-least-sure w ↦ (
          let one = subst (λ (y : Cond). possible y S ≡ true) c.child-item.is (sym c.possible_in.ensures ∙ w.if-possible_in.true) in
          record {
            value = rw w.sure-is (next_sure S xs i c.loop-child.sure _ c.loop-child-test.true invariant.value one);
            few = omega (arith, w.sure-is, invariant.few);
            left = omega (arith, w.sure-is, w.open-is, invariant.left);
            fits = invariant.fits;
          })
      | are_enough-else-possible_in+else-open-least w ↦ (
          let none = subst (λ (y : Cond). possible y S ≡ false) c.child-item.is (sym c.possible_in.ensures ∙ w.if-possible_in.false) in
          record {
            value = rw w.sure-is (next_not S xs i c.loop-child.sure _ c.loop-child-test.true invariant.value none);
            few = omega (arith, w.sure-is, invariant.few);
            left = omega (arith, w.sure-is, w.open-is, invariant.left, c.loop-child-test.true);
            fits = invariant.fits;
          })
    ]

pub are_enough-returns-then-least-sure : goal.are_enough-returns-then-least-sure
are_enough-returns-then-least-sure g t c =
    let S = put_on (put_of c.args.put.now) c.args.s.now in
    let one = subst (λ (y : Cond). possible y S ≡ true) c.child-item.is (sym c.possible_in.ensures ∙ c.if-possible_in.true) in
    sym (enough_possible c.args.n c.args.children.now S (AtLeast c.args.n c.args.children.now) c.as_slice-child-items.result.now (c.loop-child.sure + 1) refl c.as_slice-child-items.ensures
    (omega (arith, ints, c.if-least-sure.true, c.from-least.ensures))
    (one_more S c.as_slice-child-items.result.now c.loop-child.child-index c.loop-child.sure _ c.loop-child-test.true c.loop-child.invariant.value one))

pub are_enough-returns-then-open-least : goal.are_enough-returns-then-open-least
are_enough-returns-then-open-least g t c =
    let S = put_on (put_of c.args.put.now) c.args.s.now in
    let none = subst (λ (y : Cond). possible y S ≡ false) c.child-item.is (sym c.possible_in.ensures ∙ c.if-possible_in.false) in
    sym (too_few_possible c.args.n c.args.children.now S (AtLeast c.args.n c.args.children.now) c.as_slice-child-items.result.now (c.loop-child.open - 1) refl c.as_slice-child-items.ensures
    (omega (arith, ints, c.if-open-least.true, c.from-least.ensures, c.loop-child.invariant.left, c.loop-child.invariant.few, c.loop-child-test.true))
    (one_less S c.as_slice-child-items.result.now c.loop-child.child-index c.loop-child.sure c.loop-child.open _ c.loop-child-test.true c.loop-child.invariant.value c.loop-child.invariant.left none))

pub are_enough-returns : goal.are_enough-returns
are_enough-returns g t c =
    let S = put_on (put_of c.args.put.now) c.args.s.now in
    let e : c.loop-child.sure ≡ many_possible S c.as_slice-child-items.result.now = omega (arith, c.loop-child.invariant.value, many_end S c.as_slice-child-items.result.now c.loop-child.child-index c.loop-child-test.false) in
    test_kept c.args.n c.from-least.result c.loop-child.sure (search rules) (c.loop-child.auto.sure-fits.fits) c.from-least.ensures
    ∙ ap (λ (k : ℕ). le_z c.args.n (pos k)) e
    ∙ ap (λ (xs : List Cond). le_z c.args.n (pos (many_possible S xs))) c.as_slice-child-items.ensures
    ∙ sym (at_least_is c.args.n c.args.children.now S)

pub are_enough_of_many-loop-i-init : goal.are_enough_of_many-loop-i-init
are_enough_of_many-loop-i-init g t c =
    let xs = c.as_slice-parts.result.now in
    record {
      value = sym (many_end (put_on (put_of c.args.put.now) c.args.s.now) xs (length xs) (omega arith));
      few = omega arith;
      fits = subst (λ (ys : List Cond). All (λ e. FitsIn e c.args.s.now) ys) (sym c.as_slice-parts.ensures) (fit_out c.args.n c.args.children.now c.args.s.now c.requires.fits);
    }

pub are_enough_of_many-loop-i-preserved : goal.are_enough_of_many-loop-i-preserved
are_enough_of_many-loop-i-preserved g t c =
    let S = put_on (put_of c.args.put.now) c.args.s.now in
    let none = subst (λ (y : Cond). possible y S ≡ false) c.index-parts-i.is (sym c.possible_in.ensures ∙ c.if-possible_in.false) in
    record {
      value = less_behind S c.as_slice-parts.result.now c.loop-i.i c.loop-i.sure c.index-parts-i.result c.loop-i-test.true c.loop-i.auto.i c.loop-i.invariant.value none;
      few = omega (arith, c.loop-i.invariant.few);
      fits = c.loop-i.invariant.fits;
    }

pub are_enough_of_many-loop-i-preserved-else-least-sure : goal.are_enough_of_many-loop-i-preserved-else-least-sure
are_enough_of_many-loop-i-preserved-else-least-sure g t c =
    let S = put_on (put_of c.args.put.now) c.args.s.now in
    let one = subst (λ (y : Cond). possible y S ≡ true) c.index-parts-i.is (sym c.possible_in.ensures ∙ c.if-possible_in.true) in
    record {
      value = more_behind S c.as_slice-parts.result.now c.loop-i.i c.loop-i.sure c.index-parts-i.result c.loop-i-test.true c.loop-i.auto.i c.loop-i.invariant.value one;
      few = omega (arith, c.loop-i.invariant.few, c.loop-i-test.true);
      fits = c.loop-i.invariant.fits;
    }

pub are_enough_of_many-returns-then-least-sure : goal.are_enough_of_many-returns-then-least-sure
are_enough_of_many-returns-then-least-sure g t c =
    let S = put_on (put_of c.args.put.now) c.args.s.now in
    let xs = c.as_slice-parts.result.now in
    let one = subst (λ (y : Cond). possible y S ≡ true) c.index-parts-i.is (sym c.possible_in.ensures ∙ c.if-possible_in.true) in
    let more = more_behind S xs c.loop-i.i c.loop-i.sure c.index-parts-i.result c.loop-i-test.true c.loop-i.auto.i c.loop-i.invariant.value one in
    let all = many_behind S xs (c.loop-i.i - 1) in
    sym (enough_possible c.args.n c.args.children.now S (AtLeast c.args.n c.args.children.now) xs (c.loop-i.sure + 1) refl c.as_slice-parts.ensures
    (omega (arith, ints, c.if-least-sure.true, c.from-least.ensures)) (omega (arith, more, all)))

pub are_enough_of_many-returns-then-i-sure : goal.are_enough_of_many-returns-then-i-sure
are_enough_of_many-returns-then-i-sure g t c =
    let S = put_on (put_of c.args.put.now) c.args.s.now in
    let xs = c.as_slice-parts.result.now in
    let none = subst (λ (y : Cond). possible y S ≡ false) c.index-parts-i.is (sym c.possible_in.ensures ∙ c.if-possible_in.false) in
    let less = less_behind S xs c.loop-i.i c.loop-i.sure c.index-parts-i.result c.loop-i-test.true c.loop-i.auto.i c.loop-i.invariant.value none in
    let all = many_before S xs (c.loop-i.i - 1) in
    sym (too_few_possible c.args.n c.args.children.now S (AtLeast c.args.n c.args.children.now) xs (c.loop-i.i - 1 + c.loop-i.sure) refl c.as_slice-parts.ensures
    (omega (arith, ints, c.if-i-sure.true, c.from-least.ensures, c.loop-i.auto.i, c.loop-i.invariant.few)) (omega (arith, less, all)))

pub are_enough_of_many-returns : goal.are_enough_of_many-returns
are_enough_of_many-returns g t c =
    let S = put_on (put_of c.args.put.now) c.args.s.now in
    let xs = c.as_slice-parts.result.now in
    let behind = many_behind S xs c.loop-i.i in
    let before = many_before S xs c.loop-i.i in
    let e : c.loop-i.sure ≡ many_possible S xs = omega (arith, c.loop-i.invariant.value, c.loop-i-test.false, behind, before) in
    test_kept c.args.n c.from-least.result c.loop-i.sure (search rules) (c.loop-i.auto.sure-fits.fits) c.from-least.ensures
    ∙ ap (λ (k : ℕ). le_z c.args.n (pos k)) e
    ∙ ap (λ (ys : List Cond). le_z c.args.n (pos (many_possible S ys))) c.as_slice-parts.ensures
    ∙ sym (at_least_is c.args.n c.args.children.now S)

pub possible_in-returns-then-is_of_other_shape : goal.possible_in-returns-then-is_of_other_shape
possible_in-returns-then-is_of_other_shape g t c =
    let S = put_on (put_of c.args.put.now) c.args.s.now in
    let n = c.in-AtLeast.n in
    let children = c.in-AtLeast.children in
    let enough : possible (AtLeast (to_z w64 (of_z w64 n)) children) S ≡ true = c.is_of_other_shape.ensures c.if-is_of_other_shape.true in
    sym (ap (λ (y : Cond). possible y S) c.in-AtLeast.is ∙ ap (λ (m : ℤ). possible (AtLeast m children) S) (sym (to_z-of_z w64 n (search rules))) ∙ enough)
