use Rattle.std.proofs.Common.{◌≡◌, ◌==◌, ◌<◌, ℕ, zero, suc, true, false, not, length, get_or, List, refl, sym, ap, ◌∙◌, subst, arith, rules}
use Rattle.std.proofs.lemmas.Int.{ints}
use Rattle.std.proofs.lemmas.Bool.{true≢false}
use Rattle.geo_conditions.specs.declared.cond.Cond.{Cond, NotShape, AtLeast}
use Rattle.geo_conditions.specs.Conditions.{FitsIn, possible}
use Rattle.geo_conditions.specs.Puts.{put_of}
use Rattle.geo_conditions.specs.Reach.{put_on}
use Rattle.geo_conditions.proofs.Children.{fit_out, enough_possible, first_enough}
use Rattle.geo_conditions.proofs.refute.is_of_other_shape.Goals as goal

some : (n : ℕ) → (n == 0) ≡ false → 0 < n
some zero e = absurd (true≢false e)
some (suc n) e = omega arith

pub is_only_in-requires : goal.is_only_in-requires
is_only_in-requires g c =
    let xs = c.as_slice-parts.result.now in
    let S = c.args.s.now in
    let x = c.index-parts-0.result in
    let h : 0 < length xs = some (length xs) (sym c.is_empty.ensures ∙ c.if-is_empty.false) in
    let fits = fit_out c.args.n c.args.children.now S c.requires.fits 0 x (subst (λ (ys : List Cond). 0 < length ys) c.as_slice-parts.ensures h) in
    let first : FitsIn x S = subst (λ (y : Cond). FitsIn y S) (sym (c.index-parts-0.is ∙ ap (λ (ys : List Cond). get_or ys 0 x) c.as_slice-parts.ensures)) fits in
    let there : c.in-NotShape.o.0 < length S = subst (λ (y : Cond). FitsIn y S) c.in-NotShape.is first in
    (search rules, (search rules, (c.requires.k, there)))

pub returns-in-NotShape : goal.returns-in-NotShape
returns-in-NotShape g c = λ h.
    let xs = c.as_slice-parts.result.now in
    let S = put_on (put_of c.args.put.now) c.args.s.now in
    let x = c.index-parts-0.result in
    let here : possible (NotShape c.in-NotShape.o c.in-NotShape.place) S ≡ true = ap not (sym c.is_only_in.ensures) ∙ h in
    let part = subst (λ (y : Cond). possible y S ≡ true) c.index-parts-0.is (subst (λ (y : Cond). possible y S ≡ true) (sym c.in-NotShape.is) here) in
    let left : 0 < length xs = some (length xs) (sym c.is_empty.ensures ∙ c.if-is_empty.false) in
    enough_possible c.args.n c.args.children.now S (AtLeast c.args.n c.args.children.now) xs 1 refl c.as_slice-parts.ensures (omega (arith, ints, c.if-n-gt1.false)) (first_enough S xs x left part)
