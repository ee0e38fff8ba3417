use Rattle.std.proofs.Common.{◌≡◌, ℕ, suc, ◌+◌, ◌-◌, ◌*◌, ◌<◌, [], ◌∷◌, length, drop, get_or, sym, ap, ◌∙◌, subst, arith}
use Rattle.std.proofs.lemmas.Int.{ints}
use Rattle.geo_base.specs.Boxes.{coordinate}
use Rattle.geo_conditions.specs.declared.cond.Cond.{Cond}
use Rattle.indexical.specs.TwoBoxes.{lengths_from}
use Rattle.indexical.proofs.TwoLengths.{Pair, lengths_before, limit_with}
use Rattle.indexical.proofs.two_boxes.lengths_of.Goals as goal

pub loop-d-preserved : goal.loop-d-preserved
loop-d-preserved g c =
    let K = g.row.K in
    let a = c.args.a in
    let b = c.args.b in
    let xs = c.args.parts.now in
    let d = c.loop-d.d - 1 in
    let p = c.loop-d.p.coordinates in
    let q = c.loop-d.q.coordinates in
    let p' = c.set.new.self.coordinates in
    let q' = c.set-in-Some.new.self.coordinates in
    let x = c.index-parts-d.result in
    let y = c.index-parts-d-in-loop-d.result in
    let next : d + 1 ≡ c.loop-d.d = omega (arith, c.loop-d-test.true) in
    let left : suc (K - c.loop-d.d) ≡ K - d = omega (arith, c.loop-d-test.true) in
    let pair : (get_or xs (2 * d) x ∷ get_or xs (2 * d + 1) y ∷ []) ≡ Pair a b d c.in-Some.m c.in-Some.n =
    ap (λ (z : Cond). z ∷ get_or xs (2 * d + 1) y ∷ []) (sym c.index-parts-d.is) ∙ ap (λ (z : Cond). x ∷ z ∷ []) (sym c.index-parts-d-in-loop-d.is) ∙ c.in-Some.ensures.form in
    let was : drop (2 * (d + 1)) xs ≡ lengths_from a b p q (d + 1) (K - c.loop-d.d) = subst (λ (e : ℕ). drop (2 * e) xs ≡ lengths_from a b p q e (K - c.loop-d.d)) (sym next) c.loop-d.invariant.form in
    let inside : 2 * d + 1 < length xs = omega (arith, c.requires.parts, next) in
    let limit = c.in-Some.ensures.limit in
    let fm : coordinate p' d ≡ c.in-Some.m = omega (arith, ints, c.set.ensures.same, limit.0, limit.1) in
    let gn : coordinate q' d ≡ c.in-Some.n = omega (arith, ints, c.set-in-Some.ensures.same, limit.2, limit.3) in
    record {
      form = subst (λ (n : ℕ). drop (2 * d) xs ≡ lengths_from a b p' q' d n) left
          (lengths_before a b xs p q p' q' d (K - c.loop-d.d) c.in-Some.m c.in-Some.n x y inside pair c.set.ensures.others c.set-in-Some.ensures.others fm gn was);
      first_limit = limit_with K p p' d c.in-Some.m c.loop-d.invariant.first_limit c.set.ensures.others fm limit.0 limit.1;
      second_limit = limit_with K q q' d c.in-Some.n c.loop-d.invariant.second_limit c.set-in-Some.ensures.others gn limit.2 limit.3;
    }
