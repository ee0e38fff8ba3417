use Rattle.std.proofs.Common.{◌≡◌, ℕ, ◌∙◌, ◌≤ℤ◌, inl, inr, sym, subst, arith}
use Rattle.std.proofs.lemmas.Bool.{cases_eq}
use Rattle.std.proofs.lemmas.Int.{ints}
use Rattle.geo_base.specs.Boxes.{coordinate}
use Rattle.object_pruning.specs.Limits.{IsInReach}
use Rattle.object_pruning.proofs.near.wider_point.Goals as goal

pub loop-d-preserved : goal.loop-d-preserved
loop-d-preserved g c =
    let d = c.loop-d.d in
    let i = c.loop-d.invariant in
    let more = c.in_ok-coordinate.ensures in
    let put : coordinate c.set.new.self.coordinates d ≡ c.in_ok-coordinate.coordinate = omega (arith, ints, c.set.ensures.same, more.0.0, more.0.1) in
    let was = i.left d (omega arith) in
    record {
      small = λ e h. elim (cases_eq e d) [
        | inl q ↦ subst (λ (k : ℕ). IsInReach (coordinate c.set.new.self.coordinates k)) (sym q) (subst IsInReach (sym put) more.0)
        | inr ne ↦ subst IsInReach (sym (c.set.ensures.others e ne)) (i.small e h)
      ];
      first = λ e h. elim (cases_eq e d) [
        | inl q ↦ subst (λ (k : ℕ). coordinate c.args.p.now.coordinates k ≤ℤ coordinate c.set.new.self.coordinates k) (sym q) (omega (arith, ints, put, more.1, c.get.ensures, was))
        | inr ne ↦ let o = c.set.ensures.others e ne in let b = i.first e (omega arith) in omega (arith, ints, o, b)
      ];
      second = λ e h. elim (cases_eq e d) [
        | inl q ↦ subst (λ (k : ℕ). coordinate c.args.q.now.coordinates k ≤ℤ coordinate c.set.new.self.coordinates k) (sym q) (omega (arith, ints, put, more.2, c.get-in-loop-d.ensures))
        | inr ne ↦ let o = c.set.ensures.others e ne in let b = i.second e (omega arith) in omega (arith, ints, o, b)
      ];
      left = λ e h. c.set.ensures.others e (λ q. absurd (omega (arith, h, q))) ∙ i.left e (omega arith);
    }
