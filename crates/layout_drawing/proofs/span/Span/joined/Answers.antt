use Rattle.std.proofs.Common.{arith}
use Rattle.std.proofs.lemmas.Int.{ints, clamps}
use Rattle.layout_drawing.proofs.span.Span.joined.Goals as goal

pub invariant_of-result : goal.invariant_of-result
invariant_of-result c =
    let a = c.args.self.now.filled in let b = c.args.other.now.filled in
    let p = c.args.self.now.from in let q = c.args.other.now.from in
    let r = c.args.self.now.to in let s = c.args.other.now.to in
    let low = c.min.ensures.value in let high = c.max.ensures.value in
    record { filled = omega (arith, ints, clamps); from = omega (arith, ints, clamps); to = omega (arith, ints, clamps) }
