use Rattle.std.proofs.Common.{sym, ◌∙◌, arith}
use Rattle.std.proofs.lemmas.Int.{ints, clamps}
use Rattle.std.proofs.lemmas.Bool.{true≢false}
use Rattle.indexical.proofs.overlap.part_between.Goals as goal

pub returns-then-not-meets-clause-none : goal.returns-then-not-meets-clause-none
returns-then-not-meets-clause-none c = λ v a b f l.
    true≢false (sym (c.meets.ensures.1 (omega (arith, ints, a, b), omega (arith, ints, b, f), omega (arith, ints, a, l), omega (arith, ints, f, l))) ∙ c.if-not-meets.true)

pub returns-clause-some : goal.returns-clause-some
returns-clause-some c =
    let m = c.meets.ensures.0 c.if-not-meets.false in
    omega (arith, ints, clamps, m.0, m.1, m.2, m.3, c.later-lo.ensures, c.sooner-hi.ensures)
