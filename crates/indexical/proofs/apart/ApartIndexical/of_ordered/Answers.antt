use Rattle.std.proofs.Common.{arith}
use Rattle.indexical.proofs.ApartForm.{parts_short, apart_disjunction}
use Rattle.indexical.proofs.apart.ApartIndexical.of_ordered.Goals as goal

pub invariant_of-result : goal.invariant_of-result
invariant_of-result g c = record {
  gaps = (c.gaps-ahead.ensures, c.gaps-behind.ensures);
  in_order = c.requires.in_order;
  some = c.requires.some;
  few = c.requires.few;
  short = parts_short c.args.first c.args.second c.requires.few;
}

pub returns-clause-disjunction : goal.returns-clause-disjunction
returns-clause-disjunction g c = λ o. let before = c.requires.in_order in apart_disjunction c.args.first c.args.second _ o (λ e. absurd (omega (arith, e, before)))
