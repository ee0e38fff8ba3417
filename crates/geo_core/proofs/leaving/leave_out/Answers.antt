use Rattle.std.proofs.Common.{◌≡◌, ◌≤◌, ◌<◌, ◌+◌, ◌-◌, ◌++◌, ◌∷◌, [], ℕ, List, Vec, Global, length, inr, ap, sym, subst, ◌∙◌, arith, append-nil}
use Rattle.std.specs.List.{range_with_len}
use Rattle.geo_base.specs.Tuple.{Tuple}
use Rattle.derivation.specs.Events.{Kept}
use Rattle.problem_data.specs.Problem.{ProblemData}
use Rattle.problem_data.specs.SomeRules.{AreRules, with_rules, all_rules}
use Rattle.problem_data.proofs.SomeRules.{with_all}
use Rattle.layout_search.specs.declared.first.Outcome.{Outcome}
use Rattle.geo_core.specs.Cores.{HasEnded, Refutes, Tries}
use Rattle.geo_core.proofs.LeftOut.{AllBelow, below_more, below_last, kept_more, rules_behind, tried_found, tried_ended, tried_spent}
use Rattle.geo_core.proofs.Refusing.{core_is}
use Rattle.geo_core.proofs.leaving.leave_out.Goals as goal
use Rattle.geo_core.proofs.leaving.leave_out.Goals.{in-Found+in_ok-push-in-Found+in_ok-push-in-Found-2, in-Nothing}

pub leaving-init : goal.leaving-init
leaving-init g c =
    let p : ProblemData = c.args.problem.now in
    let none : c.new-kept.result.items ≡ [] = c.new-kept.ensures.items in
    let count : (c.count_rules-count.result + 1) - 1 ≡ length p.rules = (let is = c.count_rules-count.ensures.is in omega (arith, is)) in
    let all : c.new-kept.result.items ++ range_with_len 1 ((c.count_rules-count.result + 1) - 1) ≡ all_rules p = λ i. none i ++ range_with_len 1 (count i) in
    record {
      tried = (all, c.new-layouts.ensures.items, c.requires.ends);
      below = subst (λ (ks : List ℕ). AllBelow ks 1) (sym none) tt;
      refutes = subst (λ (q : ProblemData). Refutes q c.args.log.events) (sym (ap (with_rules p) all ∙ with_all p)) c.requires.refutes;
    }

pub round_with-requires-clause-rules : goal.round_with-requires-clause-rules
round_with-requires-clause-rules g c =
    let p : ProblemData = c.args.problem.now in
    let i = c.leaving.i in
    let count = c.count_rules-count.result in
    let kept = c.leaving.kept.items in
    let rest : List ℕ = range_with_len (i + 1) ((count + 1) - (i + 1)) in
    let with_these : c.deref-in-leaving.result.now ≡ kept ++ rest = c.deref-in-leaving.ensures.value ∙ c.in_ok-others.ensures ∙ ap (λ (xs : List ℕ). xs ++ rest) c.deref.ensures.value in
    subst (AreRules p) (sym with_these) (rules_behind p c.args.budget count i kept c.leaving.layouts.items c.count_rules-count.ensures.is c.leaving.auto.i c.leaving-test.true c.leaving.invariant.below c.leaving.invariant.tried)

pub returns-in-OutOfBudget-clause-answer : goal.returns-in-OutOfBudget-clause-answer
returns-in-OutOfBudget-clause-answer g c =
    let p : ProblemData = c.args.problem.now in
    let n = c.args.budget in
    let i = c.leaving.i in
    let count = c.count_rules-count.result in
    let kept = c.leaving.kept.items in
    let rest : List ℕ = range_with_len (i + 1) ((count + 1) - (i + 1)) in
    let with_these : c.deref-in-leaving.result.now ≡ kept ++ rest = c.deref-in-leaving.ensures.value ∙ c.in_ok-others.ensures ∙ ap (λ (xs : List ℕ). xs ++ rest) c.deref.ensures.value in
    let now : HasEnded (with_rules p (kept ++ rest)) n c.in_ok-layout.field-0 = subst (λ (R : List ℕ). HasEnded (with_rules p R) n c.in_ok-layout.field-0) with_these c.in_ok-layout.ensures in
    inr (tried_spent p n count i kept c.leaving.layouts.items c.count_rules-count.ensures.is c.leaving.auto.i c.leaving-test.true c.leaving.invariant.below c.leaving.invariant.tried
    (subst (λ (o : Outcome Kept). HasEnded (with_rules p (kept ++ rest)) n o) c.in-OutOfBudget.is now))

pub leaving-preserved : goal.leaving-preserved
leaving-preserved g c =
    let p : ProblemData = c.args.problem.now in
    let n = c.args.budget in
    let i = c.leaving.i in
    let count = c.count_rules-count.result in
    let is = c.count_rules-count.ensures.is in
    let kept = c.leaving.kept.items in
    let us : List Tuple = c.leaving.layouts.items in
    let rest : List ℕ = range_with_len (i + 1) ((count + 1) - (i + 1)) in
    let with_these : c.deref-in-leaving.result.now ≡ kept ++ rest = c.deref-in-leaving.ensures.value ∙ c.in_ok-others.ensures ∙ ap (λ (xs : List ℕ). xs ++ rest) c.deref.ensures.value in
    let now : HasEnded (with_rules p (kept ++ rest)) n c.in_ok-layout.field-0 = subst (λ (R : List ℕ). HasEnded (with_rules p R) n c.in_ok-layout.field-0) with_these c.in_ok-layout.ensures in
    elim c.match-branch-3.branch [
      | in-Found+in_ok-push-in-Found+in_ok-push-in-Found-2 w ↦ (
          let found = subst (λ (o : Outcome Kept). HasEnded (with_rules p (kept ++ rest)) n o) w.in-Found.is now in
          let one : c.match-branch-3.kept.items ≡ kept ++ i ∷ [] = ap (λ (v : Vec ℕ Global). v.items) w.kept-is ∙ w.in_ok-push-in-Found.ensures.items in
          let two : c.match-branch-3.layouts.items ≡ us ++ w.in-Found.layout ∷ [] = ap (λ (v : Vec Tuple Global). v.items) w.layouts-is ∙ w.in_ok-push-in-Found-2.ensures.items in
          record {
            tried = subst (λ (ts : List Tuple). Tries p n ((i + 1) - 1) (c.match-branch-3.kept.items ++ rest) ts) (sym two)
                (subst (λ (ks : List ℕ). Tries p n ((i + 1) - 1) (ks ++ rest) (us ++ w.in-Found.layout ∷ [])) (sym one)
                (tried_found p n count i kept us is c.leaving.auto.i c.leaving-test.true c.leaving.invariant.below w.in-Found.layout c.leaving.invariant.tried found));
            below = subst (λ (ks : List ℕ). AllBelow ks (i + 1)) (sym one) (below_last kept i c.leaving.invariant.below);
            refutes = subst (λ (log : Kept). Refutes (with_rules p (c.match-branch-3.kept.items ++ rest)) log.events) (sym w.log-is)
                (subst (λ (R : List ℕ). Refutes (with_rules p R) c.leaving.log.events) (sym (ap (λ (ks : List ℕ). ks ++ rest) one ∙ kept_more i count kept c.leaving-test.true)) c.leaving.invariant.refutes);
          }
          )
      | in-Nothing w ↦ (
          let none = subst (λ (o : Outcome Kept). HasEnded (with_rules p (kept ++ rest)) n o) w.in-Nothing.is now in
          let one : c.match-branch-3.kept.items ≡ kept = ap (λ (v : Vec ℕ Global). v.items) w.kept-is in
          let two : c.match-branch-3.layouts.items ≡ us = ap (λ (v : Vec Tuple Global). v.items) w.layouts-is in
          record {
            tried = subst (λ (ts : List Tuple). Tries p n ((i + 1) - 1) (c.match-branch-3.kept.items ++ rest) ts) (sym two)
                (subst (λ (ks : List ℕ). Tries p n ((i + 1) - 1) (ks ++ rest) us) (sym one)
                (tried_ended p n count i kept us is c.leaving.auto.i c.leaving-test.true c.leaving.invariant.below c.leaving.invariant.tried none.0));
            below = subst (λ (ks : List ℕ). AllBelow ks (i + 1)) (sym one) (below_more kept i c.leaving.invariant.below);
            refutes = subst (λ (log : Kept). Refutes (with_rules p (c.match-branch-3.kept.items ++ rest)) log.events) (sym w.log-is)
                (subst (λ (ks : List ℕ). Refutes (with_rules p (ks ++ rest)) w.in-Nothing.shorter.events) (sym one) none.1);
          }
          )
    ]

pub returns-clause-refuse : goal.returns-clause-refuse
returns-clause-refuse g c =
    let p : ProblemData = c.args.problem.now in
    let n = c.args.budget in
    let i = c.leaving.i in
    let count = c.count_rules-count.result in
    let kept = c.leaving.kept.items in
    let ts : List Tuple = c.leaving.layouts.items in
    let is : count ≡ length p.rules = c.count_rules-count.ensures.is in
    let over : count + 1 ≤ i = c.leaving-test.false in
    let last : i - 1 ≡ length p.rules = (let end = c.leaving.auto.i-end in omega (arith, is, over, end)) in
    let none : (count + 1) - i ≡ 0 = omega (arith, over) in
    let all : kept ++ range_with_len i ((count + 1) - i) ≡ kept = ap (λ (m : ℕ). kept ++ range_with_len i m) none ∙ append-nil kept in
    core_is p n c.is_said.ensures.formed kept ts (subst (λ (R : List ℕ). Tries p n (length p.rules) R ts) all (subst (λ (m : ℕ). Tries p n m (kept ++ range_with_len i ((count + 1) - i)) ts) last c.leaving.invariant.tried))
