use Rattle.std.proofs.Common.{ap, arith, refl, subst}
use Rattle.geo_conditions.specs.Walk.{Tree}
use Rattle.trail_search.specs.declared.step.Step.{Step}
use Rattle.trail_search.specs.declared.step.Step.TheVariants.{Found, Ended, Budget}
use Rattle.trail_search.specs.Next.{HasRecorded}
use Rattle.layout_search.proofs.Outcomes.{Begins, begun, first-tuple, first-lists, first-finds, none-lists, none-finds, none-derives, spent-lists}
use Rattle.layout_search.proofs.first.first_answer.Goals as goal

pub found_layout-requires : goal.found_layout-requires
found_layout-requires g c =
    let p = c.args.problem.now in
    let a = c.args.search.now in
    let b = c.next.new.self in
    let begins : Begins p a.walk.conditions a.budget a b Found = begun p a b Found c.is_said.ensures.formed c.requires.walk c.requires.fits c.requires.walked c.requires.over c.in-Found.ensures.steps in
    let h = first-tuple p a.walk.conditions a.budget a b begins in
    (omega arith, (omega arith, (c.requires.k, (c.requires.dims, (h.0, h.1)))))

pub returns-in_ok-found_layout-in-Found-clause-walk : goal.returns-in_ok-found_layout-in-Found-clause-walk
returns-in_ok-found_layout-in-Found-clause-walk g c =
    let p = c.args.problem.now in
    let a = c.args.search.now in
    let b = c.next.new.self in
    let begins : Begins p a.walk.conditions a.budget a b Found = begun p a b Found c.is_said.ensures.formed c.requires.walk c.requires.fits c.requires.walked c.requires.over c.in-Found.ensures.steps in
    first-lists p a.walk.conditions a.budget a b begins c.in_ok-found_layout-in-Found.field-0 (c.in_ok-found_layout-in-Found.ensures.0, c.in_ok-found_layout-in-Found.ensures.1)

pub returns-in_ok-found_layout-in-Found-clause-solution : goal.returns-in_ok-found_layout-in-Found-clause-solution
returns-in_ok-found_layout-in-Found-clause-solution g c =
    let p = c.args.problem.now in
    let a = c.args.search.now in
    let b = c.next.new.self in
    let begins : Begins p a.walk.conditions a.budget a b Found = begun p a b Found c.is_said.ensures.formed c.requires.walk c.requires.fits c.requires.walked c.requires.over c.in-Found.ensures.steps in
    first-finds p a.walk.conditions a.budget a b begins c.in_ok-found_layout-in-Found.field-0 (c.in_ok-found_layout-in-Found.ensures.0, c.in_ok-found_layout-in-Found.ensures.1)

pub returns-in-Ended-clause-walk : goal.returns-in-Ended-clause-walk
returns-in-Ended-clause-walk g c =
    let p = c.args.problem.now in
    let a = c.args.search.now in
    let b = c.next.new.self in
    let begins : Begins p a.walk.conditions a.budget a b Ended = begun p a b Ended c.is_said.ensures.formed c.requires.walk c.requires.fits c.requires.walked c.requires.over c.in-Ended.ensures.steps in
    none-lists p a.walk.conditions a.budget a b begins c.new.result

pub returns-in-Ended-clause-solution : goal.returns-in-Ended-clause-solution
returns-in-Ended-clause-solution g c =
    let p = c.args.problem.now in
    let a = c.args.search.now in
    let b = c.next.new.self in
    let begins : Begins p a.walk.conditions a.budget a b Ended = begun p a b Ended c.is_said.ensures.formed c.requires.walk c.requires.fits c.requires.walked c.requires.over c.in-Ended.ensures.steps in
    none-finds p a.walk.conditions a.budget a b begins

pub returns-in-Ended-clause-derivation : goal.returns-in-Ended-clause-derivation
returns-in-Ended-clause-derivation g c = λ keeps none empty.
    let p = c.args.problem.now in
    let a = c.args.search.now in
    let b = c.next.new.self in
    let begins : Begins p a.walk.conditions a.budget a b Ended = begun p a b Ended c.is_said.ensures.formed c.requires.walk c.requires.fits c.requires.walked c.requires.over c.in-Ended.ensures.steps in
    let recorded : HasRecorded c.next.result b = c.next.ensures.recorded keeps none empty (ap (λ (W : Tree). W.after) c.requires.walk) in
    (none-derives p a.walk.conditions a.budget a b begins b.events refl (subst (λ (x : Step). HasRecorded x b) c.in-Ended.is recorded), c.requires.few)

pub returns-in-Budget-clause-walk : goal.returns-in-Budget-clause-walk
returns-in-Budget-clause-walk g c =
    let p = c.args.problem.now in
    let a = c.args.search.now in
    let b = c.next.new.self in
    let begins : Begins p a.walk.conditions a.budget a b Budget = begun p a b Budget c.is_said.ensures.formed c.requires.walk c.requires.fits c.requires.walked c.requires.over c.in-Budget.ensures.steps in
    spent-lists p a.walk.conditions a.budget a b begins
