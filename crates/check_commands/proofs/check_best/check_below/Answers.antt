use Rattle.std.proofs.Common.{List, ℕ, ℤ, pos, ◌-◌, ap, ◌∙◌, subst, to_z, of_z, to_z-of_z, w64}
use Rattle.std.specs.Prelude.{◌-ℤ◌, Option}
use Rattle.std.proofs.lemmas.Result.{IfOk-weaker}
use Rattle.geo_conditions.specs.declared.cond.Cond.{Cond}
use Rattle.extent_caps.specs.Capped.{AddsCaps}
use Rattle.command_input.specs.Reading.{Tells}
use Rattle.check_commands.specs.Checks.{FindsBehind, FindsIn, IsFront, bytes_before}
use Rattle.check_commands.specs.Claims.{none_below}
use Rattle.check_commands.proofs.Behind.{finds_behind}
use Rattle.check_commands.proofs.Serving.{end_kept, serves_below}
use Rattle.check_commands.proofs.check_best.check_below.Goals as goal

pub returns-clause-answer : goal.returns-clause-answer
returns-clause-answer g c =
    let new = g.S.Source.left c.args.source.now in
    let f = c.args.front in
    let d = c.args.d in
    let e = c.args.e in
    let cs = c.push_caps.new.conditions.items in
    let p = f.accepted.problem in
    let kept = ap (λ (z : ℤ). to_z w64 (of_z w64 (z -ℤ pos 1))) (to_z-of_z {w = w64} {z = e} c.ranges.e) ∙ end_kept e c.requires.extent in
    let adds : AddsCaps p (d - 1) (e -ℤ pos 1) f.accepted.conditions.items cs = subst (λ (z : ℤ). AddsCaps p (d - 1) z f.accepted.conditions.items cs) kept c.in_ok-push_caps.ensures in
    IfOk-weaker c.check_second.result _ (λ found. (left : Option (List ℕ)) → IsFront left new f → (input : List ℕ) × Tells left input × FindsIn (none_below d e) input found)
    (λ found x left h. finds_behind left new f h (none_below d e) cs (serves_below (bytes_before f.second) f.accepted h.problem d e cs adds c.requires.dimension.1) found
    (subst (λ (l : List Cond). FindsBehind p l f.second new found) c.as_slice.ensures.value x)) c.check_second.ensures.answer
