use Rattle.std.proofs.Common.{◌≡◌, ◌<◌, ◌-◌, ℕ, length, map, subst, arith, Option, Some}
use Rattle.std.specs.Prelude.{IfSome, slice_get}
use Rattle.std.proofs.lemmas.List.{length-map}
use Rattle.geo_conditions.specs.declared.cond.Cond.{Cond}
use Rattle.geo_conditions.specs.declared.object.ObjId.{ObjId}
use Rattle.indexical.specs.declared.any.AnyIndexical.{AnyIndexical}
use Rattle.object_pruning.specs.InRows.{IsInGroup, facing_of}
use Rattle.object_pruning.proofs.LivePicks.{group_number, group_fits}
use Rattle.fixpoint.specs.Near.{IsPair}
use Rattle.fixpoint.proofs.Names.{told}
use Rattle.fixpoint.proofs.waking.wake_group.Goals as goal

pub wake_one-requires : goal.wake_one-requires
wake_one-requires g c =
    let f = λ (x : AnyIndexical g.row.K). x.cond in
    let cs = map f c.args.list.now in
    let S = c.args.s.now in
    let u = c.args.u.0 in
    let group = c.args.group.now in
    let q = c.requires.group in
    let v = c.in-Some.v in
    let here : u < length S = omega (arith, c.requires.object.0, c.requires.object.1) in
    let other : v.0 < length S = subst (λ (x : Option ObjId). IfSome x (λ w. w.0 < length S)) c.in-Some.is (group_fits cs S u c.requires.fits here group q) in
    let there : v.0 < length c.args.queued.now = omega (arith, other, c.requires.object.1) in
    let numbers : (i : ℕ) → IsInGroup group i → (0 < i) × (i - 1 < length c.args.list.now) = λ i b. subst (λ (n : ℕ). (0 < i) × (i - 1 < n)) (length-map c.args.list.now f) (group_number cs S u c.requires.fits here group q i b) in
    let pair : (i : ℕ) (x : Cond) → IsInGroup group i → slice_get cs (i - 1) ≡ Some x → IsPair x u v.0 = λ i x b e. told x u (facing_of q.1 group) v c.in-Some.is (q.3.faces i x b e) in
    (omega arith, (omega arith, (c.requires.fits, (numbers, (pair, ((λ t. c.requires.idle t v c.in-Some.is), ((c.requires.object.0, there), c.requires.square)))))))

pub wake_others-requires : goal.wake_others-requires
wake_others-requires g c =
    let f = λ (x : AnyIndexical g.row.K). x.cond in
    let cs = map f c.args.list.now in
    let S = c.args.s.now in
    let u = c.args.u.0 in
    let group = c.args.group.now in
    let here : u < length S = omega (arith, c.requires.object.0, c.requires.object.1) in
    let numbers : (i : ℕ) → IsInGroup group i → (0 < i) × (i - 1 < length c.args.list.now) = λ i b. subst (λ (n : ℕ). (0 < i) × (i - 1 < n)) (length-map c.args.list.now f) (group_number cs S u c.requires.fits here group c.requires.group i b) in
    (omega arith, (omega arith, (c.requires.fits, (c.requires.links, (numbers, (c.requires.object.0, c.requires.square))))))

pub returns-in-Some-clause-square : goal.returns-in-Some-clause-square
returns-in-Some-clause-square g c = c.wake_one.ensures.square

pub returns-in-None-clause-square : goal.returns-in-None-clause-square
returns-in-None-clause-square g c = c.wake_others.ensures.square
