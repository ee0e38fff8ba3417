use Rattle.std.proofs.Common.{rules, ◌≡◌, ◌<◌, ◌≤◌, ◌≤ℤ◌, ℕ, ℤ, List, length, get_or, set, sym, ap, ◌∙◌, subst, lit<}
use Rattle.geo_conditions.specs.Reach.{State, reach, high, with_high}
use Rattle.geo_state.specs.Trail.{Trail}
use Rattle.geo_state.proofs.Numbers.{small_kept}
use Rattle.geo_state.proofs.Trails.{narrows_high}
use Rattle.geo_state.proofs.Trailings.{trailed_mark, trailed_room, trailed_wrote}
use Rattle.geo_state.proofs.trailed.Trailed.set_high.Goals as goal

pub save-requires : goal.save-requires
save-requires g c =
    let p = c.self.inside in let o = c.args.o.0 in let t = c.self.invariant in
    let e : c.args.self.now.state ≡ p.state = sym (ap (λ (t : Trail). t.state) c.self.view_is) in
    let b : o < length p.state = subst (λ (S : State). o < length S) e c.requires.object in
    let same = c.deref_mut.ensures.value in (
      lit< tt,
      (
        search rules,
        (
          c.requires.k,
          (
            b,
            (
              ap length same ∙ t.objects,
              (
                subst (λ (ms : List ℕ). get_or ms o 0 ≤ p.depth) (sym same) (trailed_mark p.state p.saved.items p.marks.items p.starts.items p.depth p.saved.spare t o),
                subst (λ (ms : List ℕ). get_or ms o 0 < p.depth → 0 < p.saved.spare) (sym same) (trailed_room p.state p.saved.items p.marks.items p.starts.items p.depth p.saved.spare t o b),
              ),
            ),
          ),
        ),
      ),
    )

pub invariant_of-self : goal.invariant_of-self
invariant_of-self g c =
    let p = c.self.inside in let o = c.args.o.0 in let t = c.self.invariant in
    let e : c.args.self.now.state ≡ p.state = sym (ap (λ (t : Trail). t.state) c.self.view_is) in
    let b : o < length p.state = subst (λ (S : State). o < length S) e c.requires.object in
    (trailed_wrote p.state p.saved.items p.marks.items p.starts.items p.depth p.saved.spare t o (with_high (reach p.state o) c.args.d c.args.v) c.set_high.new.self c.save.new.saved.items c.deref_mut.result.now c.save.new.marks p.marks.len c.save.new.saved.spare
    c.deref_mut.ensures.value c.deref_mut.ensures.len b
    (narrows_high p.state o c.args.d c.args.v t.trail.small c.requires.small (subst (λ (S : State). c.args.v ≤ℤ high S o c.args.d) e c.requires.narrower))
    (c.set_high.ensures ∙ ap (λ (z : ℤ). set p.state o (with_high (reach p.state o) c.args.d z)) (small_kept c.args.v c.requires.small)) c.save.ensures.marks c.save.ensures.items c.save.ensures.room).0

pub returns-clause-restores : goal.returns-clause-restores
returns-clause-restores g c =
    let p = c.self.inside in let o = c.args.o.0 in let t = c.self.invariant in
    let e : c.args.self.now.state ≡ p.state = sym (ap (λ (t : Trail). t.state) c.self.view_is) in
    let b : o < length p.state = subst (λ (S : State). o < length S) e c.requires.object in
    (trailed_wrote p.state p.saved.items p.marks.items p.starts.items p.depth p.saved.spare t o (with_high (reach p.state o) c.args.d c.args.v) c.set_high.new.self c.save.new.saved.items c.deref_mut.result.now c.save.new.marks p.marks.len c.save.new.saved.spare
    c.deref_mut.ensures.value c.deref_mut.ensures.len b
    (narrows_high p.state o c.args.d c.args.v t.trail.small c.requires.small (subst (λ (S : State). c.args.v ≤ℤ high S o c.args.d) e c.requires.narrower))
    (c.set_high.ensures ∙ ap (λ (z : ℤ). set p.state o (with_high (reach p.state o) c.args.d z)) (small_kept c.args.v c.requires.small)) c.save.ensures.marks c.save.ensures.items c.save.ensures.room).1
    ∙ ap (λ (t : Trail). t.restores) c.self.view_is

pub returns-clause-state : goal.returns-clause-state
returns-clause-state g c =
    let S = c.self.inside.state in let o = c.args.o.0 in let d = c.args.d in let v = c.args.v in
    c.set_high.ensures ∙ ap (λ (z : ℤ). set S o (with_high (reach S o) d z)) (small_kept v c.requires.small)
    ∙ ap (λ (t : Trail). set t.state o (with_high (reach t.state o) d v)) c.self.view_is
