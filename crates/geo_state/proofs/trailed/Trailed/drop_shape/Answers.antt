use Rattle.std.proofs.Common.{rules, ◌≡◌, ◌<◌, ◌≤◌, ℕ, List, length, get_or, sym, ap, ◌∙◌, subst, lit<}
use Rattle.geo_conditions.specs.Reach.{State, reach, without}
use Rattle.geo_state.specs.Trail.{Trail}
use Rattle.geo_state.proofs.Trails.{narrows_without}
use Rattle.geo_state.proofs.Trailings.{trailed_mark, trailed_room, trailed_wrote}
use Rattle.geo_state.proofs.trailed.Trailed.drop_shape.Goals as goal

pub save-requires : goal.save-requires
save-requires g c =
    let p = c.self.inside in let o = c.args.o.0 in let t = c.self.invariant in
    let e : c.args.self.now.state ≡ p.state = sym (ap (λ (t : Trail). t.state) c.self.view_is) in
    let b : o < length p.state = subst (λ (S : State). o < length S) e c.requires.object in
    let same = c.deref_mut.ensures.value in (
      lit< tt,
      (
        search rules,
        (
          c.requires.k,
          (
            b,
            (
              ap length same ∙ t.objects,
              (
                subst (λ (ms : List ℕ). get_or ms o 0 ≤ p.depth) (sym same) (trailed_mark p.state p.saved.items p.marks.items p.starts.items p.depth p.saved.spare t o),
                subst (λ (ms : List ℕ). get_or ms o 0 < p.depth → 0 < p.saved.spare) (sym same) (trailed_room p.state p.saved.items p.marks.items p.starts.items p.depth p.saved.spare t o b),
              ),
            ),
          ),
        ),
      ),
    )

pub invariant_of-self : goal.invariant_of-self
invariant_of-self g c =
    let p = c.self.inside in let o = c.args.o.0 in let t = c.self.invariant in
    let e : c.args.self.now.state ≡ p.state = sym (ap (λ (t : Trail). t.state) c.self.view_is) in
    let b : o < length p.state = subst (λ (S : State). o < length S) e c.requires.object in
    (trailed_wrote p.state p.saved.items p.marks.items p.starts.items p.depth p.saved.spare t o (without (reach p.state o) c.args.place) c.drop_shape.new.self c.save.new.saved.items c.deref_mut.result.now c.save.new.marks p.marks.len c.save.new.saved.spare
    c.deref_mut.ensures.value c.deref_mut.ensures.len b
    (narrows_without p.state o c.args.place t.trail.small)
    c.drop_shape.ensures c.save.ensures.marks c.save.ensures.items c.save.ensures.room).0

pub returns-clause-restores : goal.returns-clause-restores
returns-clause-restores g c =
    let p = c.self.inside in let o = c.args.o.0 in let t = c.self.invariant in
    let e : c.args.self.now.state ≡ p.state = sym (ap (λ (t : Trail). t.state) c.self.view_is) in
    let b : o < length p.state = subst (λ (S : State). o < length S) e c.requires.object in
    (trailed_wrote p.state p.saved.items p.marks.items p.starts.items p.depth p.saved.spare t o (without (reach p.state o) c.args.place) c.drop_shape.new.self c.save.new.saved.items c.deref_mut.result.now c.save.new.marks p.marks.len c.save.new.saved.spare
    c.deref_mut.ensures.value c.deref_mut.ensures.len b
    (narrows_without p.state o c.args.place t.trail.small)
    c.drop_shape.ensures c.save.ensures.marks c.save.ensures.items c.save.ensures.room).1
    ∙ ap (λ (t : Trail). t.restores) c.self.view_is
