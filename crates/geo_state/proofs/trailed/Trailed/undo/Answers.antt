use Rattle.std.proofs.Common.{rules, ◌≡◌, ◌-◌, suc, length, take, sym, ap, ◌∙◌, subst, arith, lit<}
use Rattle.geo_conditions.specs.Reach.{State, Inside}
use Rattle.geo_state.specs.Trail.{Trail}
use Rattle.geo_state.specs.Undo.{restored}
use Rattle.geo_state.proofs.Trailings.{open_levels, trailed_least, trailed_shut}
use Rattle.geo_state.proofs.trailed.Trailed.undo.Goals as goal

pub put_back-requires : goal.put_back-requires
put_back-requires g c =
    let p = c.self.inside in let t = c.self.invariant in
    let several : length (restored p.state p.saved.items (take p.depth p.starts.items)) ≡ length c.args.self.now.restores = ap (λ (t : Trail). length t.restores) c.self.view_is in
    let deep : p.depth ≡ suc (p.depth - 1) = omega (arith, several, c.requires.depth, open_levels p.state p.saved.items p.marks.items p.starts.items p.depth p.saved.spare t) in (
      lit< tt,
      (
        search rules,
        (
          c.requires.k,
          (
            trailed_least p.state p.saved.items p.marks.items p.starts.items p.depth p.saved.spare t (p.depth - 1) c.index-left.result.now deep c.index-left.ensures,
            (ap length c.deref_mut.ensures.value ∙ t.objects, t.exist),
          ),
        ),
      ),
    )

pub invariant_of-self : goal.invariant_of-self
invariant_of-self g c =
    let p = c.self.inside in let t = c.self.invariant in
    let several : length (restored p.state p.saved.items (take p.depth p.starts.items)) ≡ length c.args.self.now.restores = ap (λ (t : Trail). length t.restores) c.self.view_is in
    let deep : p.depth ≡ suc (p.depth - 1) = omega (arith, several, c.requires.depth, open_levels p.state p.saved.items p.marks.items p.starts.items p.depth p.saved.spare t) in
    (trailed_shut p.state p.saved.items p.marks.items p.starts.items p.depth p.saved.spare t (p.depth - 1) c.index-left.result.now p.marks.len c.put_back.new.saved.spare c.put_back.new.state c.put_back.new.saved.items c.deref_mut.result.now c.put_back.new.marks
    c.deref_mut.ensures.value c.deref_mut.ensures.len deep c.index-left.ensures c.put_back.ensures.state c.put_back.ensures.items c.put_back.ensures.marks c.put_back.ensures.room).0

pub returns-clause-restored : goal.returns-clause-restored
returns-clause-restored g c =
    let p = c.self.inside in let t = c.self.invariant in
    let several : length (restored p.state p.saved.items (take p.depth p.starts.items)) ≡ length c.args.self.now.restores = ap (λ (t : Trail). length t.restores) c.self.view_is in
    let deep : p.depth ≡ suc (p.depth - 1) = omega (arith, several, c.requires.depth, open_levels p.state p.saved.items p.marks.items p.starts.items p.depth p.saved.spare t) in
    sym (ap (λ (t : Trail). t.restores) c.self.view_is)
    ∙ (trailed_shut p.state p.saved.items p.marks.items p.starts.items p.depth p.saved.spare t (p.depth - 1) c.index-left.result.now p.marks.len c.put_back.new.saved.spare c.put_back.new.state c.put_back.new.saved.items c.deref_mut.result.now c.put_back.new.marks
    c.deref_mut.ensures.value c.deref_mut.ensures.len deep c.index-left.ensures c.put_back.ensures.state c.put_back.ensures.items c.put_back.ensures.marks c.put_back.ensures.room).1

pub returns-clause-shrunk : goal.returns-clause-shrunk
returns-clause-shrunk g c =
    let p = c.self.inside in let t = c.self.invariant in
    let several : length (restored p.state p.saved.items (take p.depth p.starts.items)) ≡ length c.args.self.now.restores = ap (λ (t : Trail). length t.restores) c.self.view_is in
    let deep : p.depth ≡ suc (p.depth - 1) = omega (arith, several, c.requires.depth, open_levels p.state p.saved.items p.marks.items p.starts.items p.depth p.saved.spare t) in
    subst (λ (S : State). Inside S c.put_back.new.state) (ap (λ (t : Trail). t.state) c.self.view_is)
    (trailed_shut p.state p.saved.items p.marks.items p.starts.items p.depth p.saved.spare t (p.depth - 1) c.index-left.result.now p.marks.len c.put_back.new.saved.spare c.put_back.new.state c.put_back.new.saved.items c.deref_mut.result.now c.put_back.new.marks
    c.deref_mut.ensures.value c.deref_mut.ensures.len deep c.index-left.ensures c.put_back.ensures.state c.put_back.ensures.items c.put_back.ensures.marks c.put_back.ensures.room).2
