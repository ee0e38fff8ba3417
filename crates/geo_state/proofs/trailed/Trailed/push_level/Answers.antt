use Rattle.std.proofs.Common.{◌≡◌, ◌+◌, ◌∷◌, [], ◌++◌, ◌<◌, ℕ, arith, ap, sym, ◌∙◌, subst, length, take, set}
use Rattle.geo_state.specs.Trail.{Trail, IsTrailed}
use Rattle.geo_state.specs.Undo.{restored}
use Rattle.geo_state.proofs.Trailings.{trailed_open, open_levels}
use Rattle.geo_state.proofs.trailed.Trailed.push_level.Goals as goal

pub invariant_of-self : goal.invariant_of-self
invariant_of-self g c =
    let p = c.self.inside in
    let levels : length p.starts.items ≡ c.args.self.now.levels = ap (λ (t : Trail). t.levels) c.self.view_is in
    let several : length (restored p.state p.saved.items (take p.depth p.starts.items)) ≡ length c.args.self.now.restores = ap (λ (t : Trail). length t.restores) c.self.view_is in
    let depth = open_levels p.state p.saved.items p.marks.items p.starts.items p.depth p.saved.spare c.self.invariant in
    let room : p.depth < length p.starts.items = omega (arith, levels, several, c.requires.room, depth) in
    subst (λ (n : ℕ). IsTrailed p.state p.saved.items p.marks.items (set p.starts.items p.depth n) (p.depth + 1) p.saved.spare) (sym c.len.ensures)
    (trailed_open p.state p.saved.items p.marks.items p.starts.items p.depth p.saved.spare c.self.invariant (p.depth + 1) room (omega arith)).0

pub returns-clause-restores : goal.returns-clause-restores
returns-clause-restores g c =
    let p = c.self.inside in
    let levels : length p.starts.items ≡ c.args.self.now.levels = ap (λ (t : Trail). t.levels) c.self.view_is in
    let several : length (restored p.state p.saved.items (take p.depth p.starts.items)) ≡ length c.args.self.now.restores = ap (λ (t : Trail). length t.restores) c.self.view_is in
    let depth = open_levels p.state p.saved.items p.marks.items p.starts.items p.depth p.saved.spare c.self.invariant in
    let room : p.depth < length p.starts.items = omega (arith, levels, several, c.requires.room, depth) in
    ap (λ (n : ℕ). restored p.state p.saved.items (take (p.depth + 1) (set p.starts.items p.depth n))) c.len.ensures
    ∙ (trailed_open p.state p.saved.items p.marks.items p.starts.items p.depth p.saved.spare c.self.invariant (p.depth + 1) room (omega arith)).1
    ∙ ap (λ (t : Trail). t.restores ++ t.state ∷ []) c.self.view_is
