use Rattle.std.proofs.Common.{ℕ, ◌<◌, List, [], ◌∷◌, ◌++◌, length, sym, ap, ◌∙◌, subst}
use Rattle.std.specs.List.{Contains}
use Rattle.geo_tokens.specs.Names.{NameTable, IsNameTable, IsShapeList, object_names}
use Rattle.geo_tokens.proofs.Table.{with_object}
use Rattle.geo_tokens.proofs.names.Names.add_object.Goals as goal

pub invariant_of-self-2 : goal.invariant_of-self-2
invariant_of-self-2 c =
    let t : NameTable = record { dims = c.self.inside.dims; shapes = c.self.inside.shapes.items; objects = c.self.inside.objects.items } in
    let new = subst (λ (u : NameTable). Contains (object_names u) c.args.name.now → ⊥) (sym c.self.view_is) c.requires.new_name in
    let room = subst (λ (u : NameTable). length u.objects < 200) (sym c.self.view_is) c.requires.room in
    let list = subst (λ (u : NameTable). IsShapeList (length u.shapes) c.args.shapes.now) (sym c.self.view_is) c.requires.list in
    let pushed = c.in_ok-push.ensures {u = tt} in
    let e = pushed.items ∙ ap (λ (o : List ℕ × List ℕ). t.objects ++ o ∷ []) (c.in_ok-object.ensures {u = tt}) in
    subst (λ (os : List (List ℕ × List ℕ)). IsNameTable (record t { objects = os })) (sym e) (with_object t c.args.name.now c.args.shapes.now c.self.invariant c.requires.text new room list)
