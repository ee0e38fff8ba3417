use Rattle.std.proofs.Common.{◌≡◌, ◌+◌, ◌-◌, ◌∷◌, [], ◌++◌, ap, sym, ◌∙◌, subst, arith}
use Rattle.trail_arena.specs.Stack.{Pile, pile}
use Rattle.trail_arena.specs.Places.{somes, IsRow}
use Rattle.trail_arena.proofs.Rows.{row_open, row_written}
use Rattle.trail_arena.proofs.block.Block.push.Goals as goal

pub write-requires : goal.write-requires
write-requires g c =
    let p = c.self.inside in let h = c.self.invariant.4 in
    let room : p.capacity - p.len ≡ c.args.self.now.spare = ap (λ (v : Pile g.row.T.Denot). v.spare) c.self.view_is in
    let r = row_open p.cells.slots p.len p.capacity h (omega (arith, room, c.requires)) in (sym c.self.invariant.0, r.0, r.1)

pub invariant_of-self : goal.invariant_of-self
invariant_of-self g c =
    let p = c.self.inside in let h = c.self.invariant.4 in
    let room : p.capacity - p.len ≡ c.args.self.now.spare = ap (λ (v : Pile g.row.T.Denot). v.spare) c.self.view_is in
    let r = row_written p.cells.slots p.len p.capacity h c.args.item (p.len + 1) (omega (arith, room, c.requires)) (omega arith) in (
      c.write.ensures.0 ∙ c.self.invariant.0,
      c.self.invariant.1,
      c.self.invariant.2,
      c.self.invariant.3,
      subst (λ cs. IsRow cs (p.len + 1) p.capacity) (sym c.write.ensures.1) r.1,
    )

pub returns : goal.returns
returns g c =
    let p = c.self.inside in let h = c.self.invariant.4 in
    let room : p.capacity - p.len ≡ c.args.self.now.spare = ap (λ (v : Pile g.row.T.Denot). v.spare) c.self.view_is in
    let r = row_written p.cells.slots p.len p.capacity h c.args.item (p.len + 1) (omega (arith, room, c.requires)) (omega arith) in
    let less : p.capacity - (p.len + 1) ≡ c.args.self.now.spare - 1 = omega (arith, room) in
    let items : somes c.write.new.self.slots ≡ c.args.self.now.items ++ c.args.item ∷ [] =
    ap somes c.write.ensures.1 ∙ r.0 ∙ ap (λ (v : Pile g.row.T.Denot). v.items ++ c.args.item ∷ []) c.self.view_is in
    (λ i. pile (items i) (less i))
