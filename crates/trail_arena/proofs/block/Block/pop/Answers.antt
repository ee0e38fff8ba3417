use Rattle.std.proofs.Common.{◌≡◌, ◌-◌, ◌∷◌, [], ◌++◌, length, ap, sym, ◌∙◌, subst, arith}
use Rattle.trail_arena.specs.Stack.{Pile}
use Rattle.trail_arena.specs.Places.{somes, IsRow}
use Rattle.trail_arena.proofs.Rows.{row_top, row_taken}
use Rattle.trail_arena.proofs.block.Block.pop.Goals as goal

pub read-requires : goal.read-requires
read-requires g c =
    let p = c.self.inside in let h = c.self.invariant.4 in
    let count : length (somes p.cells.slots) ≡ length c.args.self.now.items = ap (λ (v : Pile g.row.T.Denot). length v.items) c.self.view_is in
    (sym c.self.invariant.0, row_top p.cells.slots p.len (p.len - 1) p.capacity h (omega (arith, count, h.count, c.requires)))

pub invariant_of-self : goal.invariant_of-self
invariant_of-self g c =
    let p = c.self.inside in let h = c.self.invariant.4 in
    let count : length (somes p.cells.slots) ≡ length c.args.self.now.items = ap (λ (v : Pile g.row.T.Denot). length v.items) c.self.view_is in
    let r = row_taken p.cells.slots p.len (p.len - 1) p.capacity h (omega (arith, count, h.count, c.requires)) c.read.result c.read.ensures.value in (
      c.read.ensures.slots.0 ∙ c.self.invariant.0,
      c.self.invariant.1,
      c.self.invariant.2,
      c.self.invariant.3,
      subst (λ cs. IsRow cs (p.len - 1) p.capacity) (sym c.read.ensures.slots.1) r.1,
    )

pub returns-clause-items : goal.returns-clause-items
returns-clause-items g c =
    let p = c.self.inside in let h = c.self.invariant.4 in
    let count : length (somes p.cells.slots) ≡ length c.args.self.now.items = ap (λ (v : Pile g.row.T.Denot). length v.items) c.self.view_is in
    let r = row_taken p.cells.slots p.len (p.len - 1) p.capacity h (omega (arith, count, h.count, c.requires)) c.read.result c.read.ensures.value in
    ap (λ (v : Pile g.row.T.Denot). v.items) (sym c.self.view_is) ∙ r.0 ∙ ap (λ cs. somes cs ++ c.read.result ∷ []) (sym c.read.ensures.slots.1)

pub returns-clause-spare : goal.returns-clause-spare
returns-clause-spare g c =
    let p = c.self.inside in let h = c.self.invariant.4 in
    let count : length (somes p.cells.slots) ≡ length c.args.self.now.items = ap (λ (v : Pile g.row.T.Denot). length v.items) c.self.view_is in
    let room : p.capacity - p.len ≡ c.args.self.now.spare = ap (λ (v : Pile g.row.T.Denot). v.spare) c.self.view_is in
    omega (arith, count, room, h.count, h.within, c.requires)
