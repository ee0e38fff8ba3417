use Rattle.std.proofs.Common.{◌≡◌, ◌-◌, length, sym, ◌∙◌, subst, arith}
use Rattle.trail_arena.specs.Places.{IsRow}
use Rattle.trail_arena.proofs.Rows.{row_top, row_taken, none_left}
use Rattle.trail_arena.proofs.block.clear.Goals as goal

pub read-item-requires : goal.read-item-requires
read-item-requires g c =
    let l = c.loop-left in
    (c.requires.base ∙ sym l.invariant.0, row_top l.cells.slots l.left (l.left - 1) (length c.args.cells.now.slots) l.invariant.1 (omega arith))

pub loop-left-preserved : goal.loop-left-preserved
loop-left-preserved g c =
    let l = c.loop-left in let w = c.read-item.ensures in let n = length c.args.cells.now.slots in
    let r = row_taken l.cells.slots l.left (l.left - 1) n l.invariant.1 (omega arith) c.read-item.result w.value in
    (w.slots.0 ∙ l.invariant.0, subst (λ cs. IsRow cs (l.left - 1) n) (sym w.slots.1) r.1)

pub returns-clause-slots : goal.returns-clause-slots
returns-clause-slots g c =
    let l = c.loop-left in let n = length c.args.cells.now.slots in
    let none : l.left ≡ 0 = omega arith in
    none_left l.cells.slots n (subst (λ k. IsRow l.cells.slots k n) none l.invariant.1)
