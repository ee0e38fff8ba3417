use Rattle.std.proofs.Common.{◌≡◌, ◌<◌, ℕ, take, length, get_or, subst, sym, arith}
use Rattle.std.specs.Prelude.{slice_get, pos}
use Rattle.std.proofs.lemmas.List.{length-take-le}
use Rattle.problem_data.specs.declared.tree.Int.{Int}
use Rattle.problem_data.specs.Least.{IsLeast}
use Rattle.problem_data.proofs.InLists.{among_none, more, among_all}
use Rattle.layout_text.specs.Faults.{OutsideFault}
use Rattle.layout_text.proofs.faults.line.pieces_fault.Goals as goal

pub loop-i-init : goal.loop-i-init
loop-i-init c = among_none (λ before. OutsideFault (slice_get c.args.pieces.now (length before)))

pub loop-i-preserved : goal.loop-i-preserved
loop-i-preserved c =
    let so_far : length (take c.loop-i.i c.args.origin.now) ≡ c.loop-i.i = length-take-le c.loop-i.i c.args.origin.now (let lt : c.loop-i.i < length c.args.origin.now = c.loop-i-test.true in omega arith) in
    let d : Int = record { place = 0; value = pos 0 } in
    more (λ before. OutsideFault (slice_get c.args.pieces.now (length before))) c.args.origin.now c.loop-i.i d _ _ _ c.loop-i-test.true c.earlier-found.ensures c.loop-i.invariant
    (subst (λ (n : ℕ). IsLeast (OutsideFault (slice_get c.args.pieces.now n) (get_or c.args.origin.now c.loop-i.i d)) c.coordinate_fault-here.result) (sym so_far) c.coordinate_fault-here.ensures)

pub returns : goal.returns
returns c = among_all (λ before. OutsideFault (slice_get c.args.pieces.now (length before))) c.args.origin.now c.loop-i.i _ c.loop-i-test.false c.loop-i.invariant
