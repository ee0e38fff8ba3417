use Rattle.std.proofs.Common.{◌≡◌, ◌*◌, length, ap, ◌∙◌, arith, replicate, ℕ}
use Rattle.trail_arena.specs.Stack.{Pile}
use Rattle.geo_state.specs.Undo.{Entry}
use Rattle.geo_state.proofs.Trailings.{trailed_start}
use Rattle.geo_state.proofs.trailed.Trailed.start.Goals as goal

pub invariant_of-result : goal.invariant_of-result
invariant_of-result g c =
    let S = c.args.first in
    let many : c.objects-objects.result ≡ length S = c.objects-objects.ensures.number in
    let product : c.args.levels * c.objects-objects.result ≡ c.args.levels * length S = ap (λ (n : ℕ). c.args.levels * n) many in
    trailed_start S c.reserve.new.self.items c.in_ok-marks.marks.items c.in_ok-starts.starts.items c.args.levels c.reserve.new.self.spare c.requires.small
    (c.in_ok-reserve.ensures.items ∙ ap (λ (p : Pile Entry). p.items) c.new-saved.ensures)
    (c.in_ok-marks.ensures.items_if_clones_equal (λ y h. h) ∙ ap (λ (n : ℕ). replicate n 0) many)
    (c.in_ok-starts.ensures.items_if_clones_equal (λ y h. h))
    (omega (arith, c.in_ok-reserve.ensures.ok, product))
