use Rattle.std.proofs.Common.{◌≡◌, ℕ, List, ℤ, ap, sym, ◌∙◌}
use Rattle.std.specs.Cmp.Rules.{signed_items}
use Rattle.object_pruning.specs.declared.kept.Placed.{Placed}
use Rattle.object_pruning.proofs.kept.is_same_point.Goals as goal

abbrev placed_at : (K : ℕ) → ℕ → List ℤ → Placed K
placed_at K s p = record { place = s; point = record { coordinates = p } }

same_placed : {K : ℕ} (a b : Placed K) → a.place ≡ b.place → a.point.coordinates ≡ b.point.coordinates → a ≡ b
same_placed {K} a b e f = ap (λ (s : ℕ). placed_at K s a.point.coordinates) e ∙ ap (λ (p : List ℤ). placed_at K b.place p) f

pub returns-then-a-b : goal.returns-then-a-b
returns-then-a-b g c = λ t.
    let a = c.args.a.now in
    let b = c.args.b.now in
    same_placed a b c.if-a-b.true ((signed_items a.point.coordinates b.point.coordinates).0 (sym c.eq.ensures ∙ t))
