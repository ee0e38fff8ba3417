use Rattle.std.proofs.Common.{◌≡◌, sym, subst, ◌∙◌, ℤ, ◌<ℤ◌}
use mir.Val.{to_z, of_z}
use mir.Syntax.{w64}
use Rattle.std.proofs.lemmas.Bool.{true≢false}
use Rattle.std.specs.Option.{ForSome}
use Rattle.geo_base.specs.Boxes.{coordinate}
use Rattle.indexical.specs.Bound.{IsPast}
use Rattle.indexical.proofs.Bounds.{if_for, for_if}
use Rattle.indexical.proofs.Numbers.{kept64}
use Rattle.indexical.proofs.bound.BoundIndexical.is_broken_at.Goals as goal

pub returns-then-not-has_asked : goal.returns-then-not-has_asked
returns-then-not-has_asked g c = (λ h. absurd (true≢false (sym h)), λ m. absurd (true≢false (sym (c.has_asked.ensures.1 m.place) ∙ c.if-not-has_asked.true)))

pub returns-then-is_past : goal.returns-then-is_past
returns-then-is_past g c =
    let b = c.args.self.now in
    let kept : to_z w64 (of_z w64 c.get-v.result) ≡ coordinate c.args.c.now.coordinates b.dimension = kept64 c.get-v.result c.get-v.type_inv ∙ c.get-v.ensures in (
      λ h. record {
        place = c.has_asked.ensures.0 c.if-not-has_asked.false;
        past = subst (λ (v : ℤ). IsPast b.least b.constant v v) kept (c.is_past.ensures.0 c.if-is_past.true);
        until = subst (λ (v : ℤ). ForSome b.until (λ n. v <ℤ n)) kept (if_for b.until _ (c.is_before.ensures.0 h));
      },
      λ m. c.is_before.ensures.1 (for_if b.until _ (subst (λ (v : ℤ). ForSome b.until (λ n. v <ℤ n)) (sym kept) m.until)),
    )

pub returns-else-is_past : goal.returns-else-is_past
returns-else-is_past g c =
    let b = c.args.self.now in
    let kept : to_z w64 (of_z w64 c.get-v.result) ≡ coordinate c.args.c.now.coordinates b.dimension = kept64 c.get-v.result c.get-v.type_inv ∙ c.get-v.ensures in (
      λ h. absurd (true≢false (sym h ∙ c.if-is_past.false)),
      λ m. c.is_past.ensures.1 (subst (λ (v : ℤ). IsPast b.least b.constant v v) (sym kept) m.past),
    )
