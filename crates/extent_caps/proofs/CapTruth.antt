-- The caps at a number are all true exactly where no box ends beyond it.
use Rattle.std.proofs.Common.{◌≡◌, ◌<◌, ℕ, ℤ, pos, true, List, [], length, get_or, refl, sym, subst, ◌∙◌, arith}
use Rattle.std.specs.Prelude.{◌≤ℤ◌, ◌+ℤ◌, ◌-ℤ◌, ◌*ℤ◌, All}
use Rattle.std.specs.List.{range_with_len}
use Rattle.std.proofs.lemmas.Int.{ints}
use Rattle.std.proofs.lemmas.List.{get_or-map, get_or_default, length-map}
use Rattle.std.proofs.lemmas.List.Elements.{All-map}
use lib.Signed.{le_z}
use Rattle.geo_base.specs.Boxes.{coordinate}
use Rattle.geo_base.specs.Tuple.{Tuple, spot}
use Rattle.problem_data.specs.Problem.{BoxData, ProblemData}
use Rattle.problem_data.specs.Tuple.{object_of}
use Rattle.problem_data.specs.Cells.{box_at, IsShaped, IsWideTuple}
use Rattle.problem_data.specs.Places.{place_count}
use Rattle.linear_conditions.specs.CondTree.{true_on}
use Rattle.rule_values.specs.Shapes.{boxes_at}
use Rattle.rule_ground.specs.Shapes.{places, IsPlace}
use Rattle.rule_ground.proofs.ApartTruth.{IsTrueOn}
use Rattle.rule_ground.proofs.Placing.{boxes-placed, place-of}
use Rattle.rule_ground.proofs.Truths.{once, shifted, all-flat-out, all-flat-in, all-range-out, all-range-in}
use Rattle.rule_ground.proofs.WithinTruth.{unless-out, unless-in}
use Rattle.extent_caps.specs.Extents.{box_end, IsBoxEndOf, EndsBy, ends_by, cap, caps_at, caps_of, caps}

pub wide-shaped : (p : ProblemData) (t : Tuple) → IsWideTuple p t → IsShaped p t
wide-shaped p t h = record { objects = h.objects; each = λ o l. (h.each o l).form }

level : (c x p : ℤ) → p ≡ x → (a l e : ℤ) → c ≡ (a +ℤ l) -ℤ e → le_z (c +ℤ (p +ℤ pos 0)) (pos 0) ≡ le_z ((x +ℤ a) +ℤ l) e
level c x p h a l e g = shifted (c +ℤ (p +ℤ pos 0)) ((x +ℤ a) +ℤ l) e (omega (arith, ints))

end-true : (x a l e : ℤ) → le_z (((a +ℤ l) -ℤ e) +ℤ (pos 1 *ℤ x +ℤ pos 0)) (pos 0) ≡ le_z ((x +ℤ a) +ℤ l) e
end-true x a l e = level ((a +ℤ l) -ℤ e) x (pos 1 *ℤ x) (once x) a l e refl

at_most : (x y : ℤ) → le_z x y ≡ true → x ≤ℤ y
at_most x y h = grind (arith, ints)

is_at_most : (x y : ℤ) → x ≤ℤ y → le_z x y ≡ true
is_at_most x y h = grind (arith, ints)

abbrev no_box : BoxData
no_box = record { offsets = []; sizes = [] }

module _ (p : ProblemData) (d : ℕ) (e : ℤ) (t : Tuple) (h : IsShaped p t) where
  end-is : (o : ℕ) (b : BoxData) → true_on t (ends_by d e o b) ≡ le_z (box_end b (spot t o).origin d) e
  end-is o b = end-true (coordinate (spot t o).origin d) (coordinate b.offsets d) (coordinate b.sizes d) e

  box-out : (o : ℕ) (b : BoxData) → o < length p.objects → IsTrueOn t (cap p d e o (spot t o).place b) → box_end b (spot t o).origin d ≤ℤ e
  box-out o b l c =
      let i = place-of p t o h l in
      at_most (box_end b (spot t o).origin d) e (sym (end-is o b) ∙ unless-out p t o (spot t o).place (ends_by d e o b) h i refl c)

  box-in : (o s : ℕ) (b : BoxData) → IsPlace p o s → ((spot t o).place ≡ s → box_end b (spot t o).origin d ≤ℤ e) → IsTrueOn t (cap p d e o s b)
  box-in o s b i f = unless-in p t o s (ends_by d e o b) h i (λ same. end-is o b ∙ is_at_most (box_end b (spot t o).origin d) e (f same))

  place-out : (o n : ℕ) → o < length p.objects → n < length (boxes_at p o (spot t o).place) → All (IsTrueOn t) (caps p d e) → IsTrueOn t (cap p d e o (spot t o).place (box_at (boxes_at p o (spot t o).place) n))
  place-out o n l m all =
      let s = (spot t o).place in
      let i = place-of p t o h l in
      let first = all-range-out (λ u. All (IsTrueOn t) (caps_of p d e u)) 0 (length p.objects) (all-flat-out (IsTrueOn t) (caps_of p d e) (range_with_len 0 (length p.objects)) all) o (omega arith) (omega arith) in
      let second = all-range-out (λ u. All (IsTrueOn t) (caps_at p d e o u)) 1 (place_count (object_of p o)) (all-flat-out (IsTrueOn t) (caps_at p d e o) (places p o) first) s i.first (let g = i.last in omega arith) in
      let long : n < length (caps_at p d e o s) = subst (λ (k : ℕ). n < k) (sym (length-map (boxes_at p o s) (cap p d e o s))) m in
      subst (IsTrueOn t) (get_or-map (cap p d e o s) (boxes_at p o s) n no_box (cap p d e o s no_box) m) (second n (cap p d e o s no_box) long)

  pub caps-out : All (IsTrueOn t) (caps p d e) → EndsBy p t d e
  caps-out all v b =
      let o = b.0 in
      subst (λ (x : ℤ). x ≤ℤ e) (sym b.2.2) (box-out o (box_at (boxes_at p o (spot t o).place) b.2.0) b.1 (place-out o b.2.0 b.1 b.2.1 all))

  pub caps-in : EndsBy p t d e → All (IsTrueOn t) (caps p d e)
  caps-in f =
      all-flat-in (IsTrueOn t) (caps_of p d e) (range_with_len 0 (length p.objects)) (all-range-in (λ o. All (IsTrueOn t) (caps_of p d e o)) 0 (length p.objects) (λ o z l.
      let x : o < length p.objects = omega arith in
      all-flat-in (IsTrueOn t) (caps_at p d e o) (places p o) (all-range-in (λ s. All (IsTrueOn t) (caps_at p d e o s)) 1 (place_count (object_of p o)) (λ s m q.
      All-map (IsTrueOn t) (cap p d e o s) (boxes_at p o s) (λ n b r.
      box-in o s (get_or (boxes_at p o s) n b) (record { object = x; first = m; last = omega arith }) (λ same.
      f (box_end (get_or (boxes_at p o s) n b) (spot t o).origin d) (o, x, own o s n b same r)))))))
    where
      own : (o s n : ℕ) (b : BoxData) → (spot t o).place ≡ s → n < length (boxes_at p o s) → IsBoxEndOf p t d o (box_end (get_or (boxes_at p o s) n b) (spot t o).origin d)
      own o s n b same r =
          let P : List BoxData → Type 0 = λ bs. (k : ℕ) × (k < length bs) × (box_end (get_or (boxes_at p o s) n b) (spot t o).origin d ≡ box_end (box_at bs k) (spot t o).origin d) in
          subst P (sym (boxes-placed p t o s same)) (n, r, (let same_box = get_or_default (boxes_at p o s) n b no_box r in (λ j. box_end (same_box j) (spot t o).origin d)))
