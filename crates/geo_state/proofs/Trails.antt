-- What the calls of a trailed state keep.
use Rattle.std.proofs.Common.{◌≡◌, ℕ, suc, ◌<◌, List, [], ◌∷◌, ◌++◌, length, set, get_or, sym, ap, ◌∙◌, subst, inl, inr, arith, ℤ, ◌≤ℤ◌}
use Rattle.std.specs.List.{All}
use Rattle.std.proofs.lemmas.Bool.{cases_lt}
use Rattle.std.proofs.lemmas.List.{get_or_append_left}
use Rattle.std.proofs.lemmas.List.Elements.{All-nil, All-push}
use Rattle.std.proofs.Math.Seq.{get_or-append_seam}
use Rattle.std.proofs.Math.ListN.{length-append}
use Rattle.geo_base.specs.Boxes.{coordinate}
use Rattle.geo_conditions.specs.Reach.{State, Reach, reach, low, high, with_low, with_high, without, Within, Inside}
use Rattle.geo_conditions.proofs.Points.{inside_self, inside_trans}
use Rattle.geo_conditions.proofs.Greatest.{narrowed, at_set}
use Rattle.geo_state.specs.Trail.{HasSmallIntervals, IsSmallEnd, ShrinkTo, IsTrail}
use Rattle.geo_state.proofs.Narrower.{low_within, high_within, without_within, small_set}

-- ---- states that shrink

-- one state more
pub shrink_push : (R : List State) (S : State) → ShrinkTo R S → ShrinkTo (R ++ S ∷ []) S
shrink_push R S h i l = elim (cases_lt i (length R)) [
  | inl b ↦ subst (λ (T : State). Inside (get_or ((R ++ S ∷ []) ++ S ∷ []) (suc i) []) T) (sym (get_or_append_left R (S ∷ []) [] i b))
      (subst (λ (T : State). Inside T (get_or R i [])) (sym (get_or_append_left (R ++ S ∷ []) (S ∷ []) [] (suc i) (omega (arith, length-append R (S ∷ []))))) (h i b))
  | inr b ↦
      let n : i ≡ length R = omega (arith, l, length-append R (S ∷ [])) in
      let m : suc i ≡ length (R ++ S ∷ []) = omega (arith, n, length-append R (S ∷ [])) in
      subst (λ (T : State). Inside (get_or ((R ++ S ∷ []) ++ S ∷ []) (suc i) []) T) (sym (ap (λ (j : ℕ). get_or (R ++ S ∷ []) j []) n ∙ get_or-append_seam R S [] []))
      (subst (λ (T : State). Inside T S) (sym (ap (λ (j : ℕ). get_or ((R ++ S ∷ []) ++ S ∷ []) j []) m ∙ get_or-append_seam (R ++ S ∷ []) S [] [])) (inside_self S))
]

-- the last state taken away
pub shrink_pop : (R : List State) (G S : State) → ShrinkTo (R ++ G ∷ []) S → ShrinkTo R G × Inside S G
shrink_pop R G S h = (
  λ i l. subst (λ (T : State). Inside (get_or (R ++ G ∷ []) (suc i) []) T) (get_or_append_left R (G ∷ []) [] i l)
      (subst (λ (T : State). Inside T (get_or (R ++ G ∷ []) i [])) (get_or_append_left (R ++ G ∷ []) (S ∷ []) [] (suc i) (omega (arith, l, length-append R (G ∷ [])))) (h i (omega (arith, l, length-append R (G ∷ []))))),
  let m : suc (length R) ≡ length (R ++ G ∷ []) = omega (arith, length-append R (G ∷ [])) in
      subst (λ (T : State). Inside S T) (get_or-append_seam R G [] [])
      (subst (λ (T : State). Inside T (get_or (R ++ G ∷ []) (length R) [])) (ap (λ (j : ℕ). get_or ((R ++ G ∷ []) ++ S ∷ []) j []) m ∙ get_or-append_seam (R ++ G ∷ []) S [] []) (h (length R) (omega (arith, length-append R (G ∷ []))))),
)

-- the state shrinks
pub shrink_on : (R : List State) (S T : State) → ShrinkTo R S → Inside T S → ShrinkTo R T
shrink_on R S T h j i l = elim (cases_lt (suc i) (length R)) [
  | inl b ↦ subst (λ (X : State). Inside X (get_or R i [])) (get_or_append_left R (S ∷ []) [] (suc i) b ∙ sym (get_or_append_left R (T ∷ []) [] (suc i) b)) (h i l)
  | inr b ↦
      let n : suc i ≡ length R = omega (arith, l, b) in
      let last : (X : State) → get_or (R ++ X ∷ []) (suc i) [] ≡ X = λ X. ap (λ (k : ℕ). get_or (R ++ X ∷ []) k []) n ∙ get_or-append_seam R X [] [] in
      subst (λ (X : State). Inside X (get_or R i [])) (sym (last T)) (inside_trans T S (get_or R i []) j (subst (λ (X : State). Inside X (get_or R i [])) (last S) (h i l)))
]

-- what holds of each element holds of the last one and of those before it
all_last : (P : State → Type 0) (R : List State) (G : State) → All P (R ++ G ∷ []) → All P R × P G
all_last P R G h = (
  λ k d l. subst P (get_or_append_left R (G ∷ []) d k l) (h k d (omega (arith, length-append R (G ∷ [])))),
  subst P (get_or-append_seam R G [] []) (h (length R) [] (omega (arith, length-append R (G ∷ [])))),
)

-- ---- what a trailed state keeps

-- no level is open
pub trail_start : (S : State) → HasSmallIntervals S → IsTrail S []
trail_start S s = record {
  small = s;
  restores_small = All-nil HasSmallIntervals;
  shrinks = λ i h. absurd (omega arith);
}

-- the state shrinks
pub trail_on : (S T : State) (R : List State) → IsTrail S R → Inside T S → HasSmallIntervals T → IsTrail T R
trail_on S T R t i s = record {
  small = s;
  restores_small = t.restores_small;
  shrinks = shrink_on R S T t.shrinks i;
}

-- a level is opened
pub trail_push : (S : State) (R : List State) → IsTrail S R → IsTrail S (R ++ S ∷ [])
trail_push S R t = record {
  small = t.small;
  restores_small = All-push HasSmallIntervals R S t.restores_small t.small;
  shrinks = shrink_push R S t.shrinks;
}

-- a level is closed
pub trail_pop : (S G : State) (R : List State) → IsTrail S (R ++ G ∷ []) → IsTrail G R × Inside S G
trail_pop S G R t =
    let s = all_last HasSmallIntervals R G t.restores_small in
    let k = shrink_pop R G S t.shrinks in (record { small = s.1; restores_small = s.0; shrinks = k.0 }, k.1)

-- ---- one object is narrowed

-- what is open to the object then lies within what was, and its ends are small
pub record Narrows (S : State) (o : ℕ) (r : Reach) : Type 0 where
  pub within : Within r (reach S o)
  pub small : (d : ℕ) → IsSmallEnd (coordinate r.region.lo d) × IsSmallEnd (coordinate r.region.hi d)

pub trail_narrowed : (S : State) (R : List State) (o : ℕ) (r : Reach) → IsTrail S R → o < length S → Narrows S o r → IsTrail (set S o r) R
trail_narrowed S R o r t h n = trail_on S (set S o r) R t (narrowed S o r n.within h) (small_set S o r t.small n.small)

-- by a low end that rises
pub narrows_low : (S : State) (o d : ℕ) (v : ℤ) → HasSmallIntervals S → IsSmallEnd v → low S o d ≤ℤ v → Narrows S o (with_low (reach S o) d v)
narrows_low S o d v t s l = record {
  within = low_within (reach S o) d v l;
  small = λ j. (at_set (λ k z. IsSmallEnd z) (reach S o).region.lo d v (λ b. s) (λ k. (t o k).0) j, (t o j).1);
}

-- by a high end that falls
pub narrows_high : (S : State) (o d : ℕ) (v : ℤ) → HasSmallIntervals S → IsSmallEnd v → v ≤ℤ high S o d → Narrows S o (with_high (reach S o) d v)
narrows_high S o d v t s l = record {
  within = high_within (reach S o) d v l;
  small = λ j. ((t o j).0, at_set (λ k z. IsSmallEnd z) (reach S o).region.hi d v (λ b. s) (λ k. (t o k).1) j);
}

-- by a place that goes
pub narrows_without : (S : State) (o s : ℕ) → HasSmallIntervals S → Narrows S o (without (reach S o) s)
narrows_without S o s t = record {
  within = without_within (reach S o) s;
  small = λ j. t o j;
}
