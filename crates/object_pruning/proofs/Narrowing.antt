-- One object that is narrowed and keeps its points.
use Rattle.std.proofs.Common.{◌≡◌, ℕ, zero, suc, ◌+◌, ◌-◌, ◌<◌, Bool, true, false, List, length, get_or, set, refl, sym, ◌∙◌, subst, inl, inr, arith, ℤ, ◌≤ℤ◌, ◌<ℤ◌}
use Rattle.std.proofs.lemmas.Int.{ints}
use Rattle.std.proofs.lemmas.Bool.{cases_lt, false≢true}
use Rattle.std.proofs.lemmas.List.{get_or_past, get_or-set_same, get_or-set_other, set-set}
use Rattle.std.proofs.Math.ListN.{length-set}
use Rattle.geo_base.specs.Boxes.{coordinate}
use Rattle.geo_conditions.specs.declared.cond.Cond.{Cond}
use Rattle.geo_conditions.specs.Reach.{State, Reach, Region, reach, nowhere, has, low, high, dims, place_in, just, with_at, with_low, with_high, without, InBox, Within, Inside, how_many}
use Rattle.geo_conditions.specs.Supported.{NoneRefuted, CanBeAt, HasNoPoint}
use Rattle.geo_conditions.specs.Keeps.{size, widths}
use Rattle.geo_conditions.proofs.Points.{at_only, in_box_wider, inside_trans}
use Rattle.geo_conditions.proofs.Greatest.{set_kept, at_set, size_set, fewer, lo_narrower, hi_narrower}
use Rattle.geo_state.proofs.Narrower.{low_within, high_within, without_within}
use Rattle.object_pruning.specs.Same.{SameBut}
use Rattle.object_pruning.specs.Pruning.{CanBe, HasSamePoints}

abbrev HasPlace : ℕ → Reach → Type 0
HasPlace s r = place_in r.places s ≡ true

abbrev HasIn : List ℤ → Reach → Type 0
HasIn p r = InBox p r.region

-- another reach of the object does not show where the object is put
pub same_put : (S : State) (o s : ℕ) (q : Reach) (b : Region) → with_at (set S o q) o s b ≡ with_at S o s b
same_put S o s q b = set-set S o q (at_only s b)

-- the reach that was set
pub reach_set : (S : State) (o : ℕ) (q : Reach) → o < length S → reach (set S o q) o ≡ q
reach_set S o q h = get_or-set_same S o q nowhere h

-- a narrower reach with all points of the object
pub same_points : (cs : List Cond) (S : State) (o : ℕ) (q : Reach) → o < length S → Within q (reach S o)
    → ((s : ℕ) (p : List ℤ) → CanBe cs S o s p → (place_in q.places s ≡ true) × InBox p q.region) → HasSamePoints cs o S (set S o q)
same_points cs S o q h w k =
    let e = reach_set S o q h in
    record {
      alone = record { objects = sym (length-set S o q); each = λ u ne. sym (get_or-set_other S o u q nowhere ne) };
      points = λ s p. (
        λ y. let z = k s p y in record {
          place = subst (HasPlace s) (sym e) z.0;
          point = record { point = subst (HasIn p) (sym e) z.1; unrefuted = subst (NoneRefuted cs) (sym (same_put S o s q (just p))) y.point.unrefuted };
        },
        λ y. record {
          place = w.places s (subst (HasPlace s) e y.place);
          point = record { point = in_box_wider p q (reach S o) w (subst (HasIn p) e y.point.point); unrefuted = subst (NoneRefuted cs) (same_put S o s q (just p)) y.point.unrefuted };
        },
      );
    }

pub same_self : (cs : List Cond) (o : ℕ) (S : State) → HasSamePoints cs o S S
same_self cs o S = record { alone = record { objects = refl; each = λ u ne. refl }; points = λ s p. (λ y. y, λ y. y) }

pub same_trans : (cs : List Cond) (o : ℕ) (S T U : State) → HasSamePoints cs o S T → HasSamePoints cs o T U → HasSamePoints cs o S U
same_trans cs o S T U a b = record {
  alone = record { objects = a.alone.objects ∙ b.alone.objects; each = λ u ne. a.alone.each u ne ∙ b.alone.each u ne };
  points = λ s p. (λ y. (b.points s p).0 ((a.points s p).0 y), λ y. (a.points s p).1 ((b.points s p).1 y));
}

-- states that are the same but for the object
pub alone_on : (o : ℕ) (S T U : State) → SameBut o S T × Inside T S → SameBut o T U × Inside U T → SameBut o S U × Inside U S
alone_on o S T U a b = (record { objects = a.0.objects ∙ b.0.objects; each = λ u ne. a.0.each u ne ∙ b.0.each u ne }, inside_trans U T S b.1 a.1)

-- ---- a place goes

-- the place that is taken out is gone
pub place_gone : (bs : List Bool) (s : ℕ) → 0 < s → place_in (set bs (s - 1) false) s ≡ true → ⊥
place_gone bs zero l h = absurd (omega arith)
place_gone bs (suc k) l h =
    let e : suc k - 1 ≡ k = omega arith in
    let g : get_or (set bs k false) k false ≡ true = subst (λ (n : ℕ). get_or (set bs n false) k false ≡ true) e h in
    elim (cases_lt k (length bs)) [
      | inl b ↦ false≢true (sym (get_or-set_same bs k false false b) ∙ g)
      | inr b ↦ false≢true (sym (get_or_past (set bs k false) k false (omega (arith, length-set bs k false))) ∙ g)
    ]

pub dropped_points : (cs : List Cond) (S : State) (o s : ℕ) → o < length S → 0 < s → HasNoPoint cs S o s (reach S o).region → HasSamePoints cs o S (set S o (without (reach S o) s))
dropped_points cs S o s h l none = same_points cs S o (without (reach S o) s) h (without_within (reach S o) s)
    (λ u p y. (set_kept (reach S o).places (s - 1) u (λ e. let q : u ≡ s = omega arith in none p (subst (λ (v : ℕ). CanBeAt cs S o v (reach S o).region p) q y.point)) y.place, y.point.point))

pub dropped_smaller : (S : State) (o s : ℕ) → o < length S → has S o s ≡ true → size (set S o (without (reach S o) s)) < size S
dropped_smaller S o zero h t = absurd (false≢true t)
dropped_smaller S o (suc k) h t =
    let e : suc k - 1 ≡ k = omega arith in
    size_set S o (without (reach S o) (suc k)) h (subst (λ (n : ℕ). how_many (set (reach S o).places n false) + widths (reach S o).region.lo (reach S o).region.hi < how_many (reach S o).places + widths (reach S o).region.lo (reach S o).region.hi) (sym e)
    (let w : how_many (set (reach S o).places k false) < how_many (reach S o).places = fewer (reach S o).places k t in omega arith))

-- ---- an end moves

pub raised_points : (cs : List Cond) (S : State) (o d : ℕ) (v : ℤ) → o < length S → low S o d ≤ℤ v → ((s : ℕ) (p : List ℤ) → CanBe cs S o s p → v ≤ℤ coordinate p d) → HasSamePoints cs o S (set S o (with_low (reach S o) d v))
raised_points cs S o d v h l first = same_points cs S o (with_low (reach S o) d v) h (low_within (reach S o) d v l) (λ s p y. (
  y.place,
  record {
    same_lo = y.point.point.same_lo ∙ sym (length-set (reach S o).region.lo d v);
    same_hi = y.point.point.same_hi;
    above = at_set (λ e z. z ≤ℤ coordinate p e) (reach S o).region.lo d v (λ b. first s p y) y.point.point.above;
    below = y.point.point.below;
  },
))

pub lowered_points : (cs : List Cond) (S : State) (o d : ℕ) (v : ℤ) → o < length S → v ≤ℤ high S o d → ((s : ℕ) (p : List ℤ) → CanBe cs S o s p → coordinate p d ≤ℤ v) → HasSamePoints cs o S (set S o (with_high (reach S o) d v))
lowered_points cs S o d v h l first = same_points cs S o (with_high (reach S o) d v) h (high_within (reach S o) d v l) (λ s p y. (
  y.place,
  record {
    same_lo = y.point.point.same_lo;
    same_hi = y.point.point.same_hi ∙ sym (length-set (reach S o).region.hi d v);
    above = y.point.point.above;
    below = at_set (λ e z. coordinate p e ≤ℤ z) (reach S o).region.hi d v (λ b. first s p y) y.point.point.below;
  },
))

pub raised_smaller : (S : State) (o d : ℕ) (v : ℤ) → o < length S → d < dims S o → dims S o ≡ length (reach S o).region.hi → low S o d <ℤ v → v ≤ℤ high S o d → size (set S o (with_low (reach S o) d v)) < size S
raised_smaller S o d v h b e l m = size_set S o (with_low (reach S o) d v) h (let w = lo_narrower (reach S o).region.lo (reach S o).region.hi d v b e l (omega (arith, ints)) in omega arith)

pub lowered_smaller : (S : State) (o d : ℕ) (v : ℤ) → o < length S → d < dims S o → dims S o ≡ length (reach S o).region.hi → v <ℤ high S o d → low S o d ≤ℤ v → size (set S o (with_high (reach S o) d v)) < size S
lowered_smaller S o d v h b e l m = size_set S o (with_high (reach S o) d v) h (let w = hi_narrower (reach S o).region.lo (reach S o).region.hi d v b e l (omega (arith, ints)) in omega arith)
