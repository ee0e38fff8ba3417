-- The bound on questions: one digit for each dimension, the number of boxes found so far that end before the point.
use Rattle.std.proofs.Common.{◌≡◌, ℕ, zero, suc, ◌+◌, ◌<◌, ◌≤◌, ◌⊎◌, inl, inr, ℤ, pos, ◌+ℤ◌, ◌≤ℤ◌, ◌<ℤ◌, Bool, true, false, cond, refl, ap, ◌∙◌, sym, subst, arith}
use lib.Signed.{lt_z}
use Rattle.std.specs.Int.{int_min}
use Rattle.std.proofs.lemmas.Int.{ints, clamps, by_lt_z}
use Rattle.std.proofs.lemmas.Bool.{cases_lt}
use Rattle.geo_base.specs.Ways.{Advances}
use Rattle.sweep.proofs.Kernel.{by_level}
use Rattle.sweep.proofs.Chain.{by_place}
use Rattle.sweep.proofs.Numeral.{numeral, numeral_rises}
use Rattle.sweep.proofs.RecordSteps.{replaced, replaced_at, replaced_else}

abbrev pub total : (ℕ → ℕ) → ℕ → ℕ
total t zero = 0
total t (suc m) = total t m + t m

pub total_same : (t t' : ℕ → ℕ) (m : ℕ) → ((k : ℕ) → k < m → t' k ≡ t k) → total t' m ≡ total t m
total_same t t' zero same = refl
total_same t t' (suc m) same = let r = total_same t t' m (λ k b. same k (omega arith)) in let h = same m (omega arith) in omega (arith, r, h)

pub total_up : (t t' : ℕ → ℕ) (m : ℕ) → ((k : ℕ) → k < m → t k ≤ t' k) → total t m ≤ total t' m
total_up t t' zero up = omega arith
total_up t t' (suc m) up = let r = total_up t t' m (λ k b. up k (omega arith)) in let h = up m (omega arith) in omega (arith, r, h)

pub total_rises : (t t' : ℕ → ℕ) (m k : ℕ) → k < m → ((j : ℕ) → j < m → t j ≤ t' j) → t k < t' k → total t m < total t' m
total_rises t t' zero k b up here = absurd (omega arith)
total_rises t t' (suc m) k b up here = elim (cases_lt k m) [
  | inl l ↦ (let r = total_rises t t' m k l (λ j u. up j (omega arith)) here in let h = up m (omega arith) in omega (arith, r, h))
  | inr g ↦ (let e : k ≡ m = omega arith in let h : t m < t' m = subst (λ (x : ℕ). t x < t' x) e here in let r = total_up t t' m (λ j u. up j (omega arith)) in omega (arith, r, h))
]

pub total_small : (t : ℕ → ℕ) (m : ℕ) → ((k : ℕ) → t k ≤ 1) → total t m ≤ m
total_small t zero small = omega arith
total_small t (suc m) small = omega (arith, total_small t m small, small m)

-- 1 where the box was found and ends before v
abbrev pub ends_before : Bool → ℤ → ℤ → ℕ
ends_before true e v = cond (lt_z e v) 1 0
ends_before false e v = 0

pub ends_before_small : (h : Bool) (e v : ℤ) → ends_before h e v ≤ 1
ends_before_small true e v = grind (arith, ints)
ends_before_small false e v = omega arith

pub ends_before_not : (h : Bool) (e v : ℤ) → v ≤ℤ e → ends_before h e v ≡ 0
ends_before_not true e v l = grind (arith, ints)
ends_before_not false e v l = refl

pub ends_before_none : (h : Bool) (e v : ℤ) → (h ≡ true → v ≤ℤ e) → ends_before h e v ≡ 0
ends_before_none true e v l = ends_before_not true e v (l refl)
ends_before_none false e v l = refl

pub ends_before_yes : (h : Bool) (e v : ℤ) → h ≡ true → e <ℤ v → ends_before h e v ≡ 1
ends_before_yes true e v u l = grind (arith, ints)
ends_before_yes false e v u l = absurd (cc)

pub ends_before_up : (h : Bool) (e v w : ℤ) → v ≤ℤ w → ends_before h e v ≤ ends_before h e w
ends_before_up true e v w l = grind (arith, ints)
ends_before_up false e v w l = omega arith

-- the digit at place i of the point c
abbrev pub digit : ℕ → (ℕ → Bool) → (ℕ → ℕ → ℤ) → (ℕ → ℤ) → ℕ → ℕ
digit m hit E c i = total (λ k. ends_before (hit k) (E k i) (c i)) m

-- each jump is past the region, or one past the end of a box that was found and that c has not passed
abbrev pub JumpsAreEnds : ℕ → ℕ → (ℕ → ℤ) → (ℕ → ℤ) → (ℕ → ℤ) → (ℕ → Bool) → (ℕ → ℕ → ℤ) → Type 0
JumpsAreEnds m K past c n hit E = (i : ℕ) → i < K → (n i ≡ past i) ⊎ ((k : ℕ) × (k < m) × (hit k ≡ true) × (n i ≡ E k i +ℤ pos 1) × (c i ≤ℤ E k i))

module _ (m K : ℕ) (first past c n n1 c' n' e0 : ℕ → ℤ) (hit : ℕ → Bool) (E : ℕ → ℕ → ℤ) (k0 : ℕ) (k0_in : k0 < m)
    (jumps : JumpsAreEnds m K past c n hit E) (onward : (i : ℕ) → i < K → c i ≤ℤ e0 i)
    (drawn : (i : ℕ) → i < K → n1 i ≡ int_min (n i) (e0 i +ℤ pos 1))
    (again : hit k0 ≡ true → (i : ℕ) → i < K → E k0 i ≡ e0 i)
    (step : Advances K first past c n1 c' n') where
  -- with the box that was found
  hit_at : replaced hit k0 true k0 ≡ true
  hit_at = replaced_at hit k0 true

  E_at : (i : ℕ) → replaced E k0 e0 k0 i ≡ e0 i
  E_at i = ap (λ (f : ℕ → ℤ). f i) (replaced_at E k0 e0)

  kept : (k i : ℕ) → i < K → hit k ≡ true → (replaced hit k0 true k ≡ true) × (replaced E k0 e0 k i ≡ E k i)
  kept k i b h = by_place k0 k (λ j. hit j ≡ true → (replaced hit k0 true j ≡ true) × (replaced E k0 e0 j i ≡ E j i))
      (λ h0. (hit_at, E_at i ∙ sym (again h0 i b)))
      (λ ne h0. (replaced_else hit k0 true k ne ∙ h0, ap (λ (f : ℕ → ℤ). f i) (replaced_else E k0 e0 k ne))) h

  -- the new box changes no digit of c
  digit_same : (i : ℕ) → i < K → digit m (replaced hit k0 true) (replaced E k0 e0) c i ≡ digit m hit E c i
  digit_same i b = total_same (λ k. ends_before (hit k) (E k i) (c i)) (λ k. ends_before (replaced hit k0 true k) (replaced E k0 e0 k i) (c i)) m
      (λ k u. by_place k0 k (λ j. ends_before (replaced hit k0 true j) (replaced E k0 e0 j i) (c i) ≡ ends_before (hit j) (E j i) (c i))
      (ends_before_not (replaced hit k0 true k0) (replaced E k0 e0 k0 i) (c i) (rw (E_at i) (onward i b))
      ∙ sym (ends_before_none (hit k0) (E k0 i) (c i) (λ h. rw (again h i b) (onward i b))))
      (λ ne. rw (replaced_else hit k0 true k ne, replaced_else E k0 e0 k ne) refl))

  -- at the level that moves, a box that was found ends between c and c'
  some_ends : (k : ℕ) × (k < m) × (replaced hit k0 true k ≡ true) × (c step.level ≤ℤ replaced E k0 e0 k step.level) × (replaced E k0 e0 k step.level <ℤ c' step.level)
  some_ends =
      let l = step.level in
      let b = step.level_in in
      by_lt_z (n l) (e0 l +ℤ pos 1)
      (λ h. let same : n1 l ≡ n l = omega (arith, ints, clamps, drawn l b) in
      elim (jumps l b) [
        | inl p ↦ absurd (step.more_left (same ∙ p))
        | inr w ↦ (let u = kept w.0 l b w.2 in (w.0, w.1, u.0, rw u.1 w.4, rw (u.1, step.moves, same, w.3) (omega (arith, ints))))
      ])
      (λ h. (k0, k0_in, hit_at, rw (E_at l) (onward l b), rw (E_at l, step.moves) (omega (arith, ints, clamps, drawn l b))))

  pub JumpsAreEnds-step : JumpsAreEnds m K past c' n' (replaced hit k0 true) (replaced E k0 e0)
  JumpsAreEnds-step = λ i b. by_level step.level i (λ j. (n' j ≡ past j) ⊎ ((k : ℕ) × (k < m) × (replaced hit k0 true k ≡ true) × (n' j ≡ replaced E k0 e0 k j +ℤ pos 1) × (c' j ≤ℤ replaced E k0 e0 k j)))
      (λ h. let stays = step.stays i h in by_lt_z (n i) (e0 i +ℤ pos 1)
      (λ u. let same : n' i ≡ n i = omega (arith, ints, clamps, drawn i b, stays.1) in
      elim (jumps i b) [
        | inl p ↦ inl (same ∙ p)
        | inr w ↦ (let u = kept w.0 i b w.2 in inr (w.0, w.1, u.0, rw u.1 (same ∙ w.3), rw (u.1, stays.0) w.4))
      ])
      (λ u. inr (k0, k0_in, hit_at, rw (E_at i) (omega (arith, ints, clamps, drawn i b, stays.1)), rw (E_at i, stays.0) (onward i b))))
      (inl step.reset)
      (λ h. inl ((step.ran_out i h b).2))

  pub numeral_step : numeral (m + 1) (digit m hit E c) K < numeral (m + 1) (digit m (replaced hit k0 true) (replaced E k0 e0) c') K
  numeral_step =
      let hit' = replaced hit k0 true in
      let E' = replaced E k0 e0 in
      let l = step.level in
      let b = step.level_in in
      let w = some_ends in
      let rises : digit m hit' E' c l < digit m hit' E' c' l =
      total_rises (λ k. ends_before (hit' k) (E' k l) (c l)) (λ k. ends_before (hit' k) (E' k l) (c' l)) m w.0 w.1
      (λ j u. ends_before_up (hit' j) (E' j l) (c l) (c' l) (omega (arith, ints, w.3, w.4)))
      (omega (arith, ends_before_not (hit' w.0) (E' w.0 l) (c l) w.3, ends_before_yes (hit' w.0) (E' w.0 l) (c' l) w.2 w.4)) in
      numeral_rises (m + 1) (digit m hit E c) (digit m hit' E' c') l K b
      (λ i h. let u : i < K = omega arith in ap (λ (v : ℤ). total (λ k. ends_before (hit' k) (E' k i) v) m) ((step.stays i h).0) ∙ digit_same i u)
      (omega (arith, digit_same l b, rises))
      (λ i u. omega (arith, total_small (λ k. ends_before (hit k) (E k i) (c i)) m (λ k. ends_before_small (hit k) (E k i) (c i))))
