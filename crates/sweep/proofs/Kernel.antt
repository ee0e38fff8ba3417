-- The jump vector, over plain functions from a place of significance to a coordinate, as the way counts it.
use Rattle.std.proofs.Common.{◌≡◌, ℕ, zero, suc, ◌<◌, ◌⊎◌, inl, inr, List, MatchBool, ℤ, pos, ◌+ℤ◌, ◌≤ℤ◌, ◌<ℤ◌, Bool, true, false, subst, arith}
use Rattle.std.specs.Int.{int_min}
use Rattle.std.proofs.lemmas.Int.{ints, clamps, by_lt_z}
use Rattle.std.proofs.lemmas.Bool.{cases_lt}
use Rattle.geo_base.specs.Boxes.{Has}
use Rattle.geo_base.specs.Ways.{Advances, RunsOut, key, start, end}
use Rattle.sweep.specs.Jump.{IsDone, IsPlaced, ComesAfter, JumpsOn, IsUsedUp}
use Rattle.geo_base.proofs.Mirror.{keys_from_has, has_from_keys}

-- before, at or after a level
pub by_level : (l i : ℕ) (P : ℕ → Type 0) → (i < l → P i) → P l → (l < i → P i) → P i
by_level l i P less same more = elim (cases_lt i l) [
  | inl h ↦ less h
  | inr h ↦ elim (cases_lt l i) [ inl m ↦ more m | inr m ↦ (let e : l ≡ i = omega arith in subst P e same) ]
]

-- an earlier coordinate, or none
pub earlier_or_none : (q c : ℕ → ℤ) (K : ℕ) → ((j : ℕ) × (j < K) × (q j <ℤ c j)) ⊎ ((i : ℕ) → i < K → c i ≤ℤ q i)
earlier_or_none q c zero = inr (λ i h. absurd (omega arith))
earlier_or_none q c (suc K) = elim (earlier_or_none q c K) [
  | inl e ↦ inl (e.0, omega (arith, e.1), e.2)
  | inr none ↦ by_lt_z (q K) (c K) (λ h. inl (K, omega arith, h)) (λ h. inr (λ i b. elim (cases_lt i K) [ inl l ↦ none i l | inr m ↦ (let e : K ≡ i = omega arith in subst (λ (k : ℕ). c k ≤ℤ q k) e h) ]))
]

module _ (K : ℕ) (first past c n n1 s e : ℕ → ℤ) (placed : IsPlaced K first past c n)
    (in_box : (i : ℕ) → i < K → (s i ≤ℤ c i) × (c i ≤ℤ e i))
    (drawn : (i : ℕ) → i < K → n1 i ≡ int_min (n i) (e i +ℤ pos 1)) where
  -- what is before the jump in every coordinate is done, or lies in the box that was found
  pub before_jump : (q : ℕ → ℤ) → ((i : ℕ) → i < K → q i <ℤ n1 i) → IsDone K c n q ⊎ ((i : ℕ) → i < K → (s i ≤ℤ q i) × (q i ≤ℤ e i))
  before_jump q below = elim (earlier_or_none q c K) [
    | inl j ↦ inl (record {
      level = j.0;
      level_in = j.1;
      before = j.2;
      within = λ i h. let b : i < K = omega (arith, j.1) in omega (arith, ints, clamps, below i b, drawn i b);
    })
    | inr none ↦ inr (λ i b. (omega (arith, ints, none i b, (in_box i b).0), omega (arith, ints, clamps, below i b, drawn i b)))
  ]

  module _ (c' n' : ℕ → ℤ) (step : Advances K first past c n1 c' n') (some : (i : ℕ) → i < K → first i <ℤ past i) where
    pub IsPlaced-step : IsPlaced K first past c' n'
    IsPlaced-step = record {
      from_first = λ i b. by_level step.level i (λ k. first k ≤ℤ c' k)
          (λ h. rw (step.stays i h).0 (placed.from_first i b))
          (let b = step.level_in in rw step.moves (omega (arith, ints, clamps, drawn step.level b, placed.from_first step.level b, placed.onward step.level b, (in_box step.level b).1)))
          (λ h. omega (arith, ints, (step.ran_out i h b).1));
      onward = λ i b. by_level step.level i (λ k. c' k <ℤ n' k)
          (λ h. omega (arith, ints, clamps, (step.stays i h).0, (step.stays i h).1, drawn i b, placed.onward i b, (in_box i b).1))
          (let b = step.level_in in omega (arith, ints, clamps, step.moves, step.reset, step.more_left, drawn step.level b, placed.to_past step.level b))
          (λ h. omega (arith, ints, (step.ran_out i h b).1, (step.ran_out i h b).2, some i b));
      to_past = λ i b. by_level step.level i (λ k. n' k ≤ℤ past k)
          (λ h. omega (arith, ints, clamps, (step.stays i h).1, drawn i b, placed.to_past i b))
          (omega (arith, ints, step.reset))
          (λ h. omega (arith, ints, (step.ran_out i h b).2));
    }

    pub ComesAfter-step : ComesAfter K c c'
    ComesAfter-step = record {
      level = step.level;
      level_in = step.level_in;
      same = λ i h. (step.stays i h).0;
      rises = let b = step.level_in in omega (arith, ints, clamps, step.moves, drawn step.level b, placed.onward step.level b, (in_box step.level b).1);
    }

    pub IsDone-step : (q : ℕ → ℤ) → ((i : ℕ) → i < K → (first i ≤ℤ q i) × (q i <ℤ past i)) → IsDone K c' n' q → IsDone K c n q ⊎ ((i : ℕ) → i < K → (s i ≤ℤ q i) × (q i ≤ℤ e i))
    IsDone-step q inside done =
        let l = step.level in
        elim (cases_lt done.level l) [
          | inl h ↦ inl (record {
            level = done.level;
            level_in = done.level_in;
            before = rw (← (step.stays done.level h).0) done.before;
            within = λ i u. let v : i < l = omega arith in let b : i < K = omega (arith, step.level_in) in omega (arith, ints, clamps, (step.stays i v).1, drawn i b, done.within i u);
          })
          | inr h ↦ elim (cases_lt l done.level) [
            | inl m ↦ absurd (omega (arith, ints, done.before, (step.ran_out done.level m done.level_in).1, (inside done.level done.level_in).0))
            | inr m ↦ (let same : done.level ≡ l = omega arith in before_jump q (λ i b. by_level l i (λ k. q k <ℤ n1 k)
                (λ u. let v : i < done.level = omega arith in omega (arith, ints, (step.stays i u).1, done.within i v))
                (rw (← step.moves) (subst (λ (k : ℕ). q k <ℤ c' k) same done.before))
                (λ u. omega (arith, ints, (step.ran_out i u b).0, (inside i b).1))))
          ]
        ]

  pub RunsOut-step : RunsOut K past n1 → (q : ℕ → ℤ) → ((i : ℕ) → i < K → (first i ≤ℤ q i) × (q i <ℤ past i)) → IsDone K c n q ⊎ ((i : ℕ) → i < K → (s i ≤ℤ q i) × (q i ≤ℤ e i))
  RunsOut-step out q inside = before_jump q (λ i b. rw (out i b) ((inside i b).1))

-- the same of points
module _ (K lead : ℕ) (up : Bool) (lo hi blo bhi past c n n1 : List ℤ) (lead_in : lead < K)
    (past_is : (i : ℕ) → i < K → key K lead up past i ≡ key K lead up (end up lo hi) i +ℤ pos 1)
    (placed : IsPlaced K (key K lead up (start up lo hi)) (key K lead up past) (key K lead up c) (key K lead up n))
    (has : Has K blo bhi c)
    (drawn : (i : ℕ) → i < K → key K lead up n1 i ≡ int_min (key K lead up n i) (key K lead up (end up blo bhi) i +ℤ pos 1)) where
  inside : (q : List ℤ) → Has K lo hi q → (i : ℕ) → i < K → (key K lead up (start up lo hi) i ≤ℤ key K lead up q i) × (key K lead up q i <ℤ key K lead up past i)
  inside q h i b = let w = keys_from_has K lead up lo hi q lead_in h i b in (w.0, omega (arith, ints, w.1, past_is i b))

  back : (q : List ℤ) → IsDone K (key K lead up c) (key K lead up n) (key K lead up q) ⊎ ((i : ℕ) → i < K → (key K lead up (start up blo bhi) i ≤ℤ key K lead up q i) × (key K lead up q i ≤ℤ key K lead up (end up blo bhi) i))
      → IsDone K (key K lead up c) (key K lead up n) (key K lead up q) ⊎ Has K blo bhi q
  back q (inl d) = inl d
  back q (inr w) = inr (has_from_keys K lead up blo bhi q lead_in w)

  pub jump_over_lem : (r : Bool) (c' n' : List ℤ)
      → MatchBool r (Advances K (key K lead up (start up lo hi)) (key K lead up past) (key K lead up c) (key K lead up n1) (key K lead up c') (key K lead up n')) (RunsOut K (key K lead up past) (key K lead up n1))
      → MatchBool r (JumpsOn K lead up lo hi blo bhi past c n c' n') (IsUsedUp K lead up lo hi blo bhi c n)
  jump_over_lem true c' n' step =
      let k = key K lead up in
      let box = keys_from_has K lead up blo bhi c lead_in has in
      let some = λ (i : ℕ) (b : i < K). let w : k (start up lo hi) i <ℤ k past i = omega (arith, ints, placed.from_first i b, placed.onward i b, placed.to_past i b) in w in
      record {
        placed = IsPlaced-step K (k (start up lo hi)) (k past) (k c) (k n) (k n1) (k (start up blo bhi)) (k (end up blo bhi)) placed box drawn (k c') (k n') step some;
        after = ComesAfter-step K (k (start up lo hi)) (k past) (k c) (k n) (k n1) (k (start up blo bhi)) (k (end up blo bhi)) placed box drawn (k c') (k n') step some;
        done = λ q h d. back q (IsDone-step K (k (start up lo hi)) (k past) (k c) (k n) (k n1) (k (start up blo bhi)) (k (end up blo bhi)) placed box drawn (k c') (k n') step some (k q) (inside q h) d);
        drawn = n1;
        drawn_is = drawn;
        step = step;
      }
  jump_over_lem false c' n' out = λ q h.
      let k = key K lead up in
      let box = keys_from_has K lead up blo bhi c lead_in has in
      back q (RunsOut-step K (k (start up lo hi)) (k past) (k c) (k n) (k n1) (k (start up blo bhi)) (k (end up blo bhi)) placed box drawn out (k q) (inside q h))
