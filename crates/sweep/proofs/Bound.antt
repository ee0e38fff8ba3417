-- The bound on questions, over plain lists.
use Rattle.std.proofs.Common.{◌≡◌, ℕ, ◌+◌, ◌*◌, ◌^◌, ◌<◌, ◌≤◌, inl, ℤ, pos, Bool, true, false, List, length, refl, ◌∙◌, sym, subst, arith}
use Rattle.std.proofs.Math.Nat.{mul-le-mul_left}
use Rattle.std.proofs.lemmas.Int.{ints}
use Rattle.std.proofs.lemmas.Bool.{false≢true}
use Rattle.geo_base.specs.Boxes.{Has}
use Rattle.geo_base.specs.Ways.{key, start, end}
use Rattle.sweep.specs.Picks.{PicksAt}
use Rattle.sweep.specs.Jump.{JumpsOn, IsLast}
use Rattle.sweep.proofs.Chain.{by_place}
use Rattle.geo_base.proofs.Mirror.{keys_from_has}
use Rattle.sweep.proofs.Numeral.{numeral, numeral_below}
use Rattle.sweep.proofs.RecordSteps.{replaced, replaced_at, replaced_else}
use Rattle.sweep.proofs.Digits.{digit, JumpsAreEnds, JumpsAreEnds-step, numeral_step, total_small, ends_before, ends_before_small}

-- what was spent so far is no more than the number that the digits of c write, times what a turn may cost
pub record IsCounted {X : Type 0} (refutes : X → List ℤ → List ℤ → Type 0) (list : List X) (picks : List ℕ) (K lead : ℕ) (up : Bool) (lo hi past c n : List ℤ) (per asked asked0 : ℕ) : Type 0 where
  pub hit : ℕ → Bool
  pub ends : ℕ → ℕ → ℤ
  pub jumps : JumpsAreEnds (length picks) K (key K lead up past) (key K lead up c) (key K lead up n) hit ends
  pub boxes : (k : ℕ) → k < length picks → hit k ≡ true → (x : X) × PicksAt list picks k x × IsLast K lead up lo hi (refutes x) (ends k)
  pub bound : asked ≤ asked0 + per * numeral (length picks + 1) (digit (length picks) hit ends (key K lead up c)) K

one_value : {X : Type 0} (list : List X) (picks : List ℕ) (k : ℕ) (x y : X) → PicksAt list picks k x → PicksAt list picks k y → x ≡ y
one_value list picks k x y p q = let a = p.1 in let b = q.1 in cc

end_has : (K : ℕ) (up : Bool) (lo hi c : List ℤ) → Has K lo hi c → Has K lo hi (end up lo hi)
end_has K true lo hi c h d b = (omega (arith, ints, (h d b).0, (h d b).1), omega (arith, ints))
end_has K false lo hi c h d b = (omega (arith, ints), omega (arith, ints, (h d b).0, (h d b).1))

end_in : (K : ℕ) (up : Bool) (lo hi blo bhi : List ℤ) → Has K lo hi blo → Has K lo hi bhi → Has K lo hi (end up blo bhi)
end_in K true lo hi blo bhi l h = h
end_in K false lo hi blo bhi l h = l

module _ {X : Type 0} (refutes : X → List ℤ → List ℤ → Type 0) (list : List X) (picks : List ℕ) (K lead : ℕ) (up : Bool) (lo hi past : List ℤ) (lead_in : lead < K) where
  pub IsCounted-first : (c : List ℤ) (per asked : ℕ) → IsCounted refutes list picks K lead up lo hi past c past per asked asked
  IsCounted-first c per asked = record {
    hit = λ k. false;
    ends = λ k i. pos 0;
    jumps = λ i b. inl refl;
    boxes = λ k b h. absurd (false≢true h);
    bound = omega arith;
  }

  pub IsLast-box : (x : X) (blo bhi c : List ℤ) → ((l h q : List ℤ) → Has K l h q → refutes x l h → refutes x q q) → Has K blo bhi c → Has K lo hi blo → Has K lo hi bhi → refutes x blo bhi
      → ((q : List ℤ) → Has K lo hi q → refutes x q q → Has K blo bhi q) → IsLast K lead up lo hi (refutes x) (key K lead up (end up blo bhi))
  IsLast-box x blo bhi c shrinks has l h refuted whole = (
    end up blo bhi,
    λ i b. refl,
    end_in K up lo hi blo bhi l h,
    shrinks blo bhi (end up blo bhi) (end_has K up blo bhi c has) refuted,
    λ q inside r i b. (keys_from_has K lead up blo bhi q lead_in (whole q inside r) i b).1,
  )

  pub IsCounted-turn : (c n c' n' blo bhi : List ℤ) (per asked asked' asked0 k0 : ℕ) (x : X) → PicksAt list picks k0 x → Has K blo bhi c → IsLast K lead up lo hi (refutes x) (key K lead up (end up blo bhi))
      → asked' ≤ asked + per → JumpsOn K lead up lo hi blo bhi past c n c' n'
      → IsCounted refutes list picks K lead up lo hi past c n per asked asked0 → IsCounted refutes list picks K lead up lo hi past c' n' per asked' asked0
  IsCounted-turn c n c' n' blo bhi per asked asked' asked0 k0 x pick has last more jump was =
      let k = key K lead up in
      let m = length picks in
      let e0 = k (end up blo bhi) in
      let onward = λ (i : ℕ) (b : i < K). (keys_from_has K lead up blo bhi c lead_in has i b).1 in
      let again : was.hit k0 ≡ true → (i : ℕ) → i < K → was.ends k0 i ≡ e0 i = λ h i b. (
      let w = was.boxes k0 pick.0 h in
      let same = one_value list picks k0 w.0 x w.1 pick in
      let old = subst (λ (y : X). IsLast K lead up lo hi (refutes y) (was.ends k0)) same w.2 in
      omega (arith, ints, last.4 old.0 old.2 old.3 i b, old.1 i b, old.4 last.0 last.2 last.3 i b, last.1 i b)) in
      let rises = numeral_step m K (k (start up lo hi)) (k past) (k c) (k n) (k jump.drawn) (k c') (k n') e0 was.hit was.ends k0 pick.0 was.jumps onward jump.drawn_is again jump.step in
      record {
        hit = replaced was.hit k0 true;
        ends = replaced was.ends k0 e0;
        jumps = JumpsAreEnds-step m K (k (start up lo hi)) (k past) (k c) (k n) (k jump.drawn) (k c') (k n') e0 was.hit was.ends k0 pick.0 was.jumps onward jump.drawn_is again jump.step;
        boxes = λ j b h. by_place k0 j (λ y. y < m → replaced was.hit k0 true y ≡ true → (z : X) × PicksAt list picks y z × IsLast K lead up lo hi (refutes z) (replaced was.ends k0 e0 y))
            (λ u v. rw (replaced_at was.ends k0 e0) (x, pick, last))
            (λ ne u v. rw (replaced_else was.ends k0 e0 j ne) (was.boxes j u (sym (replaced_else was.hit k0 true j ne) ∙ v))) b h;
        bound = omega (arith, was.bound, mul-le-mul_left per rises);
      }

  pub bound_at_end : (c n : List ℤ) (per asked asked' asked0 : ℕ) → asked' ≤ asked + per → IsCounted refutes list picks K lead up lo hi past c n per asked asked0
      → asked' ≤ asked0 + per * (length picks + 1) ^ K
  bound_at_end c n per asked asked' asked0 more was =
      let m = length picks in
      let d = digit m was.hit was.ends (key K lead up c) in
      let small = numeral_below (m + 1) d K (λ i b. omega (arith, total_small (λ k. ends_before (was.hit k) (was.ends k i) (key K lead up c i)) m (λ k. ends_before_small (was.hit k) (was.ends k i) (key K lead up c i)))) in
      omega (arith, was.bound, mul-le-mul_left per small)
