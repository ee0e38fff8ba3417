-- Points read by index below k, and as lists of k numbers.
use Rattle.std.proofs.Common.{◌≡◌, ℕ, List, length, sym, ◌∙◌, inl, inr, arith, ℤ, pos}
use Rattle.std.proofs.lemmas.Int.{ints}
use Rattle.std.proofs.lemmas.Bool.{cases_lt}
use Rattle.std.proofs.lemmas.List.{get_or_past}
use Rattle.geo_base.specs.Boxes.{coordinate, Has}
use Rattle.geo_conditions.specs.Reach.{Region, InBox}

-- a point of k numbers that a box of k dimensions has by index lies in it
pub in_by_index : (k : ℕ) (b : Region) (p : List ℤ) → length b.lo ≡ k → length b.hi ≡ k → length p ≡ k → Has k b.lo b.hi p → InBox p b
in_by_index k b p l h m has = record {
  same_lo = m ∙ sym l;
  same_hi = m ∙ sym h;
  above = λ d. elim (cases_lt d k) [
    | inl c ↦ (has d c).0
    | inr c ↦ let x : coordinate b.lo d ≡ pos 0 = get_or_past b.lo d (pos 0) (omega arith) in let y : coordinate p d ≡ pos 0 = get_or_past p d (pos 0) (omega arith) in omega (arith, ints)
  ];
  below = λ d. elim (cases_lt d k) [
    | inl c ↦ (has d c).1
    | inr c ↦ let x : coordinate b.hi d ≡ pos 0 = get_or_past b.hi d (pos 0) (omega arith) in let y : coordinate p d ≡ pos 0 = get_or_past p d (pos 0) (omega arith) in omega (arith, ints)
  ];
}

-- and a box has by index each point that lies in it
pub by_index_in : (k : ℕ) (b : Region) (p : List ℤ) → InBox p b → Has k b.lo b.hi p
by_index_in k b p i d h = (i.above d, i.below d)
