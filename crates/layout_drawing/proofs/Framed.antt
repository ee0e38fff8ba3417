-- The least box of blocks is that of the cells of a tuple, and the blocks lie within it.
use Rattle.std.proofs.Common.{◌≡◌, ◌<◌, ◌≤◌, ℕ, ℤ, List, length, get_or, refl, sym, subst, arith}
use Rattle.std.specs.Prelude.{All}
use Rattle.std.proofs.lemmas.List.Elements.{Contains-get_or}
use Rattle.problem_data.specs.Cells.{IsCellOf}
use Rattle.problem_data.specs.Problem.{ProblemData}
use Rattle.problem_data.specs.Tuple.{Tuple}
use Rattle.layout_drawing.specs.declared.blocks.Block.{Block}
use Rattle.layout_drawing.specs.declared.span.Span.{Span}
use Rattle.layout_drawing.specs.Blocks.{lows, highs, IsOfDims, IsOwned, Owns, AreBlocksOf}
use Rattle.layout_drawing.specs.Drawing.{IsCell, IsLeastBox, AreSigns, cell_count, most_cells}
use Rattle.layout_drawing.specs.Painting.{IsFrame}
use Rattle.layout_drawing.proofs.Ends.{low_corner, high_corner, each_few}
use Rattle.layout_drawing.proofs.Owners.{signs_same}

-- the least box of the same cells
least_as : (k : ℕ) (P Q : List ℤ → Type 0) (lo hi : List ℤ) → ((c : List ℤ) → P c → Q c) → ((c : List ℤ) → Q c → P c) → IsLeastBox k P lo hi → IsLeastBox k Q lo hi
least_as k P Q lo hi into back h = record {
  from = h.from;
  to = h.to;
  holds = λ c q. h.holds c (back c q);
  lowest = λ d lt. (let x = h.lowest d lt in (x.0, into x.0 x.1, x.2));
  highest = λ d lt. (let x = h.highest d lt in (x.0, into x.0 x.1, x.2));
}

module _ (p : ProblemData) (t : Tuple) (bs : List Block) (are : AreBlocksOf p t bs) where
  -- without blocks there are no cells
  pub no_cells : length bs ≡ 0 → (c : List ℤ) → IsCell p t c → ⊥
  no_cells none c (o, x) = let w = are.has o c x in let lt : w.1.0 < length bs = w.1.1 in omega (arith, none, lt)

  pub least_cells : (lo hi : List ℤ) → IsLeastBox p.dims (IsOwned bs) lo hi → IsLeastBox p.dims (IsCell p t) lo hi
  least_cells lo hi h = least_as p.dims (IsOwned bs) (IsCell p t) lo hi (λ c (o, x). (o, are.only o c x)) (λ c (o, x). (o, are.has o c x)) h

  pub cell_signs : (sign : List ℤ → ℕ) → AreSigns (Owns bs) sign → AreSigns (IsCellOf p t) sign
  cell_signs sign h c = signs_same (λ o. Owns bs o c) (λ o. IsCellOf p t o c) (sign c) (λ o x. are.only o c x) (λ o x. are.has o c x) (h c)

  -- the same of blocks by another name
  pub tuple_box : (slice : List Block) (k : ℕ) (lo hi : List ℤ) → slice ≡ bs → k ≡ p.dims → IsLeastBox k (IsOwned slice) lo hi → IsLeastBox p.dims (IsOwned bs) lo hi
  tuple_box slice k lo hi same dims h = subst (λ (n : ℕ). IsLeastBox n (IsOwned bs) lo hi) dims (subst (λ (xs : List Block). IsLeastBox k (IsOwned xs) lo hi) same h)

pub frame_is : (k : ℕ) (bs : List Block) (ss : List Span) → 0 < k → length ss ≡ k → All (IsOfDims k) bs → IsLeastBox k (IsOwned bs) (lows ss) (highs ss) → cell_count (lows ss) (highs ss) ≤ most_cells → IsFrame bs ss
frame_is k bs ss some count dims h few = record {
  some = omega (arith, count, some);
  dims = subst (λ (n : ℕ). All (IsOfDims n) bs) (sym count) dims;
  from = λ i b lt. (let x = get_or bs i b in (h.holds (lows x.spans.items) (x.object.0, (x, Contains-get_or bs i b lt, refl, low_corner x)) 0 some).0);
  to = λ i b lt. (let x = get_or bs i b in (h.holds (highs x.spans.items) (x.object.0, (x, Contains-get_or bs i b lt, refl, high_corner x)) 0 some).1);
  small = each_few ss most_cells few;
}
