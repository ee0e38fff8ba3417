-- A tuple has one drawing, and none where its box is too large.
use Rattle.std.proofs.Common.{◌≡◌, ◌<◌, ◌≤◌, ℕ, ℤ, pos, ◌≤ℤ◌, List, ◌++◌, length, sym, ◌∙◌, arith}
use Rattle.std.proofs.lemmas.Int.{ints}
use Rattle.std.proofs.lemmas.List.{ext_get_or}
use Rattle.geo_base.specs.Boxes.{coordinate, Has}
use Rattle.problem_data.specs.Cells.{IsCellOf}
use Rattle.problem_data.specs.Problem.{ProblemData}
use Rattle.problem_data.specs.Tuple.{Tuple}
use Rattle.problem_data.specs.WellFormed.{IsWellFormed}
use Rattle.layout_drawing.specs.Drawing.{IsCell, IsLeastBox, IsLarge, IsDrawing, nothing, drawn, cell_count, most_cells, box_line, picture}
use Rattle.layout_drawing.proofs.Owners.{same_signs}

-- ---- one box

module _ (k : ℕ) (Cell : List ℤ → Type 0) (lo hi low high : List ℤ) (one : IsLeastBox k Cell lo hi) (other : IsLeastBox k Cell low high) where
  pub same_low : lo ≡ low
  same_low = ext_get_or (pos 0) lo low (one.from ∙ sym other.from) (λ d lt.
      let less : d < k = (let e : length lo ≡ k = one.from in omega arith) in
      let a = one.lowest d less in let b = other.lowest d less in
      let p = (other.holds a.0 a.1 d less).0 in let q = (one.holds b.0 b.1 d less).0 in
      let e = a.2 in let f = b.2 in
      omega (arith, ints))

  pub same_high : hi ≡ high
  same_high = ext_get_or (pos 0) hi high (one.to ∙ sym other.to) (λ d lt.
      let less : d < k = (let e : length hi ≡ k = one.to in omega arith) in
      let a = one.highest d less in let b = other.highest d less in
      let p = (other.holds a.0 a.1 d less).1 in let q = (one.holds b.0 b.1 d less).1 in
      let e = a.2 in let f = b.2 in
      omega (arith, ints))

-- ---- without cells

no_box : (p : ProblemData) (t : Tuple) (lo hi : List ℤ) → IsWellFormed p → ((c : List ℤ) → IsCell p t c → ⊥) → IsLeastBox p.dims (IsCell p t) lo hi → ⊥
no_box p t lo hi well none box = let c = box.lowest 0 well.some in none c.0 c.1

-- ---- one drawing

module _ (p : ProblemData) (well : IsWellFormed p) (t : Tuple) where
  pub one_drawing : (x y : List ℕ) → IsDrawing p t x → IsDrawing p t y → x ≡ y
  one_drawing x y (nothing a e) (nothing b g) = e ∙ sym g
  one_drawing x y (nothing a e) (drawn lo hi box few sign right g) = absurd (no_box p t lo hi well a box)
  one_drawing x y (drawn lo hi box few sign right g) (nothing a e) = absurd (no_box p t lo hi well a box)
  one_drawing x y (drawn lo hi box few sign right e) (drawn low high other small shown also g) =
      let l : lo ≡ low = same_low p.dims (IsCell p t) lo hi low high box other in
      let h : hi ≡ high = same_high p.dims (IsCell p t) lo hi low high box other in
      let s : sign ≡ shown = same_signs (IsCellOf p t) sign shown right also in
      e ∙ (λ j. box_line (l j) (h j) ++ picture (s j) (l j) (h j)) ∙ sym g

  pub not_large : (x : List ℕ) → IsDrawing p t x → IsLarge p t → ⊥
  not_large x (nothing a e) large = no_box p t large.lo large.hi well a large.box
  not_large x (drawn lo hi box few sign right e) large =
      let l : lo ≡ large.lo = same_low p.dims (IsCell p t) lo hi large.lo large.hi box large.box in
      let h : hi ≡ large.hi = same_high p.dims (IsCell p t) lo hi large.lo large.hi box large.box in
      let same : cell_count lo hi ≡ cell_count large.lo large.hi = λ j. cell_count (l j) (h j) in
      let many = large.many in
      omega (arith, few, many, same)
