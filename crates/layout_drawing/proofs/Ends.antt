-- The ends of spans and of blocks.
use Rattle.std.proofs.Common.{◌≡◌, ◌<◌, ◌≤◌, ◌+◌, ◌*◌, ◌^◌, ℕ, zero, suc, ℤ, pos, ◌+ℤ◌, ◌≤ℤ◌, ◌<ℤ◌, List, [], ◌∷◌, ◌++◌, length, map, get_or, drop, drop-cons, add-one, refl, sym, ap, ◌∙◌, subst, inl, inr, ◌⊎◌, arith}
use Rattle.std.specs.Prelude.{All, Any}
use Rattle.std.specs.Int.{int_max, int_min}
use Rattle.std.proofs.lemmas.Bool.{cases_lt}
use Rattle.std.proofs.lemmas.Int.{ints, clamps}
use Rattle.std.proofs.lemmas.List.{get_or-map, length-map, get_or_default}
use Rattle.std.proofs.lemmas.List.Elements.{All-contains}
use Rattle.std.proofs.Math.Nat.{mul-le-mul_left, mul-le-mul_right}
use Rattle.geo_base.specs.Boxes.{coordinate, Has}
use Rattle.geo_conditions.proofs.Decide.{cases_ℤ}
use Rattle.problem_data.specs.Cells.{IsIn, BoxHas}
use Rattle.problem_data.specs.Problem.{BoxData}
use Rattle.layout_drawing.specs.declared.blocks.Block.{Block}
use Rattle.layout_drawing.specs.declared.span.Span.{Span}
use Rattle.layout_drawing.specs.Blocks.{lows, highs, low_of, high_of, IsOfDims, IsOwned, BlockHas, IsBlockOf, IsExtent}
use Rattle.layout_drawing.specs.Drawing.{width, cell_count, IsLeastBox}

-- ---- spans by their places

pub low_at : (ss : List Span) (i : ℕ) (s : Span) → s ≡ get_or ss i s → i < length ss → coordinate (lows ss) i ≡ s.low
low_at ss i s is lt = get_or-map (λ (x : Span). x.low) ss i s (pos 0) lt ∙ ap (λ (x : Span). x.low) (sym is)

pub high_at : (ss : List Span) (i : ℕ) (s : Span) → s ≡ get_or ss i s → i < length ss → coordinate (highs ss) i ≡ s.high
high_at ss i s is lt = get_or-map (λ (x : Span). x.high) ss i s (pos 0) lt ∙ ap (λ (x : Span). x.high) (sym is)

-- the ends of a block where that span stands
pub ends_at : (b : Block) (i : ℕ) (s : Span) → s ≡ get_or b.spans.items i s → i < length b.spans.items → (low_of b i ≡ s.low) × (high_of b i ≡ s.high)
ends_at b i s is lt = (low_at b.spans.items i s is lt, high_at b.spans.items i s is lt)

-- the span that stands at a place
pub span_there : (ss : List Span) (i : ℕ) → i < length ss → (s : Span) × (s ≡ get_or ss i s)
span_there [] i lt = absurd (omega arith)
span_there (s ∷ ss) zero lt = (s, refl)
span_there (s ∷ ss) (suc i) lt = let less : i < length ss = omega arith in span_there ss i less

pub uncrossed : (ss : List Span) (d : ℕ) → d < length ss → coordinate (lows ss) d ≤ℤ coordinate (highs ss) d
uncrossed [] d lt = absurd (omega arith)
uncrossed (s ∷ ss) zero lt = s.filled
uncrossed (s ∷ ss) (suc d) lt = let less : d < length ss = omega arith in uncrossed ss d less

-- a span more at the end
module _ (f : Span → ℤ) (ss : List Span) (s : Span) where
  before_end : (d : ℕ) → d < length ss → coordinate (map f (ss ++ s ∷ [])) d ≡ coordinate (map f ss) d
  before_end d lt = at ss d lt
    where
      at : (xs : List Span) (e : ℕ) → e < length xs → coordinate (map f (xs ++ s ∷ [])) e ≡ coordinate (map f xs) e
      at [] e l = absurd (omega arith)
      at (x ∷ xs) zero l = refl
      at (x ∷ xs) (suc e) l = let less : e < length xs = omega arith in at xs e less

  at_end : (d : ℕ) → d ≡ length ss → coordinate (map f (ss ++ s ∷ [])) d ≡ f s
  at_end d e = at ss d e
    where
      at : (xs : List Span) (d : ℕ) → d ≡ length xs → coordinate (map f (xs ++ s ∷ [])) d ≡ f s
      at [] zero e = refl
      at [] (suc d) e = absurd (omega arith)
      at (x ∷ xs) zero e = absurd (omega arith)
      at (x ∷ xs) (suc d) e = let same : d ≡ length xs = omega arith in at xs d same

-- ---- the ends of a block

-- the low corner and the high corner of a block are cells of it
pub low_corner : (b : Block) → BlockHas b (lows b.spans.items)
low_corner b d lt = let h = uncrossed b.spans.items d lt in (omega (arith, ints), h)

pub high_corner : (b : Block) → BlockHas b (highs b.spans.items)
high_corner b d lt = let h = uncrossed b.spans.items d lt in (h, omega (arith, ints))

-- the spans of the first k dimensions of a box, seen from the origin
pub record AreEnds (a : BoxData) (origin : List ℤ) (k : ℕ) (ss : List Span) : Type 0 where
  pub count : length ss ≡ k
  pub from : (d : ℕ) → d < k → coordinate (lows ss) d ≡ (coordinate origin d +ℤ coordinate a.offsets d)
  pub to : (d : ℕ) → d < k → (coordinate (highs ss) d +ℤ pos 1) ≡ ((coordinate origin d +ℤ coordinate a.offsets d) +ℤ coordinate a.sizes d)

module _ (a : BoxData) (origin : List ℤ) where
  pub no_ends : AreEnds a origin 0 []
  no_ends = record { count = refl; from = λ d lt. absurd (omega arith); to = λ d lt. absurd (omega arith) }

  pub ends_more : (k : ℕ) (ss : List Span) (s : Span) → AreEnds a origin k ss → s.low ≡ (coordinate origin k +ℤ coordinate a.offsets k) → (s.high +ℤ pos 1) ≡ ((coordinate origin k +ℤ coordinate a.offsets k) +ℤ coordinate a.sizes k) → AreEnds a origin (k + 1) (ss ++ s ∷ [])
  ends_more k ss s h low high = record {
    count = (let n : length (ss ++ s ∷ []) ≡ length ss + 1 = pushed ss in let m : length ss ≡ k = h.count in omega arith);
    from = λ d lt. elim (cases_lt d k) [
      | inl less ↦ before_end (λ (x : Span). x.low) ss s d (let m : length ss ≡ k = h.count in omega arith) ∙ h.from d less
      | inr le ↦ (let e : d ≡ k = omega arith in at_end (λ (x : Span). x.low) ss s d (e ∙ sym h.count) ∙ low ∙ ap (λ (n : ℕ). coordinate origin n +ℤ coordinate a.offsets n) (sym e))
    ];
    to = λ d lt. elim (cases_lt d k) [
      | inl less ↦ ap (λ (z : ℤ). z +ℤ pos 1) (before_end (λ (x : Span). x.high) ss s d (let m : length ss ≡ k = h.count in omega arith)) ∙ h.to d less
      | inr le ↦ (let e : d ≡ k = omega arith in ap (λ (z : ℤ). z +ℤ pos 1) (at_end (λ (x : Span). x.high) ss s d (e ∙ sym h.count)) ∙ high ∙ ap (λ (n : ℕ). (coordinate origin n +ℤ coordinate a.offsets n) +ℤ coordinate a.sizes n) (sym e))
    ];
  }
    where
      pushed : (xs : List Span) → length (xs ++ s ∷ []) ≡ length xs + 1
      pushed [] = refl
      pushed (x ∷ xs) = let e : length (xs ++ s ∷ []) ≡ length xs + 1 = pushed xs in omega arith

  -- spans of all dimensions are those of a block with the cells of the box
  pub ends_block : (k : ℕ) (b : Block) → AreEnds a origin k b.spans.items → IsBlockOf k a origin b.object.0 b
  ends_block k b h = record {
    object = refl;
    dims = h.count;
    has = λ c box d lt. (let less : d < k = subst (λ (n : ℕ). d < n) h.count lt in
        let i : IsIn a origin d (coordinate c d) = box d less in let f = h.from d less in let t = h.to d less in (omega (arith, ints, i.from, i.to), omega (arith, ints, i.from, i.to)));
    only = λ c has d lt. (let less : d < length b.spans.items = subst (λ (n : ℕ). d < n) (sym h.count) lt in
        let i = has d less in let f = h.from d lt in let t = h.to d lt in record { from = omega (arith, ints, i.0); to = omega (arith, ints, i.1) });
  }

-- ---- how many numbers there are

pub width_some : (s : Span) → 1 ≤ width s.low s.high
width_some s = let h = s.filled in omega (arith, ints)

pub width_fits : (s : Span) → width s.low s.high ≤ 2 ^ 72
width_fits s = let h = s.from in let k = s.to in omega (arith, ints)

-- so many cells there are at least
pub counts_some : (ss : List Span) → 1 ≤ cell_count (lows ss) (highs ss)
counts_some [] = omega arith
counts_some (s ∷ ss) = let a = width_some s in let b = counts_some ss in let h = mul-le-mul_left (width s.low s.high) b in omega (arith, a, h)

pub counts_drop : (ss : List Span) (i : ℕ) (s : Span) → i < length ss → s ≡ get_or ss i s → cell_count (lows (drop i ss)) (highs (drop i ss)) ≡ width s.low s.high * cell_count (lows (drop (i + 1) ss)) (highs (drop (i + 1) ss))
counts_drop ss i s lt is =
    ap (λ (xs : List Span). cell_count (lows xs) (highs xs)) (drop-cons ss i s lt)
    ∙ ap (λ (x : Span). width x.low x.high * cell_count (lows (drop (suc i) ss)) (highs (drop (suc i) ss))) (sym is)
    ∙ ap (λ (n : ℕ). width s.low s.high * cell_count (lows (drop n ss)) (highs (drop n ss))) (sym (add-one i))

pub too_many : (n w r t m : ℕ) → m < n * w → 1 ≤ r → n * (w * r) ≡ t → t ≤ m → ⊥
too_many n w r t m many some is few = let h = mul-le-mul_left (n * w) some in omega (arith, h)

-- in no dimension are there more numbers than cells
pub each_few : (ss : List Span) (m : ℕ) → cell_count (lows ss) (highs ss) ≤ m → All (λ (s : Span). width s.low s.high ≤ m) ss
each_few [] m few k d lt = absurd (omega arith)
each_few (s ∷ ss) m few zero d lt = let b = counts_some ss in let h = mul-le-mul_left (width s.low s.high) b in omega (arith, h, few)
each_few (s ∷ ss) m few (suc k) d lt =
    let a = width_some s in let h = mul-le-mul_right (cell_count (lows ss) (highs ss)) a in
    let less : k < length ss = omega arith in each_few ss m (omega (arith, h, few)) k d less

-- ---- the span that holds all blocks in one dimension

-- the span holds the first n blocks, and each of its ends is that of a block
pub record Hull (bs : List Block) (d n : ℕ) (s : Span) : Type 0 where
  pub from : (k : ℕ) (b : Block) → k < n → s.low ≤ℤ low_of (get_or bs k b) d
  pub to : (k : ℕ) (b : Block) → k < n → high_of (get_or bs k b) d ≤ℤ s.high
  pub lowest : Any (λ (b : Block). low_of b d ≡ s.low) bs
  pub highest : Any (λ (b : Block). high_of b d ≡ s.high) bs

module _ (bs : List Block) (d : ℕ) where
  pub hull_first : (b : Block) (s : Span) → 0 < length bs → b ≡ get_or bs 0 b → d < length b.spans.items → s ≡ get_or b.spans.items d s → Hull bs d 0 s
  hull_first b s some is lt there = record {
    from = λ k x less. absurd (omega arith);
    to = λ k x less. absurd (omega arith);
    lowest = (0, b, some, sym is, low_at b.spans.items d s there lt);
    highest = (0, b, some, sym is, high_at b.spans.items d s there lt);
  }

  pub hull_more : (n : ℕ) (b : Block) (s h r : Span) → n < length bs → b ≡ get_or bs n b → d < length b.spans.items → s ≡ get_or b.spans.items d s → r.low ≡ int_min h.low s.low → r.high ≡ int_max h.high s.high → Hull bs d n h → Hull bs d (n + 1) r
  hull_more n b s h r few is lt there low high hull = record {
    from = λ k x less. elim (cases_lt k n) [
      | inl before ↦ (let i = hull.from k x before in omega (arith, ints, clamps))
      | inr le ↦ (let e : k ≡ n = omega arith in let at : low_of (get_or bs k x) d ≡ s.low = ap (λ (y : Block). low_of y d) (here k x e) ∙ low_at b.spans.items d s there lt in omega (arith, ints, clamps))
    ];
    to = λ k x less. elim (cases_lt k n) [
      | inl before ↦ (let i = hull.to k x before in omega (arith, ints, clamps))
      | inr le ↦ (let e : k ≡ n = omega arith in let at : high_of (get_or bs k x) d ≡ s.high = ap (λ (y : Block). high_of y d) (here k x e) ∙ high_at b.spans.items d s there lt in omega (arith, ints, clamps))
    ];
    lowest = elim (cases_ℤ s.low h.low) [
      | inl l ↦ (let e : s.low ≡ r.low = omega (arith, ints, clamps) in (n, b, few, sym is, low_at b.spans.items d s there lt ∙ e))
      | inr l ↦ (let e : h.low ≡ r.low = omega (arith, ints, clamps) in (hull.lowest.0, hull.lowest.1, hull.lowest.2, hull.lowest.3, hull.lowest.4 ∙ e))
    ];
    highest = elim (cases_ℤ h.high s.high) [
      | inl l ↦ (let e : s.high ≡ r.high = omega (arith, ints, clamps) in (n, b, few, sym is, high_at b.spans.items d s there lt ∙ e))
      | inr l ↦ (let e : h.high ≡ r.high = omega (arith, ints, clamps) in (hull.highest.0, hull.highest.1, hull.highest.2, hull.highest.3, hull.highest.4 ∙ e))
    ];
  }
    where
      here : (k : ℕ) (x : Block) → k ≡ n → get_or bs k x ≡ b
      here k x e = ap (λ (j : ℕ). get_or bs j x) e ∙ sym (get_or_default bs n b x few) ∙ sym is

  pub hull_all : (n : ℕ) (s : Span) → length bs ≤ n → Hull bs d n s → IsExtent bs d s
  hull_all n s le h = record {
    from = λ k b lt. h.from k b (omega arith);
    to = λ k b lt. h.to k b (omega arith);
    lowest = h.lowest;
    highest = h.highest;
  }

-- ---- the spans of all dimensions

pub record Extents (bs : List Block) (n : ℕ) (ss : List Span) : Type 0 where
  pub count : length ss ≡ n
  pub each : (e : ℕ) (s : Span) → e < n → IsExtent bs e (get_or ss e s)

module _ (bs : List Block) where
  pub no_extents : Extents bs 0 []
  no_extents = record { count = refl; each = λ e s lt. absurd (omega arith) }

  pub extents_more : (n : ℕ) (ss : List Span) (s : Span) → Extents bs n ss → IsExtent bs n s → Extents bs (n + 1) (ss ++ s ∷ [])
  extents_more n ss s h is = record {
    count = (let e : length (ss ++ s ∷ []) ≡ length ss + 1 = pushed ss in let k : length ss ≡ n = h.count in omega arith);
    each = λ e x lt. elim (cases_lt e n) [
      | inl less ↦ subst (λ (y : Span). IsExtent bs e y) (sym (front ss e x (let k : length ss ≡ n = h.count in omega arith))) (h.each e x less)
      | inr le ↦ (let same : n ≡ e = omega arith in subst (λ (k : ℕ). IsExtent bs k (get_or (ss ++ s ∷ []) e x)) same (subst (λ (y : Span). IsExtent bs n y) (sym (back ss e x (let k : length ss ≡ n = h.count in omega arith))) is))
    ];
  }
    where
      pushed : (xs : List Span) → length (xs ++ s ∷ []) ≡ length xs + 1
      pushed [] = refl
      pushed (x ∷ xs) = let e : length (xs ++ s ∷ []) ≡ length xs + 1 = pushed xs in omega arith

      front : (xs : List Span) (e : ℕ) (x : Span) → e < length xs → get_or (xs ++ s ∷ []) e x ≡ get_or xs e x
      front [] e x l = absurd (omega arith)
      front (y ∷ xs) zero x l = refl
      front (y ∷ xs) (suc e) x l = let less : e < length xs = omega arith in front xs e x less

      back : (xs : List Span) (e : ℕ) (x : Span) → e ≡ length xs → get_or (xs ++ s ∷ []) e x ≡ s
      back [] zero x l = refl
      back [] (suc e) x l = absurd (omega arith)
      back (y ∷ xs) zero x l = absurd (omega arith)
      back (y ∷ xs) (suc e) x l = let same : e ≡ length xs = omega arith in back xs e x same

  -- they are the least box that holds all blocks
  pub extents_least : (k : ℕ) (ss : List Span) → All (IsOfDims k) bs → Extents bs k ss → IsLeastBox k (IsOwned bs) (lows ss) (highs ss)
  extents_least k ss dims h = record {
    from = length-map ss (λ (s : Span). s.low) ∙ h.count;
    to = length-map ss (λ (s : Span). s.high) ∙ h.count;
    holds = λ c (o, (b, there, object, has)) d lt.
        (let s = extent d lt in
        let own = has d (subst (λ (n : ℕ). d < n) (sym (All-contains (IsOfDims k) bs b dims there)) lt) in
        let a : s.0.low ≤ℤ low_of b d = All-contains (λ (x : Block). s.0.low ≤ℤ low_of x d) bs b s.2.from there in
        let z : high_of b d ≤ℤ s.0.high = All-contains (λ (x : Block). high_of x d ≤ℤ s.0.high) bs b s.2.to there in
        let low : coordinate (lows ss) d ≡ s.0.low = low_at ss d s.0 s.1 (inside d lt) in
        let high : coordinate (highs ss) d ≡ s.0.high = high_at ss d s.0 s.1 (inside d lt) in
        (omega (arith, ints, own.0), omega (arith, ints, own.1)));
    lowest = λ d lt. (let s = extent d lt in let (i, b, few, same, e) = s.2.lowest in
        (lows b.spans.items, (b.object.0, (b, (i, few, same), refl, low_corner b)), e ∙ sym (low_at ss d s.0 s.1 (inside d lt))));
    highest = λ d lt. (let s = extent d lt in let (i, b, few, same, e) = s.2.highest in
        (highs b.spans.items, (b.object.0, (b, (i, few, same), refl, high_corner b)), e ∙ sym (high_at ss d s.0 s.1 (inside d lt))));
  }
    where
      inside : (d : ℕ) → d < k → d < length ss
      inside d lt = let e : length ss ≡ k = h.count in omega arith

      extent : (d : ℕ) → d < k → (s : Span) × (s ≡ get_or ss d s) × IsExtent bs d s
      extent d lt = let s = span_there ss d (inside d lt) in (s.0, s.1, subst (λ (y : Span). IsExtent bs d y) (sym s.1) (h.each d s.0 lt))
