-- Texts of pictures, piece by piece.
use Rattle.std.proofs.Common.{◌≡◌, ◌<◌, ◌≤◌, ◌==◌, ◌+◌, ℕ, zero, suc, ℤ, pos, ◌+ℤ◌, ◌-ℤ◌, List, [], ◌∷◌, ◌++◌, length, get_or, set, take, drop, drop-cons, add-one, map, refl, sym, ap, ◌∙◌, subst, append_assoc, append-nil, false, true, arith}
use Rattle.std.specs.Prelude.{codes, flat_map, IfOk, Result}
use Rattle.std.specs.List.{range_with_len}
use Rattle.std.proofs.lemmas.List.FromFn.{get_or-map-range_with_len, length-map-range_with_len}
use Rattle.std.proofs.lemmas.Grind.{flat_map-append}
use Rattle.std.proofs.lemmas.List.{get_or-map, length-map, take-take, take-set-le, take_more_set}
use Rattle.std.proofs.lemmas.List.Folds.{flat_map-map}
use Rattle.geo_base.specs.Boxes.{coordinate}
use Rattle.geo_chan.proofs.Pieces.{one_more, all_of_them}
use Rattle.std.specs.declared.alloc.AllocError.{AllocError}
use Rattle.layout_text.specs.Block.{coordinates}
use Rattle.layout_drawing.specs.declared.span.Span.{Span}
use Rattle.layout_drawing.specs.Blocks.{lows, highs}
use Rattle.layout_drawing.specs.Drawing.{width, upwards, downwards, points, row, layer, picture, range_text, ranges, layer_line}
use Rattle.layout_drawing.specs.Painting.{layer_of, layers_behind}
use Rattle.layout_drawing.proofs.Ends.{low_at, high_at}

-- a text grows by a piece, and by one more
pub grown : (old a c m s t p n : List ℕ) → t ≡ old ++ (a ++ c) → p ≡ t ++ m → n ≡ p ++ s → n ≡ old ++ (a ++ (c ++ (m ++ s)))
grown old a c m s t p n e f g = g ∙ ap (λ (xs : List ℕ). xs ++ s) (f ∙ ap (λ (xs : List ℕ). xs ++ m) e) ∙ simp append_assoc

pub grown_once : (old a c s t n : List ℕ) → t ≡ old ++ (a ++ c) → n ≡ t ++ s → n ≡ old ++ (a ++ (c ++ s))
grown_once old a c s t n e g = g ∙ ap (λ (xs : List ℕ). xs ++ s) e ∙ simp append_assoc

-- ---- the line of the box

dropped : {X : Type 0} (xs : List X) (i : ℕ) → length xs ≤ i → drop i xs ≡ []
dropped [] zero le = refl
dropped [] (suc i) le = refl
dropped (x ∷ xs) zero le = absurd (omega arith)
dropped (x ∷ xs) (suc i) le = let less : length xs ≤ i = omega arith in dropped xs i less

pub ranges_more : (ss : List Span) (i : ℕ) (s : Span) → i < length ss → s ≡ get_or ss i s → ranges (lows (drop i ss)) (highs (drop i ss)) ≡ range_text s.low s.high ++ ranges (lows (drop (i + 1) ss)) (highs (drop (i + 1) ss))
ranges_more ss i s lt is =
    ap (λ (xs : List Span). ranges (lows xs) (highs xs)) (drop-cons ss i s lt)
    ∙ ap (λ (x : Span). range_text x.low x.high ++ ranges (lows (drop (suc i) ss)) (highs (drop (suc i) ss))) (sym is)
    ∙ ap (λ (n : ℕ). range_text s.low s.high ++ ranges (lows (drop n ss)) (highs (drop n ss))) (sym (add-one i))

pub ranges_done : (ss : List Span) (i : ℕ) → length ss ≤ i → ranges (lows (drop i ss)) (highs (drop i ss)) ≡ []
ranges_done ss i le = ap (λ (xs : List Span). ranges (lows xs) (highs xs)) (dropped ss i le)

-- ---- the line of a layer

pub layer_line_is : (xs : List ℤ) → (xs ≡ [] → ⊥) → layer_line xs ≡ codes "layer" ++ (coordinates (codes " ") xs ++ codes "\n")
layer_line_is [] some = absurd (some refl)
layer_line_is (x ∷ xs) some = refl

pub not_none : (xs : List ℤ) → (length xs == 0) ≡ false → xs ≡ [] → ⊥
not_none [] t e = cc
not_none (x ∷ xs) t e = cc

-- ---- numbers upwards and downwards

pub downwards_length : (a b : ℤ) → length (downwards a b) ≡ width a b
downwards_length a b = length-map-range_with_len (λ n. b -ℤ pos n) 0 (width a b)

pub downwards_at : (a b : ℤ) (i : ℕ) → i < width a b → get_or (downwards a b) i (pos 0) ≡ (b -ℤ pos i)
downwards_at a b i lt = get_or-map-range_with_len (λ n. b -ℤ pos n) 0 (width a b) i i (pos 0) lt (omega arith)

pub upwards_length : (a b : ℤ) → length (upwards a b) ≡ width a b
upwards_length a b = length-map-range_with_len (λ n. a +ℤ pos n) 0 (width a b)

pub upwards_at : (a b : ℤ) (i : ℕ) → i < width a b → get_or (upwards a b) i (pos 0) ≡ (a +ℤ pos i)
upwards_at a b i lt = get_or-map-range_with_len (λ n. a +ℤ pos n) 0 (width a b) i i (pos 0) lt (omega arith)

-- ---- the coordinates of a row

pub set_front : (xs : List ℤ) (y : ℤ) → 1 ≤ length xs → set xs 0 y ≡ y ∷ drop 1 xs
set_front [] y h = absurd (omega arith)
set_front (x ∷ xs) y h = refl

-- ---- the rows of a layer

module _ (sign : List ℤ → ℕ) (a b a2 b2 : ℤ) (outer : List ℤ) where
  pub rows_more : (i : ℕ) (y a' b' : ℤ) (old ll t n : List ℕ) (cells : List ℤ) → i < width a2 b2 → a' ≡ a → b' ≡ b → cells ≡ y ∷ outer → y ≡ (b2 -ℤ pos i)
      → t ≡ old ++ (ll ++ flat_map (λ z. row sign a b (z ∷ outer)) (take i (downwards a2 b2))) → n ≡ t ++ row sign a' b' cells
      → n ≡ old ++ (ll ++ flat_map (λ z. row sign a b (z ∷ outer)) (take (i + 1) (downwards a2 b2)))
  rows_more i y a' b' old ll t n cells lt ea eb ec ey e g =
      let here : row sign a' b' cells ≡ row sign a b (y ∷ outer) = λ j. row sign (ea j) (eb j) (ec j) in
      let at : y ≡ get_or (downwards a2 b2) i (pos 0) = ey ∙ sym (downwards_at a2 b2 i lt) in
      let few : i < length (downwards a2 b2) = (let m = downwards_length a2 b2 in omega (arith, m)) in
      grown_once old (ll) (flat_map (λ z. row sign a b (z ∷ outer)) (take i (downwards a2 b2))) (row sign a b (y ∷ outer)) t n e (g ∙ ap (λ (xs : List ℕ). t ++ xs) here)
      ∙ ap (λ (xs : List ℕ). old ++ (ll ++ xs)) (ap (λ (z : ℤ). flat_map (λ x. row sign a b (x ∷ outer)) (take i (downwards a2 b2)) ++ row sign a b (z ∷ outer)) at
      ∙ sym (one_more (λ (z : ℤ). row sign a b (z ∷ outer)) (downwards a2 b2) i (pos 0) few))

  pub rows_done : (i : ℕ) (old t : List ℕ) → width a2 b2 ≤ i → t ≡ old ++ (layer_line outer ++ flat_map (λ z. row sign a b (z ∷ outer)) (take i (downwards a2 b2))) → t ≡ old ++ layer sign a b a2 b2 outer
  rows_done i old t le e =
      let few : length (downwards a2 b2) ≤ i = (let m = downwards_length a2 b2 in omega (arith, m)) in
      e ∙ ap (λ (xs : List ℕ). old ++ (layer_line outer ++ xs)) (sym (all_of_them (λ (z : ℤ). row sign a b (z ∷ outer)) (downwards a2 b2) i few))

-- ---- the coordinates that are fixed

abbrev no_numbers : List ℤ
no_numbers = []

take_none : (n : ℕ) → take n no_numbers ≡ []
take_none zero = refl
take_none (suc n) = refl

-- behind the first one
fronts : (n : ℕ) (xs : List ℤ) → drop 1 (take (suc n) xs) ≡ take n (drop 1 xs)
fronts n [] = sym (take_none n)
fronts n (x ∷ xs) = refl

-- there is none behind the first one alone
pub no_front : (xs : List ℤ) → drop 1 (take 1 xs) ≡ []
no_front [] = refl
no_front (x ∷ xs) = refl

-- lists with the same coordinates further on have the same here
pub front_same : (n : ℕ) (xs ys : List ℤ) → 1 ≤ n → drop 1 (take (n + 1) xs) ≡ drop 1 (take (n + 1) ys) → drop 1 (take n xs) ≡ drop 1 (take n ys)
front_same zero xs ys some e = absurd (omega arith)
front_same (suc n) xs ys some e =
    let step : (zs : List ℤ) → drop 1 (take (suc n) zs) ≡ take n (drop 1 (take (suc n + 1) zs)) = (λ zs. fronts n zs ∙ sym (take-take n (suc n) (drop 1 zs) (omega arith)) ∙ ap (take n) (sym (fronts (suc n) zs)) ∙ ap (λ (k : ℕ). take n (drop 1 (take k zs))) (sym (add-one (suc n)))) in
    step xs ∙ ap (take n) e ∙ sym (step ys)

-- one coordinate more
pub front_more : (n : ℕ) (xs : List ℤ) (y : ℤ) → 1 ≤ n → n < length xs → drop 1 (take (n + 1) (set xs n y)) ≡ drop 1 (take n xs) ++ y ∷ []
front_more zero xs y some lt = absurd (omega arith)
front_more (suc n) [] y some lt = absurd (omega arith)
front_more (suc n) (x ∷ xs) y some lt = ap (drop 1) (take_more_set (x ∷ xs) (suc n) y lt)

pub front_kept : (n : ℕ) (xs : List ℤ) (y : ℤ) → drop 1 (take n (set xs n y)) ≡ drop 1 (take n xs)
front_kept n xs y = ap (drop 1) (take-set-le n xs n y (omega arith))

-- ---- layers

flat_both : (f : List ℤ → List ℕ) (g : ℤ → List (List ℤ)) (xs : List ℤ) → flat_map f (flat_map g xs) ≡ flat_map (λ x. flat_map f (g x)) xs
flat_both f g [] = refl
flat_both f g (x ∷ xs) = flat_map-append f (g x) (flat_map g xs) ∙ ap (λ (ys : List ℕ). flat_map f (g x) ++ ys) (flat_both f g xs)

module _ (sign : List ℤ → ℕ) (ss : List Span) where
  -- all coordinates are fixed
  pub last_layer : (n : ℕ) (front : List ℤ) → length ss ≤ n → layers_behind sign ss n front ≡ layer_of sign ss front
  last_layer n front le =
      let l : drop n (lows ss) ≡ [] = dropped (lows ss) n (let m = length-map ss (λ (s : Span). s.low) in omega (arith, m)) in
      ap (λ (lo : List ℤ). flat_map (λ outer. layer_of sign ss (front ++ outer)) (points lo (drop n (highs ss)))) l
      ∙ append-nil (layer_of sign ss (front ++ [])) ∙ ap (layer_of sign ss) (append-nil front)

  -- one more is
  pub layers_more : (n : ℕ) (front : List ℤ) (s : Span) → n < length ss → s ≡ get_or ss n s → layers_behind sign ss n front ≡ flat_map (λ x. layers_behind sign ss (n + 1) (front ++ x ∷ [])) (upwards s.low s.high)
  layers_more n front s lt is =
      let lo : drop n (lows ss) ≡ s.low ∷ drop (n + 1) (lows ss) = ends (λ (x : Span). x.low) in
      let hi : drop n (highs ss) ≡ s.high ∷ drop (n + 1) (highs ss) = ends (λ (x : Span). x.high) in
      (λ j. flat_map at (points (lo j) (hi j)))
      ∙ flat_both at (λ x. map (λ c. x ∷ c) (points (drop (n + 1) (lows ss)) (drop (n + 1) (highs ss)))) (upwards s.low s.high)
      ∙ ap (λ (h : ℤ → List ℕ). flat_map h (upwards s.low s.high)) (λ j x. each x j)
    where
      at : List ℤ → List ℕ
      at outer = layer_of sign ss (front ++ outer)

      ends : (f : Span → ℤ) → drop n (map f ss) ≡ f s ∷ drop (n + 1) (map f ss)
      ends f =
          let m = length-map ss f in
          drop-cons (map f ss) n (f s) (omega (arith, m)) ∙ ap (λ (x : ℤ). x ∷ drop (suc n) (map f ss)) (get_or-map f ss n s (f s) lt ∙ ap f (sym is)) ∙ ap (λ (k : ℕ). f s ∷ drop k (map f ss)) (sym (add-one n))

      each : (x : ℤ) → flat_map at (map (λ c. x ∷ c) (points (drop (n + 1) (lows ss)) (drop (n + 1) (highs ss)))) ≡ layers_behind sign ss (n + 1) (front ++ x ∷ [])
      each x =
          flat_map-map at (λ c. x ∷ c) (points (drop (n + 1) (lows ss)) (drop (n + 1) (highs ss)))
          ∙ ap (λ (h : List ℤ → List ℕ). flat_map h (points (drop (n + 1) (lows ss)) (drop (n + 1) (highs ss)))) (λ j c. layer_of sign ss (sym (append_assoc front (x ∷ []) c) j))

  -- the layers with the first values of the next coordinate, and with one more
  pub values_more : (n : ℕ) (front : List ℤ) (lo hi : ℤ) (i : ℕ) (y : ℤ) (old t m : List ℕ) (cells : List ℤ) → i < width lo hi → cells ≡ front ++ y ∷ [] → y ≡ (lo +ℤ pos i)
      → t ≡ old ++ flat_map (λ x. layers_behind sign ss (n + 2) (front ++ x ∷ [])) (take i (upwards lo hi)) → m ≡ t ++ layers_behind sign ss (n + 1 + 1) cells
      → m ≡ old ++ flat_map (λ x. layers_behind sign ss (n + 2) (front ++ x ∷ [])) (take (i + 1) (upwards lo hi))
  values_more n front lo hi i y old t m cells lt ec ey e g =
      let two : n + 1 + 1 ≡ n + 2 = omega arith in
      let at : y ≡ get_or (upwards lo hi) i (pos 0) = ey ∙ sym (upwards_at lo hi i lt) in
      let few : i < length (upwards lo hi) = (let k = upwards_length lo hi in omega (arith, k)) in
      g ∙ ap (λ (xs : List ℕ). xs ++ layers_behind sign ss (n + 1 + 1) cells) e
      ∙ append_assoc old (flat_map (λ x. layers_behind sign ss (n + 2) (front ++ x ∷ [])) (take i (upwards lo hi))) (layers_behind sign ss (n + 1 + 1) cells)
      ∙ ap (λ (xs : List ℕ). old ++ (flat_map (λ x. layers_behind sign ss (n + 2) (front ++ x ∷ [])) (take i (upwards lo hi)) ++ xs))
      ((λ j. layers_behind sign ss (two j) (ec j)) ∙ ap (λ (z : ℤ). layers_behind sign ss (n + 2) (front ++ z ∷ [])) at)
      ∙ ap (λ (xs : List ℕ). old ++ xs) (sym (one_more (λ (x : ℤ). layers_behind sign ss (n + 2) (front ++ x ∷ [])) (upwards lo hi) i (pos 0) few))

  pub values_done : (n : ℕ) (front : List ℤ) (s : Span) (i : ℕ) (old t : List ℕ) → n + 1 < length ss → s ≡ get_or ss (n + 1) s → width s.low s.high ≤ i
      → t ≡ old ++ flat_map (λ x. layers_behind sign ss (n + 2) (front ++ x ∷ [])) (take i (upwards (coordinate (lows ss) (n + 1)) (coordinate (highs ss) (n + 1))))
      → t ≡ old ++ layers_behind sign ss (n + 1) front
  values_done n front s i old t lt is le e =
      let two : n + 2 ≡ n + 1 + 1 = omega arith in
      let low : coordinate (lows ss) (n + 1) ≡ s.low = low_at ss (n + 1) s is lt in
      let high : coordinate (highs ss) (n + 1) ≡ s.high = high_at ss (n + 1) s is lt in
      let few : length (upwards s.low s.high) ≤ i = (let k = upwards_length s.low s.high in omega (arith, k)) in
      e ∙ (λ j. old ++ flat_map (λ x. layers_behind sign ss (two j) (front ++ x ∷ [])) (take i (upwards (low j) (high j))))
      ∙ ap (λ (xs : List ℕ). old ++ xs) (sym (all_of_them (λ (x : ℤ). layers_behind sign ss (n + 1 + 1) (front ++ x ∷ [])) (upwards s.low s.high) i few) ∙ sym (layers_more (n + 1) front s lt is))

  -- the picture of more than one dimension
  pub picture_is : 1 ≤ length ss → (length ss ≡ 1 → ⊥) → layers_behind sign ss 2 [] ≡ picture sign (lows ss) (highs ss)
  picture_is some more = two ss some more
    where
      two : (xs : List Span) → 1 ≤ length xs → (length xs ≡ 1 → ⊥) → layers_behind sign xs 2 [] ≡ picture sign (lows xs) (highs xs)
      two [] h k = absurd (omega arith)
      two (s ∷ []) h k = absurd (k refl)
      two (s ∷ s2 ∷ xs) h k = refl

-- a text that stands for another
pub if_ok_as : (r : Result (Unit {0}) AllocError) (n old x y : List ℕ) → x ≡ y → IfOk r (λ u. n ≡ old ++ x) → IfOk r (λ u. n ≡ old ++ y)
if_ok_as r n old x y e h = subst (λ (z : List ℕ). IfOk r (λ u. n ≡ old ++ z)) e h
