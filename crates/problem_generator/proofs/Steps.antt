-- One more object: its draws, and its lines behind those of the objects before it.
use Rattle.std.proofs.Common.{◌≡◌, ℕ, zero, suc, ◌+◌, ◌-◌, ◌*◌, ◌<◌, List, [], ◌∷◌, ◌++◌, sym, ap, ◌∙◌, arith, zero-add, add-zero, append-nil, append_assoc, flat_map}
use Rattle.std.specs.Fn.{iterate}
use Rattle.std.specs.List.{range_with_len}
use Rattle.std.proofs.lemmas.List.{flat_map_more}
use Rattle.problem_generator.specs.Draws.{next_state, state_behind, drawn_from, draw}
use Rattle.problem_generator.specs.Made.{width, depth, height, shape_lines, numbers_to}

-- m steps, and n more
iterate-iterate : (h : ℕ → ℕ) (x m n : ℕ) → iterate h n (iterate h m x) ≡ iterate h (m + n) x
iterate-iterate h x zero n = ap (λ k. iterate h k x) (sym (zero-add n))
iterate-iterate h x (suc m) n =
    let e : suc m + n ≡ suc (m + n) = omega arith in
    iterate-iterate h (h x) m n ∙ ap (λ k. iterate h k x) (sym e)

behind : (seed m n k : ℕ) → m + n ≡ k → state_behind (state_behind seed m) n ≡ state_behind seed k
behind seed m n k e = iterate-iterate next_state seed m n ∙ ap (λ j. state_behind seed j) e

pub state_next : (seed i : ℕ) → 0 < i → state_behind (state_behind seed (3 * (i - 1))) 3 ≡ state_behind seed (3 * (i + 1 - 1))
state_next seed i positive = behind seed (3 * (i - 1)) 3 (3 * (i + 1 - 1)) (omega arith)

pub width_next : (seed i : ℕ) → 0 < i → 1 + draw (state_behind seed (3 * (i - 1))) 1 3 ≡ width seed i
width_next seed i positive = ap (λ x. 1 + drawn_from x 3) (behind seed (3 * (i - 1)) 1 (3 * i - 2) (omega arith))

pub depth_next : (seed i : ℕ) → 0 < i → 1 + draw (state_behind seed (3 * (i - 1))) 2 3 ≡ depth seed i
depth_next seed i positive = ap (λ x. 1 + drawn_from x 3) (behind seed (3 * (i - 1)) 2 (3 * i - 1) (omega arith))

pub height_next : (seed i : ℕ) → 0 < i → 1 + draw (state_behind seed (3 * (i - 1))) 3 2 ≡ height seed i
height_next seed i positive = ap (λ x. 1 + drawn_from x 2) (behind seed (3 * (i - 1)) 3 (3 * i) (omega arith))

-- no lines yet
pub no_lines : (f : ℕ → List ℕ) (text : List ℕ) → text ≡ text ++ flat_map f (numbers_to 0)
unfolding numbers_to
no_lines f text = sym (append-nil text)

range_with_len-next : (a n j : ℕ) → a + n ≡ j → range_with_len a n ++ j ∷ [] ≡ range_with_len a (suc n)
range_with_len-next a zero j e = ap (λ k. k ∷ []) (sym e ∙ add-zero a)
range_with_len-next a (suc n) j e = let on : (a + 1) + n ≡ j = omega arith in ap (λ ks. a ∷ ks) (range_with_len-next (a + 1) n j on)

pub numbers_to-next : (n : ℕ) → numbers_to n ++ suc n ∷ [] ≡ numbers_to (suc n)
unfolding numbers_to
numbers_to-next n = range_with_len-next 1 n (suc n) (omega arith)

-- the same, counted from the number of the object
numbers_next : (i : ℕ) → 0 < i → numbers_to (i - 1) ++ i ∷ [] ≡ numbers_to (i + 1 - 1)
numbers_next zero positive = absurd (omega arith)
numbers_next (suc n) positive =
    let before : suc n - 1 ≡ n = omega arith in
    let now : suc n + 1 - 1 ≡ suc n = omega arith in
    ap (λ k. numbers_to k ++ suc n ∷ []) before ∙ numbers_to-next n ∙ ap numbers_to (sym now)

-- the lines of one more object
pub lines_next : (f : ℕ → List ℕ) (text : List ℕ) (i : ℕ) → 0 < i → (text ++ flat_map f (numbers_to (i - 1))) ++ f i ≡ text ++ flat_map f (numbers_to (i + 1 - 1))
lines_next f text i positive = flat_map_more f text (numbers_to (i - 1)) i ∙ ap (λ ns. text ++ flat_map f ns) (numbers_next i positive)

pub same_shapes : (i w w' d d' h h' : ℕ) → w ≡ w' → d ≡ d' → h ≡ h' → shape_lines i w d h ≡ shape_lines i w' d' h'
same_shapes i w w' d d' h h' p q r =
    ap (λ x. shape_lines i x d h) p ∙ ap (λ x. shape_lines i w' x h) q ∙ ap (λ x. shape_lines i w' d' x) r

-- a text that was written in four steps
pub four_parts : (a b c d t1 t2 t3 t4 : List ℕ) → t1 ≡ a → t2 ≡ t1 ++ b → t3 ≡ t2 ++ c → t4 ≡ t3 ++ d → t4 ≡ a ++ (b ++ (c ++ d))
four_parts a b c d t1 t2 t3 t4 p q r s =
    s ∙ ap (λ t. t ++ d) (r ∙ ap (λ t. t ++ c) (q ∙ ap (λ t. t ++ b) p)) ∙ append_assoc (a ++ b) c d ∙ append_assoc a b (c ++ d)
