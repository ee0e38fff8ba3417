-- The lines and the groups of a layout, part by part.
use Rattle.std.proofs.Common.{◌≡◌, ◌<◌, ◌≤◌, ◌+◌, ℕ, [], ◌∷◌, ◌++◌, length, take, drop, get_or, ap, ◌∙◌, arith, add_comm, zero-add, refl}
use Rattle.std.specs.Prelude.{flat_map}
use Rattle.std.specs.List.{range_with_len}
use Rattle.std.proofs.lemmas.List.FromFn.{get_or-range_with_len, length-range_with_len}
use Rattle.std.proofs.lemmas.List.{get_or-drop}
use Rattle.geo_base.specs.Tuple.{Tuple, spot, nothing_put}
use Rattle.geo_chan.proofs.Pieces.{one_more, stopped_at, all_of_them}
use Rattle.problem_data.specs.Problem.{ProblemData}
use Rattle.layout_text.specs.Block.{line_of, lines_of, group_of, later_group, token_of}

number_at : (n o : ℕ) → o < n → get_or (range_with_len 0 n) o 0 ≡ o
number_at n o h = get_or-range_with_len 0 n o 0 h ∙ zero-add o

in_numbers : (n o : ℕ) → o < n → o < length (range_with_len 0 n)
in_numbers n o h = omega (arith, h, length-range_with_len 0 n)

pub lines_more : (p : ProblemData) (t : Tuple) (o : ℕ) → o < length t
    → flat_map (line_of p t) (take (o + 1) (range_with_len 0 (length t))) ≡ flat_map (line_of p t) (take o (range_with_len 0 (length t))) ++ line_of p t o
lines_more p t o h =
    one_more (line_of p t) (range_with_len 0 (length t)) o 0 (in_numbers (length t) o h)
    ∙ ap (λ i. flat_map (line_of p t) (take o (range_with_len 0 (length t))) ++ line_of p t i) (number_at (length t) o h)

pub lines_stopped : (p : ProblemData) (t : Tuple) (o : ℕ) → o < length t
    → lines_of p t ≡ flat_map (line_of p t) (take o (range_with_len 0 (length t))) ++ (line_of p t o ++ flat_map (line_of p t) (drop (o + 1) (range_with_len 0 (length t))))
lines_stopped p t o h =
    stopped_at (line_of p t) (range_with_len 0 (length t)) o 0 (in_numbers (length t) o h)
    ∙ ap (λ i. flat_map (line_of p t) (take o (range_with_len 0 (length t))) ++ (line_of p t i ++ flat_map (line_of p t) (drop (o + 1) (range_with_len 0 (length t))))) (number_at (length t) o h)

pub lines_done : (p : ProblemData) (t : Tuple) (o : ℕ) → length t ≤ o → lines_of p t ≡ flat_map (line_of p t) (take o (range_with_len 0 (length t)))
lines_done p t o h = all_of_them (line_of p t) (range_with_len 0 (length t)) o (omega (arith, h, length-range_with_len 0 (length t)))

-- the k-th object behind the first one
behind_first : (t : Tuple) (k : ℕ) → get_or (drop 1 t) k nothing_put ≡ spot t (k + 1)
behind_first t k = get_or-drop 1 t k nothing_put ∙ ap (λ i. get_or t i nothing_put) (add_comm 1 k)

pub groups_more : (t : Tuple) (k : ℕ) → k < length (drop 1 t) → flat_map later_group (take (k + 1) (drop 1 t)) ≡ flat_map later_group (take k (drop 1 t)) ++ later_group (spot t (k + 1))
groups_more t k h = one_more later_group (drop 1 t) k nothing_put h ∙ ap (λ s. flat_map later_group (take k (drop 1 t)) ++ later_group s) (behind_first t k)

pub groups_stopped : (t : Tuple) (k : ℕ) → k < length (drop 1 t) → flat_map later_group (drop 1 t) ≡ flat_map later_group (take k (drop 1 t)) ++ (later_group (spot t (k + 1)) ++ flat_map later_group (drop (k + 1) (drop 1 t)))
groups_stopped t k h = stopped_at later_group (drop 1 t) k nothing_put h ∙ ap (λ s. flat_map later_group (take k (drop 1 t)) ++ (later_group s ++ flat_map later_group (drop (k + 1) (drop 1 t)))) (behind_first t k)

-- the token of a tuple with a first object
pub token_parts : (t : Tuple) → 0 < length t → token_of t ≡ group_of (spot t 0) ++ flat_map later_group (drop 1 t)
token_parts [] h = absurd (omega arith)
token_parts (s ∷ ss) h = refl
