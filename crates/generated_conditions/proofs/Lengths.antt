-- How long lists are that are joined from lists.
use Rattle.std.proofs.Common.{◌≡◌, ℕ, zero, suc, ◌+◌, ◌-◌, ◌*◌, ◌<◌, ◌≤◌, List, [], ◌∷◌, length, get_or, refl, arith}
use Rattle.std.specs.List.{flat_map, range_with_len}
use Rattle.std.proofs.lemmas.List.{length-append}
use Rattle.rule_print.proofs.Respelled.{AllOf}

-- what holds of each number holds of all in a range
pub range_all : (P : ℕ → Type 0) (a n : ℕ) → ((i : ℕ) → a ≤ i → i < a + n → P i) → AllOf P (range_with_len a n)
range_all P a zero h = tt
range_all P a (suc n) h =
    let here : a ≤ a = omega arith in
    let first : a < a + suc n = omega arith in
    (h a here first, range_all P (a + 1) n (λ i low high. (let l : a ≤ i = omega arith in let u : i < a + suc n = omega arith in h i l u)))

pub index_all : {A : Type 0} (P : A → Type 0) (xs : List A) (i : ℕ) (d : A) → AllOf P xs → i < length xs → P (get_or xs i d)
index_all P [] i d h less = absurd (omega arith)
index_all P (x ∷ xs) zero d h less = h.0
index_all P (x ∷ xs) (suc i) d h less = let fewer : i < length xs = omega arith in index_all P xs i d h.1 fewer

-- lists of one length
pub flat_length : {X A : Type 0} (f : X → List A) (each : ℕ) (xs : List X) → AllOf (λ x. length (f x) ≡ each) xs → length (flat_map f xs) ≡ length xs * each
flat_length f each [] h = omega arith
flat_length f each (x ∷ xs) h =
    let first : length (f x) ≡ each = h.0 in
    let others : length (flat_map f xs) ≡ length xs * each = flat_length f each xs h.1 in
    rw length-append (omega arith)

pub range_length : {A : Type 0} (f : ℕ → List A) (each a n : ℕ) → ((i : ℕ) → a ≤ i → i < a + n → length (f i) ≡ each) → length (flat_map f (range_with_len a n)) ≡ n * each
range_length f each a zero h = omega arith
range_length f each a (suc n) h =
    let here : a ≤ a = omega arith in
    let less : a < a + suc n = omega arith in
    let first : length (f a) ≡ each = h a here less in
    let others : length (flat_map f (range_with_len (a + 1) n)) ≡ n * each = range_length f each (a + 1) n (λ i low high. (let l : a ≤ i = omega arith in let u : i < a + suc n = omega arith in h i l u)) in
    rw length-append (omega arith)

-- so many for each two of n
abbrev pub for_pairs : ℕ → ℕ → ℕ
for_pairs each zero = 0
for_pairs each (suc n) = n * each + for_pairs each n

-- lists each of which has so many for each number behind its own
pub pairs_length : {A : Type 0} (f : ℕ → List A) (each a n : ℕ) → ((i : ℕ) → a ≤ i → i < a + n → length (f i) ≡ (a + n - (i + 1)) * each) → length (flat_map f (range_with_len a n)) ≡ for_pairs each n
pairs_length f each a zero h = refl
pairs_length f each a (suc n) h =
    let here : a ≤ a = omega arith in
    let less : a < a + suc n = omega arith in
    let behind : a + suc n - (a + 1) ≡ n = omega arith in
    let first : length (f a) ≡ n * each = rw behind at (h a here less) in
    let others : length (flat_map f (range_with_len (a + 1) n)) ≡ for_pairs each n = pairs_length f each (a + 1) n (λ i low high. (
    let l : a ≤ i = omega arith in
    let u : i < a + suc n = omega arith in
    let same : a + suc n - (i + 1) ≡ a + 1 + n - (i + 1) = omega arith in
    rw same at (h i l u))) in
    rw length-append (omega arith)
