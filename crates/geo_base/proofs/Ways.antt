-- Lemmas about ways, over plain numbers and functions.
use Rattle.std.proofs.Common.{◌≡◌, ◌≢◌, ℕ, ◌-◌, ◌<◌, ◌≤◌, ℤ, ◌<ℤ◌, ◌↔◌, Bool, true, false, IsTrue, List, rules, arith}
use Rattle.std.specs.Prelude.{int_lt}
use Rattle.std.proofs.lemmas.Int.{ints}
use Rattle.std.proofs.lemmas.Bool.{cases_lt}
use Rattle.geo_base.specs.Ways.{toward, key, Before, Advances}

pub toward_injective : (up : Bool) (a b : ℤ) → toward up a ≡ toward up b → a ≡ b
toward_injective true a b e = e
toward_injective false a b e = omega (arith, ints)

-- which of two numbers comes first, upwards and downwards
pub sooner_up : (up : Bool) (a b u v : ℤ) → up ≡ true → a ≡ u → b ≡ v → IsTrue (int_lt a b) ↔ (toward up u <ℤ toward up v)
sooner_up true a b u v is x y = search (arith, ints, rules)
sooner_up false a b u v is x y = absurd (cc)

pub sooner_down : (up : Bool) (a b u v : ℤ) → up ≡ false → a ≡ u → b ≡ v → IsTrue (int_lt b a) ↔ (toward up u <ℤ toward up v)
sooner_down true a b u v is x y = absurd (cc)
sooner_down false a b u v is x y = search (arith, ints, rules)

less_here : (k l : ℕ → ℤ) (i j : ℕ) → ((d : ℕ) → d < j → k d ≡ l d) → k j ≢ l j → k i <ℤ l i → ((d : ℕ) → d < i → k d ≡ l d) → k j <ℤ l j
less_here k l i j same ne less same_i = grind (arith, ints, cases_lt i j, cases_lt j i)

-- at the first place where p and q differ it is known which comes before the other
pub before_here : (K lead : ℕ) (up : Bool) (p q : List ℤ) (j : ℕ) → j < K → ((i : ℕ) → i < j → key K lead up p i ≡ key K lead up q i)
    → (s : Bool) → IsTrue s ↔ (key K lead up p j ≡ key K lead up q j) → s ≡ false
    → (b : Bool) → IsTrue b ↔ (key K lead up p j <ℤ key K lead up q j) → IsTrue b ↔ Before K lead up p q
before_here K lead up p q j in_k same s alike differ b tells = (
  λ yes. (j, in_k, tells.0 yes, same),
  λ before. tells.1 (less_here (key K lead up p) (key K lead up q) before.0 j same (λ e. grind arith) before.2 before.3),
)

module _ (K j : ℕ) (first past c0 n0 c n c' n' : ℕ → ℤ) (some_left : 0 < j) (j_in : j ≤ K)
    (stays : (i : ℕ) → i < j → (c i ≡ c0 i) × (n i ≡ n0 i))
    (ran_out : (i : ℕ) → j ≤ i → i < K → (n0 i ≡ past i) × (c i ≡ first i) × (n i ≡ past i))
    (reset : n' (j - 1) ≡ past (j - 1))
    (n_others : (i : ℕ) → i < K → i ≢ j - 1 → n' i ≡ n i)
    (c_others : (i : ℕ) → i < K → i ≢ j - 1 → c' i ≡ c i) where
  -- the step at which an advance stops
  pub Advances-stop : c' (j - 1) ≡ n (j - 1) → n (j - 1) ≢ past (j - 1) → Advances K first past c0 n0 c' n'
  Advances-stop moved more_left = record {
    level = j - 1;
    level_in = omega arith;
    moves = grind arith;
    more_left = λ e. more_left (grind arith);
    reset = reset;
    stays = λ i below. grind arith;
    ran_out = λ i above below. grind arith;
  }

  -- a step that carries on
  pub stays_carry : (i : ℕ) → i < j - 1 → (c' i ≡ c0 i) × (n' i ≡ n0 i)
  stays_carry i below = grind arith

  pub ran_out_carry : c' (j - 1) ≡ first (j - 1) → n (j - 1) ≡ past (j - 1) → (i : ℕ) → j - 1 ≤ i → i < K → (n0 i ≡ past i) × (c' i ≡ first i) × (n' i ≡ past i)
  ran_out_carry restarts none_left i above below = grind (arith, cases_lt (j - 1) i)
