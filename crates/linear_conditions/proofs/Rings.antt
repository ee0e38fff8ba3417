-- Products of signed numbers over sums.
use Rattle.std.proofs.Common.{◌≡◌, ℤ, pos, ◌+ℤ◌, ◌-ℤ◌, ◌*ℤ◌, neg_ℤ, sym, ap, ◌∙◌, arith}
use Rattle.std.proofs.lemmas.Int.{ints}
use Rattle.std.proofs.Math.IntN.{ℤ_ind, zero-*ℤ, suc_ℤ-*ℤ, pred_ℤ-*ℤ, +ℤ_idl, +ℤ_one, -ℤ_one, *ℤ_comm}

-- a successor, as a sum
plus_one : (a k : ℤ) → (a +ℤ pos 1) *ℤ k ≡ a *ℤ k +ℤ k
plus_one a k = ap (λ z. z *ℤ k) (+ℤ_one a) ∙ suc_ℤ-*ℤ a k

minus_one : (a k : ℤ) → (a -ℤ pos 1) *ℤ k ≡ a *ℤ k -ℤ k
minus_one a k = ap (λ z. z *ℤ k) (-ℤ_one a) ∙ pred_ℤ-*ℤ a k

shift_up : (a b : ℤ) → (a +ℤ pos 1) +ℤ b ≡ (a +ℤ b) +ℤ pos 1
shift_up a b = omega (arith, ints)

shift_down : (a b : ℤ) → (a +ℤ neg_ℤ (pos 1)) +ℤ b ≡ (a +ℤ b) -ℤ pos 1
shift_down a b = omega (arith, ints)

minus_one' : (a k : ℤ) → (a +ℤ neg_ℤ (pos 1)) *ℤ k ≡ a *ℤ k -ℤ k
minus_one' a k = minus_one a k

abbrev Distributes : ℤ → Type 0
Distributes a = (b k : ℤ) → (a +ℤ b) *ℤ k ≡ a *ℤ k +ℤ b *ℤ k

join_up : (ak bk k s l : ℤ) → s ≡ ak +ℤ bk → l ≡ ak +ℤ k → s +ℤ k ≡ l +ℤ bk
join_up ak bk k s l e h = omega (arith, ints)

join_down : (ak bk k s l : ℤ) → s ≡ ak +ℤ bk → l ≡ ak -ℤ k → s -ℤ k ≡ l +ℤ bk
join_down ak bk k s l e h = omega (arith, ints)

pub distr : (a b k : ℤ) → (a +ℤ b) *ℤ k ≡ a *ℤ k +ℤ b *ℤ k
distr = ℤ_ind Distributes
    (λ b k. ap (λ z. z *ℤ k) (+ℤ_idl b) ∙ sym (+ℤ_idl (b *ℤ k)) ∙ ap (λ z. z +ℤ b *ℤ k) (sym (zero-*ℤ k)))
    (λ n ih b k. ap (λ z. z *ℤ k) (shift_up (pos n) b) ∙ plus_one (pos n +ℤ b) k ∙ join_up (pos n *ℤ k) (b *ℤ k) k _ _ (ih b k) (plus_one (pos n) k))
    (λ n ih b k. ap (λ z. z *ℤ k) (shift_down (neg_ℤ (pos n)) b) ∙ minus_one (neg_ℤ (pos n) +ℤ b) k ∙ join_down (neg_ℤ (pos n) *ℤ k) (b *ℤ k) k _ _ (ih b k) (minus_one' (neg_ℤ (pos n)) k))

pub distl : (k a b : ℤ) → k *ℤ (a +ℤ b) ≡ k *ℤ a +ℤ k *ℤ b
distl k a b = *ℤ_comm k (a +ℤ b) ∙ distr a b k ∙ ap (λ z. z +ℤ b *ℤ k) (*ℤ_comm a k) ∙ ap (λ z. k *ℤ a +ℤ z) (*ℤ_comm b k)

from_sum : (x y z : ℤ) → x ≡ y +ℤ z → y ≡ x -ℤ z
from_sum x y z e = omega (arith, ints)

back : (a b : ℤ) → a ≡ (a -ℤ b) +ℤ b
back a b = omega (arith, ints)

pub sub_distr : (a b k : ℤ) → (a -ℤ b) *ℤ k ≡ a *ℤ k -ℤ b *ℤ k
sub_distr a b k = from_sum _ _ _ (ap (λ z. z *ℤ k) (back a b) ∙ distr (a -ℤ b) b k)

abbrev Associates : ℤ → Type 0
Associates a = (b k : ℤ) → (a *ℤ b) *ℤ k ≡ a *ℤ (b *ℤ k)

pub assoc : (a b k : ℤ) → (a *ℤ b) *ℤ k ≡ a *ℤ (b *ℤ k)
assoc = ℤ_ind Associates
    (λ b k. ap (λ z. z *ℤ k) (zero-*ℤ b) ∙ zero-*ℤ k ∙ sym (zero-*ℤ (b *ℤ k)))
    (λ n ih b k. ap (λ z. z *ℤ k) (plus_one (pos n) b) ∙ distr (pos n *ℤ b) b k ∙ ap (λ z. z +ℤ b *ℤ k) (ih b k) ∙ sym (plus_one (pos n) (b *ℤ k)))
    (λ n ih b k. ap (λ z. z *ℤ k) (minus_one' (neg_ℤ (pos n)) b) ∙ sub_distr (neg_ℤ (pos n) *ℤ b) b k ∙ ap (λ z. z -ℤ b *ℤ k) (ih b k) ∙ sym (minus_one' (neg_ℤ (pos n)) (b *ℤ k)))
