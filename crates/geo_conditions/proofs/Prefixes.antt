-- Each prefix of a member of the walk is a member.
use Rattle.std.proofs.Common.{ℕ, zero, suc, ◌<◌, ◌≤◌, List, [], ◌∷◌, length, take, sym, arith, ℤ}
use Rattle.geo_conditions.specs.declared.cond.Cond.{Cond}
use Rattle.geo_conditions.specs.Reach.{State, HasNoEmpty}
use Rattle.geo_conditions.specs.Walk.{Variable, AreOf, Begins, IsMember}
use Rattle.geo_conditions.proofs.Walks.{fixed_first, are_of_same}

-- a beginning, cut after its first values, is a beginning
begins_take : (T : State) (xs : List Variable) (q : List ℤ) (m : ℕ) → HasNoEmpty T → AreOf T xs → Begins T xs q → m < length q → Begins T xs (take (suc m) q)
begins_take T xs [] m n a b h = absurd b
begins_take T [] (v ∷ q) m n a b h = absurd b
begins_take T (x ∷ xs) (v ∷ []) zero n a b h = b
begins_take T (x ∷ xs) (v ∷ []) (suc m) n a b h = absurd (omega arith)
begins_take T (x ∷ xs) (v ∷ w ∷ q) zero n a b h = fixed_first T x v n a.0 b.0
begins_take T (x ∷ xs) (v ∷ w ∷ q) (suc m) n a b h = (b.0, begins_take T xs (w ∷ q) m n a.1 b.1 (omega arith))

member_take_suc : (cs : List Cond) (S : State) (xs : List Variable) (q : List ℤ) (m : ℕ) → AreOf S xs → IsMember cs S xs q → m < length q → IsMember cs S xs (take (suc m) q)
member_take_suc cs S [] [] m a w h = absurd (omega arith)
member_take_suc cs S [] (v ∷ q) m a w h = absurd w
member_take_suc cs S (x ∷ xs) q m a w h =
    (w.0, w.1, w.2, begins_take w.0 (x ∷ xs) q m w.1.nonempty (are_of_same S w.0 (x ∷ xs) (sym w.2.objects) a) w.3 h)

pub member_take : (cs : List Cond) (S : State) (xs : List Variable) (q : List ℤ) (m : ℕ) → AreOf S xs → IsMember cs S xs q → 0 < m → m ≤ length q → IsMember cs S xs (take m q)
member_take cs S xs q zero a w h b = absurd (omega arith)
member_take cs S xs q (suc m) a w h b = member_take_suc cs S xs q m a w (omega arith)
