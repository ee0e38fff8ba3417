-- Objects have one order or one cycle.
use Rattle.std.proofs.Common.{◌≡◌, ◌==◌, ℕ, Bool, true, false, List, [], ◌∷◌, ◌++◌, if◌then◌else◌, refl, sym, subst, ap, ◌∙◌, arith, inl, inr}
use Rattle.std.specs.Prelude.{◌⊎◌}
use Rattle.std.proofs.lemmas.Bool.{cases_lt, eq-eqb, eqb-true}
use Rattle.geo_load.specs.Order.{Has, HasNot, IsOnce, without, IsNext, Loads, IsStuck, IsLeast, IsLeastBlocked, IsWalk, BeginsLeast, IsCycle, IsLoading}
use Rattle.geo_load.specs.declared.order.Loading.TheVariants.{Order, Cycle}
use Rattle.geo_load.proofs.Laws.{no_members, best_order, no_order}

-- ---- lists in which each object stands once

-- what stands behind the first f
abbrev behind : ℕ → List ℕ → List ℕ
behind f [] = []
behind f (x ∷ xs) = if x == f then xs else behind f xs

has_middle : (lead rest : List ℕ) (f : ℕ) → Has (lead ++ f ∷ rest) f
has_middle [] rest f = inl refl
has_middle (x ∷ lead) rest f = inr (has_middle lead rest f)

behind_is : (lead rest : List ℕ) (f : ℕ) → IsOnce (lead ++ f ∷ rest) → behind f (lead ++ f ∷ rest) ≡ rest
behind_is [] rest f once = ap (λ (b : Bool). if b then rest else behind f rest) (eq-eqb f f refl)
behind_is (x ∷ lead) rest f once = go (x == f) refl (behind_is lead rest f once.1)
  where
    go : (b : Bool) → (x == f) ≡ b → behind f (lead ++ f ∷ rest) ≡ rest → behind f (x ∷ (lead ++ f ∷ rest)) ≡ rest
    go true e more = absurd (once.0 (subst (λ (w : ℕ). Has (lead ++ f ∷ rest) w) (sym (eqb-true x f e)) (has_middle lead rest f)))
    go false e more = ap (λ (b : Bool). if b then (lead ++ f ∷ rest) else behind f (lead ++ f ∷ rest)) e ∙ more

-- the path has each object once and none of the front, and its end is met again there or in the front
record IsClosed (front path : List ℕ) (to : ℕ) : Type 0 where
  once : IsOnce path
  fresh : (w : ℕ) → Has front w → HasNot path w
  met : Has front to ⊎ Has path to

closed_more : (front path : List ℕ) (o u to : ℕ) → IsClosed front (o ∷ (u ∷ path)) to → IsClosed (o ∷ front) (u ∷ path) to
closed_more front path o u to c = record {
  once = c.once.1;
  fresh = λ w h m. elim h [
    | inl e ↦ c.once.0 (subst (λ (v : ℕ). Has (u ∷ path) v) (sym e) m)
    | inr k ↦ c.fresh w k (inr m)
  ];
  met = elim c.met [
    | inl h ↦ inl (inr h)
    | inr h ↦ elim h [ inl e ↦ inl (inl e) | inr m ↦ inr m ]
  ];
}

-- a path that is closed does not go on
closed_ends : (front path : List ℕ) (o to other : ℕ) → IsClosed front (o ∷ []) to → IsClosed front (o ∷ (to ∷ path)) other → ⊥
closed_ends front path o to other c d = elim c.met [
  | inl h ↦ d.fresh to h (inr (inl refl))
  | inr h ↦ elim h [ inl e ↦ d.once.0 (inl (sym e)) | inr m ↦ absurd m ]
]

module _ (blocks : ℕ → ℕ → Type 0) where
  next_once : (left : List ℕ) (o u : ℕ) → IsNext blocks left o → IsNext blocks left u → o ≡ u
  next_once left o u a b = elim (cases_lt o u) [
    | inl l ↦ absurd (let c = b.least o a.there l in a.clear c.0 c.1 c.2 c.3)
    | inr l ↦ elim (cases_lt u o) [
      | inl k ↦ absurd (let c = a.least u b.there k in b.clear c.0 c.1 c.2 c.3)
      | inr k ↦ omega (arith, l, k)
    ]
  ]

  least_once : (left : List ℕ) (o u : ℕ) → IsLeast left o → IsLeast left u → o ≡ u
  least_once left o u a b = let l = a.least u b.there in let k = b.least o a.there in omega (arith, l, k)

  blocked_once : (left : List ℕ) (o u w : ℕ) → IsLeastBlocked blocks left o u → IsLeastBlocked blocks left o w → u ≡ w
  blocked_once left o u w a b =
      let l = a.least w b.there b.other b.blocked in
      let k = b.least u a.there a.other a.blocked in
      omega (arith, l, k)

  -- ---- orders

  orders_once : (objects order other : List ℕ) → Loads blocks objects order [] → Loads blocks objects other [] → order ≡ other
  orders_once objects [] [] e f = refl
  orders_once objects [] (o ∷ other) e (n, l) = absurd (no_members blocks objects e o n.there)
  orders_once objects (o ∷ order) [] (n, l) e = absurd (no_members blocks objects e o n.there)
  orders_once objects (o ∷ order) (u ∷ other) (n, l) (m, k) =
      let e = next_once objects o u n m in
      let r = orders_once (without o objects) order other l (subst (λ (w : ℕ). Loads blocks (without w objects) other []) (sym e) k) in
      λ i. e i ∷ r i

  -- those left are stuck, so none of them is next
  stuck_not_next : (objects left : List ℕ) (o : ℕ) → objects ≡ left → IsStuck blocks left → IsNext blocks objects o → ⊥
  stuck_not_next objects left o e s n =
      let m = subst (λ (xs : List ℕ). IsNext blocks xs o) e n in
      let b = s.each o m.there in
      m.clear b.0 b.1 b.2 b.3

  left_once : (objects done left other rest : List ℕ) → Loads blocks objects done left → IsStuck blocks left → Loads blocks objects other rest → IsStuck blocks rest → left ≡ rest
  left_once objects [] left [] rest e s f r = sym e ∙ f
  left_once objects [] left (o ∷ other) rest e s (n, l) r = absurd (stuck_not_next objects left o e s n)
  left_once objects (o ∷ done) left [] rest (n, l) s f r = absurd (stuck_not_next objects rest o f r n)
  left_once objects (o ∷ done) left (u ∷ other) rest (n, l) s (m, k) r =
      let e = next_once objects o u n m in
      left_once (without o objects) done left other rest l s (subst (λ (w : ℕ). Loads blocks (without w objects) other rest) (sym e) k) r

  -- ---- cycles

  walks_once : (left front path other : List ℕ) (o to end : ℕ) → IsClosed front (o ∷ path) to → IsClosed front (o ∷ other) end → IsWalk blocks left (o ∷ path) to → IsWalk blocks left (o ∷ other) end → (path ≡ other) × (to ≡ end)
  walks_once left front [] [] o to end c d w v = (refl, blocked_once left o to end w v)
  walks_once left front [] (u ∷ other) o to end c d w (b, v) =
      absurd (closed_ends front other o to end c (subst (λ (x : ℕ). IsClosed front (o ∷ (x ∷ other)) end) (blocked_once left o u to b w) d))
  walks_once left front (u ∷ path) [] o to end c d (b, w) v =
      absurd (closed_ends front path o end to d (subst (λ (x : ℕ). IsClosed front (o ∷ (x ∷ path)) to) (blocked_once left o u end b v) c))
  walks_once left front (u ∷ path) (x ∷ other) o to end c d (b, w) (a, v) =
      let e = blocked_once left o u x b a in
      let r = walks_once left (o ∷ front) path other u to end (closed_more front path o u to c)
      (subst (λ (y : ℕ). IsClosed (o ∷ front) (y ∷ other) end) (sym e) (closed_more front other o x end d))
      w (subst (λ (y : ℕ). IsWalk blocks left (y ∷ other) end) (sym e) v) in
      ((λ i. e i ∷ r.0 i), r.1)

  paths_once : (left path other : List ℕ) (to end : ℕ) → BeginsLeast left path → BeginsLeast left other → IsOnce path → IsOnce other → Has path to → Has other end
      → IsWalk blocks left path to → IsWalk blocks left other end → (path ≡ other) × (to ≡ end)
  paths_once left [] other to end a b c d h k w v = absurd a
  paths_once left (o ∷ path) [] to end a b c d h k w v = absurd b
  paths_once left (o ∷ path) (u ∷ other) to end a b c d h k w v =
      let e = least_once left o u a b in
      let r = walks_once left [] path other o to end (record { once = c; fresh = λ x n. absurd n; met = inr h })
      (record { once = subst (λ (x : ℕ). IsOnce (x ∷ other)) (sym e) d; fresh = λ x n. absurd n; met = inr (subst (λ (x : ℕ). Has (x ∷ other) end) (sym e) k) })
      w (subst (λ (x : ℕ). IsWalk blocks left (x ∷ other) end) (sym e) v) in
      ((λ i. e i ∷ r.0 i), r.1)

  -- the cycle is met in its path, and is what stands there from its first object on
  cycle_path : (left cycle : List ℕ) (c : IsCycle blocks left cycle) → Has (c.lead ++ cycle) c.first × (cycle ≡ c.first ∷ behind c.first (c.lead ++ cycle))
  cycle_path left cycle c =
      let whole : c.lead ++ cycle ≡ c.lead ++ c.first ∷ c.rest = ap (λ (xs : List ℕ). c.lead ++ xs) c.begins in
      let is = behind_is c.lead c.rest c.first (subst IsOnce whole c.once) in (
        subst (λ (xs : List ℕ). Has xs c.first) (sym whole) (has_middle c.lead c.rest c.first),
        c.begins ∙ sym (ap (λ (xs : List ℕ). c.first ∷ behind c.first xs) whole ∙ ap (λ (xs : List ℕ). c.first ∷ xs) is),
      )

  cycles_once : (left cycle other : List ℕ) → IsCycle blocks left cycle → IsCycle blocks left other → cycle ≡ other
  cycles_once left cycle other c d =
      let a = cycle_path left cycle c in
      let b = cycle_path left other d in
      let e = paths_once left (c.lead ++ cycle) (d.lead ++ other) c.first d.first c.start d.start c.once d.once a.0 b.0 c.walk d.walk in
      a.1 ∙ (λ i. e.1 i ∷ behind (e.1 i) (e.0 i)) ∙ sym b.1

  -- ---- the answer

  pub one_order : (objects order other : List ℕ) → IsLoading blocks objects (Order order) → IsLoading blocks objects (Order other) → order ≡ other
  one_order objects order other l k = orders_once objects order other l k

  pub one_cycle : (objects cycle other : List ℕ) → IsLoading blocks objects (Cycle cycle) → IsLoading blocks objects (Cycle other) → cycle ≡ other
  one_cycle objects cycle other (done, left, l, s, c) (more, rest, k, r, d) =
      let e = left_once objects done left more rest l s k r in
      cycles_once left cycle other c (subst (λ (xs : List ℕ). IsCycle blocks xs other) (sym e) d)

  pub not_both : (objects order cycle : List ℕ) → IsLoading blocks objects (Order order) → IsLoading blocks objects (Cycle cycle) → ⊥
  not_both objects order cycle l (done, left, k, stuck, c) =
      let best = best_order blocks objects order l in no_order blocks objects done left k stuck order best.each best.free
