-- What a loading order and a cycle show.
use Rattle.std.proofs.Common.{◌≡◌, ◌≢◌, ◌<◌, ◌≤◌, ℕ, suc, List, [], ◌∷◌, ◌++◌, length, take, drop, get_or, refl, sym, subst, ap, ◌∙◌, arith, inl, inr}
use Rattle.std.specs.Prelude.{◌⊎◌}
use Rattle.std.specs.List.{remove}
use Rattle.std.proofs.lemmas.Bool.{cases_eq, cases_lt}
use Rattle.geo_load.specs.Order.{Has, IsOnce, IsAscending, without, BlocksOne, IsClear, IsFree, IsOrderOf, IsLess, IsNext, Loads, IsStuck, IsLeastBlocked, IsWalk, IsCycle, IsBestOrder, HasNoOrder, BlocksNext, BeginsLeast, IsRound, IsLoading, Promises}
use Rattle.geo_load.specs.Walk.{IsAt}
use Rattle.geo_load.specs.declared.order.Loading.{Loading}
use Rattle.geo_load.specs.declared.order.Loading.TheVariants.{Order, Cycle}
use Rattle.geo_load.proofs.Members.{has_without, without_has, has_or_not, has_index, index_has, not_before, removed, take_drop, drop_at, has_behind}

module _ (blocks : ℕ → ℕ → Type 0) where
  pub no_members : (xs : List ℕ) → xs ≡ [] → (u : ℕ) → Has xs u → ⊥
  no_members xs e u h = subst (λ (ys : List ℕ). Has ys u) e h

  -- ---- an order that is answered is one, and free

  pub is_order : (objects order : List ℕ) → Loads blocks objects order [] → IsOrderOf objects order × IsFree blocks order
  is_order objects [] e = (record { once = tt; there = λ o h. no_members objects e o h; only = λ o h. absurd h }, tt)
  is_order objects (o ∷ order) (n, l) =
      let r = is_order (without o objects) order l in (
        record {
          once = ((λ h. (has_without o objects o (r.0.only o h)).1 refl), r.0.once);
          there = λ u h. elim (cases_eq u o) [
            | inl e ↦ inl (sym e)
            | inr other ↦ inr (r.0.there u (without_has o objects u h other))
          ];
          only = λ u h. elim h [
            | inl e ↦ subst (λ (w : ℕ). Has objects w) e n.there
            | inr m ↦ (has_without o objects u (r.0.only u m)).0
          ];
        },
        ((λ u m b. let w = has_without o objects u (r.0.only u m) in n.clear u w.0 w.1 b), r.1),
      )

  -- ---- no free order comes before it

  -- the first of a free order blocks none of the others
  first_clear : (objects : List ℕ) (x : ℕ) (xs : List ℕ) → IsOrderOf objects (x ∷ xs) → IsFree blocks (x ∷ xs) → IsClear blocks objects x
  first_clear objects x xs is free u h other b = elim (is.there u h) [
    | inl e ↦ other (sym e)
    | inr m ↦ free.0 u m b
  ]

  rest_of : (objects : List ℕ) (o x : ℕ) (xs : List ℕ) → x ≡ o → IsOrderOf objects (x ∷ xs) → IsOrderOf (without o objects) xs
  rest_of objects o x xs e is = record {
    once = is.once.1;
    there = λ u h. let w = has_without o objects u h in elim (is.there u w.0) [ inl q ↦ absurd (w.1 (sym q ∙ e)) | inr m ↦ m ];
    only = λ u h. without_has o objects u (is.only u (inr h)) (λ q. is.once.0 (subst (λ (w : ℕ). Has xs w) (q ∙ sym e) h));
  }

  pub least : (objects order : List ℕ) → Loads blocks objects order [] → (other : List ℕ) → IsOrderOf objects other → IsFree blocks other → (other ≡ order) ⊎ IsLess order other
  least objects [] e [] is free = inl refl
  least objects [] e (x ∷ xs) is free = absurd (no_members objects e x (is.only x (inl refl)))
  least objects (o ∷ order) (n, l) [] is free = absurd (is.there o n.there)
  least objects (o ∷ order) (n, l) (x ∷ xs) is free = elim (cases_lt o x) [
    | inl before ↦ inr (inl before)
    | inr le ↦ elim (cases_lt x o) [
      | inl behind ↦ absurd (let b = n.least x (is.only x (inl refl)) behind in first_clear objects x xs is free b.0 b.1 b.2 b.3)
      | inr ge ↦ (let same : x ≡ o = omega (arith, le, ge) in elim (least (without o objects) order l xs (rest_of objects o x xs same is) free.1) [
        | inl e ↦ inl (λ i. same i ∷ e i)
        | inr less ↦ inr (inr (sym same, less))
      ])
    ]
  ]

  pub best_order : (objects order : List ℕ) → Loads blocks objects order [] → IsBestOrder blocks objects order
  best_order objects order l = let r = is_order objects order l in record { each = r.0; free = r.1; best = least objects order l }

  -- ---- where objects are left, there is none

  pub left_there : (objects done left : List ℕ) → Loads blocks objects done left → (u : ℕ) → Has left u → Has objects u
  left_there objects [] left e u h = subst (λ (xs : List ℕ). Has xs u) (sym e) h
  left_there objects (o ∷ done) left (n, l) u h = (has_without o objects u (left_there (without o objects) done left l u h)).0

  -- the first of a free order that is left blocks none of those left
  pub record FirstLeft (left other : List ℕ) : Type 0 where
    pub object : ℕ
    pub there : Has left object
    pub clear : (u : ℕ) → Has left u → Has other u → u ≢ object → blocks object u → ⊥

  first_left : (left other : List ℕ) (u : ℕ) → Has left u → Has other u → IsFree blocks other → FirstLeft left other
  first_left left [] u h m free = absurd m
  first_left left (x ∷ xs) u h m free = elim (has_or_not left x) [
    | inl own ↦ record { object = x; there = own; clear = λ w k q other b. elim q [ inl e ↦ other (sym e) | inr r ↦ free.0 w r b ] }
    | inr none ↦ elim m [
      | inl e ↦ absurd (none (subst (λ (w : ℕ). Has left w) (sym e) h))
      | inr r ↦ (let f = first_left left xs u h r free.1 in record {
        object = f.object;
        there = f.there;
        clear = λ w k q other b. elim q [ inl e ↦ none (subst (λ (v : ℕ). Has left v) (sym e) k) | inr s ↦ f.clear w k s other b ];
      })
    ]
  ]

  some_member : (xs : List ℕ) → 0 < length xs → (u : ℕ) × Has xs u
  some_member [] h = absurd (omega (arith, h))
  some_member (x ∷ xs) h = (x, inl refl)

  pub no_order : (objects done left : List ℕ) → Loads blocks objects done left → IsStuck blocks left → HasNoOrder blocks objects
  no_order objects done left l stuck other is free =
      let s = some_member left stuck.some in
      let f = first_left left other s.0 s.1 (is.there s.0 (left_there objects done left l s.0 s.1)) free in
      let b = stuck.each f.object f.there in
      f.clear b.0 b.1 (is.there b.0 (left_there objects done left l b.0 b.1)) b.2 b.3

  -- ---- in a cycle each blocks the next one

  walk_blocks : (left path : List ℕ) (to : ℕ) → IsWalk blocks left path to → BlocksNext blocks path to
  walk_blocks left [] to w = tt
  walk_blocks left (o ∷ []) to w = w.blocked
  walk_blocks left (o ∷ (u ∷ path)) to w = (w.0.blocked, walk_blocks left (u ∷ path) to w.1)

  walk_behind : (left lead path : List ℕ) (first to : ℕ) → IsWalk blocks left (lead ++ first ∷ path) to → IsWalk blocks left (first ∷ path) to
  walk_behind left [] path first to w = w
  walk_behind left (o ∷ []) path first to w = w.1
  walk_behind left (o ∷ (u ∷ lead)) path first to w = walk_behind left (u ∷ lead) path first to w.1

  pub is_round : (left cycle : List ℕ) → IsCycle blocks left cycle → IsRound blocks cycle
  is_round left cycle c =
      subst (IsRound blocks) (sym c.begins)
      (walk_blocks left (c.first ∷ c.rest) c.first (walk_behind left c.lead c.rest c.first c.first
      (subst (λ (xs : List ℕ). IsWalk blocks left (c.lead ++ xs) c.first) c.begins c.walk)))

  pub promises : (objects : List ℕ) (answer : Loading) → IsLoading blocks objects answer → Promises blocks objects answer
  promises objects (Order order) l = best_order objects order l
  promises objects (Cycle cycle) (done, left, l, stuck, c) = (is_round left cycle c, no_order objects done left l stuck)

  -- ---- what is answered are some of the objects

  walk_there : (left path : List ℕ) (o to u : ℕ) → Has left o → IsWalk blocks left (o ∷ path) to → Has (o ∷ path) u → Has left u
  walk_there left [] o to u own w (inl e) = subst (λ (v : ℕ). Has left v) e own
  walk_there left [] o to u own w (inr m) = absurd m
  walk_there left (x ∷ path) o to u own w (inl e) = subst (λ (v : ℕ). Has left v) e own
  walk_there left (x ∷ path) o to u own (b, w) (inr m) = walk_there left path x to u b.there w m

  path_there : (left path : List ℕ) (to u : ℕ) → BeginsLeast left path → IsWalk blocks left path to → Has path u → Has left u
  path_there left [] to u b w m = absurd m
  path_there left (o ∷ path) to u b w m = walk_there left path o to u b.there w m

  pub order_inside : (objects order : List ℕ) → IsLoading blocks objects (Order order) → (u : ℕ) → Has order u → Has objects u
  order_inside objects order l = (is_order objects order l).0.only

  pub cycle_inside : (objects cycle : List ℕ) → IsLoading blocks objects (Cycle cycle) → (u : ℕ) → Has cycle u → Has objects u
  cycle_inside objects cycle (done, left, l, stuck, c) u h = left_there objects done left l u (path_there left (c.lead ++ cycle) c.first u c.start c.walk (has_behind c.lead cycle u h))

  -- ---- along the loops

  pub loads_more : (objects order left : List ℕ) (o : ℕ) → Loads blocks objects order left → IsNext blocks left o → Loads blocks objects (order ++ o ∷ []) (without o left)
  loads_more objects [] left o e n = (subst (λ (xs : List ℕ). IsNext blocks xs o) (sym e) n, ap (without o) e)
  loads_more objects (x ∷ order) left o (m, l) n = (m, loads_more (without x objects) order left o l n)

  pub walk_more : (left path : List ℕ) (last to : ℕ) → IsWalk blocks left path last → IsLeastBlocked blocks left last to → IsWalk blocks left (path ++ last ∷ []) to
  walk_more left [] last to w b = b
  walk_more left (o ∷ []) last to w b = (w, b)
  walk_more left (o ∷ (u ∷ path)) last to w b = (w.0, walk_more left (u ∷ path) last to w.1 b)

  -- ---- by index

  -- the object blocks none of those before i
  abbrev BlocksNoneBefore : List ℕ → ℕ → ℕ → Type 0
  BlocksNoneBefore left o i = (k d : ℕ) → k < i → get_or left k d ≢ o → blocks o (get_or left k d) → ⊥

  pub blocked_index : (left : List ℕ) (o i : ℕ) → BlocksNoneBefore left o i → (w : ℕ) → Has left w → w ≢ o → blocks o w → (k : ℕ) × (i ≤ k) × (k < length left) × ((d : ℕ) → get_or left k d ≡ w)
  blocked_index left o i none w h n b =
      let s = has_index left w h in
      elim (cases_lt s.0 i) [
        | inl before ↦ absurd (none s.0 0 before (λ e. n (sym (s.2 0) ∙ e)) (subst (blocks o) (sym (s.2 0)) b))
        | inr le ↦ (s.0, le, s.1, s.2)
      ]

  pub blocks_none : (left : List ℕ) (o i : ℕ) → BlocksNoneBefore left o i → length left ≤ i → IsClear blocks left o
  blocks_none left o i none l w h n b =
      let s = blocked_index left o i none w h n b in
      let le : i ≤ s.0 = s.1 in
      let lt : s.0 < length left = s.2 in
      omega (arith, l, le, lt)

  pub least_blocked : (left : List ℕ) (o i : ℕ) → IsAscending left → BlocksNoneBefore left o i → i < length left → get_or left i 0 ≢ o → blocks o (get_or left i 0) → IsLeastBlocked blocks left o (get_or left i 0)
  least_blocked left o i a none l n b = record {
    there = index_has left i 0 l;
    other = n;
    blocked = b;
    least = λ w h m c. (
        let s = blocked_index left o i none w h m c in
        subst (λ (v : ℕ). get_or left i 0 ≤ v) (s.3 0) (not_before left i s.0 0 0 a s.1 s.2)
        );
  }

  pub next_at : (left : List ℕ) (i : ℕ) → IsAscending left → i < length left → ((d : ℕ) → IsClear blocks left (get_or left i d)) → ((k d : ℕ) → k < i → BlocksOne blocks left (get_or left k d)) → IsNext blocks left (get_or left i 0)
  next_at left i a l clear before = record {
    there = index_has left i 0 l;
    clear = clear 0;
    least = λ u h lt. (
        let s = has_index left u h in
        elim (cases_lt s.0 i) [
          | inl less ↦ subst (λ (v : ℕ). BlocksOne blocks left v) (s.2 0) (before s.0 0 less)
          | inr ge ↦ (
              let le : get_or left i 0 ≤ u = subst (λ (v : ℕ). get_or left i 0 ≤ v) (s.2 0) (not_before left i s.0 0 0 a ge s.1) in
              absurd (omega (arith, le, lt))
              )
        ]
        );
  }

  pub loads_at : (objects order left : List ℕ) (i : ℕ) → IsAscending left → i < length left → ((d : ℕ) → IsClear blocks left (get_or left i d)) → ((k d : ℕ) → k < i → BlocksOne blocks left (get_or left k d)) → Loads blocks objects order left → Loads blocks objects (order ++ get_or left i 0 ∷ []) (remove left i)
  loads_at objects order left i a l clear before loads =
      subst (λ (xs : List ℕ). Loads blocks objects (order ++ get_or left i 0 ∷ []) xs) (sym (removed left i 0 a l))
      (loads_more objects order left (get_or left i 0) loads (next_at left i a l clear before))

  pub all_block : (left : List ℕ) → ((k d : ℕ) → k < length left → BlocksOne blocks left (get_or left k d)) → (o : ℕ) → Has left o → BlocksOne blocks left o
  all_block left each o h = let s = has_index left o h in subst (λ (v : ℕ). BlocksOne blocks left v) (s.2 0) (each s.0 0 s.1)

  -- ---- the walk to the cycle

  pub begins_more : (left xs : List ℕ) (x : ℕ) → BeginsLeast left xs → BeginsLeast left (xs ++ x ∷ [])
  begins_more left [] x b = absurd b
  begins_more left (y ∷ xs) x b = b

  pub is_cycle : (left path : List ℕ) (k to : ℕ) → IsAt path k to → BeginsLeast left path → IsWalk blocks left path to → IsOnce path → IsCycle blocks left (drop k path)
  is_cycle left path k to at start walk once = record {
    lead = take k path;
    first = to;
    rest = drop (suc k) path;
    begins = drop_at path k 0 at.0 ∙ ap (λ (v : ℕ). v ∷ drop (suc k) path) (at.1 0);
    start = subst (BeginsLeast left) (sym (take_drop k path)) start;
    walk = subst (λ (xs : List ℕ). IsWalk blocks left xs to) (sym (take_drop k path)) walk;
    once = subst IsOnce (sym (take_drop k path)) once;
  }
