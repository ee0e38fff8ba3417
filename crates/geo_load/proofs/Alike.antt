-- Two relations that say the same of the objects give the same orders and cycles.
use Rattle.std.proofs.Common.{◌↔◌, ℕ, List, [], ◌∷◌, ◌++◌}
use Rattle.geo_load.specs.Order.{Has, without, BlocksOne, IsClear, IsNext, Loads, IsStuck, IsLeastBlocked, IsWalk, BeginsLeast, IsCycle, IsLoading}
use Rattle.geo_load.specs.declared.order.Loading.{Loading}
use Rattle.geo_load.specs.declared.order.Loading.TheVariants.{Order, Cycle}
use Rattle.geo_load.proofs.Members.{has_without}
use Rattle.geo_load.proofs.Laws.{left_there}

module _ (R S : ℕ → ℕ → Type 0) where
  -- they say the same of these objects
  abbrev pub Agree : List ℕ → Type 0
  Agree objects = (i j : ℕ) → Has objects i → Has objects j → R i j ↔ S i j

  one_alike : (left : List ℕ) (o : ℕ) → Agree left → Has left o → BlocksOne R left o → BlocksOne S left o
  one_alike left o agree own (u, h, n, b) = (u, h, n, (agree o u own h).0 b)

  clear_alike : (left : List ℕ) (o : ℕ) → Agree left → Has left o → IsClear R left o → IsClear S left o
  clear_alike left o agree own clear u h n b = clear u h n ((agree o u own h).1 b)

  next_alike : (left : List ℕ) (o : ℕ) → Agree left → IsNext R left o → IsNext S left o
  next_alike left o agree n = record {
    there = n.there;
    clear = clear_alike left o agree n.there n.clear;
    least = λ u h l. one_alike left u agree h (n.least u h l);
  }

  agree_without : (objects : List ℕ) (o : ℕ) → Agree objects → Agree (without o objects)
  agree_without objects o agree i j h k = agree i j (has_without o objects i h).0 (has_without o objects j k).0

  loads_alike : (objects order left : List ℕ) → Agree objects → Loads R objects order left → Loads S objects order left
  loads_alike objects [] left agree e = e
  loads_alike objects (o ∷ order) left agree (n, l) = (next_alike objects o agree n, loads_alike (without o objects) order left (agree_without objects o agree) l)

  stuck_alike : (left : List ℕ) → Agree left → IsStuck R left → IsStuck S left
  stuck_alike left agree s = record { some = s.some; each = λ o h. one_alike left o agree h (s.each o h) }

  blocked_alike : (left : List ℕ) (o u : ℕ) → Agree left → Has left o → IsLeastBlocked R left o u → IsLeastBlocked S left o u
  blocked_alike left o u agree own b = record {
    there = b.there;
    other = b.other;
    blocked = (agree o u own b.there).0 b.blocked;
    least = λ w h n c. b.least w h n ((agree o w own h).1 c);
  }

  walk_alike : (left path : List ℕ) (o to : ℕ) → Agree left → Has left o → IsWalk R left (o ∷ path) to → IsWalk S left (o ∷ path) to
  walk_alike left [] o to agree own w = blocked_alike left o to agree own w
  walk_alike left (u ∷ path) o to agree own (b, w) = (blocked_alike left o u agree own b, walk_alike left path u to agree b.there w)

  path_alike : (left path : List ℕ) (to : ℕ) → Agree left → BeginsLeast left path → IsWalk R left path to → IsWalk S left path to
  path_alike left [] to agree start w = absurd start
  path_alike left (o ∷ path) to agree start w = walk_alike left path o to agree start.there w

  cycle_alike : (left cycle : List ℕ) → Agree left → IsCycle R left cycle → IsCycle S left cycle
  cycle_alike left cycle agree c = record {
    lead = c.lead;
    first = c.first;
    rest = c.rest;
    begins = c.begins;
    start = c.start;
    walk = path_alike left (c.lead ++ cycle) c.first agree c.start c.walk;
    once = c.once;
  }

  pub loading_alike : (objects : List ℕ) (answer : Loading) → Agree objects → IsLoading R objects answer → IsLoading S objects answer
  loading_alike objects (Order order) agree l = loads_alike objects order [] agree l
  loading_alike objects (Cycle cycle) agree (done, left, l, stuck, c) =
      let own : Agree left = λ i j h k. agree i j (left_there R objects done left l i h) (left_there R objects done left l j k) in
      (done, left, loads_alike objects done left agree l, stuck_alike left own stuck, cycle_alike left cycle own c)
