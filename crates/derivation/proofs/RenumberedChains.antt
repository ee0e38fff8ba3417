-- A derivation from some conditions is one from others, where each number stands for a condition that is refuted with its own.
use Rattle.std.proofs.Common.{◌≡◌, ℕ, ◌+◌, Bool, true, false, ◌&&◌, List, [], ◌∷◌, ◌++◌, length, map, refl, sym, ap, ◌∙◌, subst, inl, inr, arith}
use Rattle.std.proofs.lemmas.List.{map-append}
use Rattle.std.proofs.lemmas.Bool.{cases_lt, or_cases, or_left, or_right, and_parts}
use Rattle.geo_conditions.specs.declared.cond.Cond.{Cond}
use Rattle.geo_conditions.specs.Reach.{State, Region, reach, with_at, dims}
use Rattle.derivation.specs.declared.event.Event.{Event}
use Rattle.derivation.specs.declared.side.Side.{Side}
use Rattle.derivation.specs.declared.side.Side.TheVariants.{Upto, From}
use Rattle.derivation.specs.declared.event.Event.TheVariants.{Cover, EndCovers, Drop, Gone}
use Rattle.derivation.specs.declared.renumbering.Renumbering.{Renumbering}
use Rattle.derivation.specs.Renumbered.{number_for, renumbered, StandsFor}
use Rattle.derivation.specs.Cuts.{near, far, is_empty}
use Rattle.derivation.specs.Covers.{CoverTree, Leaf, Fork, events_of, cut_event, refutes, covers, IsNumber, HasNumbersIn}
use Rattle.derivation.specs.PlaceCovers.{PlaceCover, open_events, covers_events, next_place, is_that, all_cover, HaveNumbersIn}
use Rattle.derivation.specs.Chains.{Link, Drops, Bounds, link_events, bound_event, after, Holds, links_events, behind, EachHolds, Leads, Ending, IsGone, IsDead, ending_events, EndHolds, Closes}

both : (x y : Bool) → x ≡ true → y ≡ true → (x && y) ≡ true
both true y e f = f
both false y e f = e

module _ (r : Renumbering) where
  tree_with : CoverTree → CoverTree
  tree_with (Leaf i) = Leaf (number_for r i)
  tree_with (Fork side a b) = Fork side (tree_with a) (tree_with b)

  cut_stays : (side : Side) → renumbered r (cut_event side) ≡ cut_event side
  cut_stays (Upto d v) = refl
  cut_stays (From d v) = refl

  tree_events : (t : CoverTree) → events_of (tree_with t) ≡ map (renumbered r) (events_of t)
  unfolding tree_with
  tree_events (Leaf i) = refl
  tree_events (Fork side a b) =
      ap (λ (es : List Event). cut_event side ∷ (es ++ events_of (tree_with b))) (tree_events a)
      ∙ ap (λ (es : List Event). cut_event side ∷ (map (renumbered r) (events_of a) ++ es)) (tree_events b)
      ∙ ap (λ (e : Event). e ∷ (map (renumbered r) (events_of a) ++ map (renumbered r) (events_of b))) (sym (cut_stays side))
      ∙ ap (λ (es : List Event). renumbered r (cut_event side) ∷ es) (sym (map-append (renumbered r) (events_of a) (events_of b)))

  cover_with : PlaceCover → PlaceCover
  cover_with c = record { place = c.place; tree = tree_with c.tree }

  covers_with : List PlaceCover → List PlaceCover
  covers_with [] = []
  covers_with (c ∷ more) = cover_with c ∷ covers_with more

  open_covers : (list : List PlaceCover) → open_events (covers_with list) ≡ map (renumbered r) (open_events list)
  unfolding covers_with cover_with
  open_covers [] = refl
  open_covers (c ∷ more) =
      ap (λ (es : List Event). Cover c.place ∷ (es ++ open_events (covers_with more))) (tree_events c.tree)
      ∙ ap (λ (es : List Event). Cover c.place ∷ (map (renumbered r) (events_of c.tree) ++ es)) (open_covers more)
      ∙ ap (λ (es : List Event). Cover c.place ∷ es) (sym (map-append (renumbered r) (events_of c.tree) (open_events more)))

  all_events : (list : List PlaceCover) → covers_events (covers_with list) ≡ map (renumbered r) (covers_events list)
  all_events list = ap (λ (es : List Event). es ++ EndCovers ∷ []) (open_covers list) ∙ sym (map-append (renumbered r) (open_events list) (EndCovers ∷ []))

  link_with : Link → Link
  link_with (Drops o s tree) = Drops o s (tree_with tree)
  link_with (Bounds o side list) = Bounds o side (covers_with list)

  bound_stays : (o : ℕ) (side : Side) → renumbered r (bound_event o side) ≡ bound_event o side
  bound_stays o (Upto d v) = refl
  bound_stays o (From d v) = refl

  one_link : (l : Link) → link_events (link_with l) ≡ map (renumbered r) (link_events l)
  unfolding link_with
  one_link (Drops o s tree) = ap (λ (es : List Event). Drop (record { 0 = o }) s ∷ es) (tree_events tree)
  one_link (Bounds o side list) =
      ap (λ (es : List Event). bound_event o side ∷ es) (all_events list)
      ∙ ap (λ (e : Event). e ∷ map (renumbered r) (covers_events list)) (sym (bound_stays o side))

  links_with : List Link → List Link
  links_with [] = []
  links_with (l ∷ ls) = link_with l ∷ links_with ls

  all_links : (ls : List Link) → links_events (links_with ls) ≡ map (renumbered r) (links_events ls)
  unfolding links_with
  all_links [] = refl
  all_links (l ∷ ls) =
      ap (λ (es : List Event). es ++ links_events (links_with ls)) (one_link l)
      ∙ ap (λ (es : List Event). map (renumbered r) (link_events l) ++ es) (all_links ls)
      ∙ sym (map-append (renumbered r) (link_events l) (links_events ls))

  same_after : (l : Link) (S : State) → after (link_with l) S ≡ after l S
  unfolding link_with
  same_after (Drops o s tree) S = refl
  same_after (Bounds o side list) S = refl

  same_behind : (ls : List Link) (S : State) → behind (links_with ls) S ≡ behind ls S
  unfolding links_with
  same_behind [] S = refl
  same_behind (l ∷ ls) S = ap (behind (links_with ls)) (same_after l S) ∙ same_behind ls (after l S)

  module _ (ps cs : List Cond) (f : StandsFor r ps cs) where
    covered : (S : State) (o s : ℕ) (b : Region) (t : CoverTree) → covers ps S o s b t ≡ true → covers cs S o s b (tree_with t) ≡ true
    unfolding tree_with
    covered S o s b (Leaf i) h = elim (or_cases (is_empty b) (refutes ps i (with_at S o s b)) h) [
      | inl e ↦ or_left (is_empty b) (refutes cs (number_for r i) (with_at S o s b)) e
      | inr e ↦ or_right (is_empty b) (refutes cs (number_for r i) (with_at S o s b)) (f.refuted i (with_at S o s b) e)
    ]
    covered S o s b (Fork side x y) h = elim (or_cases (is_empty b) (covers ps S o s (near side b) x && covers ps S o s (far side b) y) h) [
      | inl e ↦ or_left (is_empty b) (covers cs S o s (near side b) (tree_with x) && covers cs S o s (far side b) (tree_with y)) e
      | inr e ↦
          let parts = and_parts (covers ps S o s (near side b) x) (covers ps S o s (far side b) y) e in
          or_right (is_empty b) (covers cs S o s (near side b) (tree_with x) && covers cs S o s (far side b) (tree_with y))
          (both (covers cs S o s (near side b) (tree_with x)) (covers cs S o s (far side b) (tree_with y)) (covered S o s (near side b) x parts.0) (covered S o s (far side b) y parts.1))
    ]

    within : (i : ℕ) → IsNumber (length ps) i → IsNumber (length cs) (number_for r i)
    within i (inl k) = inl (f.listed i k)
    within i (inr e) = elim (cases_lt 0 (length ps)) [
      | inl some ↦ inl (f.listed i (omega (arith, e, some)))
      | inr none ↦ inr (ap (number_for r) e ∙ f.first (omega (arith, none)))
    ]

    numbered : (k : ℕ) (t : CoverTree) → HasNumbersIn k (length ps) t → HasNumbersIn k (length cs) (tree_with t)
    unfolding tree_with
    numbered k (Leaf i) h = within i h
    numbered k (Fork side x y) h = (h.0, numbered k x h.1, numbered k y h.2)

    all_covered : (S : State) (o : ℕ) (b : Region) (n : ℕ) (list : List PlaceCover) → all_cover ps S o b n list ≡ true → all_cover cs S o b n (covers_with list) ≡ true
    unfolding covers_with cover_with
    all_covered S o b n [] h = h
    all_covered S o b n (c ∷ more) h =
        let first = is_that (next_place n (reach S o).places) c.place in
        let own = covers ps S o c.place b c.tree in
        let rest = all_cover ps S o b (c.place + 1) more in
        let outer = and_parts first (own && rest) h in
        let inner = and_parts own rest outer.1 in
        both first (covers cs S o c.place b (tree_with c.tree) && all_cover cs S o b (c.place + 1) (covers_with more)) outer.0
        (both (covers cs S o c.place b (tree_with c.tree)) (all_cover cs S o b (c.place + 1) (covers_with more)) (covered S o c.place b c.tree inner.0) (all_covered S o b (c.place + 1) more inner.1))

    all_numbered : (k : ℕ) (list : List PlaceCover) → HaveNumbersIn k (length ps) list → HaveNumbersIn k (length cs) (covers_with list)
    unfolding covers_with cover_with
    all_numbered k [] h = tt
    all_numbered k (c ∷ more) h = (numbered k c.tree h.0, all_numbered k more h.1)

    holds_with : (S : State) (l : Link) → Holds ps S l → Holds cs S (link_with l)
    unfolding link_with
    holds_with S (Drops o s tree) h = (h.0, covered S o s (reach S o).region tree h.1, numbered (dims S o) tree h.2)
    holds_with S (Bounds o side list) h = (h.0, h.1, h.2, all_covered S o (far side (reach S o).region) 1 list h.3, all_numbered (dims S o) list h.4)

    each_holds_with : (S : State) (ls : List Link) → EachHolds ps S ls → EachHolds cs S (links_with ls)
    unfolding links_with
    each_holds_with S [] h = tt
    each_holds_with S (l ∷ ls) h = (holds_with S l h.0, subst (λ (T : State). EachHolds cs T (links_with ls)) (sym (same_after l S)) (each_holds_with (after l S) ls h.1))

    -- so a chain is one of the others
    pub leads_with : (S T : State) (es : List Event) → Leads ps S es T → Leads cs S (map (renumbered r) es) T
    leads_with S T es h = record {
      links = links_with h.links;
      events = ap (map (renumbered r)) h.events ∙ sym (all_links h.links);
      state = h.state ∙ sym (same_behind h.links S);
      each_holds = each_holds_with S h.links h.each_holds;
    }

    ending_with : Ending → Ending
    ending_with (IsGone o list) = IsGone o (covers_with list)
    ending_with (IsDead i) = IsDead (number_for r i)

    ending_of : (e : Ending) → ending_events (ending_with e) ≡ map (renumbered r) (ending_events e)
    unfolding ending_with
    ending_of (IsGone o list) = ap (λ (es : List Event). Gone (record { 0 = o }) ∷ es) (all_events list)
    ending_of (IsDead i) = refl

    end_holds_with : (S : State) (e : Ending) → EndHolds ps S e → EndHolds cs S (ending_with e)
    unfolding ending_with
    end_holds_with S (IsGone o list) h = (h.0, all_covered S o (reach S o).region 1 list h.1, all_numbered (dims S o) list h.2)
    end_holds_with S (IsDead i) h = f.refuted i S h

    -- and what closes closes
    pub closes_with : (S : State) (es : List Event) → Closes ps S es → Closes cs S (map (renumbered r) es)
    closes_with S es h = record {
      chain = map (renumbered r) h.chain;
      state = h.state;
      ending = ending_with h.ending;
      events = ap (map (renumbered r)) h.events ∙ map-append (renumbered r) h.chain (ending_events h.ending) ∙ ap (λ (xs : List Event). map (renumbered r) h.chain ++ xs) (sym (ending_of h.ending));
      leads = leads_with S h.state h.chain h.leads;
      holds = end_holds_with h.state h.ending h.holds;
    }
