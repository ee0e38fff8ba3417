-- The steps of the record, over plain lists of events.
use Rattle.std.proofs.Common.{◌≡◌, ◌≢◌, ℕ, zero, suc, ◌+◌, ◌-◌, ◌<◌, ◌≤◌, inl, inr, ℤ, pos, negsuc, ◌+ℤ◌, ◌-ℤ◌, ◌≤ℤ◌, ◌<ℤ◌, Bool, true, false, List, [], ◌∷◌, ◌++◌, length, take, set, refl, ap, ◌∙◌, sym, subst, arith, append_assoc, slice_index, nat_eq, if◌then◌else◌}
use Rattle.std.proofs.Math.Seq.{set-append_seam, take-append_seam}
use Rattle.std.proofs.lemmas.List.{length-append}
use Rattle.std.proofs.lemmas.Grind.{common_steps}
use Rattle.std.proofs.lemmas.Int.{ints}
use Rattle.std.proofs.lemmas.Bool.{cases_lt, false≢true}
use Rattle.std.proofs.lemmas.Bool.Decides.{nat_tests}
use Rattle.geo_base.specs.Boxes.{coordinate, Has}
use Rattle.geo_base.specs.Ways.{Advances, dimension, toward, key, start, end}
use Rattle.derivation.specs.declared.event.Event.{Event}
use Rattle.derivation.specs.declared.event.Event.TheVariants.{By, Cut, CutFrom}
use Rattle.derivation.specs.Covers.{CoverTree, Leaf, IsCut, cut_event, events_of}
use Rattle.derivation.specs.Points.{CoversPoints}
use Rattle.derivation.specs.Events.{Continues}
use Rattle.sweep.specs.Chains.{Keys, way_side, IsCutBefore, IsChain, override, open_upto, IsOpen, IsOpenAtJump}
use Rattle.geo_base.proofs.Mirror.{dimension_in, keys_from_has, has_from_keys}
use Rattle.sweep.proofs.Chain.{covers_fewer, IsChain-empty, IsChain-more, IsChain-drawn, part_found, part_run_out, override_at, override_else, by_place}

-- chains with another one at place p
abbrev pub replaced : {X : Type 0} → (ℕ → X) → ℕ → X → ℕ → X
replaced f p x i = if nat_eq i p then x else f i

pub replaced_at : {X : Type 0} (f : ℕ → X) (p : ℕ) (x : X) → replaced f p x p ≡ x
replaced_at f p x = grind (arith, nat_tests)

pub replaced_else : {X : Type 0} (f : ℕ → X) (p : ℕ) (x : X) (i : ℕ) → i ≢ p → replaced f p x i ≡ f i
replaced_else f p x i ne = grind (arith, nat_tests)

module _ (base : List Event) where
  -- the record down to q reads the chains up to q and the place holders before q
  pub open_upto-same : (chain chain' : ℕ → List Event) (holder holder' : ℕ → Event) (q : ℕ) → ((i : ℕ) → i ≤ q → chain' i ≡ chain i) → ((i : ℕ) → i < q → holder' i ≡ holder i)
      → open_upto base chain' holder' q ≡ open_upto base chain holder q
  open_upto-same chain chain' holder holder' zero c h = rw (c 0 (omega arith)) refl
  open_upto-same chain chain' holder holder' (suc p) c h =
      let rest = open_upto-same chain chain' holder holder' p (λ i b. c i (omega arith)) (λ i b. h i (omega arith)) in
      let here = c (suc p) (omega arith) in
      let hold = h p (omega arith) in
      rw (rest, here, hold) refl

  -- what is added at the end is added to the last chain
  pub open_upto-more : (chain : ℕ → List Event) (holder : ℕ → Event) (q : ℕ) (more : List Event) → open_upto base (replaced chain q (chain q ++ more)) holder q ≡ open_upto base chain holder q ++ more
  open_upto-more chain holder zero more = sym (append_assoc base (chain 0) more)
  open_upto-more chain holder (suc p) more =
      let chain' = replaced chain (suc p) (chain (suc p) ++ more) in
      let rest = open_upto-same chain chain' holder holder p (λ i b. let ne : i ≢ suc p = omega arith in replaced_else chain (suc p) (chain (suc p) ++ more) i ne) (λ i b. refl) in
      let here = replaced_at chain (suc p) (chain (suc p) ++ more) in
      rw (rest, here) (sym (append_assoc (open_upto base chain holder p) (holder p ∷ chain (suc p)) more))

  -- the record begins with its first chain
  pub open_upto-begins : (chain : ℕ → List Event) (holder : ℕ → Event) (q : ℕ) → (rest : List Event) × (open_upto base chain holder q ≡ (base ++ chain 0) ++ rest)
  open_upto-begins chain holder zero = ([], grind (arith, common_steps))
  open_upto-begins chain holder (suc p) = let r = open_upto-begins chain holder p in (r.0 ++ (holder p ∷ chain (suc p)), rw r.1 (rw append_assoc refl))

module _ (K lead : ℕ) (up : Bool) (R : ℕ → List ℤ → List ℤ → Bool) (first past : ℕ → ℤ) (base : List Event) where
  -- at the start nothing is recorded
  pub IsOpen-start : (c n : ℕ → ℤ) (marks : List ℕ) → 0 < K → c 0 ≡ first 0 → IsOpen K lead up R first past 0 c n marks base base
  IsOpen-start c n marks some here = record {
    chain = λ p. [];
    holder = λ p. By 1;
    list_is = grind (arith, common_steps);
    marks_are = λ p b. absurd (omega arith);
    chains = λ p b. let e : 0 ≡ p = omega arith in subst (λ (k : ℕ). IsChain K lead up R first past k c n []) e (IsChain-empty K lead up R first past 0 c n some here);
  }

  -- a place holder, and an empty chain behind it
  pub IsOpen-deeper : (q : ℕ) (c n : ℕ → ℤ) (marks marks' : List ℕ) (list : List Event) (e : Event) → suc q < K → c (suc q) ≡ first (suc q)
      → slice_index marks' q ≡ length list → ((i : ℕ) → i ≢ q → slice_index marks' i ≡ slice_index marks i)
      → IsOpen K lead up R first past q c n marks base list → IsOpen K lead up R first past (suc q) c n marks' base (list ++ e ∷ [])
  IsOpen-deeper q c n marks marks' list e deep here mark others was =
      let chain' = replaced was.chain (suc q) [] in
      let holder' = replaced was.holder q e in
      let same = λ (p : ℕ) (b : p ≤ q). open_upto-same base was.chain chain' was.holder holder' p
      (λ i u. let ne : i ≢ suc q = omega arith in replaced_else was.chain (suc q) [] i ne)
      (λ i u. let ne : i ≢ q = omega arith in replaced_else was.holder q e i ne) in
      record {
        chain = chain';
        holder = holder';
        list_is = rw (same q (omega arith), replaced_at was.holder q e, replaced_at was.chain (suc q) [], ← was.list_is) refl;
        marks_are = λ p b. elim (cases_lt p q) [
          | inl l ↦ (let ne : p ≢ q = omega arith in others p ne ∙ was.marks_are p l ∙ ap length (sym (same p (omega arith))))
          | inr m ↦ (let at_q : q ≡ p = omega arith in
              subst (λ (k : ℕ). slice_index marks' k ≡ length (open_upto base chain' holder' k)) at_q (mark ∙ ap length was.list_is ∙ ap length (sym (same q (omega arith)))))
        ];
        chains = λ p b. elim (cases_lt q p) [
          | inl l ↦ (let at_q : suc q ≡ p = omega arith in
              subst (λ (k : ℕ). IsChain K lead up R first past k c n (chain' k)) at_q
              (rw (replaced_at was.chain (suc q) []) (IsChain-empty K lead up R first past (suc q) c n deep here)))
          | inr m ↦ (let ne : p ≢ suc q = omega arith in rw (replaced_else was.chain (suc q) [] p ne) (was.chains p m))
        ];
      }

  -- the box that was found
  pub IsOpenAtJump-found : (q : ℕ) (c n n' s e : ℕ → ℤ) (marks : List ℕ) (list : List Event) (blo bhi : List ℤ) (i : ℕ) (v : ℤ) → q + 1 ≡ K → lead < K
      → ((x : List ℤ) → ((j : ℕ) → j < K → (s j ≤ℤ key K lead up x j) × (key K lead up x j ≤ℤ e j)) → Has K blo bhi x)
      → R i blo bhi ≡ true → ((j : ℕ) → j < K → (s j ≤ℤ c j) × (n' j ≤ℤ (e j +ℤ pos 1)) × (n' j ≤ℤ n j)) → toward up v +ℤ pos 1 ≡ n' q → IsCut K (way_side up (dimension K lead q) v)
      → IsOpen K lead up R first past q c n marks base list
      → IsOpenAtJump K lead up R first past q c n' marks base (list ++ (cut_event (way_side up (dimension K lead q) v) ∷ By i ∷ []))
  IsOpenAtJump-found q c n n' s e marks list blo bhi i v last lead_in box refuted near ends cut was =
      let more = cut_event (way_side up (dimension K lead q) v) ∷ By i ∷ [] in
      let chain' = replaced was.chain q (was.chain q ++ more) in
      let c' = override c q (n' q) in
      let b : q < K = omega arith in
      record {
        chain = chain';
        holder = was.holder;
        list_is = rw was.list_is (sym (open_upto-more base was.chain was.holder q more));
        marks_are = λ p u. was.marks_are p u ∙ ap length (sym (open_upto-same base was.chain chain' was.holder was.holder p
            (λ j w. let ne : j ≢ q = omega arith in replaced_else was.chain q (was.chain q ++ more) j ne) (λ j w. refl)));
        chains = λ p u. let ne : p ≢ q = omega arith in rw (replaced_else was.chain q (was.chain q ++ more) p ne)
            (IsChain-drawn K lead up R first past p c n c n' (was.chain p) (was.chains p (omega arith)) (λ j w. let z : j < K = omega arith in (refl, (near j z).2)) refl);
        last_chain = rw (replaced_at was.chain q (was.chain q ++ more))
            (IsChain-more K lead up R first past q c n c' n' (was.chain q) v (Leaf i) b cut (was.chains q (omega arith))
            (λ j w. let ne : j ≢ q = omega arith in let z : j < K = omega arith in (override_else c q (n' q) j ne, (near j z).2))
            (ends ∙ sym (override_at c q (n' q)))
            (part_found K lead up R first past q c n' s e blo bhi i v last lead_in box refuted (λ j z. ((near j z).0, (near j z).1)) ends));
      }

  -- a chain that has run out is closed
  pub IsOpenAtJump-close : (p : ℕ) (c n : ℕ → ℤ) (marks : List ℕ) (list : List Event) (v : ℤ) → suc p < K → n (suc p) ≡ past (suc p) → toward up v +ℤ pos 1 ≡ n p → IsCut K (way_side up (dimension K lead p) v)
      → IsOpenAtJump K lead up R first past (suc p) c n marks base list
      → IsOpenAtJump K lead up R first past p c n marks base (set (list ++ By 1 ∷ []) (slice_index marks p) (cut_event (way_side up (dimension K lead p) v)))
  IsOpenAtJump-close p c n marks list v deep out ends cut was =
      let ev = cut_event (way_side up (dimension K lead p) v) in
      let a = was.last_chain.plug (Leaf 1) in
      let c1 = override c (suc p) (n (suc p)) in
      let c' = override c p (n p) in
      let more = ev ∷ events_of a in
      let chain' = replaced was.chain p (was.chain p ++ more) in
      let upto = open_upto base was.chain was.holder p in
      let b : p < K = omega arith in
      let ne1 : p ≢ suc p = omega arith in
      let c1_p = override_else c (suc p) (n (suc p)) p ne1 in
      let closed = was.last_chain.events (Leaf 1) in
      record {
        chain = chain';
        holder = was.holder;
        list_is = rw (was.list_is, was.marks_are p (omega arith), append_assoc, set-append_seam, ← closed) (sym (open_upto-more base was.chain was.holder p more));
        marks_are = λ j u. was.marks_are j (omega arith) ∙ ap length (sym (open_upto-same base was.chain chain' was.holder was.holder j
            (λ k w. let ne : k ≢ p = omega arith in replaced_else was.chain p (was.chain p ++ more) k ne) (λ k w. refl)));
        chains = λ j u. let ne : j ≢ p = omega arith in rw (replaced_else was.chain p (was.chain p ++ more) j ne) (was.chains j (omega arith));
        last_chain = rw (replaced_at was.chain p (was.chain p ++ more))
            (IsChain-more K lead up R first past p c n c' n (was.chain p) v a b cut (was.chains p (omega arith))
            (λ j w. let ne : j ≢ p = omega arith in (override_else c p (n p) j ne, omega (arith, ints)))
            (ends ∙ sym (override_at c p (n p)))
            (λ lo hi region pre.
            let part = part_run_out K lead up R first past p c1 n (was.chain (suc p)) v was.last_chain deep (override_at c (suc p) (n (suc p)) ∙ out) ends lo hi region
            (λ i u. let ne : i ≢ suc p = omega arith in (omega (arith, ints, override_else c (suc p) (n (suc p)) i ne, (pre i u).0), (pre i u).1)) in
            covers_fewer K R a (λ q. Keys K lead up lo hi q × (c1 p ≤ℤ key K lead up q p) × (key K lead up q p ≤ℤ toward up v))
            (λ q. Keys K lead up lo hi q × (c p ≤ℤ key K lead up q p) × (key K lead up q p ≤ℤ toward up v))
            (λ q w. (w.0, omega (arith, ints, c1_p, w.1), w.2)) part));
      }

  -- the first chain has run out: the events are a cover of the region
  pub finished : (c n lo hi : ℕ → ℤ) (marks : List ℕ) (list : List Event) → 0 < K → n 0 ≡ past 0 → ((i : ℕ) → i < K → (first i ≤ℤ lo i) × (hi i <ℤ past i))
      → IsOpenAtJump K lead up R first past 0 c n marks base list
      → (t : CoverTree) × (list ++ By 1 ∷ [] ≡ base ++ events_of t) × CoversPoints K R t (Keys K lead up lo hi)
  finished c n lo hi marks list some out region was =
      let a = was.last_chain.plug (Leaf 1) in (
        a,
        rw (was.list_is, append_assoc, ← was.last_chain.events (Leaf 1)) refl,
        was.last_chain.covers lo hi region (λ i b. absurd (omega arith)) (Leaf 1) (inl (refl, λ q w. absurd (omega (arith, ints, w.1, override_at c 0 (n 0), out, (w.0 0 some).1, (region 0 some).1)))),
      )

  -- the turn: c and the jump move on
  pub IsOpen-turned : (q : ℕ) (c n c' n' : ℕ → ℤ) (marks : List ℕ) (list : List Event) → ((i : ℕ) → i < q → (c' i ≡ c i) × (n' i ≡ n i)) → c' q ≡ n q
      → IsOpenAtJump K lead up R first past q c n marks base list → IsOpen K lead up R first past q c' n' marks base list
  IsOpen-turned q c n c' n' marks list same here was = record {
    chain = was.chain;
    holder = was.holder;
    list_is = was.list_is;
    marks_are = was.marks_are;
    chains = λ p b. elim (cases_lt p q) [
      | inl l ↦ IsChain-drawn K lead up R first past p c n c' n' (was.chain p) (was.chains p l) (λ i u. let v : i < q = omega arith in ((same i v).0, omega (arith, ints, (same i v).1))) ((same p l).0)
      | inr m ↦ (let at_q : q ≡ p = omega arith in
          subst (λ (k : ℕ). IsChain K lead up R first past k c' n' (was.chain k)) at_q
          (IsChain-drawn K lead up R first past q (override c q (n q)) n c' n' (was.chain q) was.last_chain
          (λ i u. let ne : i ≢ q = omega arith in ((same i u).0 ∙ sym (override_else c q (n q) i ne), omega (arith, ints, (same i u).1))) (here ∙ sym (override_at c q (n q)))))
    ];
  }

  -- at a point that is free: cut back to the first chain, which covers what comes before in the lead dimension
  pub stopped : (c n lo hi : ℕ → ℤ) (marks : List ℕ) (list : List Event) → 0 < K → ((i : ℕ) → i < K → (first i ≤ℤ lo i) × (hi i <ℤ past i)) → hi 0 <ℤ c 0
      → IsOpen K lead up R first past 0 c n marks base list
      → (t : CoverTree) × (list ++ By 1 ∷ [] ≡ base ++ events_of t) × CoversPoints K R t (Keys K lead up lo hi)
  stopped c n lo hi marks list some region before was =
      let first_chain = was.chains 0 (omega arith) in
      let a = first_chain.plug (Leaf 1) in (
        a,
        rw (was.list_is, append_assoc, ← first_chain.events (Leaf 1)) refl,
        first_chain.covers lo hi region (λ i b. absurd (omega arith)) (Leaf 1) (inl (refl, λ q w. absurd (omega (arith, ints, w.1, before, (w.0 0 some).1)))),
      )

  pub IsOpen-cut : (q : ℕ) (c n : ℕ → ℤ) (marks : List ℕ) (list : List Event) → 0 < q → IsOpen K lead up R first past q c n marks base list → IsOpen K lead up R first past 0 c n marks base (take (slice_index marks 0) list)
  IsOpen-cut zero c n marks list deep was = absurd (omega arith)
  IsOpen-cut (suc q) c n marks list deep was =
      let r = open_upto-begins base was.chain was.holder (suc q) in
      record {
        chain = was.chain;
        holder = was.holder;
        list_is = rw (was.list_is, was.marks_are 0 (omega arith), r.1) (take-append_seam (base ++ was.chain 0) r.0);
        marks_are = λ p b. absurd (omega arith);
        chains = λ p b. was.chains p (omega arith);
      }

-- the cut before a jump x
pub cut_up : (K : ℕ) (up : Bool) (d d' : ℕ) (w x : ℤ) → up ≡ true → d ≡ d' → d < K → (negsuc 2000001 ≤ℤ w) × (w ≤ℤ pos 2000001) → w +ℤ pos 1 ≡ x → IsCutBefore K up d' (toward up x) (Cut d w)
cut_up K true d d' w x u e b s h = (w, ap (λ (k : ℕ). Cut k w) e, h, (omega arith, omega (arith, ints, s.0), omega (arith, ints, s.1)))
cut_up K false d d' w x u e b s h = absurd (false≢true u)

pub cut_down : (K : ℕ) (up : Bool) (d d' : ℕ) (w x : ℤ) → up ≡ false → d ≡ d' → d < K → (negsuc 2000001 ≤ℤ w) × (w ≤ℤ pos 2000002) → w ≡ x +ℤ pos 1 → IsCutBefore K up d' (toward up x) (CutFrom d w)
cut_down K true d d' w x u e b s h = absurd (false≢true (sym u))
cut_down K false d d' w x u e b s h = (w, ap (λ (k : ℕ). CutFrom k w) e, omega (arith, ints, h), (omega arith, omega (arith, ints, s.0), omega (arith, ints, s.1)))

module _ (K lead : ℕ) (up : Bool) (R : ℕ → List ℤ → List ℤ → Bool) (first past : ℕ → ℤ) (base : List Event) (c n : ℕ → ℤ) (marks : List ℕ) (list : List Event) where
  pub Continues-at_jump : (q : ℕ) → IsOpenAtJump K lead up R first past q c n marks base list → Continues base list
  Continues-at_jump q was = let r = open_upto-begins base was.chain was.holder q in (was.chain 0 ++ r.0, was.list_is ∙ r.1 ∙ append_assoc base (was.chain 0) r.0)

  pub Continues-open : (q : ℕ) → IsOpen K lead up R first past q c n marks base list → Continues base list
  Continues-open q was = let r = open_upto-begins base was.chain was.holder q in (was.chain 0 ++ r.0, was.list_is ∙ r.1 ∙ append_assoc base (was.chain 0) r.0)

  pub mark_in : (q p : ℕ) (e : Event) → q ≡ suc p → IsOpenAtJump K lead up R first past q c n marks base list → slice_index marks p < length (list ++ e ∷ [])
  mark_in zero p e same was = absurd (omega arith)
  mark_in (suc q) p e same was =
      let at_p : q ≡ p = omega arith in
      let m = was.marks_are q (omega arith) in
      let l = ap length was.list_is in
      let h : slice_index marks q < length (list ++ e ∷ []) = rw (m, length-append, l, length-append) (omega arith) in
      subst (λ (k : ℕ). slice_index marks k < length (list ++ e ∷ [])) at_p h

  pub close_at : (q p : ℕ) (ev : Event) → q ≡ suc p → q < K → n q ≡ past q → IsCutBefore K up (dimension K lead p) (n p) ev
      → IsOpenAtJump K lead up R first past q c n marks base list
      → IsOpenAtJump K lead up R first past p c n marks base (set (list ++ By 1 ∷ []) (slice_index marks p) ev)
  close_at zero p ev same deep out w was = absurd (omega arith)
  close_at (suc q) p ev same deep out w was =
      let at_p : q ≡ p = omega arith in
      rw w.1 (subst (λ (k : ℕ). toward up w.0 +ℤ pos 1 ≡ n k → IsCut K (way_side up (dimension K lead k) w.0) → IsOpenAtJump K lead up R first past k c n marks base (set (list ++ By 1 ∷ []) (slice_index marks k) (cut_event (way_side up (dimension K lead k) w.0)))) at_p
      (λ e f. IsOpenAtJump-close K lead up R first past base q c n marks list w.0 deep out e f was) w.2 w.3)

-- the box that was found, in the words of a box of points
pub found_box : (K lead : ℕ) (up : Bool) (R : ℕ → List ℤ → List ℤ → Bool) (first past : ℕ → ℤ) (base : List Event) (blo bhi cs : List ℤ) (n : ℕ → ℤ) (marks : List ℕ) (list list' : List Event) (i : ℕ)
    → lead < K → R i blo bhi ≡ true → Has K blo bhi cs → ((j : ℕ) → j < K → n j ≤ℤ (key K lead up (end up blo bhi) j +ℤ pos 1))
    → (e : Event) → IsCutBefore K up (dimension K lead (K - 1)) (n (K - 1)) e → list' ≡ list ++ (e ∷ By i ∷ [])
    → IsOpen K lead up R first past (K - 1) (key K lead up cs) n marks base list
    → IsOpenAtJump K lead up R first past (K - 1) (key K lead up cs) n marks base list'
found_box K lead up R first past base blo bhi cs n marks list list' i lead_in refuted has drawn e w added was =
    rw (added, w.1) (IsOpenAtJump-found K lead up R first past base (K - 1) (key K lead up cs) n n (key K lead up (start up blo bhi)) (key K lead up (end up blo bhi)) marks list blo bhi i w.0 (omega arith) lead_in
    (λ x h. has_from_keys K lead up blo bhi x lead_in h) refuted
    (λ j b. ((keys_from_has K lead up blo bhi cs lead_in has j b).0, drawn j b, omega (arith, ints))) w.2 w.3 was)

pub IsOpen-drawn : (K lead : ℕ) (up : Bool) (R : ℕ → List ℤ → List ℤ → Bool) (first past : ℕ → ℤ) (base : List Event) (q : ℕ) (c n n' : ℕ → ℤ) (marks : List ℕ) (list : List Event)
    → q < K → ((i : ℕ) → i < K → n' i ≤ℤ n i) → IsOpen K lead up R first past q c n marks base list → IsOpen K lead up R first past q c n' marks base list
IsOpen-drawn K lead up R first past base q c n n' marks list b less was = record {
  chain = was.chain;
  holder = was.holder;
  list_is = was.list_is;
  marks_are = was.marks_are;
  chains = λ p h. IsChain-drawn K lead up R first past p c n c n' (was.chain p) (was.chains p h) (λ i u. let v : i < K = omega arith in (refl, less i v)) refl;
}

-- nothing is left: the events are a cover of the region
pub finished_region : (K lead : ℕ) (up : Bool) (R : ℕ → List ℤ → List ℤ → Bool) (lo hi past : List ℤ) (base : List Event) (c n : ℕ → ℤ) (marks : List ℕ) (list : List Event) (j : ℕ) → lead < K
    → ((d : ℕ) → d < K → toward up (coordinate past d) ≡ toward up (coordinate (end up lo hi) d) +ℤ pos 1) → j ≡ 0 → n 0 ≡ key K lead up past 0
    → IsOpenAtJump K lead up R (key K lead up (start up lo hi)) (key K lead up past) j c n marks base list
    → (t : CoverTree) × (list ++ By 1 ∷ [] ≡ base ++ events_of t) × CoversPoints K R t (Has K lo hi)
finished_region K lead up R lo hi past base c n marks list zero lead_in past_is j0 out was =
    let f = finished K lead up R (key K lead up (start up lo hi)) (key K lead up past) base c n (key K lead up (start up lo hi)) (key K lead up (end up lo hi)) marks list (omega arith) out
    (λ i b. (omega (arith, ints), omega (arith, ints, past_is (dimension K lead i) (dimension_in K lead i lead_in b)))) was in
    (f.0, f.1, covers_fewer K R f.0 (Keys K lead up (key K lead up (start up lo hi)) (key K lead up (end up lo hi))) (Has K lo hi) (λ q h. keys_from_has K lead up lo hi q lead_in h) f.2)
finished_region K lead up R lo hi past base c n marks list (suc j) lead_in past_is j0 out was = absurd (omega arith)

pub IsOpen-advanced : (K lead : ℕ) (up : Bool) (R : ℕ → List ℤ → List ℤ → Bool) (first past : ℕ → ℤ) (base : List Event) (j : ℕ) (c n c' n' : ℕ → ℤ) (marks : List ℕ) (list : List Event)
    (step : Advances K first past c n c' n') → step.level ≡ j → IsOpenAtJump K lead up R first past j c n marks base list → IsOpen K lead up R first past j c' n' marks base list
IsOpen-advanced K lead up R first past base j c n c' n' marks list step e was =
    subst (λ (l : ℕ). IsOpenAtJump K lead up R first past l c n marks base list → IsOpen K lead up R first past l c' n' marks base list) e
    (λ w. IsOpen-turned K lead up R first past base step.level c n c' n' marks list step.stays step.moves w) was

-- at a free point
pub stopped_region : (K lead : ℕ) (up : Bool) (R : ℕ → List ℤ → List ℤ → Bool) (lo hi past cs : List ℤ) (base : List Event) (n : ℕ → ℤ) (marks : List ℕ) (list : List Event) → lead < K
    → ((d : ℕ) → d < K → toward up (coordinate past d) ≡ toward up (coordinate (end up lo hi) d) +ℤ pos 1)
    → key K lead up cs 0 ≤ℤ key K lead up (end up lo hi) 0
    → IsOpen K lead up R (key K lead up (start up lo hi)) (key K lead up past) 0 (key K lead up cs) n marks base list
    → (t : CoverTree) × (list ++ By 1 ∷ [] ≡ base ++ events_of t) × CoversPoints K R t (λ q. Has K lo hi q × (key K lead up q 0 <ℤ key K lead up cs 0))
stopped_region K lead up R lo hi past cs base n marks list lead_in past_is before was =
    let k = key K lead up in
    let hi' = override (k (end up lo hi)) 0 (k cs 0 -ℤ pos 1) in
    let hi_0 = override_at (k (end up lo hi)) 0 (k cs 0 -ℤ pos 1) in
    let hi_i = override_else (k (end up lo hi)) 0 (k cs 0 -ℤ pos 1) in
    let f = stopped K lead up R (k (start up lo hi)) (k past) base (k cs) n (k (start up lo hi)) hi' marks list (omega arith)
    (λ i b. by_place 0 i (λ j. (k (start up lo hi) j ≤ℤ k (start up lo hi) j) × (hi' j <ℤ k past j))
    (omega (arith, ints), (let z : 0 < K = omega arith in omega (arith, ints, hi_0, before, past_is (dimension K lead 0) (dimension_in K lead 0 lead_in z))))
    (λ ne. (omega (arith, ints), omega (arith, ints, hi_i i ne, past_is (dimension K lead i) (dimension_in K lead i lead_in b)))))
    (omega (arith, ints, hi_0)) was in (
      f.0,
      f.1,
      covers_fewer K R f.0 (Keys K lead up (k (start up lo hi)) hi') (λ q. Has K lo hi q × (k q 0 <ℤ k cs 0))
          (λ q h i b. by_place 0 i (λ j. (k (start up lo hi) j ≤ℤ k q j) × (k q j ≤ℤ hi' j))
          (let z : 0 < K = omega arith in ((keys_from_has K lead up lo hi q lead_in h.0 0 z).0, omega (arith, ints, hi_0, h.1)))
          (λ ne. let w = keys_from_has K lead up lo hi q lead_in h.0 i b in (w.0, omega (arith, ints, hi_i i ne, w.1)))) f.2,
    )

module _ (K lead : ℕ) (up : Bool) (R : ℕ → List ℤ → List ℤ → Bool) (first past : ℕ → ℤ) (base : List Event) (c n : ℕ → ℤ) (marks : List ℕ) (list : List Event) where
  pub first_mark : (q : ℕ) → 0 < q → IsOpen K lead up R first past q c n marks base list → slice_index marks 0 ≤ length list
  first_mark q deep was =
      let r = open_upto-begins base was.chain was.holder q in
      let l = ap length (was.list_is ∙ r.1) in
      let m = was.marks_are 0 deep in
      let e = length-append (base ++ was.chain 0) r.0 in
      omega (arith, l, m, e)

  pub IsOpen-at_0 : (q : ℕ) → q ≡ 0 → IsOpen K lead up R first past q c n marks base list → IsOpen K lead up R first past 0 c n marks base list
  IsOpen-at_0 q e was = subst (λ (k : ℕ). IsOpen K lead up R first past k c n marks base list) e was
