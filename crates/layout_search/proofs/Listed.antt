-- What a search has listed, and how its listing goes on and ends.
use Rattle.std.proofs.Common.{◌≡◌, ◌≤◌, ◌<◌, ℕ, ℤ, Bool, true, false, List, [], ◌∷◌, ◌++◌, length, map, take, drop, sym, ap, ◌∙◌, subst, arith, refl, None}
use Rattle.std.specs.Prelude.{All, filter, if◌then◌else◌}
use Rattle.std.proofs.lemmas.List.{length-map, append-nil, length-take, length-take-le, map-append, take-append-drop}
use Rattle.std.proofs.Math.Seq.{take-append_seam}
use Rattle.std.proofs.lemmas.List.Elements.{All-append, All-cons, All-nil, filter-append}
use Rattle.geo_base.specs.Tuple.{Tuple}
use Rattle.geo_conditions.specs.Walk.{Tree, IsFront, IsIn, IsWhole, GoesOn, is_full, values, IsListing, EndWord, More, End, OutOfBudget}
use Rattle.geo_conditions.proofs.Fronts.{fronts_agree}
use Rattle.geo_conditions.proofs.Beginnings.{front_begins, take_front}
use Rattle.geo_conditions.proofs.Steps.{front_none}
use Rattle.layout_search.proofs.Outcomes.{same-some}
use Rattle.layout_search.proofs.Walked.{none-kept}
use Rattle.problem_data.specs.Problem.{ProblemData}
use Rattle.problem_data.specs.Cells.{IsWideTuple}
use Rattle.problem_data.specs.Layouts.{IsLayout}
use Rattle.problem_data.specs.WellFormed.{IsWellFormed}
use Rattle.problem_data.proofs.Hulls.{tuple_is_wide}
use Rattle.trail_search.specs.Next.{SearchView, Answers, HasFound}
use Rattle.trail_search.specs.declared.step.Step.TheVariants.{Found, Ended, Budget}
use Rattle.walk_listings.proofs.Listings.{goes_on_from}
use Rattle.layout_search.specs.Page.{IsWalkOf, IsPage}
use Rattle.layout_search.proofs.Layouts.{all-back, full-members, one-layout, tell, layouts-of, the-walk}

-- a search of the walk within that budget that is not over, and has found the layouts
pub record HasListed (p : ProblemData) (W : Tree) (n : ℕ) (a : SearchView) (ts : List Tuple) : Type 0 where
  pub walk : a.walk ≡ W
  pub budget : a.budget ≡ n
  pub over : a.over ≡ None
  pub front : (w : List (List ℤ)) × IsFront W w × (length w ≡ a.walked) × (filter (is_full W) w ≡ map (values W.variables) ts)
  pub few : a.walked ≤ n
  pub layouts : All (IsLayout p) ts

-- a longer front without further full ones has the same full members
since : (W : Tree) (w u : List (List ℤ)) → IsFront W w → IsFront W u → length w ≤ length u → All (λ q. is_full W q ≡ false) (drop (length w) u) → filter (is_full W) u ≡ filter (is_full W) w
since W w u f g short none =
    let own : take (length w) u ≡ w = fronts_agree W (take (length w) u) w (take_front W u (length w) g) f (length-take-le (length w) u short) in
    let parts : filter (is_full W) u ≡ filter (is_full W) (take (length w) u) ++ filter (is_full W) (drop (length w) u) =
    ap (filter (is_full W)) (sym (take-append-drop (length w) u)) ∙ filter-append (is_full W) (take (length w) u) (drop (length w) u)
    in
    parts ∙ ap (λ x. filter (is_full W) x ++ filter (is_full W) (drop (length w) u)) own ∙ ap (λ x. filter (is_full W) w ++ x) (none-kept (is_full W) (drop (length w) u) none) ∙ append-nil (filter (is_full W) w)

alone : (W : Tree) (q : List ℤ) → is_full W q ≡ true → filter (is_full W) (q ∷ []) ≡ q ∷ []
alone W q e = subst (λ (b : Bool). (if b then q ∷ [] else []) ≡ q ∷ []) (sym e) refl

module _ (p : ProblemData) (W : Tree) (n : ℕ) (well : IsWellFormed p) (of : IsWalkOf p W) where
  pub none-listed : (a : SearchView) → a.walk ≡ W → a.budget ≡ n → a.over ≡ None → a.walked ≡ 0 → HasListed p W n a []
  none-listed a walk budget over walked = record {
    walk = walk;
    budget = budget;
    over = over;
    front = ([], front_none W, sym walked, refl);
    few = omega (arith, walked);
    layouts = All-nil (IsLayout p);
  }

  pub one-more : (a b : SearchView) (ts : List Tuple) (t : Tuple) → HasListed p W n a ts → b.walk ≡ a.walk → b.budget ≡ a.budget → Answers a Found b → IsWideTuple p t → HasFound b t → HasListed p W n b (ts ++ t ∷ [])
  one-more a b ts t h same budget (w, q, (front, count), few, none, full, found, most, over) is has =
      let v = h.front.0 in
      let f : IsFront W (w ++ q ∷ []) = subst (λ (V : Tree). IsFront V (w ++ q ∷ [])) (same ∙ h.walk) front in
      let g : IsFront W w = subst (IsFront W) (take-append_seam w (q ∷ [])) (take_front W (w ++ q ∷ []) (length w) f) in
      let nope : All (λ r. is_full W r ≡ false) (drop (length v) w) =
      subst (λ (k : ℕ). All (λ r. is_full W r ≡ false) (drop k w)) (sym h.front.2) (subst (λ (V : Tree). All (λ r. is_full V r ≡ false) (drop a.walked w)) h.walk none)
      in
      let kept : filter (is_full W) w ≡ map (values W.variables) ts = since W v w h.front.1 g (omega (arith, few, h.front.2)) nope ∙ h.front.3 in
      let full' : is_full W q ≡ true = subst (λ (V : Tree). is_full V q ≡ true) h.walk full in
      let e : values W.variables t ≡ q = ap (λ (V : Tree). values V.variables t) (sym (same ∙ h.walk)) ∙ same-some (values b.walk.variables t) q (sym has ∙ found) in
      let l = one-layout p W well of q (all-back (IsIn W) w (q ∷ []) f.members 0 q (omega arith)) full' in
      let it : l.0 ≡ t = tell p W well of l.0 t (tuple_is_wide p l.0 well l.1.tuple) is (l.2 ∙ sym e) in
      record {
        walk = same ∙ h.walk;
        budget = budget ∙ h.budget;
        over = over;
        front = (
          w ++ q ∷ [],
          f,
          count,
          filter-append (is_full W) w (q ∷ []) ∙ (λ i. kept i ++ alone W q full' i) ∙ ap (λ r. map (values W.variables) ts ++ r ∷ []) (sym e) ∙ sym (map-append (values W.variables) ts (t ∷ [])),
        );
        few = omega (arith, most, h.budget);
        layouts = All-append (IsLayout p) ts (t ∷ []) h.layouts (All-cons (IsLayout p) t [] (subst (IsLayout p) it l.1) (All-nil (IsLayout p)));
      }

  module _ (most : ℕ) where
    pub more-page : (a : SearchView) (ts : List Tuple) → HasListed p W n a ts → length ts ≡ most → IsPage p W most n ts More
    more-page a ts h e = record {
      layouts = h.layouts;
      listing = record { walked = h.front.0; front = h.front.1; few = omega (arith, h.few, h.front.2); full = sym h.front.3; ends = length-map ts (values W.variables) ∙ e };
    }

    pub end-page : (a b : SearchView) (ts : List Tuple) → HasListed p W n a ts → b.walk ≡ a.walk → Answers a Ended b → length ts < most → IsPage p W most n ts End
    end-page a b ts h same (w, (front, count), whole, none, few, over) short =
        let f : IsFront W w = subst (λ (V : Tree). IsFront V w) (same ∙ h.walk) front in
        let all : IsWhole W w = subst (λ (V : Tree). IsWhole V w) h.walk whole in
        let begins : h.front.0 ≡ take (length h.front.0) w = front_begins W w h.front.0 (record { members = f.members; in_order = f.in_order; whole = all }) h.front.1 in
        let long : length h.front.0 ≤ length w = omega (arith, ap length begins, length-take (length h.front.0) w) in
        let nope : All (λ r. is_full W r ≡ false) (drop (length h.front.0) w) =
        subst (λ (k : ℕ). All (λ r. is_full W r ≡ false) (drop k w)) (sym h.front.2) (subst (λ (V : Tree). All (λ r. is_full V r ≡ false) (drop a.walked w)) h.walk none)
        in
        record {
          layouts = h.layouts;
          listing = record {
            walked = w;
            front = f;
            few = omega (arith, count, few, h.budget);
            full = sym (since W h.front.0 w h.front.1 f long nope ∙ h.front.3);
            ends = (omega (arith, short, length-map ts (values W.variables)), all);
          };
        }

    pub spent-page : (a b : SearchView) (ts : List Tuple) → HasListed p W n a ts → b.walk ≡ a.walk → Answers a Budget b → length ts < most → IsPage p W most n ts OutOfBudget
    spent-page a b ts h same (w, (front, count), spent, more, none, over) short =
        let f : IsFront W w = subst (λ (V : Tree). IsFront V w) (same ∙ h.walk) front in
        let long : length w ≡ n = count ∙ spent ∙ h.budget in
        let nope : All (λ r. is_full W r ≡ false) (drop (length h.front.0) w) =
        subst (λ (k : ℕ). All (λ r. is_full W r ≡ false) (drop k w)) (sym h.front.2) (subst (λ (V : Tree). All (λ r. is_full V r ≡ false) (drop a.walked w)) h.walk none)
        in
        record {
          layouts = h.layouts;
          listing = record {
            walked = w;
            front = f;
            few = omega (arith, long);
            full = sym (since W h.front.0 w h.front.1 f (omega (arith, long, h.few, h.front.2)) nope ∙ h.front.3);
            ends = (omega (arith, short, length-map ts (values W.variables)), long, subst (λ (V : Tree). GoesOn V w) h.walk more);
          };
        }

    -- from where a search stands its listing goes on
    pub goes-on : (w : List (List ℤ)) (ts : List Tuple) → IsFront W w → filter (is_full W) w ≡ map (values W.variables) ts → length w ≤ n → length ts ≤ most → All (IsLayout p) ts
        → (rest : List Tuple) × (word : EndWord) × IsPage p W most n (ts ++ rest) word
    goes-on w ts front kept few short layouts =
        let walk = the-walk p W well of in
        let own = filter (is_full W) w in
        let r = goes_on_from W walk.0 walk.1 w most n front few (omega (arith, short, ap length kept, length-map ts (values W.variables))) in
        let all = subst (All (λ q. IsIn W q × (is_full W q ≡ true))) (sym r.2.full) (full-members W r.2.walked r.2.front) in
        let l = layouts-of p W well of r.0 (all-back (λ q. IsIn W q × (is_full W q ≡ true)) own r.0 all) in (
          l.0,
          r.1,
          record {
            layouts = All-append (IsLayout p) ts l.0 layouts l.1;
            listing = subst (λ (found : List (List ℤ)). IsListing W most n found r.1) ((λ i. kept i ++ sym l.2 i) ∙ sym (map-append (values W.variables) ts l.0)) r.2;
          },
        )

    pub listed-on : (a : SearchView) (ts : List Tuple) → HasListed p W n a ts → length ts ≤ most → (rest : List Tuple) × (word : EndWord) × IsPage p W most n (ts ++ rest) word
    listed-on a ts h short = goes-on h.front.0 ts h.front.1 h.front.3 (omega (arith, h.few, h.front.2)) short h.layouts
