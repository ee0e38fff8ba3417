-- A condition does not see objects that it does not name.
use Rattle.std.proofs.Common.{◌≡◌, ℕ, suc, ◌+◌, ◌<◌, ◌≤◌, Bool, true, false, List, [], ◌∷◌, length, get_or, refl, sym, ap, ◌∙◌, subst, arith, ℤ, pos, ◌≤ℤ◌, ◌+ℤ◌, eqb, eq-eqb, not}
use lib.Signed.{le_z}
use Rattle.std.specs.List.{list_any}
use Rattle.std.proofs.lemmas.Int.{ints}
use Rattle.std.proofs.lemmas.Bool.{false≢true, or_left, or_right}
use Rattle.geo_base.specs.Boxes.{coordinate}
use Rattle.geo_conditions.specs.declared.cond.Cond.{Cond, Lin, Shape, NotShape, AtLeast, AtLeast', Row_of-Cond, end_of-Cond, more_of-Cond}
use Rattle.geo_conditions.specs.declared.cond.Conds.{Conds}
use Rattle.geo_conditions.specs.declared.form.Term.{Term}
use Rattle.geo_conditions.specs.Reach.{State, Reach, reach, place_in, is_only, just, with_at, count}
use Rattle.geo_conditions.specs.Conditions.{possible, how_many_possible, least_term, least_product, sum_of}
use Rattle.geo_conditions.proofs.Points.{reach_other}
use Rattle.geo_conditions.proofs.Children.{many_possible}
use Rattle.indexical.specs.Free.{Spares, SparesAnywhere}
use Rattle.indexical.specs.Names.{names, any_names}
use Rattle.indexical.proofs.Children.{first_possible, first_step, first_least, counted_true, possible_at_least}

same_terms : (S T : State) (ts : List Term) → ((u : ℕ) → list_any (λ (t : Term). eqb t.object.0 u) ts ≡ true → reach S u ≡ reach T u) → sum_of (least_term S) ts ≡ sum_of (least_term T) ts
same_terms S T [] b = refl
same_terms S T (t ∷ ts) b =
    let e : reach S t.object.0 ≡ reach T t.object.0 = b t.object.0 (or_left (eqb t.object.0 t.object.0) (list_any (λ (u : Term). eqb u.object.0 t.object.0) ts) (eq-eqb t.object.0 t.object.0 refl)) in
    ap (λ (r : Reach). least_product t.factor (coordinate r.region.lo t.dimension) (coordinate r.region.hi t.dimension) +ℤ sum_of (least_term S) ts) e
    ∙ ap (λ (z : ℤ). least_term T t +ℤ z) (same_terms S T ts (λ u n. b u (or_right (eqb t.object.0 u) (list_any (λ (v : Term). eqb v.object.0 u) ts) n)))

mutual
  -- a condition has the same answer where the objects that it names are the same
  pub same_answer : (c : Cond) (S T : State) → ((u : ℕ) → names u c ≡ true → reach S u ≡ reach T u) → possible c S ≡ possible c T
  same_answer (Lin f) S T b = ap (λ (z : ℤ). le_z (f.constant +ℤ z) (pos 0)) (same_terms S T f.terms b)
  same_answer (Shape u s) S T b = ap (λ (r : Reach). place_in r.places s) (b u.0 (eq-eqb u.0 u.0 refl))
  same_answer (NotShape u s) S T b = ap (λ (r : Reach). not (is_only r.places s)) (b u.0 (eq-eqb u.0 u.0 refl))
  same_answer (AtLeast' n shape cs) S T b = ap (λ (m : ℕ). le_z n (pos m)) (same_row cs S T b)

  same_row : {m : _} → (cs : Row_of-Cond m) (S T : State) → ((u : ℕ) → any_names u cs ≡ true → reach S u ≡ reach T u) → how_many_possible cs S ≡ how_many_possible cs T
  same_row end_of-Cond S T b = refl
  same_row (more_of-Cond c cs) S T b =
      ap (λ (a : Bool). count a + how_many_possible cs S) (same_answer c S T (λ u n. b u (or_left (names u c) (any_names u cs) n)))
      ∙ ap (λ (m : ℕ). count (possible c T) + m) (same_row cs S T (λ u n. b u (or_right (names u c) (any_names u cs) n)))

-- where it does not name the object and is possible, it is so wherever that is put
pub spares_unnamed : (c : Cond) (S : State) (o s : ℕ) → names o c ≡ false → possible c S ≡ true → Spares c S o s
spares_unnamed c S o s h y p =
    sym (same_answer c S (with_at S o s (just p)) (λ u n. sym (reach_other S o s u (just p) (λ e. absurd (false≢true (sym h ∙ subst (λ (v : ℕ). names v c ≡ true) e n)))))) ∙ y

-- ---- parts that spare an object

-- of the first i parts at least so many are possible wherever the object is put at that place
abbrev pub SpareAmong : List Cond → State → ℕ → ℕ → ℕ → ℕ → Type 0
SpareAmong xs S o s i sparing = (p : List ℤ) → sparing ≤ first_possible (with_at S o s (just p)) xs i

pub spare_start : (xs : List Cond) (S : State) (o s : ℕ) → SpareAmong xs S o s 0 0
spare_start xs S o s p = omega arith

pub spare_skip : (xs : List Cond) (S : State) (o s i sparing : ℕ) (d : Cond) → i < length xs → SpareAmong xs S o s i sparing → SpareAmong xs S o s (i + 1) sparing
spare_skip xs S o s i sparing d h f p =
    let T = with_at S o s (just p) in
    let e = first_step T xs i d h in
    let j : i + 1 ≡ suc i = omega arith in
    subst (λ (k : ℕ). sparing ≤ first_possible T xs k) (sym j) (omega (arith, f p, e))

pub spare_more : (xs : List Cond) (S : State) (o s i sparing : ℕ) (d : Cond) → i < length xs → SpareAmong xs S o s i sparing → Spares (get_or xs i d) S o s → SpareAmong xs S o s (i + 1) (sparing + 1)
spare_more xs S o s i sparing d h f l p =
    let T = with_at S o s (just p) in
    let e = first_step T xs i d h in
    let one = counted_true (possible (get_or xs i d) T) (l p) in
    let j : i + 1 ≡ suc i = omega arith in
    subst (λ (k : ℕ). sparing + 1 ≤ first_possible T xs k) (sym j) (omega (arith, f p, e, one))

-- where enough do, so does the condition
pub spare_enough : (c : Cond) (n : ℤ) (children : Conds) (xs : List Cond) (S : State) (o s i sparing : ℕ) → c ≡ AtLeast n children → xs ≡ children.items.items → n ≤ℤ pos sparing → SpareAmong xs S o s i sparing → Spares c S o s
spare_enough c n children xs S o s i sparing is same enough f p =
    let T = with_at S o s (just p) in
    let least = first_least T xs i in
    let many = ap (many_possible T) same in
    let few = f p in
    subst (λ (x : Cond). possible x T ≡ true) (sym is) (possible_at_least n children T (omega (arith, ints, least, many, few, enough)))

-- where one is enough, one does
pub spare_there_by_one : (c : Cond) (n : ℤ) (children : Conds) (xs : List Cond) (S : State) (o s i : ℕ) (x : Cond) → c ≡ AtLeast n children → xs ≡ children.items.items → n ≤ℤ pos 1 → i < length xs → x ≡ get_or xs i x → Spares x S o s → Spares c S o s
spare_there_by_one c n children xs S o s i x is same one h e spares =
    spare_enough c n children xs S o s (i + 1) 1 is same one (spare_more xs S o s i 0 x h (λ p. omega arith) (subst (λ (y : Cond). Spares y S o s) e spares))

pub spare_by_one : (c : Cond) (n : ℤ) (children : Conds) (xs : List Cond) (S : State) (o i : ℕ) (x : Cond) → c ≡ AtLeast n children → xs ≡ children.items.items → n ≤ℤ pos 1 → i < length xs → x ≡ get_or xs i x → SparesAnywhere x S o → SparesAnywhere c S o
spare_by_one c n children xs S o i x is same one h e spares s = spare_there_by_one c n children xs S o s i x is same one h e (spares s)
