-- What the condition of two boxes asks of places before it can be in the way of one of them.
use Rattle.std.proofs.Common.{◌≡◌, ◌≢◌, ◌⊎◌, ◌==◌, ℕ, ◌+◌, ◌<◌, ◌^◌, true, false, not, List, length, get_or, sym, ap, ◌∙◌, subst, inl, inr, None, Some, Option, ℤ, pos, ◌≤ℤ◌, eqb-true, arith}
use Rattle.std.specs.Prelude.{IfSome}
use Rattle.std.proofs.lemmas.Bool.{false≢true, false_from_ne_true, or_cases}
use Rattle.geo_conditions.specs.declared.cond.Cond.{Cond, NotShape, AtLeast}
use Rattle.geo_conditions.specs.declared.cond.Conds.{Conds}
use Rattle.geo_conditions.specs.declared.object.ObjId.{ObjId}
use Rattle.geo_conditions.specs.Reach.{State, Reach, is_only, only, reach, just, with_at}
use Rattle.geo_conditions.specs.Conditions.{possible, FitsIn}
use Rattle.geo_conditions.proofs.Points.{reach_same, reach_other}
use Rattle.geo_conditions.proofs.Sets.{only_out, only_same}
use Rattle.indexical.specs.declared.placed.PlacedBox.{PlacedBox}
use Rattle.indexical.specs.declared.facing.Facing.{Facing}
use Rattle.indexical.specs.Apart.{apart_parts, MustOverlap, SaysApart}
use Rattle.indexical.specs.Faces.{SparesElsewhere, LeavesFreeUnless, SparesUnless, IsBeside, Faces}
use Rattle.indexical.specs.Free.{Spares}
use Rattle.indexical.specs.Names.{names}
use Rattle.indexical.proofs.Unnamed.{spare_more, spare_enough}
use Rattle.indexical.proofs.PutBoxes.{other_way, possible_says, stands_out, shape_out}

-- What a condition says of two boxes, the one of the object first.
record SaysBeside {K : ℕ} (x y : PlacedBox K) (c : Cond) : Type 0 where
  free : (T : State) → (MustOverlap x y T → ⊥) → possible c T ≡ true
  named : (v : ℕ) → names v c ≡ true → (v ≡ x.object.0) ⊎ (v ≡ y.object.0)
  first : (S : State) → FitsIn c S → x.object.0 < length S
  second : (S : State) → FitsIn c S → y.object.0 < length S

-- the same of the other object
other_beside : {K : ℕ} (x y : PlacedBox K) (c : Cond) → SaysBeside x y c → SaysBeside y x c
other_beside x y c says = record {
  free = λ T f. says.free T (λ m. f (other_way x y T m));
  named = λ v n. elim (says.named v n) [ inl e ↦ inr e | inr e ↦ inl e ];
  first = says.second;
  second = says.first;
}

module _ {K : ℕ} (a b : PlacedBox K) (short : length (apart_parts a b) < 2 ^ 63) (c : Cond) (says : SaysApart a b short c) where
  named_either : (v : ℕ) → names v c ≡ true → (v ≡ a.object.0) ⊎ (v ≡ b.object.0)
  named_either v n = elim (or_cases (a.object.0 == v) (b.object.0 == v) (sym (says.named v) ∙ n)) [
    | inl e ↦ inl (sym (eqb-true a.object.0 v e))
    | inr e ↦ inr (sym (eqb-true b.object.0 v e))
  ]

  first_beside : SaysBeside a b c
  first_beside = record {
    free = possible_says a b short c says;
    named = named_either;
    first = λ S h. (says.exist S h).0;
    second = λ S h. (says.exist S h).1;
  }

  second_beside : SaysBeside b a c
  second_beside = other_beside a b c first_beside

module _ {K : ℕ} (x y : PlacedBox K) (c : Cond) (says : SaysBeside x y c) (ne : y.object.0 ≢ x.object.0) where
  elsewhere : (s : ℕ) → x.leaf ≡ true → x.place ≡ s → SparesElsewhere c x.object.0 s
  elsewhere s leaf e S t fits there other p = says.free (with_at S x.object.0 t (just p)) (λ m.
      let stands : is_only (only t) x.place ≡ true = stands_out x y S t there ne (just p) m leaf in
      other (sym (only_same t x.place (only_out (only t) x.place stands).0) ∙ e))

  unless : (s : ℕ) → y.leaf ≡ true → y.place ≡ s → SparesUnless c x.object.0 y.object.0 s
  unless s leaf e S fits there not_only t p = says.free (with_at S x.object.0 t (just p)) (λ m.
      let shape : is_only (reach S y.object.0).places y.place ≡ true = shape_out x y S t there ne (just p) m leaf in
      false≢true (sym not_only ∙ subst (λ (v : ℕ). is_only (reach S y.object.0).places v ≡ true) e shape))

module _ {K : ℕ} (x y : PlacedBox K) (c : Cond) (says : SaysBeside x y c) (ne : y.object.0 ≢ x.object.0) where
  alone : (s : ℕ) → x.leaf ≡ true → x.place ≡ s → LeavesFreeUnless c x.object.0 s
  alone s leaf e S fits there not_only o t p other named = elim (says.named o named) [
    | inl q ↦ absurd (other q)
    | inr q ↦ subst (λ (v : ℕ). possible c (with_at S v t (just p)) ≡ true) (sym q) (unless y x c (other_beside x y c says) (λ i. ne (sym i)) s leaf e S fits (says.second S fits) not_only t p)
  ]

  faces : (f : Facing) → (f.place ≢ 0 → (x.leaf ≡ true) × (x.place ≡ f.place)) → f.other ≡ Some y.object → (f.other_place ≢ 0 → (y.leaf ≡ true) × (y.place ≡ f.other_place)) → Faces c x.object.0 f
  faces f own other other_place = record {
    place = λ h. elsewhere x y c says ne f.place (own h).0 (own h).1;
    alone = λ h. alone f.place (own h).0 (own h).1;
    other = subst (λ (u : Option ObjId). IfSome u (λ v. IsBeside c x.object.0 v.0 f.other_place)) (sym other) (record {
      apart = ne;
      named = says.named;
      exists = says.second;
      place = λ h. unless x y c says ne f.other_place (other_place h).0 (other_place h).1;
    });
  }

module _ {K : ℕ} (a b : PlacedBox K) (short : length (apart_parts a b) < 2 ^ 63) (c : Cond) (says : SaysApart a b short c) (before : a.object.0 < b.object.0) (o : ℕ) (f : Facing) where
  pub faces_first : a.object.0 ≡ o → (f.place ≢ 0 → (a.leaf ≡ true) × (a.place ≡ f.place)) → f.other ≡ Some b.object → (f.other_place ≢ 0 → (b.leaf ≡ true) × (b.place ≡ f.other_place)) → Faces c o f
  faces_first is own other other_place = subst (λ (v : ℕ). Faces c v f) is (faces a b c (first_beside a b short c says) (λ e. absurd (omega arith)) f own other other_place)

  pub faces_second : b.object.0 ≡ o → (f.place ≢ 0 → (b.leaf ≡ true) × (b.place ≡ f.place)) → f.other ≡ Some a.object → (f.other_place ≢ 0 → (a.leaf ≡ true) × (a.place ≡ f.other_place)) → Faces c o f
  faces_second is own other other_place = subst (λ (v : ℕ). Faces c v f) is (faces b a c (second_beside a b short c says) (λ e. absurd (omega arith)) f own other other_place)

-- ---- a part that says that the object has another place

-- an object that is put at another place has not this one
spares_other : (S : State) (o : ObjId) (s t : ℕ) → o.0 < length S → t ≢ s → Spares (NotShape o s) S o.0 t
spares_other S o s t there other p =
    ap (λ (r : Reach). not (is_only r.places s)) (reach_same S o.0 t (just p) there)
    ∙ ap not (false_from_ne_true (is_only (only t) s) (λ k. other (sym (only_same t s (only_out (only t) s k).0))))

-- an object that has not the place alone has not if another one is put
spares_alone : (S : State) (o : ObjId) (s v t : ℕ) → o.0 ≢ v → is_only (reach S o.0).places s ≡ false → Spares (NotShape o s) S v t
spares_alone S o s v t ne not_only p = ap (λ (r : Reach). not (is_only r.places s)) (reach_other S v t o.0 (just p) ne) ∙ ap not not_only

-- where one part is enough, and one says so, the condition asks for that place
pub faces_part : (c : Cond) (n : ℤ) (children : Conds) (xs : List Cond) (i : ℕ) (x : Cond) (o : ObjId) (s : ℕ) (f : Facing) → c ≡ AtLeast n children → xs ≡ children.items.items → n ≤ℤ pos 1 → i < length xs → get_or xs i x ≡ NotShape o s
    → f.place ≡ s → f.other ≡ None → Faces c o.0 f
faces_part c n children xs i x o s f is same one h part place other = record {
  place = λ some S t fits there else_where.
      let spared : Spares (get_or xs i x) S o.0 t = subst (λ (y : Cond). Spares y S o.0 t) (sym part) (spares_other S o s t there (λ e. else_where (e ∙ sym place))) in
      spare_enough c n children xs S o.0 t (i + 1) 1 is same one (spare_more xs S o.0 t i 0 x h (λ p. omega arith) spared);
  alone = λ some S fits there not_only v t p ne named.
      let here : is_only (reach S o.0).places s ≡ false = subst (λ (y : ℕ). is_only (reach S o.0).places y ≡ false) place not_only in
      let spared : Spares (get_or xs i x) S v t = subst (λ (y : Cond). Spares y S v t) (sym part) (spares_alone S o s v t (λ e. ne (sym e)) here) in
      spare_enough c n children xs S v t (i + 1) 1 is same one (spare_more xs S v t i 0 x h (λ q. omega arith) spared) p;
  other = subst (λ (u : Option ObjId). IfSome u (λ v. IsBeside c o.0 v.0 f.other_place)) (sym other) tt;
}
