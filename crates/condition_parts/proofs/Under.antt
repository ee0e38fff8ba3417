-- Parts under literals of which one is enough.
use Rattle.std.proofs.Common.{◌≡◌, ℕ, ◌+◌, ◌<◌, ◌≤◌, ◌⊎◌, Bool, true, false, ◌||◌, List, [], ◌∷◌, ◌++◌, length, get_or, take, refl, sym, ap, ◌∙◌, subst, inl, inr, arith, ℤ, pos, append_assoc}
use Rattle.std.specs.List.{All}
use Rattle.std.proofs.lemmas.Bool.{cases_Bool, or_cases, or_left, or_right}
use Rattle.std.proofs.lemmas.List.{take_all, append-nil, length-append, get_or_append_left, get_or-append-add}
use Rattle.std.proofs.lemmas.List.Folds.{list_any_more}
use Rattle.std.proofs.lemmas.List.Elements.{All-nil, All-cons, All-append, All-get_or, All-more, All-take}
use Rattle.geo_conditions.specs.declared.cond.Cond.{Cond, AtLeast}
use Rattle.geo_conditions.specs.declared.cond.Conds.{Conds}
use Rattle.geo_conditions.specs.Reach.{State}
use Rattle.geo_conditions.specs.Conditions.{possible, FitsIn, AllFit}
use Rattle.geo_conditions.specs.Supported.{NoneRefuted}
use Rattle.geo_conditions.proofs.Children.{fit_out}
use Rattle.condition_parts.specs.Literals.{some_possible, AddsTo, AddsAll, IsOneOf}
use Rattle.condition_parts.specs.Parts.{IsEither, PutsUnder, PutsUnderAll, IsAllOf}
use Rattle.condition_parts.proofs.Either.{one_enough, all_enough, all_needed}

pub all_left : (P : Cond → Type 0) (xs ys : List Cond) → All P (xs ++ ys) → All P xs
all_left P xs ys h k d l = let long = length-append xs ys in subst P (get_or_append_left xs ys d k l) (h k d (omega (arith, l, long)))

pub all_right : (P : Cond → Type 0) (xs ys : List Cond) → All P (xs ++ ys) → All P ys
all_right P xs ys h k d l = let long = length-append xs ys in subst P (get_or-append-add xs ys k d) (h (length xs + k) d (omega (arith, l, long)))

-- ---- a part of its own

pub one_part : (before literals middle : List Cond) (c p : Cond) (old new : List Cond) → AddsAll before [] middle → AddsTo c middle literals → IsOneOf literals p → new ≡ old ++ p ∷ [] → PutsUnder before c old new
one_part before literals middle c p old new a b o e =
    let same : (S : State) → possible p S ≡ (some_possible before S || possible c S) = λ S. o.same S ∙ b.same S ∙ ap (λ (x : Bool). x || possible c S) (a.same S) in (
      p ∷ [],
      e,
      record {
        needed = λ S h. All-cons (λ d. possible d S ≡ true) p [] (same S ∙ h) (All-nil (λ d. possible d S ≡ true));
        enough = λ S h. sym (same S) ∙ All-get_or (λ d. possible d S ≡ true) (p ∷ []) 0 p (omega arith) h;
        fit = λ S first own. All-cons (λ d. FitsIn d S) p [] (o.fit S (b.fit S (a.fit S (All-nil (λ d. FitsIn d S)) first) own)) (All-nil (λ d. FitsIn d S));
      },
    )

-- ---- the parts of one condition after another

-- the parts of the first i of some conditions
pub record AreUnderFirst (before cs : List Cond) (i : ℕ) (parts : List Cond) : Type 0 where
  pub needed : (S : State) → All (λ c. IsEither before c S) cs → NoneRefuted parts S
  pub enough : (S : State) → NoneRefuted parts S → All (λ c. IsEither before c S) (take i cs)
  pub fit : (S : State) → AllFit before S → AllFit cs S → AllFit parts S

abbrev pub PutsFirst : List Cond → List Cond → ℕ → List Cond → List Cond → Type 0
PutsFirst before cs i old new = (parts : List Cond) × (new ≡ old ++ parts) × AreUnderFirst before cs i parts

pub puts_none : (before cs old : List Cond) → PutsFirst before cs 0 old old
puts_none before cs old = (
  [],
  sym (append-nil old),
  record {
    needed = λ S h. All-nil (λ d. possible d S ≡ true);
    enough = λ S h. All-nil (λ c. IsEither before c S);
    fit = λ S a b. All-nil (λ d. FitsIn d S);
  },
)

pub puts_more : (before cs old now new : List Cond) (i : ℕ) (c : Cond) → i < length cs → c ≡ get_or cs i c → PutsFirst before cs i old now → PutsUnder before c now new → PutsFirst before cs (i + 1) old new
puts_more before cs old now new i c h is a b =
    let P = λ (S : State) (d : Cond). possible d S ≡ true in (
      a.0 ++ b.0,
      b.1 ∙ ap (λ (xs : List Cond). xs ++ b.0) a.1 ∙ append_assoc old a.0 b.0,
      record {
        needed = λ S all. All-append (P S) a.0 b.0 (a.2.needed S all) (b.2.needed S (subst (λ (d : Cond). IsEither before d S) (sym is) (All-get_or (λ d. IsEither before d S) cs i c h all)));
        enough = λ S all. All-more (λ d. IsEither before d S) cs i c h (a.2.enough S (all_left (P S) a.0 b.0 all)) (subst (λ (d : Cond). IsEither before d S) is (b.2.enough S (all_right (P S) a.0 b.0 all)));
        fit = λ S first all. All-append (λ d. FitsIn d S) a.0 b.0 (a.2.fit S first all) (b.2.fit S first (subst (λ (d : Cond). FitsIn d S) (sym is) (All-get_or (λ d. FitsIn d S) cs i c h all)));
      },
    )

pub puts_all : (before cs old now : List Cond) (i : ℕ) → length cs ≤ i → PutsFirst before cs i old now → PutsUnderAll before cs old now
puts_all before cs old now i h a = (
  a.0,
  a.1,
  record {
    needed = a.2.needed;
    enough = λ S all. subst (All (λ c. IsEither before c S)) (take_all i cs h) (a.2.enough S all);
    fit = a.2.fit;
  },
)

-- ---- all of some conditions, and one of some

-- either the literal, or all
either_all : (before xs : List Cond) (S : State) → All (λ c. IsEither before c S) xs → (some_possible before S ≡ true) ⊎ NoneRefuted xs S
either_all before xs S h = elim (cases_Bool (some_possible before S)) [
  | inl e ↦ inl e
  | inr e ↦ inr (λ k d l. sym (ap (λ (b : Bool). b || possible (get_or xs k d) S) e) ∙ h k d l)
]

pub under_all : (before : List Cond) (n : ℤ) (children : Conds) (c : Cond) (xs old new : List Cond) → c ≡ AtLeast n children → xs ≡ children.items.items → n ≡ pos (length children.items.items) → PutsUnderAll before xs old new → PutsUnder before c old new
under_all before n children c xs old new e same all a = (
  a.0,
  a.1,
  record {
    needed = λ S h. a.2.needed S (elim (or_cases (some_possible before S) (possible c S) h) [
      | inl first ↦ λ k d l. or_left (some_possible before S) (possible (get_or xs k d) S) first
      | inr own ↦
          let each : NoneRefuted xs S = subst (λ (ys : List Cond). NoneRefuted ys S) (sym same) (all_needed n children S all (sym (ap (λ (d : Cond). possible d S) e) ∙ own)) in
          λ k d l. or_right (some_possible before S) (possible (get_or xs k d) S) (each k d l)
    ]);
    enough = λ S h. elim (either_all before xs S (a.2.enough S h)) [
      | inl first ↦ or_left (some_possible before S) (possible c S) first
      | inr each ↦ or_right (some_possible before S) (possible c S) (ap (λ (d : Cond). possible d S) e ∙ all_enough n children S all (subst (λ (ys : List Cond). NoneRefuted ys S) same each))
    ];
    fit = λ S first own. a.2.fit S first (subst (λ (ys : List Cond). AllFit ys S) (sym same) (fit_out n children S (subst (λ (d : Cond). FitsIn d S) e own)));
  },
)

or_assoc : (a b c : Bool) → ((a || b) || c) ≡ (a || (b || c))
or_assoc true b c = refl
or_assoc false b c = refl

-- the last one behind the others, which are literals that go before
pub under_either : (before literals : List Cond) (n : ℤ) (children : Conds) (c : Cond) (xs firsts old new : List Cond) (last : ℕ) (d : Cond) → c ≡ AtLeast n children → n ≡ pos 1 → xs ≡ children.items.items → firsts ≡ take last xs → last + 1 ≡ length xs → d ≡ get_or xs last d
    → AddsAll firsts before literals → PutsUnder literals d old new → PutsUnder before c old new
under_either before literals n children c xs firsts old new last d e one same front long is a b =
    let whole : (S : State) → some_possible xs S ≡ (some_possible (take last xs) S || possible d S) = λ S.
    ap (λ (ys : List Cond). some_possible ys S) (sym (take_all (last + 1) xs (omega (arith, long))))
    ∙ list_any_more (λ x. possible x S) xs last d (omega (arith, long))
    ∙ ap (λ (x : Cond). some_possible (take last xs) S || possible x S) (sym is) in
    let says : (S : State) → possible c S ≡ some_possible xs S = λ S. ap (λ (x : Cond). possible x S) e ∙ one_enough n children S one ∙ ap (λ (ys : List Cond). some_possible ys S) (sym same) in
    let either : (S : State) → (some_possible literals S || possible d S) ≡ (some_possible before S || possible c S) = λ S.
    ap (λ (x : Bool). x || possible d S) (a.same S ∙ ap (λ (ys : List Cond). some_possible before S || some_possible ys S) front)
    ∙ or_assoc (some_possible before S) (some_possible (take last xs) S) (possible d S)
    ∙ ap (λ (x : Bool). some_possible before S || x) (sym (whole S) ∙ sym (says S)) in
    let all_fit : (S : State) → FitsIn c S → AllFit xs S = λ S own. subst (λ (ys : List Cond). AllFit ys S) (sym same) (fit_out n children S (subst (λ (x : Cond). FitsIn x S) e own)) in (
      b.0,
      b.1,
      record {
        needed = λ S h. b.2.needed S (either S ∙ h);
        enough = λ S h. sym (either S) ∙ b.2.enough S h;
        fit = λ S first own. b.2.fit S
            (a.fit S first (subst (λ (ys : List Cond). AllFit ys S) (sym front) (All-take (λ x. FitsIn x S) last xs (all_fit S own))))
            (subst (λ (x : Cond). FitsIn x S) (sym is) (All-get_or (λ x. FitsIn x S) xs last d (omega (arith, long)) (all_fit S own)));
      },
    )

-- ---- the parts of a condition

pub parts_whole : (c : Cond) (all rest : List Cond) (first : Cond) → PutsUnder [] c [] all → all ≡ rest ++ first ∷ [] → IsAllOf c (rest ++ first ∷ [])
parts_whole c all rest first a e =
    let same : a.0 ≡ rest ++ first ∷ [] = sym a.1 ∙ e in
    subst (IsAllOf c) same (record {
      needed = a.2.needed;
      enough = a.2.enough;
      fit = λ S own. a.2.fit S (All-nil (λ d. FitsIn d S)) own;
    })
