-- Conditions that are put behind others.
use Rattle.std.proofs.Common.{◌≡◌, List, [], ◌∷◌, ◌++◌, map, refl, sym, ap, ◌∙◌, subst}
use Rattle.std.specs.List.{flat_map}
use Rattle.std.proofs.lemmas.List.{map-append, append_assoc, append-nil}
use Rattle.geo_conditions.specs.declared.cond.Cond.{Cond}
use Rattle.linear_conditions.specs.CondTree.{CondTree, cond_view}
use Rattle.rule_ground.proofs.Lists.{flat-more, map-more}
use Rattle.extent_caps.specs.Capped.{Adds}

pub adds-none : (cs : List Cond) → Adds [] cs cs
adds-none cs = record { added = []; behind = sym (append-nil cs); stand_for = refl }

adds-both : (xs ys : List CondTree) (old now new : List Cond) → Adds xs old now → Adds ys now new → Adds (xs ++ ys) old new
adds-both xs ys old now new h k = record {
  added = h.added ++ k.added;
  behind = k.behind ∙ ap (λ (l : List Cond). l ++ k.added) h.behind ∙ append_assoc old h.added k.added;
  stand_for = map-append cond_view h.added k.added ∙ (λ i. h.stand_for i ++ k.stand_for i);
}

-- those of one element more
pub adds-flat : {X : Type 0} (f : X → List CondTree) (xs ys : List X) (x : X) (old now new : List Cond) → ys ≡ xs ++ x ∷ [] → Adds (flat_map f xs) old now → Adds (f x) now new → Adds (flat_map f ys) old new
adds-flat f xs ys x old now new e h k =
    subst (λ (ts : List CondTree). Adds ts old new) (flat-more f xs ys x [] (flat_map f xs) (flat_map f xs ++ f x) e refl refl) (adds-both (flat_map f xs) (f x) old now new h k)

-- the one of one element more
pub adds-map : {X : Type 0} (f : X → CondTree) (xs ys : List X) (x : X) (old now new : List Cond) (c : Cond) → ys ≡ xs ++ x ∷ [] → Adds (map f xs) old now → new ≡ now ++ c ∷ [] → cond_view c ≡ f x → Adds (map f ys) old new
adds-map f xs ys x old now new c e h k l =
    subst (λ (ts : List CondTree). Adds ts old new) (map-more f xs ys x [] (map f xs) (map f xs ++ f x ∷ []) e refl refl)
    (adds-both (map f xs) (f x ∷ []) old now new h (record { added = c ∷ []; behind = k; stand_for = ap (λ (t : CondTree). t ∷ []) l }))
