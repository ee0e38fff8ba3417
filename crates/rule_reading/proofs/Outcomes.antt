-- From what reading gives of the tokens that are left, to the answer about the whole list.
use Rattle.std.proofs.Common.{◌≡◌, ℕ, ◌+◌, ◌-◌, ◌<◌, ◌≤◌, List, [], ◌∷◌, ◌++◌, drop, length, Option, Some, None, false, inl, inr, refl, sym, ap, ◌∙◌, append_assoc, subst, arith}
use Rattle.std.proofs.lemmas.List.{drop-drop, drop_at, length-drop, length-append}
use Rattle.geo_tokens.specs.declared.token.Token.{Token}
use Rattle.geo_tokens.specs.declared.stop.Stop.{Stop}
use Rattle.geo_tokens.specs.declared.stop.Stop.TheVariants as stops
use Rattle.geo_tokens.specs.Words.{Kinds, Lang, start_of}
use Rattle.geo_tokens.specs.Reading.{Read, Got, Is, Found, Lost, Parts}
use Rattle.geo_tokens.specs.Deep.{IsValue, IsFault, IsDeep, IsReading}
use Rattle.geo_tokens.specs.Gives.{Fails}
use Rattle.geo_tokens.proofs.Lists.{behind, before, cuts}
use Rattle.geo_tokens.proofs.Facts.{Facts}
use Rattle.rule_reading.specs.Outcome.{place_of, IsWithin, HasValue, HasFault, HasDeep, Refuses, IsInside, fault_of}

-- what agrees does not part
agrees : (d v : List Token) → Parts d (d ++ v) → ⊥
agrees [] v h = h
agrees (t ∷ d) v h = h refl

-- ---- parts of a list

module _ (list : List Token) (from : ℕ) (le : from ≤ length list) (run rest : List Token) (parts : drop from list ≡ run ++ rest) where
  lengths : length list - from ≡ length run + length rest
  lengths = sym (length-drop from list) ∙ ap length parts ∙ length-append run rest

  rest_in : length rest ≤ length list
  rest_in = omega (arith, lengths)

  rest_at : drop (length list - length rest) list ≡ rest
  rest_at =
      let n : from + length run ≡ length list - length rest = omega (arith, lengths) in
      ap (λ k. drop k list) (sym n) ∙ sym (drop-drop (length run) from list) ∙ ap (drop (length run)) parts ∙ drop_at run rest (length run) refl

-- ---- levels

module _ {A : Type 0} (L : ℕ → Lang A) (limit : ℕ) (f e : Kinds) (l : Facts (L limit) false f e) where
  cut_inside : (o : Option A) (y : List Token) (s : Token) (d : List Token) → L limit None y → L limit o (y ++ s ∷ d) → ⊥
  cut_inside o y s d c m = l.behind None o y s d c m

  value_within : (w rest : List Token) (a : A) → Found (L limit) w (Some a) rest → IsWithin L limit w
  value_within w rest a r y v q c =
      elim (cuts y v r.run rest (sym q ∙ r.parts)) [
        | behind d p1 p2 ↦ elim (r.only None d (subst (λ (u : List Token). L limit None u) p1 c)) [
          | inl z ↦ (let none : None ≡ Some a = z.1 in absurd cc)
          | inr z ↦ agrees d v (subst (λ (u : List Token). Parts d u) p2 z)
        ]
        | before s d p1 p2 ↦ cut_inside (Some a) y s d c (subst (λ (u : List Token). L limit (Some a) u) p1 r.word)
      ]

  fault_within : (w rest : List Token) → Lost (L limit) w rest → IsWithin L limit w
  fault_within w rest r y v q c =
      elim (cuts y v r.run rest (sym q ∙ r.parts)) [
        | behind d p1 p2 ↦ agrees d v (subst (λ (u : List Token). Parts d u) p2 (r.only None d (subst (λ (u : List Token). L limit None u) p1 c)))
        | before s d p1 p2 ↦ cut_inside r.value y s (d ++ r.more) c (subst (λ (u : List Token). L limit r.value u) (append_assoc y (s ∷ d) r.more) (subst (λ (u : List Token). L limit r.value (u ++ r.more)) p1 r.begins))
      ]

  never_empty : (run : List Token) → L limit None run → 0 < length run
  never_empty [] c = absurd (l.empty None c)
  never_empty (t ∷ run) c = omega arith

  -- ---- the answers

  module _ (list : List Token) (from : ℕ) (le : from ≤ length list) (r : Read A) (is : Is (L limit) (drop from list) r) (reading : IsReading L limit (drop from list) r) where
    value_in_at : (a : A) (rest : List Token) → r ≡ Got (Some a) rest → length rest ≤ length list
    value_in_at a rest h = let v : IsValue L (drop from list) a rest = subst (λ (u : Read A). IsReading L limit (drop from list) u) h reading in rest_in list from le v.run rest v.parts

    has_value_at : (a : A) (rest : List Token) → r ≡ Got (Some a) rest → HasValue L limit list from a (length list - length rest)
    has_value_at a rest h =
        let v : IsValue L (drop from list) a rest = subst (λ (u : Read A). IsReading L limit (drop from list) u) h reading in
        let found : Found (L limit) (drop from list) (Some a) rest = subst (λ (u : Read A). Is (L limit) (drop from list) u) h is in
        record {
          in_list = omega arith;
          value = subst (λ (u : List Token). IsValue L (drop from list) a u) (sym (rest_at list from le v.run rest v.parts)) v;
          within = value_within (drop from list) rest a found;
        }

    fault_from : (end : ℕ) (rest : List Token) → IsFault L (drop from list) rest → Lost (L limit) (drop from list) rest → HasFault L limit end list from (place_of end rest)
    fault_from end rest v lost =
        let at : drop (length list - length rest) list ≡ rest = rest_at list from le v.run rest v.parts in
        record {
          next = length list - length rest;
          in_list = omega arith;
          fault = subst (λ (u : List Token). IsFault L (drop from list) u) (sym at) v;
          within = fault_within (drop from list) rest lost;
          at = ap (place_of end) (sym at);
        }

    deep_short : (rest : List Token) → IsDeep L limit (drop from list) rest → length rest < length list
    deep_short rest v = omega (arith, lengths list from le v.run rest v.parts, never_empty v.run v.cut)

    deep_from : (rest : List Token) → IsDeep L limit (drop from list) rest → HasDeep L limit list from (start_of (drop (length list - length rest - 1) list))
    deep_from rest v =
        let short : length rest < length list = deep_short rest v in
        let n : length list - length rest ≡ (length list - length rest - 1) + 1 = omega arith in
        let at : drop ((length list - length rest - 1) + 1) list ≡ rest = ap (λ k. drop k list) (sym n) ∙ rest_at list from le v.run rest v.parts in
        record {
          token = length list - length rest - 1;
          in_list = omega arith;
          fault = subst (λ (u : List Token). IsDeep L limit (drop from list) u) (sym at) v;
          at = refl;
        }

    stop_inside_at : (e : Stop) → Fails e r → IsInside list e
    stop_inside_at stops.Memory h = tt
    stop_inside_at (stops.Wrong rest) h = let v : IsFault L (drop from list) rest.now = subst (λ (u : Read A). IsReading L limit (drop from list) u) h reading in rest_in list from le v.run rest.now v.parts
    stop_inside_at (stops.Deep rest) h = deep_short rest.now (subst (λ (u : Read A). IsReading L limit (drop from list) u) h reading)

    stop_refuses_at : (end : ℕ) (e : Stop) → Fails e r → Refuses (fault_of end list e) L limit end list from
    stop_refuses_at end stops.Memory h = tt
    stop_refuses_at end (stops.Wrong rest) h = fault_from end rest.now (subst (λ (u : Read A). IsReading L limit (drop from list) u) h reading) (subst (λ (u : Read A). Is (L limit) (drop from list) u) h is)
    stop_refuses_at end (stops.Deep rest) h = deep_from rest.now (subst (λ (u : Read A). IsReading L limit (drop from list) u) h reading)

  -- the same of a reader, at the tokens w that are left of the list
  module _ (at : List Token → Read A) (is : (w : List Token) → Is (L limit) w (at w)) (reading : (w : List Token) → IsReading L limit w (at w)) (list : List Token) (from : ℕ) (le : from ≤ length list) (w : List Token) (q : w ≡ drop from list) where
    pub value_in : (a : A) (rest : List Token) → at w ≡ Got (Some a) rest → length rest ≤ length list
    value_in a rest h = value_in_at list from le (at (drop from list)) (is (drop from list)) (reading (drop from list)) a rest (ap at (sym q) ∙ h)

    pub has_value : (a : A) (rest : List Token) → at w ≡ Got (Some a) rest → HasValue L limit list from a (length list - length rest)
    has_value a rest h = has_value_at list from le (at (drop from list)) (is (drop from list)) (reading (drop from list)) a rest (ap at (sym q) ∙ h)

    pub stop_inside : (e : Stop) → Fails e (at w) → IsInside list e
    stop_inside e h = stop_inside_at list from le (at (drop from list)) (is (drop from list)) (reading (drop from list)) e (subst (λ (u : List Token). Fails e (at u)) q h)

    pub stop_refuses : (end : ℕ) (e : Stop) → Fails e (at w) → Refuses (fault_of end list e) L limit end list from
    stop_refuses end e h = stop_refuses_at list from le (at (drop from list)) (is (drop from list)) (reading (drop from list)) end e (subst (λ (u : List Token). Fails e (at u)) q h)
