-- A loop that reads items behind marks, and then perhaps another one that ends them.
use Rattle.std.proofs.Common.{◌≡◌, ℕ, zero, suc, ◌<◌, ◌≤◌, List, [], ◌∷◌, ◌++◌, length, drop, Option, Some, None, Bool, true, false, ◌&&◌, refl, sym, ap, ◌∙◌, append_assoc, subst, arith}
use Rattle.std.specs.Prelude.{if◌then◌else◌}
use Rattle.std.proofs.lemmas.List.{append-nil, length-append}
use Rattle.geo_tokens.specs.declared.token.Token.{Token}
use Rattle.geo_tokens.specs.Class.{class_of}
use Rattle.geo_tokens.specs.Words.{Kinds, has, Lang}
use Rattle.geo_tokens.specs.Reading.{Read, Got, Wrong, ◌>>=◌, Is, Found, next_is, token_at, opt_at, up_to_ended_at, many_ended_at}
use Rattle.geo_tokens.proofs.Facts.{MayBeEmpty}
use Rattle.geo_tokens.proofs.Good.{Good}

-- the items before, and those that are read behind them
abbrev pub with_items : {A B : Type 0} → List A → Read (List A × Option B) → Read (List A × Option B)
with_items front read = read >>= λ r rest. Got (Some (front ++ r.0, r.1)) rest

regroup : {A B : Type 0} (front : List A) (a : A) (x : Read (List A × Option B)) → with_items front (x >>= λ q last. Got (Some (a ∷ q.0, q.1)) last) ≡ with_items (front ++ a ∷ []) x
regroup front a (Got (Some q) rest) = ap (λ u. Got (Some (u, q.1)) rest) (sym (append_assoc front (a ∷ []) q.0))
regroup front a (Got None rest) = refl
regroup front a (Wrong rest) = refl

-- a mark and what stands behind it, where a mark stands
abbrev pub end_at : {B : Type 0} → Kinds → (List Token → Read B) → List Token → Read (Option B)
end_at marks s = opt_at marks (λ v. token_at marks v >>= λ m v1. s v1 >>= λ x rest. Got (Some (Some x)) rest) None

module _ {A B : Type 0} (marks : Kinds) (L : Lang A) (r : List Token → Read A) (s : List Token → Read B) (f e : Kinds) (good : Good L r false f e) where
  abbrev items_at : List Token → Read (List A × Option B)
  items_at w = many_ended_at marks f r s w

  abbrev item_at : ℕ → Read A → Read (List A × Option B)
  item_at k x = x >>= λ a v. up_to_ended_at marks f r s k v >>= λ q last. Got (Some (a ∷ q.0, q.1)) last

  abbrev last_at : List Token → Read (List A × Option B)
  last_at w = s w >>= λ x rest. Got (Some ([], Some x)) rest

  -- behind a mark: an item, or what ends them
  abbrev behind_at : Bool → ℕ → List Token → Read (List A × Option B)
  behind_at b k w = if b then item_at k (r w) else last_at w

  abbrev from_at : Bool → ℕ → Token → List Token → Read (List A × Option B)
  from_at m k t w = if m then ((if m then Got (Some t) w else Wrong (t ∷ w)) >>= (λ u v. behind_at (next_is f v) k v)) else Got (Some ([], None)) (t ∷ w)

  -- ---- more fuel than tokens changes nothing

  solid : (o : Option A) → MayBeEmpty false o → ⊥
  solid None i = i
  solid (Some a) i = absurd cc

  shorter : (w rest : List Token) (o : Option A) → Found L w o rest → length rest < length w
  shorter w rest o x = at x.run x.word x.parts
    where
      at : (run : List Token) → L o run → w ≡ run ++ rest → length rest < length w
      at [] lw q = absurd (solid o (good.facts.empty o lw))
      at (t ∷ run) lw q = omega (arith, ap length q, length-append run rest)

  item_same : (k j : ℕ) (w : List Token) (x : Read A) → Is L w x → ((v : List Token) → length v < length w → up_to_ended_at marks f r s k v ≡ up_to_ended_at marks f r s j v) → item_at k x ≡ item_at j x
  item_same k j w (Got (Some a) rest) y ih = ap (λ (u : Read (List A × Option B)). u >>= λ q last. Got (Some (a ∷ q.0, q.1)) last) (ih rest (shorter w rest (Some a) y))
  item_same k j w (Got None rest) y ih = refl
  item_same k j w (Wrong rest) y ih = refl

  behind_same : (b : Bool) (k j : ℕ) (w : List Token) → ((v : List Token) → length v < length w → up_to_ended_at marks f r s k v ≡ up_to_ended_at marks f r s j v) → behind_at b k w ≡ behind_at b j w
  behind_same true k j w ih = item_same k j w (r w) (good.reads w) ih
  behind_same false k j w ih = refl

  from_same : (m : Bool) (k j : ℕ) (t : Token) (w : List Token) → behind_at (next_is f w) k w ≡ behind_at (next_is f w) j w → from_at m k t w ≡ from_at m j t w
  from_same true k j t w x = x
  from_same false k j t w x = refl

  none_left : (k : ℕ) → up_to_ended_at marks f r s k [] ≡ Got (Some ([], None)) []
  none_left zero = refl
  none_left (suc k) = refl

  steady : (k j : ℕ) (w : List Token) → length w ≤ k → length w ≤ j → up_to_ended_at marks f r s k w ≡ up_to_ended_at marks f r s j w
  steady k j [] p q = none_left k ∙ sym (none_left j)
  steady zero j (t ∷ w) p q = absurd (omega (arith, p))
  steady (suc k) zero (t ∷ w) p q = absurd (omega (arith, q))
  steady (suc k) (suc j) (t ∷ w) p q = from_same (has marks (class_of t.kind)) k j t w (behind_same (next_is f w) k j w (λ v l. steady k j v (omega (arith, l, p)) (omega (arith, l, q))))

  -- ---- the loop

  step_of : (m : Bool) (k : ℕ) (t : Token) (w : List Token) → m ≡ true → next_is f w ≡ true → from_at m k t w ≡ item_at k (r w)
  step_of m k t w is test = ap (λ (u : Bool). from_at u k t w) is ∙ ap (λ (u : Bool). behind_at u k w) test

  -- one more item was read
  pub item_goes_on : (front : List A) (w after : List Token) (a : A) (total : Read (List A × Option B)) → next_is marks w ≡ true → next_is f (drop 1 w) ≡ true → r (drop 1 w) ≡ Got (Some a) after
      → with_items front (items_at w) ≡ total → with_items (front ++ a ∷ []) (items_at after) ≡ total
  item_goes_on front [] after a total test name is so_far = absurd cc
  item_goes_on front (t ∷ w) after a total test name is so_far =
      let one : items_at (t ∷ w) ≡ item_at (length w) (Got (Some a) after) = step_of (has marks (class_of t.kind)) (length w) t w test name ∙ ap (item_at (length w)) is in
      let less : length after < length w = shorter w after (Some a) (subst (λ (x : Read A). Is L w x) is (good.reads w)) in
      let fuel : up_to_ended_at marks f r s (length w) after ≡ items_at after = steady (length w) (length after) after (omega arith) (omega arith) in
      let two : items_at (t ∷ w) ≡ (items_at after >>= λ q last. Got (Some (a ∷ q.0, q.1)) last) = one ∙ ap (λ (x : Read (List A × Option B)). x >>= λ q last. Got (Some (a ∷ q.0, q.1)) last) fuel in
      sym (ap (with_items front) two ∙ regroup front a (items_at after)) ∙ so_far

  ended : (front : List A) (x : Read B) → with_items front (x >>= λ y rest. Got (Some ([], Some y)) rest) ≡ ((x >>= λ y rest. Got (Some (Some y)) rest) >>= λ o rest. Got (Some (front, o)) rest)
  ended front (Got (Some y) rest) = ap (λ u. Got (Some (u, Some y)) rest) (append-nil front)
  ended front (Got None rest) = refl
  ended front (Wrong rest) = refl

  end_from : (m : Bool) (t : Token) (w : List Token) → Read (Option B)
  end_from m t w = if m then ((if m then Got (Some t) w else Wrong (t ∷ w)) >>= λ u v. s v >>= λ x rest. Got (Some (Some x)) rest) else Got (Some None) (t ∷ w)

  done_from : (m : Bool) (front : List A) (k : ℕ) (t : Token) (w : List Token) → (m && next_is f w) ≡ false → with_items front (from_at m k t w) ≡ (end_from m t w >>= λ o rest. Got (Some (front, o)) rest)
  unfolding end_from
  done_from true front k t w over = ap (λ (u : Bool). with_items front (behind_at u k w)) over ∙ ended front (s w)
  done_from false front k t w over = ap (λ u. Got (Some (u, None)) (t ∷ w)) (append-nil front)

  -- no more items stand there
  pub items_done : (front : List A) (w : List Token) (total : Read (List A × Option B)) → (next_is marks w && next_is f (drop 1 w)) ≡ false → with_items front (items_at w) ≡ total
      → total ≡ (end_at marks s w >>= λ o rest. Got (Some (front, o)) rest)
  unfolding end_from
  items_done front [] total over so_far = sym so_far ∙ ap (λ u. Got (Some (u, None)) []) (append-nil front)
  items_done front (t ∷ w) total over so_far = sym so_far ∙ done_from (has marks (class_of t.kind)) front (length w) t w over
