-- What is read of the bytes that were taken of two texts is read of the whole input.
use Rattle.std.proofs.Common.{◌≡◌, ◌<◌, ◌≤◌, ◌+◌, ℕ, List, [], ◌∷◌, ◌++◌, length, take, drop, refl, sym, ap, ◌∙◌, subst, arith, inl, inr, append-nil, append_assoc, length-append}
use Rattle.std.specs.Prelude.{Option, None, Some, MatchOption, Result, Ok, Err}
use Rattle.std.proofs.lemmas.Bool.{cases_lt}
use Rattle.std.specs.Option.{unwrap_or}
use Rattle.std.proofs.lemmas.List.{take-append-drop, length-drop}
use Rattle.std.proofs.Math.Seq.{take-append_seam, drop-append_seam}
use Rattle.geo_tokens.specs.declared.fault.FaultWord.{FaultWord}
use Rattle.geo_tokens.specs.declared.fault.FaultWord.TheVariants as words
use Rattle.geo_tokens.specs.FirstEnd.{HasNoEnd, IsFirstEnd}
use Rattle.geo_tokens.proofs.Ends.{only_end}
use Rattle.problem_data.specs.Problem.{ProblemData}
use Rattle.problem_data.specs.Accepted.{Accepts}
use Rattle.problem_text.specs.FirstFault.{HasFirstFault, long, no_token, no_statements, in_statements}
use Rattle.layout_text.specs.FirstFault as layouts
use Rattle.command_reply.specs.Accepted.{IsRefused, unread, misnamed, unexpanded, ungrounded}
use Rattle.command_reply.specs.Texts.{AreTextsOf, IsEndless, IsRefusedPair, endless, in_first, in_second}
use Rattle.command_input.specs.Reading.{Tells, AreReadFrom, AreFirstTexts}
use Rattle.geo_tokens.specs.declared.fault.TextFault.{TextFault}
use Rattle.geo_tokens.specs.declared.fault.TextFault.TheVariants as faults
use Rattle.command_reply.specs.Given.{IsGiven, AnswersGiven}
use Rattle.command_reply.specs.declared.given.Given.{Given}
use Rattle.command_input.proofs.FrontEnds.{end-on, end-back}

-- ---- a text that is too long

long-fault : (text : List ℕ) (place : ℕ) (word : FaultWord) → 1048576 < length text → HasFirstFault text place word → (place ≡ 1048576) × (word ≡ words.Long)
long-fault text place word l (long h at is) = (at, is)
long-fault text place word l (no_token s f) = absurd (omega (arith, l, s))
long-fault text place word l (no_statements s list t f) = absurd (omega (arith, l, s))
long-fault text place word l (in_statements t says f) = absurd (let s : length text ≤ 1048576 = says.short in omega (arith, l, s))

pub spelled-short : (text : List ℕ) (p : ProblemData) → Accepts text p → length text ≤ 1048576
spelled-short text p a = a.says.short

pub long-refusal : (text : List ℕ) (place : ℕ) (word : FaultWord) → 1048576 < length text → IsRefused text place word → (place ≡ 1048576) × (word ≡ words.Long)
long-refusal text place word l (unread f) = long-fault text place word l f
long-refusal text place word l (misnamed p a h) = absurd (omega (arith, l, spelled-short text p a))
long-refusal text place word l (unexpanded p a r h) = absurd (omega (arith, l, spelled-short text p a))
long-refusal text place word l (ungrounded p a r x h) = absurd (omega (arith, l, spelled-short text p a))

long-layout : (p : ProblemData) (text more : List ℕ) (place : ℕ) (word : FaultWord) → 1048576 < length text → layouts.HasFirstFault p text place word → layouts.HasFirstFault p (text ++ more) place word
long-layout p text more place word l (layouts.long h at is) = layouts.long (omega (arith, h, length-append text more)) at is
long-layout p text more place word l (layouts.no_token s f) = absurd (omega (arith, l, s))
long-layout p text more place word l (layouts.no_lines s list t f) = absurd (omega (arith, l, s))
long-layout p text more place word l (layouts.in_lines t says f) = absurd (let s : length text ≤ 1048576 = says.short in omega (arith, l, s))

-- what a second text that is too long is refused for, it is refused for with more behind it
abbrev pub StaysRefused : (ProblemData → List ℕ → ℕ → ℕ → FaultWord → Type 0) → Type 0
StaysRefused Second = (p : ProblemData) (text more : List ℕ) (from place : ℕ) (word : FaultWord) → 1048576 < length text → Second p text from place word → Second p (text ++ more) from place word

pub stays-layout : StaysRefused layouts.HasFaultFrom
stays-layout p text more from place word l f = record { within = f.within; first = long-layout p text more f.within word l f.first; at = f.at }

-- ---- one way to cut an input in two

no-end : (text : List ℕ) → HasNoEnd text → (e : ℕ) → IsFirstEnd text e → ⊥
no-end text h = only_end None text h

one-end : (text : List ℕ) (a b : ℕ) → IsFirstEnd text a → IsFirstEnd text b → b ≡ a
one-end text a b h k = (only_end (Some a) text h).1 b k

-- two texts that are put together to the same
same-front : (a b c d : List ℕ) → a ++ b ≡ c ++ d → length a ≡ length c → (a ≡ c) × (b ≡ d)
same-front a b c d e n = (
  sym (take-append_seam a b) ∙ ap (λ (z : List ℕ). take (length a) z) e ∙ ap (λ (k : ℕ). take k (c ++ d)) n ∙ take-append_seam c d,
  sym (drop-append_seam a b) ∙ ap (λ (z : List ℕ). drop (length a) z) e ∙ ap (λ (k : ℕ). drop k (c ++ d)) n ∙ drop-append_seam c d,
)

pub one-cut : (input a b c d : List ℕ) → AreTextsOf input a b → AreTextsOf input c d → (a ≡ c) × (b ≡ d)
one-cut input a b c d h k = same-front a b c d (sym h.both ∙ k.both) (elim h.split [
  | inl x ↦ elim k.split [
    | inl y ↦ one-end input (length c) (length a) y x
    | inr y ↦ absurd (no-end input y.0 (length a) x)
  ]
  | inr x ↦ elim k.split [
    | inl y ↦ absurd (no-end input x.0 (length c) y)
    | inr y ↦ ap length (whole a b h.both x.1) ∙ sym (ap length (whole c d k.both y.1))
  ]
])
  where
    whole : (u v : List ℕ) → input ≡ u ++ v → v ≡ [] → u ≡ input
    whole u v e n = sym (e ∙ ap (λ (z : List ℕ). u ++ z) n ∙ append-nil u)

-- a first text that has no end within as many bytes as a text may have is too long
pub long-front : (input a b : List ℕ) → IsEndless input → AreTextsOf input a b → 1048576 < length a
long-front input a b e cut = elim cut.split [
  | inl z ↦ e.none (length a) z
  | inr z ↦ (let l : 1048576 < length input = e.long in let n : length input ≡ length a = ap length (cut.both ∙ ap (λ (v : List ℕ). a ++ v) z.1 ∙ append-nil a) in omega (arith, l, n))
]

-- ---- the bytes that were read, and the input

module _ (input bytes more : List ℕ) (front : input ≡ bytes ++ more) where
  -- the first text ends within the bytes, and so it does in the input
  pub texts-on : (first second : List ℕ) → AreTextsOf bytes first second → length first < length bytes → AreTextsOf input first (second ++ more)
  texts-on first second t short = record {
    both = front ∙ ap (λ (u : List ℕ). u ++ more) t.both ∙ append_assoc first second more;
    split = elim t.split [
      | inl x ↦ inl (subst (λ (u : List ℕ). IsFirstEnd u (length first)) (sym front) (end-on more bytes (length first) x short))
      | inr y ↦ absurd (let e = ap length (t.both ∙ ap (λ (z : List ℕ). first ++ z) y.1 ∙ append-nil first) in omega (arith, short, e))
    ];
  }

  endless-in : 1048576 < length bytes → ((e : ℕ) → IsFirstEnd bytes e → 1048576 < e) → IsEndless input
  endless-in l none = record {
    long = omega (arith, l, ap length front, length-append bytes more);
    none = λ e x. elim (cases_lt 1048576 e) [
      | inl b ↦ b
      | inr b ↦ none e (end-back more bytes e (subst (λ (u : List ℕ). IsFirstEnd u e) front x) (omega (arith, b, l)))
    ];
  }

  beyond : (first second : List ℕ) → AreTextsOf bytes first second → 1048576 < length first → (e : ℕ) → IsFirstEnd bytes e → 1048576 < e
  beyond first second t b e x = elim t.split [
    | inl y ↦ (let same : e ≡ length first = one-end bytes (length first) e y x in omega (arith, same, b))
    | inr y ↦ absurd (no-end bytes y.0 e x)
  ]

  -- a fault of the first text of so many bytes is one of the input's
  pub refused-first : (Second : ProblemData → List ℕ → ℕ → ℕ → FaultWord → Type 0) (first second : List ℕ) (place : ℕ) (word : FaultWord) → 1048576 < length bytes → AreTextsOf bytes first second
      → IsRefused first place word → IsRefusedPair Second input place word
  refused-first Second first second place word l t f = elim (cases_lt 1048576 (length first)) [
    | inl b ↦ (let w = long-refusal first place word b f in endless (endless-in l (beyond first second t b)) w.0 w.1)
    | inr b ↦ in_first first (second ++ more) (texts-on first second t (omega (arith, b, l))) f
  ]

module _ (input bytes : List ℕ) (h : AreFirstTexts input bytes) where
  module _ (l : 1048576 < length bytes) (far : (e : ℕ) → IsFirstEnd bytes e → e ≤ 1048576 → e + 1048576 < length bytes) where
    long-second : (first second : List ℕ) → AreTextsOf bytes first second → length first ≤ 1048576 → 1048576 < length second
    long-second first second t s = elim t.split [
      | inl y ↦ (let f = far (length first) y s in omega (arith, f, ap length t.both, length-append first second))
      | inr y ↦ absurd (let e = ap length (t.both ∙ ap (λ (z : List ℕ). first ++ z) y.1 ∙ append-nil first) in omega (arith, s, l, e))
    ]

    refused-cut : (Second : ProblemData → List ℕ → ℕ → ℕ → FaultWord → Type 0) → StaysRefused Second → (place : ℕ) (word : FaultWord) → IsRefusedPair Second bytes place word → IsRefusedPair Second input place word
    refused-cut Second stays place word (endless e a w) = endless (endless-in input bytes h.rest h.front l e.none) a w
    refused-cut Second stays place word (in_first first second t f) = refused-first input bytes h.rest h.front Second first second place word l t f
    refused-cut Second stays place word (in_second first second t p a f) =
        let s = spelled-short first p a.spells in
        in_second first (second ++ h.rest) (texts-on input bytes h.rest h.front first second t (omega (arith, s, l))) p a
        (stays p second h.rest (length first) place word (long-second first second t s) f)

    given-cut : (g : Given) → IsGiven bytes g → ⊥
    given-cut g h =
        let m = long-second h.first h.second h.cut (spelled-short h.first g.accepted.problem h.read.accepted.spells) in
        let n : length h.second ≤ 1048576 = h.spells.says.short in
        omega (arith, m, n)

  pub same-input : h.rest ≡ [] → bytes ≡ input
  same-input none = sym (h.front ∙ ap (λ (z : List ℕ). bytes ++ z) none ∙ append-nil bytes)

  pub lift-refused : (Second : ProblemData → List ℕ → ℕ → ℕ → FaultWord → Type 0) → StaysRefused Second → (place : ℕ) (word : FaultWord) → IsRefusedPair Second bytes place word → IsRefusedPair Second input place word
  lift-refused Second stays place word r = elim h.whole [
    | inl none ↦ subst (λ (u : List ℕ). IsRefusedPair Second u place word) (same-input none) r
    | inr cut ↦ refused-cut cut.0 cut.1 Second stays place word r
  ]

  pub lift-given : (g : Given) → IsGiven bytes g → IsGiven input g
  lift-given g k = elim h.whole [
    | inl none ↦ subst (λ (u : List ℕ). IsGiven u g) (same-input none) k
    | inr cut ↦ absurd (given-cut cut.0 cut.1 g k)
  ]

  lift-answer : (r : Result Given TextFault) → AnswersGiven r bytes → AnswersGiven r input
  lift-answer (Ok g) k = lift-given g k
  lift-answer (Err (faults.At place word)) k = lift-refused layouts.HasFaultFrom stays-layout place word k
  lift-answer (Err faults.Memory) k = tt

-- what was read of the two texts that were taken
pub given_lifted : (left : Option (List ℕ)) (bytes seen : List ℕ) (r : Result Given TextFault) → AreReadFrom left bytes → seen ≡ bytes → AnswersGiven r seen
    → (input : List ℕ) × Tells left input × AnswersGiven r input
given_lifted left bytes seen r (input, told, h) e a = (input, told, lift-answer input bytes h r (subst (AnswersGiven r) e a))

-- ---- where the program cuts

nothing-long : (xs : List ℕ) → length xs ≤ 0 → xs ≡ []
nothing-long [] h = refl
nothing-long (x ∷ xs) h = absurd (omega arith)

pub cut-at : (text front back : List ℕ) (o : Option ℕ) (end : ℕ) → MatchOption o (HasNoEnd text) (IsFirstEnd text) → end ≡ unwrap_or o (length text) → length front ≡ end → front ≡ take end text → back ≡ drop end text → AreTextsOf text front back
cut-at text front back None end h e n f b = record {
  both = sym (take-append-drop end text) ∙ (λ i. sym f i ++ sym b i);
  split = inr (h, nothing-long back (let l = ap length b in omega (arith, l, length-drop end text, e)));
}
cut-at text front back (Some x) end h e n f b = record {
  both = sym (take-append-drop end text) ∙ (λ i. sym f i ++ sym b i);
  split = inl (subst (IsFirstEnd text) (sym (n ∙ e)) h);
}
