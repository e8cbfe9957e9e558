-- Words ask for one thing.
use Rattle.std.specs.Prelude.{◌≡◌, ◌⊎◌, ◌&&◌, ℕ, ◌+◌, ◌^◌, ◌<◌, ◌≤◌, Bool, true, false, IsTrue, List, [], ◌∷◌, get_or, Option, Some, None, Result, Ok, Err}
use Rattle.std.specs.Prelude.{codes}
use Rattle.std.proofs.Common.{refl, sym, ap, subst, ◌∙◌, inl, inr, arith}
use Rattle.zeta_model.specs.declared.Letter.{Letter}
use Rattle.zeta_model.specs.Words.{begins_with_x, ends_with_y, is_admissible}
use Rattle.zeta_model.proofs.WordLemmas.{has_index-ends}
use Rattle.word_letters.proofs.IndexLemmas.{word_text-injective}
use Rattle.page_codec.specs.declared.params.Params.{Params}
use Rattle.page_codec.specs.declared.fault.ParamFault.{ParamFault}
use Rattle.page_codec.specs.declared.fault.ParamFault.TheVariants.{Weight, Depth, Modulus, NotBelow, Order, Preferred, Columns}
use Rattle.page_codec.specs.Tests.{Names, AllName, FailsFirst, AreNamed, FailsText, PassesNumbers, order_of, Passes, Refuses, pieces_of}
use Rattle.page_codec.proofs.Naming.{named_or_fails}
use Rattle.page_codec.proofs.Exclusive.{not_both}
use Rattle.page_codec.proofs.SameParams.{same_parts}
use Rattle.whole_runs.specs.CommandLine.{Asked, Request, IsTested, asked_reduce, asked_build, asked_resume, asked_sample, AsksFor, AsksForIt, request_of, Asks}
use Rattle.whole_runs.specs.CommandLine.Request.{ForDual, ForList, ForReduce, ForSample, ForProbe, ForShow, ForCheck, ForRewrite, ForRational, ForBuild, ForResume, ForMigrate}

ends_from : (u : List Letter) → IsTrue (is_admissible u) → ends_with_y u ≡ true
ends_from u e = second (begins_with_x u) (ends_with_y u) e
  where
    second : (s t : Bool) → (s && t) ≡ true → t ≡ true
    second true t h = h
    second false t h = absurd (cc h)

-- a piece names one word
one_name : (w d i : ℕ) (before : Option (List Letter)) (piece : List ℕ) (u v : List Letter) → w ≤ 24 → Names w d i before piece u → Names w d i before piece v
    → u ≡ v
one_name w d i before piece u v most a b =
    let hu = a.may_stand.weight in
    let hv = b.may_stand.weight in
    word_text-injective u v (omega arith) (omega arith) (has_index-ends u (ends_from u a.may_stand.admissible))
    (has_index-ends v (ends_from v b.may_stand.admissible)) (sym a.text ∙ b.text)

named_once : (w d i : ℕ) (before : Option (List Letter)) (pieces : List (List ℕ)) (us vs : List (List Letter)) → w ≤ 24
    → AllName w d i before pieces us → AllName w d i before pieces vs → us ≡ vs
named_once w d i before [] [] [] most a b = refl
named_once w d i before [] [] (v ∷ vs) most a b = absurd b
named_once w d i before [] (u ∷ us) vs most a b = absurd a
named_once w d i before (piece ∷ pieces) [] vs most a b = absurd a
named_once w d i before (piece ∷ pieces) (u ∷ us) [] most a b = absurd b
named_once w d i before (piece ∷ pieces) (u ∷ us) (v ∷ vs) most a b =
    let same : u ≡ v = one_name w d i before piece u v most a.0 b.0 in
    let others : us ≡ vs = named_once w d (i + 1) (Some u) pieces us vs most a.1 (subst (λ x. AllName w d (i + 1) (Some x) pieces vs) (sym same) b.1) in
    λ j. same j ∷ others j

fails_once : (w d i : ℕ) (before : Option (List Letter)) (pieces : List (List ℕ)) (k j : ℕ) → w ≤ 24
    → FailsFirst w d i before pieces k → FailsFirst w d i before pieces j → k ≡ j
fails_once w d i before [] k j most a b = absurd a
fails_once w d i before (piece ∷ pieces) k j most (inl a) (inl b) = a.0 ∙ sym b.0
fails_once w d i before (piece ∷ pieces) k j most (inl a) (inr b) = absurd (a.1 b.0 b.1)
fails_once w d i before (piece ∷ pieces) k j most (inr a) (inl b) = absurd (b.1 a.0 a.1)
fails_once w d i before (piece ∷ pieces) k j most (inr a) (inr b) =
    let same : a.0 ≡ b.0 = one_name w d i before piece a.0 b.0 most a.1 b.1 in
    fails_once w d (i + 1) (Some a.0) pieces k j most a.2 (subst (λ x. FailsFirst w d (i + 1) (Some x) pieces j) (sym same) b.2)

words_once : (w d : ℕ) (text : Option (List ℕ)) (us vs : List (List Letter)) → w ≤ 24 → AreNamed w d text us → AreNamed w d text vs → us ≡ vs
words_once w d None us vs most a b = a ∙ sym b
words_once w d (Some text) us vs most a b = named_once w d 0 None (pieces_of text) us vs most a b

text_fails_once : (w d : ℕ) (text : Option (List ℕ)) (k j : ℕ) → w ≤ 24 → FailsText w d text k → FailsText w d text j → k ≡ j
text_fails_once w d None k j most a b = absurd a
text_fails_once w d (Some text) k j most a b = fails_once w d 0 None (pieces_of text) k j most a b

not_both_texts : (w d : ℕ) (text : Option (List ℕ)) (k : ℕ) (us : List (List Letter)) → w ≤ 24 → AreNamed w d text us → ¬ (FailsText w d text k)
not_both_texts w d None k us most named fails = fails
not_both_texts w d (Some text) k us most named fails = named_or_fails w d 0 k None (pieces_of text) us most named fails

not_both_names : (codes "lex") ≡ (codes "odd") → ⊥
not_both_names e = let first : ◌≡◌ {A = ℕ} 108 111 = ap (λ (t : List ℕ). get_or t 0 0) e in omega arith

order_once : (name : List ℕ) (a b : ℕ) → order_of name a → order_of name b → a ≡ b
order_once name a b (inl x) (inl y) = x.1 ∙ sym y.1
order_once name a b (inl x) (inr y) = absurd (not_both_names (sym x.0 ∙ y.0))
order_once name a b (inr x) (inl y) = absurd (not_both_names (sym y.0 ∙ x.0))
order_once name a b (inr x) (inr y) = x.1 ∙ sym y.1

bad_weight : (w : ℕ) → (w < 2) ⊎ (24 < w) → 2 ≤ w → w ≤ 24 → ⊥
bad_weight w (inl h) a b = omega arith
bad_weight w (inr h) a b = omega arith

bad_depth : (w d : ℕ) → (d < 1) ⊎ (w ≤ d) → 1 ≤ d → d < w → ⊥
bad_depth w d (inl h) a b = omega arith
bad_depth w d (inr h) a b = omega arith

bad_modulus : (m : ℕ) → (m < 3) ⊎ (2 ^ 63 ≤ m) → 3 ≤ m → m < 2 ^ 63 → ⊥
bad_modulus m (inl h) a b = omega arith
bad_modulus m (inr h) a b = omega arith

-- a modulus that is not above the weight is below 2^63
small_modulus : (w m : ℕ) → (m < 3) ⊎ (2 ^ 63 ≤ m) → w ≤ 24 → 3 ≤ m → m ≤ w → ⊥
small_modulus w m (inl h) a b c = omega arith
small_modulus w m (inr h) a b c = omega arith

module _ (w d m : ℕ) (order : List ℕ) (text : Option (List ℕ)) where
  -- numbers that pass are told by no fault of numbers
  module _ (is : PassesNumbers w d m) where
    not_weight : (n : ℕ) → ¬ (Refuses w d m order text (Weight n))
    not_weight n x = bad_weight w x.1 is.weight_from is.weight_to

    not_depth : (n : ℕ) → ¬ (Refuses w d m order text (Depth n))
    not_depth n x = bad_depth w d x.3 is.depth_from is.depth_to

    not_modulus : (n : ℕ) → ¬ (Refuses w d m order text (Modulus n))
    not_modulus n x = bad_modulus m x.5 is.modulus_from is.modulus_to

    not_below : (a b : ℕ) → ¬ (Refuses w d m order text (NotBelow a b))
    not_below a b x = let over = x.7 in let under = is.below in omega arith

  one_refusal : (f g : ParamFault) → Refuses w d m order text f → Refuses w d m order text g → f ≡ g
  one_refusal (Weight a) (Weight b) x y = ap Weight (x.0 ∙ sym y.0)
  one_refusal (Weight a) (Depth b) x y = absurd (bad_weight w x.1 y.1 y.2)
  one_refusal (Weight a) (Modulus b) x y = absurd (bad_weight w x.1 y.1 y.2)
  one_refusal (Weight a) (NotBelow b n) x y = absurd (bad_weight w x.1 y.2 y.3)
  one_refusal (Weight a) Order x y = absurd (not_weight y.0 a x)
  one_refusal (Weight a) (Preferred k) x y = absurd (not_weight y.0 a x)
  one_refusal (Weight a) (Columns n) x y = absurd (not_weight y.0 a x)
  one_refusal (Depth a) (Weight b) x y = absurd (bad_weight w y.1 x.1 x.2)
  one_refusal (Depth a) (Depth b) x y = ap Depth (x.0 ∙ sym y.0)
  one_refusal (Depth a) (Modulus b) x y = absurd (bad_depth w d x.3 y.3 y.4)
  one_refusal (Depth a) (NotBelow b n) x y = absurd (bad_depth w d x.3 y.4 y.5)
  one_refusal (Depth a) Order x y = absurd (not_depth y.0 a x)
  one_refusal (Depth a) (Preferred k) x y = absurd (not_depth y.0 a x)
  one_refusal (Depth a) (Columns n) x y = absurd (not_depth y.0 a x)
  one_refusal (Modulus a) (Weight b) x y = absurd (bad_weight w y.1 x.1 x.2)
  one_refusal (Modulus a) (Depth b) x y = absurd (bad_depth w d y.3 x.3 x.4)
  one_refusal (Modulus a) (Modulus b) x y = ap Modulus (x.0 ∙ sym y.0)
  one_refusal (Modulus a) (NotBelow b n) x y = absurd (small_modulus w m x.5 y.3 y.6 y.7)
  one_refusal (Modulus a) Order x y = absurd (not_modulus y.0 a x)
  one_refusal (Modulus a) (Preferred k) x y = absurd (not_modulus y.0 a x)
  one_refusal (Modulus a) (Columns n) x y = absurd (not_modulus y.0 a x)
  one_refusal (NotBelow a n) (Weight b) x y = absurd (bad_weight w y.1 x.2 x.3)
  one_refusal (NotBelow a n) (Depth b) x y = absurd (bad_depth w d y.3 x.4 x.5)
  one_refusal (NotBelow a n) (Modulus b) x y = absurd (small_modulus w m y.5 x.3 x.6 x.7)
  one_refusal (NotBelow a n) (NotBelow b k) x y = let weight : a ≡ b = x.0 ∙ sym y.0 in let modulus : n ≡ k = x.1 ∙ sym y.1 in
      λ i. NotBelow (weight i) (modulus i)
  one_refusal (NotBelow a n) Order x y = absurd (not_below y.0 a n x)
  one_refusal (NotBelow a n) (Preferred k) x y = absurd (not_below y.0 a n x)
  one_refusal (NotBelow a n) (Columns k) x y = absurd (not_below y.0 a n x)
  one_refusal Order (Weight b) x y = absurd (not_weight x.0 b y)
  one_refusal Order (Depth b) x y = absurd (not_depth x.0 b y)
  one_refusal Order (Modulus b) x y = absurd (not_modulus x.0 b y)
  one_refusal Order (NotBelow b n) x y = absurd (not_below x.0 b n y)
  one_refusal Order Order x y = refl
  one_refusal Order (Preferred k) x y = absurd (x.1 y.1)
  one_refusal Order (Columns n) x y = absurd (x.1 y.1)
  one_refusal (Preferred k) (Weight b) x y = absurd (not_weight x.0 b y)
  one_refusal (Preferred k) (Depth b) x y = absurd (not_depth x.0 b y)
  one_refusal (Preferred k) (Modulus b) x y = absurd (not_modulus x.0 b y)
  one_refusal (Preferred k) (NotBelow b n) x y = absurd (not_below x.0 b n y)
  one_refusal (Preferred k) Order x y = absurd (y.1 x.1)
  one_refusal (Preferred k) (Preferred j) x y = let is = x.0 in ap Preferred (text_fails_once w d text k j is.weight_to x.2 y.2)
  one_refusal (Preferred k) (Columns n) x y = let is = x.0 in let named = y.2 in absurd (not_both_texts w d text k named.0 is.weight_to named.1 x.2)
  one_refusal (Columns n) (Weight b) x y = absurd (not_weight x.0 b y)
  one_refusal (Columns n) (Depth b) x y = absurd (not_depth x.0 b y)
  one_refusal (Columns n) (Modulus b) x y = absurd (not_modulus x.0 b y)
  one_refusal (Columns n) (NotBelow b k) x y = absurd (not_below x.0 b k y)
  one_refusal (Columns n) Order x y = absurd (y.1 x.1)
  one_refusal (Columns n) (Preferred j) x y = let is = y.0 in let named = x.2 in absurd (not_both_texts w d text j named.0 is.weight_to named.1 y.2)
  one_refusal (Columns n) (Columns k) x y = ap Columns (x.3 ∙ sym y.3)

  passes_once : (p q : Params) → Passes w d m order text p → Passes w d m order text q → p ≡ q
  passes_once p q x y =
      let is = x.numbers in
      same_parts p q (x.weight ∙ sym y.weight) (x.depth ∙ sym y.depth) (x.modulus ∙ sym y.modulus)
      (order_once order p.order q.order x.order_is y.order_is) (words_once w d text p.preferred q.preferred is.weight_to x.preferred y.preferred)

  one_test : (a b : Result Params ParamFault) → IsTested w d m order text a → IsTested w d m order text b → a ≡ b
  one_test (Ok p) (Ok q) x y = ap Ok (passes_once p q x y)
  one_test (Ok p) (Err g) x y = absurd (not_both w d m order text p g x y)
  one_test (Err f) (Ok q) x y = absurd (not_both w d m order text q f y x)
  one_test (Err f) (Err g) x y = ap Err (one_refusal f g x y)

asked_once : (request : Request) (a b : Asked) → AsksFor request a → AsksFor request b → a ≡ b
asked_once (ForDual m) a b x y = x ∙ sym y
asked_once (ForList w d) a b x y = x ∙ sym y
asked_once (ForReduce w d m order text) a b x y = x.2 ∙ ap asked_reduce (one_test w d m order text x.0 y.0 x.1 y.1) ∙ sym y.2
asked_once (ForBuild w d m order text) a b x y = x.2 ∙ ap asked_build (one_test w d m order text x.0 y.0 x.1 y.1) ∙ sym y.2
asked_once (ForResume w d m order text) a b x y = x.2 ∙ ap asked_resume (one_test w d m order text x.0 y.0 x.1 y.1) ∙ sym y.2
asked_once (ForSample w d m seed count) a b x y = x.2 ∙ ap (asked_sample seed count) (one_test w d m (codes "lex") None x.0 y.0 x.1 y.1) ∙ sym y.2
asked_once (ForProbe n m) a b x y = x ∙ sym y
asked_once ForShow a b x y = x ∙ sym y
asked_once ForCheck a b x y = x ∙ sym y
asked_once ForRewrite a b x y = x ∙ sym y
asked_once ForRational a b x y = x ∙ sym y
asked_once ForMigrate a b x y = x ∙ sym y

asked_at_most_once : (request : Option Request) (a b : Asked) → AsksForIt request a → AsksForIt request b → a ≡ b
asked_at_most_once None a b x y = x ∙ sym y
asked_at_most_once (Some request) a b x y = asked_once request a b x y

pub one_ask : (words : List (List ℕ)) (a b : Asked) → Asks words a → Asks words b → a ≡ b
one_ask words a b x y = asked_at_most_once (request_of words) a b x y
