-- Words ask for one share.
use Rattle.std.proofs.Common.{◌≡◌, ℕ, Bool, true, false, List, [], ◌∷◌, Option, Some, None, refl, sym, ap, subst, ◌∙◌, inl, inr, arith}
use Rattle.std.specs.Prelude.{Result, Ok, Err, ◌<◌, ◌≤◌, ◌⊎◌, bytes_eq, codes, if◌then◌else◌}
use Rattle.page_codec.specs.declared.params.Params.{Params}
use Rattle.page_codec.specs.declared.fault.ParamFault.{ParamFault}
use Rattle.page_codec.specs.Tests.{Passes, Refuses}
use Rattle.whole_runs.specs.CommandLine.{number_word, IsTested, asked_reduce, reduce_request, AsksForIt as AsksForCommand}
use Rattle.whole_runs.proofs.OneAsk.{one_ask}
use Rattle.merge_program.specs.declared.words.TableWords.{TableWords}
use Rattle.merge_program.specs.declared.words.ShareWords.{ShareWords}
use Rattle.merge_program.specs.declared.words.MergeWordsFault.{MergeWordsFault}
use Rattle.merge_program.specs.declared.words.MergeWordsFault.TheVariants.{Usage, Param, Shares, Share}
use Rattle.merge_program.specs.MergeWords.{TableRequest, IsTableTested, table_request, with_index, asked_share, Asked, AsksForIt, AsksForShare}

-- the parameters of words are tested once: `reduce` tests those of the same words
one_test : (w d m order : List ℕ) (weight depth modulus : ℕ) → number_word w ≡ Some weight → number_word d ≡ Some depth → number_word m ≡ Some modulus
    → (a b : Result Params ParamFault) → IsTested weight depth modulus order None a → IsTested weight depth modulus order None b → a ≡ b
one_test w d m order weight depth modulus ew ed em a b x y =
    let words : List (List ℕ) = codes "reduce" ∷ w ∷ d ∷ m ∷ order ∷ [] in
    let request = λ (W D M : Option ℕ) (tested : Result Params ParamFault). AsksForCommand (reduce_request W D M order None) (asked_reduce tested) in
    let asks = λ (tested : Result Params ParamFault) (is : IsTested weight depth modulus order None tested).
    subst (λ M. request (number_word w) (number_word d) M tested) (sym em)
    (subst (λ D. request (number_word w) D (Some modulus) tested) (sym ed)
    (subst (λ W. request W (Some depth) (Some modulus) tested) (sym ew) (tested, is, refl))) in
    same_tests a b (one_ask words (asked_reduce a) (asked_reduce b) (asks a x) (asks b y))
  where
    same_tests : (s t : Result Params ParamFault) → asked_reduce s ≡ asked_reduce t → s ≡ t
    same_tests (Ok p) (Ok q) e = cc
    same_tests (Ok p) (Err g) e = absurd cc
    same_tests (Err f) (Ok q) e = absurd cc
    same_tests (Err f) (Err g) e = cc

bad_number : (n : ℕ) → (n < 1) ⊎ (256 < n) → 1 ≤ n → n ≤ 256 → ⊥
bad_number n (inl h) a b = omega arith
bad_number n (inr h) a b = omega arith

module _ (w d m order : List ℕ) (weight depth modulus shares : ℕ) (ew : number_word w ≡ Some weight) (ed : number_word d ≡ Some depth)
    (em : number_word m ≡ Some modulus) where
  abbrev asked_of : TableRequest
  asked_of = record { weight = weight; depth = depth; modulus = modulus; order = order; shares = shares }

  same_test : (a b : Result Params ParamFault) → IsTested weight depth modulus order None a → IsTested weight depth modulus order None b → a ≡ b
  same_test = one_test w d m order weight depth modulus ew ed em

  passes_once : (p q : Params) → Passes weight depth modulus order None p → Passes weight depth modulus order None q → p ≡ q
  passes_once p q x y = let same : ◌≡◌ {A = Result Params ParamFault} (Ok p) (Ok q) = same_test (Ok p) (Ok q) x y in cc

  refused_once : (f g : ParamFault) → Refuses weight depth modulus order None f → Refuses weight depth modulus order None g → f ≡ g
  refused_once f g x y = let same : ◌≡◌ {A = Result Params ParamFault} (Err f) (Err g) = same_test (Err f) (Err g) x y in cc

  not_both_tests : (p : Params) (f : ParamFault) → Passes weight depth modulus order None p → ¬ (Refuses weight depth modulus order None f)
  not_both_tests p f x y = let same : ◌≡◌ {A = Result Params ParamFault} (Ok p) (Err f) = same_test (Ok p) (Err f) x y in absurd cc

  one_table : (a b : Result TableWords MergeWordsFault) → IsTableTested asked_of a → IsTableTested asked_of b → a ≡ b
  one_table (Ok t) (Ok u) x y =
      let params : t.params ≡ u.params = passes_once t.params u.params x.0 y.0 in
      let number : t.shares ≡ u.shares = x.1 ∙ sym y.1 in
      λ i. Ok (record { params = params i; shares = number i })
  one_table (Ok t) (Err Usage) x y = absurd y
  one_table (Ok t) (Err (Param g)) x y = absurd (not_both_tests t.params g x.0 y)
  one_table (Ok t) (Err (Shares n)) x y = absurd (bad_number shares y.2 x.2 x.3)
  one_table (Ok t) (Err (Share n)) x y = absurd y
  one_table (Err Usage) b x y = absurd x
  one_table (Err (Param f)) (Ok u) x y = absurd (not_both_tests u.params f y.0 x)
  one_table (Err (Param f)) (Err Usage) x y = absurd y
  one_table (Err (Param f)) (Err (Param g)) x y = ap (λ (h : ParamFault). Err (Param h)) (refused_once f g x y)
  one_table (Err (Param f)) (Err (Shares n)) x y = let passed = y.0 in absurd (not_both_tests passed.0 f passed.1 x)
  one_table (Err (Param f)) (Err (Share n)) x y = absurd y
  one_table (Err (Shares k)) (Ok u) x y = absurd (bad_number shares x.2 y.2 y.3)
  one_table (Err (Shares k)) (Err Usage) x y = absurd y
  one_table (Err (Shares k)) (Err (Param g)) x y = let passed = x.0 in absurd (not_both_tests passed.0 g passed.1 y)
  one_table (Err (Shares k)) (Err (Shares n)) x y = ap (λ (h : ℕ). Err (Shares h)) (x.1 ∙ sym y.1)
  one_table (Err (Shares k)) (Err (Share n)) x y = absurd y
  one_table (Err (Share k)) b x y = absurd x

module _ (w d m order : List ℕ) where
  one_request : (W D M S I : Option ℕ) → number_word w ≡ W → number_word d ≡ D → number_word m ≡ M → (a b : Asked)
      → AsksForIt (with_index (table_request W D M order S) I) a → AsksForIt (with_index (table_request W D M order S) I) b → a ≡ b
  one_request None D M S I ew ed em a b x y = x ∙ sym y
  one_request (Some weight) None M S I ew ed em a b x y = x ∙ sym y
  one_request (Some weight) (Some depth) None S I ew ed em a b x y = x ∙ sym y
  one_request (Some weight) (Some depth) (Some modulus) None I ew ed em a b x y = x ∙ sym y
  one_request (Some weight) (Some depth) (Some modulus) (Some shares) None ew ed em a b x y = x ∙ sym y
  one_request (Some weight) (Some depth) (Some modulus) (Some shares) (Some index) ew ed em a b x y =
      x.2 ∙ ap (λ tested. asked_share tested index) (one_table w d m order weight depth modulus shares ew ed em x.0 y.0 x.1 y.1) ∙ sym y.2

  one_named : (named : Bool) (S I : Option ℕ) (a b : Asked)
      → AsksForIt (if named then with_index (table_request (number_word w) (number_word d) (number_word m) order S) I else None) a
      → AsksForIt (if named then with_index (table_request (number_word w) (number_word d) (number_word m) order S) I else None) b → a ≡ b
  one_named true S I a b x y = one_request (number_word w) (number_word d) (number_word m) S I refl refl refl a b x y
  one_named false S I a b x y = x ∙ sym y

pub one_share : (words : List (List ℕ)) (a b : Asked) → AsksForShare words a → AsksForShare words b → a ≡ b
one_share [] a b x y = x ∙ sym y
one_share (name ∷ []) a b x y = x ∙ sym y
one_share (name ∷ w ∷ []) a b x y = x ∙ sym y
one_share (name ∷ w ∷ d ∷ []) a b x y = x ∙ sym y
one_share (name ∷ w ∷ d ∷ m ∷ []) a b x y = x ∙ sym y
one_share (name ∷ w ∷ d ∷ m ∷ order ∷ []) a b x y = x ∙ sym y
one_share (name ∷ w ∷ d ∷ m ∷ order ∷ index ∷ []) a b x y = x ∙ sym y
one_share (name ∷ w ∷ d ∷ m ∷ order ∷ index ∷ s ∷ []) a b x y =
    one_named w d m order (bytes_eq name (codes "share")) (number_word s) (number_word index) a b x y
one_share (name ∷ w ∷ d ∷ m ∷ order ∷ index ∷ s ∷ eighth ∷ more) a b x y = x ∙ sym y

-- what holds of what is asked for holds of all that is
pub each_asked : (words : List (List ℕ)) (a : Asked) (P : Asked → Type 0) → AsksForShare words a → P a → (b : Asked) → AsksForShare words b → P b
each_asked words a P asks holds b other = subst P (one_share words a b asks other) holds

module _ (words : List (List ℕ)) where
  pub same_share : (a b : ShareWords) → AsksForShare words (Ok a) → AsksForShare words (Ok b) → a ≡ b
  same_share a b x y = let same : ◌≡◌ {A = Asked} (Ok a) (Ok b) = one_share words (Ok a) (Ok b) x y in cc

  pub same_fault : (f g : MergeWordsFault) → AsksForShare words (Err f) → AsksForShare words (Err g) → f ≡ g
  same_fault f g x y = let same : ◌≡◌ {A = Asked} (Err f) (Err g) = one_share words (Err f) (Err g) x y in cc

  pub not_both : (a : ShareWords) (f : MergeWordsFault) → AsksForShare words (Ok a) → ¬ (AsksForShare words (Err f))
  not_both a f x y = let same : ◌≡◌ {A = Asked} (Ok a) (Err f) = one_share words (Ok a) (Err f) x y in absurd cc
