-- Words ask for one merge.
use Rattle.std.proofs.Common.{◌≡◌, ℕ, Bool, true, false, List, [], ◌∷◌, Option, Some, None, refl, sym, ap, subst, ◌∙◌, arith}
use Rattle.std.specs.Prelude.{Ok, Err, ◌≤◌, ◌&&◌, nat_lt, nat_le, length, bytes_eq, codes, if◌then◌else◌}
use Rattle.std.proofs.lemmas.Bool.Decides.{nat_tests}
use Rattle.whole_runs.specs.CommandLine.{number_word}
use Rattle.merge_program.specs.declared.words.ShareWords.{ShareWords}
use Rattle.merge_program.specs.declared.words.TableWords.{TableWords}
use Rattle.merge_program.specs.declared.words.MergeWordsFault.TheVariants.{Share}
use Rattle.merge_program.specs.MergeWords.{TableRequest, IsTableTested, table_request, with_index, asked_share, Asked as AskedShare, AsksForIt, AsksForTable}
use Rattle.merge_program.proofs.OneShare.{one_share}
use Rattle.merge_runs.specs.MergeWords.{Asked, AsksForMerge}

-- share 0 of a table is one of it
first_share : (t : TableWords) → 1 ≤ t.shares → asked_share (Ok t) 0 ≡ Ok (record { params = t.params; id = record { index = 0; of = t.shares } })
first_share t some =
    let inside : nat_lt 0 t.shares ≡ true = grind (arith, nat_tests) in
    ap (λ (b : Bool). if b then Ok (record { params = t.params; id = record { index = 0; of = t.shares } }) else Err (Share 0)) inside

-- what is tested once says what was tested
same_tested : (r : TableRequest) (a b : Asked) → IsTableTested r a → IsTableTested r b → asked_share a 0 ≡ asked_share b 0 → a ≡ b
same_tested r (Ok t) (Ok u) x y e =
    let first : ◌≡◌ {A = AskedShare} (Ok (record { params = t.params; id = record { index = 0; of = t.shares } }))
    (Ok (record { params = u.params; id = record { index = 0; of = u.shares } })) =
    sym (first_share t (omega (arith, x.1, x.2))) ∙ e ∙ first_share u (omega (arith, y.1, y.2)) in
    let share : ◌≡◌ {A = ShareWords} (record { params = t.params; id = record { index = 0; of = t.shares } })
    (record { params = u.params; id = record { index = 0; of = u.shares } }) = cc in
    λ i. let s : ShareWords = share i in Ok (record { params = s.params; shares = s.id.of })
same_tested r (Ok t) (Err g) x y e =
    let no : ◌≡◌ {A = AskedShare} (Ok (record { params = t.params; id = record { index = 0; of = t.shares } })) (Err g) =
    sym (first_share t (omega (arith, x.1, x.2))) ∙ e in
    absurd cc
same_tested r (Err f) (Ok u) x y e =
    let no : ◌≡◌ {A = AskedShare} (Err f) (Ok (record { params = u.params; id = record { index = 0; of = u.shares } })) =
    e ∙ first_share u (omega (arith, y.1, y.2)) in
    absurd cc
same_tested r (Err f) (Err g) x y e = cc

module _ (w d m order s : List ℕ) where
  -- the words of share 0 of the same table
  abbrev share_words : List (List ℕ)
  share_words = codes "share" ∷ w ∷ d ∷ m ∷ order ∷ codes "0" ∷ s ∷ []

  one_request : (request : Option TableRequest) → table_request (number_word w) (number_word d) (number_word m) order (number_word s) ≡ request
      → (a b : Asked) → AsksForTable request a → AsksForTable request b → a ≡ b
  one_request None e a b x y = x ∙ sym y
  one_request (Some r) e a b x y =
      let asks = λ (tested : Asked) (is : IsTableTested r tested).
      subst (λ t. AsksForIt (with_index t (Some 0)) (asked_share tested 0)) (sym e) (tested, is, refl) in
      same_tested r a b x y (one_share share_words (asked_share a 0) (asked_share b 0) (asks a x) (asks b y))

  one_named : (named : Bool) (a b : Asked)
      → AsksForTable (if named then table_request (number_word w) (number_word d) (number_word m) order (number_word s) else None) a
      → AsksForTable (if named then table_request (number_word w) (number_word d) (number_word m) order (number_word s) else None) b → a ≡ b
  one_named true a b x y = one_request (table_request (number_word w) (number_word d) (number_word m) order (number_word s)) refl a b x y
  one_named false a b x y = x ∙ sym y

pub one_merge : (words : List (List ℕ)) (a b : Asked) → AsksForMerge words a → AsksForMerge words b → a ≡ b
one_merge [] a b x y = x ∙ sym y
one_merge (name ∷ []) a b x y = x ∙ sym y
one_merge (name ∷ w ∷ []) a b x y = x ∙ sym y
one_merge (name ∷ w ∷ d ∷ []) a b x y = x ∙ sym y
one_merge (name ∷ w ∷ d ∷ m ∷ []) a b x y = x ∙ sym y
one_merge (name ∷ w ∷ d ∷ m ∷ order ∷ []) a b x y = x ∙ sym y
one_merge (name ∷ w ∷ d ∷ m ∷ order ∷ s ∷ files) a b x y =
    one_named w d m order s (bytes_eq name (codes "merge") && nat_le 1 (length files) && nat_le (length files) 1024) a b x y

-- what holds of what is asked for holds of all that is
pub each_merge : (words : List (List ℕ)) (a : Asked) (P : Asked → Type 0) → AsksForMerge words a → P a → (b : Asked) → AsksForMerge words b → P b
each_merge words a P asks holds b other = subst P (one_merge words a b asks other) holds
