-- The words of the columns, sorted: they increase, and are the words of the table.
use Rattle.std.proofs.Common.{◌≡◌, ℕ, ◌+◌, ◌<◌, Bool, true, false, List, [], ◌∷◌, ◌++◌, length, map, take, get_or, Contains, All, slice_get}
use Rattle.std.proofs.Common.{Some, refl, sym, ◌∙◌, ap, subst, arith}
use Rattle.std.specs.List.{IsDistinct}
use Rattle.std.specs.List.Sorted.{IsSorted, IsPermutation, IsStrictlySortedBy}
use Rattle.std.specs.Ordering.{is_lt, is_eq, ordering_reverse}
use Rattle.std.specs.declared.cmp.Ordering.{Ordering}
use Rattle.std.specs.declared.cmp.Ordering.TheVariants.{Less, Equal, Greater}
use Rattle.std.specs.Cmp.{IsTotalOrder}
use Rattle.std.proofs.lemmas.List.{take_more, take_all, map-append, length-map, get_or-map}
use Rattle.std.proofs.lemmas.List.Elements.{All-from_get_or, Contains-get_or}
use Rattle.std.proofs.lemmas.List.Sorted.{All-permutation, Contains-permutation}
use Rattle.std.proofs.lemmas.Map.Keys.{IsDistinct-IsPermutation, IsDistinct-from_apart, apart_from_distinct, sorted_from_all_adjacent}
use Rattle.std.proofs.lemmas.Option.{get_or_from_slice_get}
use Rattle.word_letters.specs.Order.{word_eq_equiv}
use Rattle.zeta_model.specs.declared.Letter.{Letter}
use Rattle.zeta_model.specs.Sums.{same_word}
use Rattle.zeta_model.specs.Words.{word_cmp}
use Rattle.zeta_model.proofs.WordOrder.{word_cmp_total, same_word-one}
use Rattle.lyndon_words.specs.Lyndon.{joined}
use Rattle.column_order.specs.Columns.{ColumnList}
use Rattle.table_model.specs.Conversion.{IsTable, IsTableWord}
use Rattle.table_model.proofs.TableColumns.{word_at, column_of_word, word_of_table, word_at-injective}

abbrev Word : Type 0
Word = List Letter

-- words that are not the other way round and differ increase
less : (u v : Word) → is_lt (word_cmp v u) ≡ false → same_word u v ≡ false → word_cmp u v ≡ Less
less u v not_back differ = go (word_cmp u v) (word_cmp v u) not_back differ (order.antisymm u v)
  where
    order : IsTotalOrder word_cmp
    order = word_cmp_total

    go : (p q : Ordering) → is_lt q ≡ false → is_eq p ≡ false → p ≡ ordering_reverse q → p ≡ Less
    go Less q l s e = refl
    go Equal q l s e = cc
    go Greater Less l s e = cc
    go Greater Equal l s e = cc
    go Greater Greater l s e = cc

increasing : (ws : List Word) → IsDistinct same_word ws → IsSorted word_cmp ws → IsStrictlySortedBy word_cmp ws
increasing ws apart up =
    sorted_from_all_adjacent word_cmp_total ws []
    (λ k h. less (get_or ws k []) (get_or ws (k + 1) []) (up k [] (omega arith) h) (apart_from_distinct same_word ws k (k + 1) [] apart (omega arith) h))

-- the word of one column more
pub one_column_more : (list : List (List Word)) (i : ℕ) (p : List Word) (words : List Word) (w : Word) → i < length list → slice_get list i ≡ Some p
    → w ≡ joined p → words ≡ map joined (take i list)
    → words ++ w ∷ [] ≡ map joined (take (i + 1) list)
one_column_more list i p words w l at is so_far =
    let here : get_or list i [] ≡ p = get_or_from_slice_get list i p [] at in
    let longer : map joined (take (i + 1) list) ≡ map joined (take i list) ++ joined (get_or list i []) ∷ [] =
    ap (map joined) (take_more list i [] l) ∙ map-append joined (take i list) (get_or list i [] ∷ []) in
    (λ j. so_far j ++ is j ∷ []) ∙ ap (λ q. map joined (take i list) ++ joined q ∷ []) (sym here) ∙ sym longer

module _ (m : ℕ) (columns : ColumnList) (table : IsTable m columns) where
  abbrev words : List Word
  words = map joined columns.list

  word_is : (i : ℕ) (d : Word) → i < length columns.list → get_or words i d ≡ word_at m columns table i
  word_is i d l = get_or-map joined columns.list i [] d l

  differ : (u v : Word) → (u ≡ v → ⊥) → same_word u v ≡ false
  differ u v ne = by (same_word u v) refl
    where
      by : (b : Bool) → same_word u v ≡ b → same_word u v ≡ false
      by true e = absurd (ne (same_word-one u v e))
      by false e = e

  distinct : IsDistinct same_word words
  distinct = IsDistinct-from_apart same_word words (λ i j d l h.
      let lj : j < length columns.list = omega (arith, h, length-map columns.list joined) in
      differ (get_or words i d) (get_or words j d)
      (λ e. let same : i ≡ j = word_at-injective m columns table i j (omega arith) lj (sym (word_is i d (omega arith)) ∙ e ∙ word_is j d lj) in
      absurd (omega arith)))

  module _ (made sorted : List Word) (i : ℕ) (is : made ≡ map joined (take i columns.list)) (whole : i ≡ length columns.list)
      (moved : IsPermutation made sorted) where
    all_moved : IsPermutation words sorted
    all_moved = subst (λ ws. IsPermutation ws sorted) (is ∙ ap (map joined) (take_all i columns.list (omega arith))) moved

    pub sorted_increase : IsSorted word_cmp sorted → IsStrictlySortedBy word_cmp sorted
    sorted_increase up = increasing sorted (IsDistinct-IsPermutation same_word word_eq_equiv.symm words sorted all_moved distinct) up

    pub sorted_each : All (IsTableWord columns.weight columns.depth) sorted
    sorted_each =
        All-permutation (IsTableWord columns.weight columns.depth) words sorted all_moved
        (All-from_get_or (IsTableWord columns.weight columns.depth) words []
        (λ k l. let lk : k < length columns.list = omega (arith, l, length-map columns.list joined) in
        subst (IsTableWord columns.weight columns.depth) (sym (word_is k [] lk)) (word_of_table m columns table k lk)))

    pub sorted_whole : (t : Word) → IsTableWord columns.weight columns.depth t → Contains sorted t
    sorted_whole t is_word =
        let (col, l, e) = column_of_word m columns table t is_word in
        Contains-permutation words sorted t all_moved
        (subst (Contains words) (word_is col [] l ∙ e) (Contains-get_or words col [] (omega (arith, l, length-map columns.list joined))))
