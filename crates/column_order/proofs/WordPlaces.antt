-- The words of the columns increase, and each word has the place of its column.
use Rattle.std.proofs.Common.{◌≡◌, ℕ, ◌+◌, ◌<◌, ◌≤◌, zero, suc, ◌⊎◌, ◌↔◌, ◌≢◌, Bool, true, false, inl, inr, Some, None, IsNone, Option, IsTrue, List, [], ◌∷◌, length, map, get_or, set, slice_get, refl, sym, ap, subst, ◌∙◌, arith}
use Rattle.std.proofs.lemmas.Option.{slice_get_within, get_or_from_slice_get, slice_get-get_or, slice_get-map}
use Rattle.std.proofs.lemmas.Bool.{cases_lt, cases_eq}
use Rattle.std.proofs.lemmas.List.{length-map, length-set, get_or-set_same, get_or-set_other}
use Rattle.std.specs.Option.{option_map}
use Rattle.std.specs.List.{Contains}
use Rattle.std.specs.List.Sorted.{IsStrictlySortedBy}
use Rattle.zeta_model.specs.declared.Letter.{Letter}
use Rattle.zeta_model.specs.WordLists.{admissible_within}
use Rattle.zeta_model.proofs.WordListLaws.{admissible_within-increases}
use Rattle.zeta_model.specs.Words.{word_cmp, depth_of, is_admissible}
use Rattle.lyndon_words.specs.Lyndon.{joined, IsFactors}
use Rattle.lyndon_words.specs.Monomials.{IsMonomial}
use Rattle.lyndon_words.proofs.OneWay.{IsFactors-unique}
use Rattle.column_order.specs.declared.column.Column.{Column}
use Rattle.column_order.specs.declared.ranks.Preference.{Preference}
use Rattle.column_order.specs.Ranks.{rank_of}
use Rattle.column_order.specs.Columns.{ColumnList, HasLimits, IsColumn, IsColumnList, IsColumnWord}
use Rattle.column_order.specs.Inner.{AreColumns, AreKept, ArePlaces, column_words, monomials_of}
use Rattle.column_order.proofs.ColumnLists.{column_word, into_words, same_monomial, word_in}
use Rattle.column_order.proofs.ColumnWords.{word_found, word_held}
use Rattle.column_order.proofs.Places.{Contains-from_place, monomial_at, one_place}

-- of the first i of the others, each has its place beside the word that it is
pub record ArePlacedTo (words others : List (List Letter)) (places : List ℕ) (i : ℕ) : Type 0 where
  pub long : length places ≡ length words
  pub at : (k j : ℕ) (u : List Letter) → slice_get words k ≡ Some u → j < i → slice_get others j ≡ Some u → slice_get others (get_or places k 0) ≡ Some u

-- one more of the others, whose place is written beside its word
pub ArePlacedTo-next : (words others : List (List Letter)) (places : List ℕ) (i k : ℕ) (u : List Letter) → ArePlacedTo words others places i
    → k < length words → slice_get words k ≡ Some u → slice_get others i ≡ Some u → ((l : ℕ) → slice_get words l ≡ Some u → l ≡ k)
    → ArePlacedTo words others (set places k i) (i + 1)
ArePlacedTo-next words others places i k u placed within word other once = record {
  long = length-set places k i ∙ placed.long;
  at = λ l j v w h o. elim (cases_eq l k) [
    | inl e ↦
        let same : Some v ≡ Some u = sym w ∙ ap (slice_get words) e ∙ word in
        let here : get_or (set places k i) l 0 ≡ i = ap (λ t. get_or (set places k i) t 0) e ∙ get_or-set_same places k i 0 (omega (arith, placed.long)) in
        ap (slice_get others) here ∙ other ∙ sym same
    | inr n ↦
        let there : get_or (set places k i) l 0 ≡ get_or places l 0 = get_or-set_other places k l i 0 n in
        ap (slice_get others) there ∙ elim (cases_lt j i) [
          | inl b ↦ placed.at l j v w b o
          | inr b ↦
              let last : j ≡ i = omega arith in
              let same : Some v ≡ Some u = sym o ∙ ap (slice_get others) last ∙ other in
              absurd (n (once l (w ∙ same)))
        ]
  ];
}

pub ArePlaces-end : (words others : List (List Letter)) (places : List ℕ) (i : ℕ) → ArePlacedTo words others places i → length others ≤ i
    → ((u : List Letter) → Contains words u → Contains others u) → ArePlaces words others places
ArePlaces-end words others places i placed h all = record {
  long = placed.long;
  at = λ k u w.
      let c : Contains others u = all u (k, slice_get_within words k u w, get_or_from_slice_get words k u u w) in
      placed.at k c.0 u w (omega (arith, c.1)) (slice_get-get_or others c.0 u c.1 ∙ ap Some c.2);
}

-- the monomial at the place of a word
pub at_word : (ps : List (List (List Letter))) (i : ℕ) (u : List Letter) → slice_get (map joined ps) i ≡ Some u
    → (p : List (List Letter)) × (slice_get ps i ≡ Some p) × (joined p ≡ u)
at_word [] i u e = cc
at_word (p ∷ ps) zero u e = let same : joined p ≡ u = cc in (p, refl, same)
at_word (p ∷ ps) (suc i) u e = at_word ps i u e

pub word_at_place : (ps : List (List (List Letter))) (i : ℕ) (p : List (List Letter)) → slice_get ps i ≡ Some p
    → slice_get (map joined ps) i ≡ Some (joined p)
word_at_place ps i p e = slice_get-map joined ps i ∙ ap (option_map joined) e

-- a word is that of one column, and a column has one word
module _ (f : List Letter → ℕ) (w d : ℕ) (ps : List (List (List Letter))) (list : IsColumnList f w d ps) where
  column_at : (i : ℕ) (p : List (List Letter)) → slice_get ps i ≡ Some p → IsColumn w d p
  column_at i p e = (list.whole p).0 (Contains-from_place ps p i e)

  pub factors_at : (i : ℕ) (p : List (List Letter)) → slice_get ps i ≡ Some p → IsFactors (joined p) p
  factors_at i p e =
      let c : IsColumn w d p = column_at i p e in
      let m : IsMonomial p = c.monomial in
      record { lyndon = m.lyndon; falls = m.falls; whole = refl }

  pub one_word_place : (i j : ℕ) (u : List Letter) → slice_get (map joined ps) i ≡ Some u → slice_get (map joined ps) j ≡ Some u → i ≡ j
  one_word_place i j u a b =
      let p : (p : List (List Letter)) × (slice_get ps i ≡ Some p) × (joined p ≡ u) = at_word ps i u a in
      let q : (q : List (List Letter)) × (slice_get ps j ≡ Some q) × (joined q ≡ u) = at_word ps j u b in
      let first : IsColumn w d p.0 = column_at i p.0 p.1 in
      let second : IsColumn w d q.0 = column_at j q.0 q.1 in
      let same : p.0 ≡ q.0 = same_monomial p.0 q.0 first.monomial second.monomial (p.2 ∙ sym q.2) in
      one_place f ps i j q.0 list.in_order (p.1 ∙ ap Some same) q.1

  -- the place of a word is that of its factors
  pub factors_place : (i : ℕ) (u : List Letter) (p : List (List Letter)) → IsFactors u p
      → (slice_get (map joined ps) i ≡ Some u) ↔ (slice_get ps i ≡ Some p)
  factors_place i u p is = (λ e. there (at_word ps i u e), λ e. word_at_place ps i p e ∙ ap Some is.whole)
    where
      there : (q : List (List Letter)) × (slice_get ps i ≡ Some q) × (joined q ≡ u) → slice_get ps i ≡ Some p
      there q =
          let known : IsFactors u q.0 = subst (λ t. IsFactors t q.0) q.2 (factors_at i q.0 q.1) in
          q.1 ∙ ap Some (IsFactors-unique u q.0 p known is)

  pub column_word_at : 2 ≤ w → (i : ℕ) (p : List (List Letter)) → slice_get ps i ≡ Some p → IsColumnWord w d (joined p)
  column_word_at h i p e = word_found w d (joined p) (column_word w d p h (column_at i p e))

  pub word_place : w ≤ 24 → (u : List Letter) → IsColumnWord w d u
      → (i : ℕ) × (slice_get (map joined ps) i ≡ Some u) × ((j : ℕ) → slice_get (map joined ps) j ≡ Some u → j ≡ i)
  word_place k u a =
      let c : Contains (map joined ps) u = word_in f w d ps k list u a in
      let there : slice_get (map joined ps) c.0 ≡ Some u = slice_get-get_or (map joined ps) c.0 u c.1 ∙ ap Some c.2 in
      (c.0, there, λ j e. one_word_place j c.0 u e there)

-- a word that is not one of the words
pub no_word : (w d : ℕ) (u : List Letter) → ¬ (Contains (admissible_within w d) u) → (¬ (IsTrue (is_admissible u))) ⊎ ((length u ≢ w) ⊎ (d < depth_of u))
no_word w d u n = go (is_admissible u) refl
  where
    go : (b : Bool) → is_admissible u ≡ b → (¬ (IsTrue (is_admissible u))) ⊎ ((length u ≢ w) ⊎ (d < depth_of u))
    go false e = inl (λ t. let no : true ≡ false = sym t ∙ e in cc)
    go true e = elim (cases_eq (length u) w) [
      | inr h ↦ inr (inl h)
      | inl h ↦ elim (cases_lt d (depth_of u)) [
        | inl l ↦ inr (inr l)
        | inr l ↦ absurd (n (word_held w d u e h l))
      ]
    ]

pub not_a_word : (w d : ℕ) (u : List Letter) → (¬ (IsTrue (is_admissible u))) ⊎ ((length u ≢ w) ⊎ (d < depth_of u)) → ¬ (Contains (admissible_within w d) u)
not_a_word w d u c k =
    let a : IsColumnWord w d u = word_found w d u k in
    elim c [
      | inl p ↦ p a.admissible
      | inr r ↦ elim r [ inl p ↦ p a.weight | inr p ↦ absurd (omega (arith, a.depth)) ]
    ]

pub word_stands : (words others : List (List Letter)) (places : List ℕ) (k place : ℕ) (u : List Letter) → ArePlaces words others places
    → slice_get words k ≡ Some u
    → place ≡ get_or places k place → slice_get others place ≡ Some u
word_stands words others places k place u a w e =
    let within : k < length places = omega (arith, a.long, slice_get_within words k u w) in
    let same : get_or places k 0 ≡ place = get_or_from_slice_get places k place 0 (slice_get-get_or places k place within ∙ ap Some (sym e)) in
    ap (slice_get others) (sym same) ∙ a.at k u w

-- what is told of a word with a column at a place, and of a word without a column
module _ (f : List Letter → ℕ) (w d : ℕ) (ps : List (List (List Letter))) (list : IsColumnList f w d ps) (u : List Letter) where
  pub word_told : (place : ℕ) → slice_get (map joined ps) place ≡ Some u → (i : ℕ) → (Some place ≡ Some i) ↔ (slice_get (map joined ps) i ≡ Some u)
  word_told place there i = (
    λ e. let same : place ≡ i = cc in ap (slice_get (map joined ps)) (sym same) ∙ there,
    λ e. ap Some (one_word_place f w d ps list place i u there e),
  )

  pub place_told : (place : ℕ) → slice_get (map joined ps) place ≡ Some u → (p : List (List Letter)) (i : ℕ) → IsFactors u p
      → (Some place ≡ Some i) ↔ (slice_get ps i ≡ Some p)
  place_told place there p i is = (
    λ e. (factors_place f w d ps list i u p is).0 ((word_told place there i).0 e),
    λ e. (word_told place there i).1 ((factors_place f w d ps list i u p is).1 e),
  )

  pub no_place : 2 ≤ w → ¬ (Contains (admissible_within w d) u) → (i : ℕ) → ¬ (slice_get (map joined ps) i ≡ Some u)
  no_place h n i e =
      n (into_words f w d ps h list u (i, slice_get_within (map joined ps) i u e, get_or_from_slice_get (map joined ps) i u u e))

  pub known_word : 2 ≤ w → (i : ℕ) → slice_get (map joined ps) i ≡ Some u → Contains (admissible_within w d) u
  known_word h i e = into_words f w d ps h list u (i, slice_get_within (map joined ps) i u e, get_or_from_slice_get (map joined ps) i u u e)

pub column_word_place : (cs : List Column) (i : ℕ) (c : Column) → i < length cs → c ≡ get_or cs i c
    → slice_get (column_words cs) i ≡ Some (joined c.monomial)
column_word_place cs i c h e = word_at_place (monomials_of cs) i c.monomial (monomial_at cs i c h e)

pub length-column_words : (cs : List Column) → length (column_words cs) ≡ length cs
length-column_words cs = length-map (monomials_of cs) joined ∙ length-map cs (λ (c : Column). c.monomial)

-- what the answer to a word tells
pub record IsToldOf (columns : ColumnList) (u : List Letter) (answer : Option ℕ) : Type 0 where
  pub place : (p : List (List Letter)) (i : ℕ) → IsFactors u p → (answer ≡ Some i) ↔ (slice_get columns.list i ≡ Some p)
  pub word : (i : ℕ) → (answer ≡ Some i) ↔ (slice_get (map joined columns.list) i ≡ Some u)
  pub none : IsNone answer ↔ ((¬ (IsTrue (is_admissible u))) ⊎ ((length u ≢ columns.weight) ⊎ (columns.depth < depth_of u)))

module _ (p : Preference) (w d : ℕ) (cs : List Column) (words : List (List Letter)) (places : List ℕ) (kept : AreKept (rank_of p) w d cs words places)
    (u : List Letter) where
  list : IsColumnList (rank_of p) w d (monomials_of cs)
  list = let columns : AreColumns (rank_of p) w d cs = kept.columns in columns.list

  limits : HasLimits w d
  limits = kept.limits

  abbrev pub listed : ColumnList
  listed = record { weight = w; depth = d; preference = p; list = monomials_of cs }

  pub told_at : (k place : ℕ) → slice_get words k ≡ Some u → place ≡ get_or places k place → IsToldOf listed u (Some place)
  told_at k place e same =
      let there : slice_get (column_words cs) place ≡ Some u = word_stands words (column_words cs) places k place u kept.places_are e same in
      let known : Contains (admissible_within w d) u = known_word (rank_of p) w d (monomials_of cs) list u limits.least place there in
      record {
        place = place_told (rank_of p) w d (monomials_of cs) list u place there;
        word = word_told (rank_of p) w d (monomials_of cs) list u place there;
        none = (λ e. cc, λ h. absurd (not_a_word w d u h known));
      }

  pub told_nowhere : ¬ (Contains words u) → IsToldOf listed u None
  told_nowhere n =
      let unknown : ¬ (Contains (admissible_within w d) u) = λ c. n (subst (λ t. Contains t u) (sym kept.words_are) c) in
      let nowhere : (i : ℕ) → ¬ (slice_get (column_words cs) i ≡ Some u) = no_place (rank_of p) w d (monomials_of cs) list u limits.least unknown in
      record {
        place = λ q i is. (λ e. cc, λ e. absurd (nowhere i ((factors_place (rank_of p) w d (monomials_of cs) list i u q is).1 e)));
        word = λ i. (λ e. cc, λ e. absurd (nowhere i e));
        none = (λ e. no_word w d u unknown, λ h. refl);
      }

  pub words_increase : IsStrictlySortedBy word_cmp words
  words_increase = subst (IsStrictlySortedBy word_cmp) (sym kept.words_are) (admissible_within-increases w d)
