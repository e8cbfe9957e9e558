-- The list of columns is whole, stands in lead order once it is sorted, and has as many monomials as there are words.
use Rattle.std.proofs.Common.{◌≡◌, ℕ, ◌+◌, ◌<◌, ◌≤◌, ◌↔◌, true, false, List, [], ◌∷◌, ◌++◌, length, map, take, get_or, refl, sym, ap, subst, ◌∙◌, arith}
use Rattle.std.proofs.lemmas.List.{length-map, map-append, get_or-map, take_more}
use Rattle.std.specs.List.{All, Contains}
use Rattle.std.specs.List.Sorted.{IsPermutation, IsSorted, IsStrictlySortedBy}
use Rattle.std.proofs.lemmas.List.Elements.{All-map, All-contains, All-weaker, All-get_or, All-push}
use Rattle.std.proofs.lemmas.List.Sorted.{IsPermutation-map, IsPermutation-sym, Contains-permutation, All-permutation, length_permutation}
use Rattle.std.proofs.lemmas.Map.Keys.{sorted_from_all_adjacent}
use Rattle.std.specs.declared.cmp.Ordering.{Ordering}
use Rattle.std.specs.declared.cmp.Ordering.TheVariants.{Less, Equal, Greater}
use Rattle.std.specs.Ordering.{is_lt, nat_cmp, ordering_then, ordering_reverse}
use Rattle.std.specs.Cmp.{IsTotalOrder}
use Rattle.std.specs.Cmp.Lexicographic.{slice_cmp}
use Rattle.zeta_model.specs.declared.Letter.{Letter}
use Rattle.zeta_model.specs.WordLists.{admissible_within}
use Rattle.zeta_model.proofs.WordListLaws.{length-admissible_within}
use Rattle.zeta_model.specs.Words.{word_cmp, depth_of}
use Rattle.lyndon_words.specs.Lyndon.{joined, IsFactors}
use Rattle.lyndon_words.specs.Monomials.{IsMonomial}
use Rattle.lyndon_words.proofs.AdmissibleFactors.{joined-admissible}
use Rattle.lyndon_words.proofs.Factorising.{word-unique, found_monomial}
use Rattle.lyndon_words.proofs.JoinFront.{factors_of, IsFactors-factors_of}
use Rattle.lyndon_words.proofs.OneWay.{IsFactors-unique}
use Rattle.column_order.specs.declared.column.Column.{Column}
use Rattle.column_order.specs.declared.lead_order.Standing.{Standing}
use Rattle.column_order.specs.LeadOrder.{lead_cmp}
use Rattle.column_order.specs.Columns.{HasLimits, IsColumn, IsColumnList, IsColumnWord, column_count}
use Rattle.column_order.specs.Inner.{IsStanding, HasStanding, AreOf, AreColumns, standing_cmp, column_cmp, monomials_of}
use Rattle.column_order.proofs.LeadLaws.{lead_cmp_total, lead_cmp-IsAntisymmetric, Leads-irreflexive, Leads-trans}
use Rattle.column_order.proofs.Distinct.{AllDistinct, AllDistinct-map, AllDistinct-from_map, AllDistinct-from_same, AllDistinct-from_sorted, AllDistinct-apart, Contains-map, Contains-from_map, length-le_from_within, same_sorted}
use Rattle.column_order.proofs.SortedLists.{sorted_list}
use Rattle.column_order.proofs.ColumnWords.{word_held, word_found, AllDistinct-words}

-- the word of a column is one of the words
pub column_word : (w d : ℕ) (p : List (List Letter)) → 2 ≤ w → IsColumn w d p → Contains (admissible_within w d) (joined p)
column_word w d p h c = word_held w d (joined p) (joined-admissible p c.monomial.admissible (some p c.weight)) c.weight c.depth
  where
    some : (p : List (List Letter)) → length (joined p) ≡ w → 0 < length p
    some [] e = omega arith
    some (u ∷ p) e = omega arith

pub same_monomial : (p q : List (List Letter)) → IsMonomial p → IsMonomial q → joined p ≡ joined q → p ≡ q
same_monomial p q mp mq e = word-unique q p (joined q) mq mp refl e

-- the monomials of the words are the columns
monomials_whole : (w d : ℕ) (ps : List (List (List Letter))) → 2 ≤ w → map joined ps ≡ admissible_within w d → All IsMonomial ps → (p : List (List Letter))
    → Contains ps p ↔ IsColumn w d p
monomials_whole w d ps h e all p = (there, back)
  where
    there : Contains ps p → IsColumn w d p
    there c =
        let a : IsColumnWord w d (joined p) = word_found w d (joined p) (subst (λ t. Contains t (joined p)) e (Contains-map joined ps p c)) in
        record { monomial = All-contains IsMonomial ps p all c; weight = a.weight; depth = a.depth }

    back : IsColumn w d p → Contains ps p
    back c =
        let r : (q : List (List Letter)) × Contains ps q × (joined q ≡ joined p) =
        Contains-from_map joined ps (joined p) (subst (λ t. Contains t (joined p)) (sym e) (column_word w d p h c)) in
        subst (Contains ps) (same_monomial r.0 p (All-contains IsMonomial ps r.0 all r.1) c.monomial r.2) r.1

-- the column of a word
column_of_word : (w d : ℕ) (u : List Letter) → w ≤ 24 → IsColumnWord w d u → IsColumn w d (factors_of u)
column_of_word w d u k a =
    let is : IsFactors u (factors_of u) = IsFactors-factors_of u in
    record {
      monomial = found_monomial u (factors_of u) a.admissible (omega (arith, a.weight)) is;
      weight = ap length is.whole ∙ a.weight;
      depth = subst (λ t. depth_of t ≤ d) (sym is.whole) a.depth;
    }

-- each word of a column is one of the words, and each of the words is that of a column
pub into_words : (f : List Letter → ℕ) (w d : ℕ) (ps : List (List (List Letter))) → 2 ≤ w → IsColumnList f w d ps
    → (u : List Letter) → Contains (map joined ps) u → Contains (admissible_within w d) u
into_words f w d ps h l u c =
    let r : (p : List (List Letter)) × Contains ps p × (joined p ≡ u) = Contains-from_map joined ps u c in
    subst (Contains (admissible_within w d)) r.2 (column_word w d r.0 h ((l.whole r.0).0 r.1))

pub word_in : (f : List Letter → ℕ) (w d : ℕ) (ps : List (List (List Letter))) → w ≤ 24 → IsColumnList f w d ps
    → (u : List Letter) → IsColumnWord w d u → Contains (map joined ps) u
word_in f w d ps k l u a =
    let is : IsFactors u (factors_of u) = IsFactors-factors_of u in
    subst (Contains (map joined ps)) is.whole (Contains-map joined ps (factors_of u) ((l.whole (factors_of u)).1 (column_of_word w d u k a)))

pub from_words : (f : List Letter → ℕ) (w d : ℕ) (ps : List (List (List Letter))) → w ≤ 24 → IsColumnList f w d ps
    → (u : List Letter) → Contains (admissible_within w d) u → Contains (map joined ps) u
from_words f w d ps k l u c = word_in f w d ps k l u (word_found w d u c)

-- a list of the columns has as many monomials as there are words
pub length-columns : (f : List Letter → ℕ) (w d : ℕ) (ps : List (List (List Letter))) → 2 ≤ w → w ≤ 24 → 1 ≤ d → IsColumnList f w d ps
    → length ps ≡ column_count w d
length-columns f w d ps h k g l =
    let column : (p : List (List Letter)) → Contains ps p → IsColumn w d p = λ p c. (l.whole p).0 c in
    let distinct : AllDistinct ps = AllDistinct-from_sorted (lead_cmp f) (Leads-irreflexive f) ps l.in_order in
    let apart : AllDistinct (map joined ps) =
    AllDistinct-map joined ps (λ p q a b e. same_monomial p q (column p a).monomial (column q b).monomial e) distinct in
    let most : length (map joined ps) ≤ length (admissible_within w d) =
    length-le_from_within (map joined ps) (admissible_within w d) apart (into_words f w d ps h l) in
    let least : length (admissible_within w d) ≤ length (map joined ps) =
    length-le_from_within (admissible_within w d) (map joined ps) (AllDistinct-words w d) (from_words f w d ps k l) in
    omega (arith, length-map ps joined, length-admissible_within w d h)

-- whatever the ranks are, the columns have a list
pub some_list : (f : List Letter → ℕ) (w d : ℕ) → HasLimits w d → (ps : List (List (List Letter))) × IsColumnList f w d ps
some_list f w d limits = (sorted.0, record { in_order = sorted.1; whole = λ p. (λ c. there p ((sorted.2 p).0 c), λ c. (sorted.2 p).1 (back p c)) })
  where
    all : List (List (List Letter))
    all = map factors_of (admissible_within w d)

    sorted : (zs : List (List (List Letter))) × IsStrictlySortedBy (lead_cmp f) zs × ((z : List (List Letter)) → Contains zs z ↔ Contains all z)
    sorted = sorted_list (lead_cmp f) (lead_cmp_total f) (lead_cmp-IsAntisymmetric f) all

    there : (p : List (List Letter)) → Contains all p → IsColumn w d p
    there p c =
        let r : (u : List Letter) × Contains (admissible_within w d) u × (factors_of u ≡ p) = Contains-from_map factors_of (admissible_within w d) p c in
        subst (IsColumn w d) r.2 (column_of_word w d r.0 limits.most (word_found w d r.0 r.1))

    back : (p : List (List Letter)) → IsColumn w d p → Contains all p
    back p c =
        let m : IsMonomial p = c.monomial in
        let is : IsFactors (joined p) p = record { lyndon = m.lyndon; falls = m.falls; whole = refl } in
        subst (Contains all) (IsFactors-unique (joined p) (factors_of (joined p)) p (IsFactors-factors_of (joined p)) is)
        (Contains-map factors_of (admissible_within w d) (joined p) (column_word w d p limits.least c))

-- the order of two columns is that of their monomials
pub standing_cmp-stands : (f : List Letter → ℕ) (p q : List (List Letter)) (s t : Standing) → IsStanding f p s → IsStanding f q t
    → standing_cmp p s q t ≡ lead_cmp f p q
standing_cmp-stands f p q s t a b i =
    ordering_then (nat_cmp (length p) (length q))
    (ordering_then (nat_cmp (b.ranks i) (a.ranks i))
    (ordering_then (nat_cmp (b.depth i) (a.depth i))
    (slice_cmp word_cmp q p)))

-- of two monomials that are not one, the first is before the second where the second is not before the first
strictly : (f : List Letter → ℕ) (p q : List (List Letter)) → is_lt (lead_cmp f q p) ≡ false → ¬ (p ≡ q) → lead_cmp f p q ≡ Less
strictly f p q h n = go (lead_cmp f p q) refl
  where
    o : IsTotalOrder (lead_cmp f)
    o = lead_cmp_total f

    go : (r : Ordering) → lead_cmp f p q ≡ r → lead_cmp f p q ≡ Less
    go Less e = e
    go Equal e = absurd (n (lead_cmp-IsAntisymmetric f p q e))
    go Greater e = let less : lead_cmp f q p ≡ Less = o.antisymm q p ∙ ap ordering_reverse e in let l : is_lt (lead_cmp f q p) ≡ true = ap is_lt less in cc

AllMonomial-stood : (f : List Letter → ℕ) (cs : List Column) → All (HasStanding f) cs → All IsMonomial (monomials_of cs)
AllMonomial-stood f cs all = All-map IsMonomial (λ c. c.monomial) cs (All-weaker (HasStanding f) (λ c. IsMonomial c.monomial) (λ c s. s.monomial) cs all)

no_column : Column
no_column = record { monomial = []; standing = record { ranks = 0; depth = 0 } }

in_order : (f : List Letter → ℕ) (es : List Column) → All (HasStanding f) es → AllDistinct (monomials_of es) → IsSorted column_cmp es
    → IsStrictlySortedBy (lead_cmp f) (monomials_of es)
in_order f es stood distinct sorted = sorted_from_all_adjacent (lead_cmp_total f) (monomials_of es) [] adjacent
  where
    at : (k : ℕ) → k < length es → get_or (monomials_of es) k [] ≡ (get_or es k no_column).monomial
    at k h = get_or-map (λ (c : Column). c.monomial) es k no_column [] h

    adjacent : (k : ℕ) → k + 1 < length (monomials_of es) → lead_cmp f (get_or (monomials_of es) k []) (get_or (monomials_of es) (k + 1) []) ≡ Less
    adjacent k h =
        let long : k + 1 < length es = omega (arith, length-map es (λ (c : Column). c.monomial)) in
        let a : Column = get_or es k no_column in
        let b : Column = get_or es (k + 1) no_column in
        let sa : HasStanding f a = All-get_or (HasStanding f) es k no_column (omega arith) stood in
        let sb : HasStanding f b = All-get_or (HasStanding f) es (k + 1) no_column long stood in
        let back : is_lt (lead_cmp f b.monomial a.monomial) ≡ false =
        ap is_lt (sym (standing_cmp-stands f b.monomial a.monomial b.standing a.standing sb.standing sa.standing))
        ∙ sorted k no_column (omega arith) long in
        let apart : ¬ (a.monomial ≡ b.monomial) =
        λ e. AllDistinct-apart (monomials_of es) k (k + 1) [] distinct (omega arith) h (at k (omega arith) ∙ e ∙ sym (at (k + 1) long)) in
        (λ i. lead_cmp f (at k (omega arith) i) (at (k + 1) long i)) ∙ strictly f a.monomial b.monomial back apart

-- the columns of the words, once they are sorted
pub AreColumns-sorted : (f : List Letter → ℕ) (w d : ℕ) (cs es : List Column) → 2 ≤ w → AreOf f (admissible_within w d) cs → IsPermutation cs es
    → IsSorted column_cmp es → AreColumns f w d es
AreColumns-sorted f w d cs es h of moved sorted =
    let ps : List (List (List Letter)) = monomials_of cs in
    let qs : List (List (List Letter)) = monomials_of es in
    let moved_monomials : IsPermutation ps qs = IsPermutation-map (λ (c : Column). c.monomial) cs es moved in
    let back : IsPermutation qs ps = IsPermutation-sym ps qs moved_monomials in
    let stood : All (HasStanding f) es = All-permutation (HasStanding f) cs es moved of.stood in
    let apart : AllDistinct ps = AllDistinct-from_map joined ps (subst AllDistinct (sym of.words) (AllDistinct-words w d)) in
    let distinct : AllDistinct qs = AllDistinct-from_same qs ps apart (omega (arith, length_permutation ps qs moved_monomials))
    (λ p c. Contains-permutation qs ps p back c) (λ p c. Contains-permutation ps qs p moved_monomials c) in
    let whole : (p : List (List Letter)) → Contains ps p ↔ IsColumn w d p = monomials_whole w d ps h of.words (AllMonomial-stood f cs of.stood) in
    record {
      list = record {
        in_order = in_order f es stood distinct sorted;
        whole = λ p. (λ c. (whole p).0 (Contains-permutation qs ps p back c), λ c. Contains-permutation ps qs p moved_monomials ((whole p).1 c));
      };
      stood = stood;
    }

-- one more word with its column
AreOf-push : (f : List Letter → ℕ) (ws : List (List Letter)) (cs : List Column) (w : List Letter) (c : Column) → AreOf f ws cs → IsMonomial c.monomial
    → joined c.monomial ≡ w → IsStanding f c.monomial c.standing → AreOf f (ws ++ w ∷ []) (cs ++ c ∷ [])
AreOf-push f ws cs w c of m e s = record {
  words = ap (map joined) (map-append (λ (c : Column). c.monomial) cs (c ∷ [])) ∙ map-append joined (monomials_of cs) (c.monomial ∷ [])
      ∙ (λ i. of.words i ++ e i ∷ []);
  stood = All-push (HasStanding f) cs c of.stood (record { monomial = m; standing = s });
}

-- the word at place i, with its column, behind those before it
pub AreOf-next : (f : List Letter → ℕ) (ws : List (List Letter)) (i : ℕ) (w : List Letter) (cs ds : List Column) (c : Column) → i < length ws
    → w ≡ get_or ws i w → AreOf f (take i ws) cs → ds ≡ cs ++ c ∷ [] → IsMonomial c.monomial → joined c.monomial ≡ w → IsStanding f c.monomial c.standing
    → AreOf f (take (i + 1) ws) ds
AreOf-next f ws i w cs ds c h g of e m j s =
    let words : take (i + 1) ws ≡ take i ws ++ w ∷ [] = take_more ws i w h ∙ ap (λ t. take i ws ++ t ∷ []) (sym g) in
    subst (λ t. AreOf f t ds) (sym words) (subst (AreOf f (take i ws ++ w ∷ [])) (sym e) (AreOf-push f (take i ws) cs w c of m j s))

pub one_list : (f : List Letter → ℕ) (w d : ℕ) (ps qs : List (List (List Letter))) → IsColumnList f w d ps → IsColumnList f w d qs → ps ≡ qs
one_list f w d ps qs l m =
    same_sorted (lead_cmp f) (Leads-irreflexive f) (Leads-trans f) ps qs l.in_order m.in_order (λ p c. (m.whole p).1 ((l.whole p).0 c))
    (λ p c. (l.whole p).1 ((m.whole p).0 c))
