-- Preferred words: whether a word is among them, and the order without any.
use Rattle.std.proofs.Common.{◌≡◌, ℕ, suc, ◌+◌, ◌-◌, ◌<◌, ◌↔◌, inl, inr, Bool, true, false, List, [], ◌∷◌, ◌++◌, length, take, set, replicate, refl, sym, ap, subst, ◌∙◌, arith, append_assoc, length-append}
use Rattle.std.specs.List.{Contains}
use Rattle.std.specs.List.Sorted.{IsStrictlySortedBy}
use Rattle.std.specs.Ordering.{eq_by_cmp, nat_cmp, ordering_then}
use Rattle.std.specs.declared.cmp.Ordering.{Ordering}
use Rattle.std.specs.declared.cmp.Ordering.TheVariants.{Less, Equal, Greater}
use Rattle.std.specs.Cmp.{ranks, tied_itself}
use Rattle.std.specs.Ordering.{MatchOrdering, is_eq}
use Rattle.std.proofs.lemmas.List.{set_at, take_more_set}
use Rattle.std.proofs.lemmas.List.Sums.{sum_by-cons}
use Rattle.zeta_model.specs.declared.Letter.{Letter}
use Rattle.zeta_model.specs.Words.{word_cmp}
use Rattle.zeta_model.proofs.WordOrder.{word_cmp_total}
use Rattle.word_letters.specs.Order.{same_words}
use Rattle.column_order.specs.declared.ranks.Mode.{Mode}
use Rattle.column_order.specs.declared.ranks.Preference.{Preference}
use Rattle.column_order.specs.LeadOrder.{rank_sum, lead_cmp}
use Rattle.column_order.specs.Ranks.{mode_rank, is_among, rank_of}
use Rattle.column_order.specs.Columns.{IsColumnList}
use Rattle.column_order.specs.Stored.{IsFilled, filled, length-stored}
use Rattle.column_order.proofs.Distinct.{none_contained, Contains-head, Contains-tail, Contains_cases}
use Rattle.column_order.proofs.LeadLaws.{nat_cmp-add}

itself : (w : List Letter) → eq_by_cmp word_cmp w w ≡ true
itself w = ap is_eq (tied_itself word_cmp_total w)

pub among-contained : (words : List (List Letter)) (w : List Letter) → Contains words w → is_among words w ≡ true
among-contained [] w c = absurd (none_contained w c)
among-contained (u ∷ words) w c = go (among-contained words w) (eq_by_cmp word_cmp u w) refl
  where
    go : (Contains words w → is_among words w ≡ true) → (b : Bool) → eq_by_cmp word_cmp u w ≡ b → is_among (u ∷ words) w ≡ true
    go again true e = rw e refl
    go again false e = elim (Contains_cases u words w c) [
      | inl s ↦ let t : eq_by_cmp word_cmp u w ≡ true = ap (eq_by_cmp word_cmp u) (sym s) ∙ itself u in let no : true ≡ false = sym t ∙ e in cc
      | inr q ↦ rw e (again q)
    ]

pub contained-among : (words : List (List Letter)) (w : List Letter) → is_among words w ≡ true → Contains words w
contained-among [] w e = cc
contained-among (u ∷ words) w e = go (contained-among words w) (eq_by_cmp word_cmp u w) refl
  where
    go : (is_among words w ≡ true → Contains words w) → (b : Bool) → eq_by_cmp word_cmp u w ≡ b → Contains (u ∷ words) w
    go again true s = subst (Contains (u ∷ words)) (same_words u w s) (Contains-head u words)
    go again false s = Contains-tail u words w (again (rw s at e))

-- a word that is not among them
pub among-not : (words : List (List Letter)) (w : List Letter) → ¬ (Contains words w) → is_among words w ≡ false
among-not words w n = go (is_among words w) refl
  where
    go : (b : Bool) → is_among words w ≡ b → is_among words w ≡ false
    go true e = absurd (n (contained-among words w e))
    go false e = e

abbrev none_preferred : Mode → Preference
none_preferred mode = record { mode = mode; words = [] }

rank_sum-none : (mode : Mode) (p : List (List Letter)) → rank_sum (rank_of (none_preferred mode)) p ≡ length p + rank_sum (mode_rank mode) p
rank_sum-none mode [] = refl
rank_sum-none mode (w ∷ p) = omega (arith, sum_by-cons (rank_of (none_preferred mode)) w p, sum_by-cons (mode_rank mode) w p, rank_sum-none mode p)

same_ranks : (mode : Mode) (p q : List (List Letter)) (rest : Ordering)
    → ordering_then (nat_cmp (length p) (length q))
    (ordering_then (nat_cmp (rank_sum (rank_of (none_preferred mode)) q) (rank_sum (rank_of (none_preferred mode)) p)) rest)
    ≡ ordering_then (nat_cmp (length p) (length q)) (ordering_then (nat_cmp (rank_sum (mode_rank mode) q) (rank_sum (mode_rank mode) p)) rest)
same_ranks mode p q rest = go (nat_cmp (length p) (length q)) (ranks (length p) (length q))
  where
    f : List Letter → ℕ
    f = rank_of (none_preferred mode)

    g : List Letter → ℕ
    g = mode_rank mode

    go : (o : Ordering) → MatchOrdering o (length p < length q) (length p ≡ length q) (length q < length p)
        → ordering_then o (ordering_then (nat_cmp (rank_sum f q) (rank_sum f p)) rest)
        ≡ ordering_then o (ordering_then (nat_cmp (rank_sum g q) (rank_sum g p)) rest)
    go Less h = refl
    go Greater h = refl
    go Equal h =
        let first : rank_sum f q ≡ length p + rank_sum g q = omega (arith, rank_sum-none mode q, h) in
        let both : nat_cmp (rank_sum f q) (rank_sum f p) ≡ nat_cmp (rank_sum g q) (rank_sum g p) =
        (λ i. nat_cmp (first i) (rank_sum-none mode p i)) ∙ nat_cmp-add (length p) (rank_sum g q) (rank_sum g p) in
        ap (λ o. ordering_then o rest) both

-- without a preferred word the order is that of the mode's ranks
pub lead_cmp-none : (mode : Mode) (p q : List (List Letter)) → lead_cmp (rank_of (record { mode = mode; words = [] })) p q ≡ lead_cmp (mode_rank mode) p q
lead_cmp-none mode p q = same_ranks mode p q _

pub one_order : (mode : Mode) → lead_cmp (rank_of (record { mode = mode; words = [] })) ≡ lead_cmp (mode_rank mode)
one_order mode i p q = lead_cmp-none mode p q i

moved : (f g : List Letter → ℕ) (w d : ℕ) (list : List (List (List Letter))) → lead_cmp f ≡ lead_cmp g → IsColumnList f w d list → IsColumnList g w d list
moved f g w d list e l = record { in_order = subst (λ r. IsStrictlySortedBy r list) e l.in_order; whole = l.whole }

pub one_list-none : (mode : Mode) (w d : ℕ) (list : List (List (List Letter)))
    → IsColumnList (rank_of (record { mode = mode; words = [] })) w d list ↔ IsColumnList (mode_rank mode) w d list
one_list-none mode w d list = (
  moved (rank_of (none_preferred mode)) (mode_rank mode) w d list (one_order mode),
  moved (mode_rank mode) (rank_of (none_preferred mode)) w d list
      (sym (one_order mode)),
)

-- one more word behind the others, where they are not 16
pub filled-push : (words : List (List Letter)) (count : ℕ) (w : List Letter) → IsFilled words count → count < 16 → IsFilled (set words count w) (count + 1)
filled-push words count w f h = record { few = omega arith; rest = moved_words }
  where
    list : List (List Letter)
    list = take count words

    long : length list ≡ count
    long = length-stored words count f

    all : words ≡ list ++ [] ∷ replicate (15 - count) []
    all = let e : 16 - length list ≡ suc (15 - count) = omega (arith, long) in f.rest ∙ ap (λ n. list ++ replicate n []) e

    within : count < length words
    within = omega (arith, ap length all, length-append list ([] ∷ replicate (15 - count) []), long)

    next : take (count + 1) (set words count w) ≡ list ++ w ∷ []
    next = take_more_set words count w within

    left : 16 - length (list ++ w ∷ []) ≡ 15 - count
    left = omega (arith, length-append list (w ∷ []), long)

    moved_words : set words count w ≡ filled (take (count + 1) (set words count w))
    moved_words =
        ap (λ t. set t count w) all ∙ set_at list [] (replicate (15 - count) []) w count long
        ∙ sym (ap filled next ∙ ap (λ n. (list ++ w ∷ []) ++ replicate n []) left ∙ append_assoc list (w ∷ []) (replicate (15 - count) []))
