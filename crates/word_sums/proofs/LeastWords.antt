-- The least of the words that fail a test.
use Rattle.std.proofs.Common.{◌≡◌, Bool, true, false, cond, List, [], ◌∷◌, Contains, Option, Some, None, Ordering, Less, Equal, Greater, inl, inr, refl, sym, ap, subst, arith}
use Rattle.std.specs.Prelude.{All, MatchOption, filter, not, ◌⊎◌}
use Rattle.std.specs.Ordering.{is_lt, is_le, is_gt, is_eq, ord_min, ordering_reverse}
use Rattle.std.proofs.lemmas.List.Elements.{All-nil, All-cons, All-head, All-tail, All-contains, Contains-append_left, Contains-append_right, Contains-append_cases}
use Rattle.std.proofs.lemmas.Cmp.{upto, tied_itself}
use Rattle.word_letters.specs.Order.{word_cmp_total, same_words}
use Rattle.zeta_model.specs.declared.Letter.{Letter}
use Rattle.zeta_model.specs.Words.{word_cmp}
use Rattle.word_sums.specs.Failing.{IsLeast}

abbrev Word : Type 0
Word = List Letter

pub IsLeast-none : (ws : List Word) (w : Word) → ws ≡ [] → IsLeast ws w → ⊥
IsLeast-none [] w e l = let k = l.stands.1 in omega arith
IsLeast-none (v ∷ ws) w e l = cc

at_most : (o : Ordering) → is_le o ≡ true → is_gt o ≡ false
at_most Less h = refl
at_most Equal h = refl
at_most Greater h = cc

not_above : (o : Ordering) → is_gt o ≡ false → is_le o ≡ true
not_above Less h = refl
not_above Equal h = refl
not_above Greater h = cc

turned : (o p : Ordering) → o ≡ ordering_reverse p → is_lt o ≡ false → is_le p ≡ true
turned o Less e h = refl
turned o Equal e h = refl
turned Less Greater e h = cc
turned Equal Greater e h = cc
turned Greater Greater e h = cc

less_is : (o : Ordering) → is_lt o ≡ true → is_le o ≡ true
less_is Less h = refl
less_is Equal h = refl
less_is Greater h = cc

le_trans : (u v w : Word) → is_le (word_cmp u v) ≡ true → is_le (word_cmp v w) ≡ true → is_le (word_cmp u w) ≡ true
le_trans u v w p q = not_above (word_cmp u w) (upto word_cmp_total u v w (at_most (word_cmp u v) p) (at_most (word_cmp v w) q))

le_itself : (u : Word) → is_le (word_cmp u u) ≡ true
le_itself u = ap is_le (tied_itself word_cmp_total u)

-- a list has one least word
pub IsLeast-one : (ws : List Word) (u v : Word) → IsLeast ws u → IsLeast ws v → u ≡ v
IsLeast-one ws u v lu lv =
    same_words u v (by (word_cmp u v) (word_cmp v u) (All-contains (λ w. is_le (word_cmp u w) ≡ true) ws v lu.least lv.stands)
    (All-contains (λ w. is_le (word_cmp v w) ≡ true) ws u lv.least lu.stands) (word_cmp_total.antisymm u v))
  where
    by : (o p : Ordering) → is_le o ≡ true → is_le p ≡ true → o ≡ ordering_reverse p → is_eq o ≡ true
    by Equal p h k e = refl
    by Greater p h k e = cc
    by Less Less h k e = cc
    by Less Equal h k e = cc
    by Less Greater h k e = cc

-- the lesser of a word, if there is one, and another
abbrev pub lesser_of : Option Word → Word → Word
lesser_of None w = w
lesser_of (Some v) w = ord_min word_cmp v w

pub lesser_is : (first : Option Word) (w u : Word) → MatchOption first (u ≡ w) (λ v. u ≡ ord_min word_cmp v w) → u ≡ lesser_of first w
lesser_is None w u is = is
lesser_is (Some v) w u is = is

-- a word, if there is one, before a list
abbrev before : Option Word → List Word → List Word
before None ws = ws
before (Some v) ws = v ∷ ws

Contains-first : (w : Word) (ws : List Word) → Contains (w ∷ ws) w
Contains-first w ws = (0, omega arith, refl)

Contains-second : (v w u : Word) (ws : List Word) → Contains (w ∷ ws) u → Contains (v ∷ w ∷ ws) u
Contains-second v w u ws h = Contains-append_right (v ∷ []) (w ∷ ws) u h

Contains-skip : (v w u : Word) (ws : List Word) → Contains (v ∷ ws) u → Contains (v ∷ w ∷ ws) u
Contains-skip v w u ws h = by (Contains-append_cases (v ∷ []) ws u h)
  where
    by : Contains (v ∷ []) u ⊎ Contains ws u → Contains (v ∷ w ∷ ws) u
    by (inl h) = Contains-append_left (v ∷ []) (w ∷ ws) u h
    by (inr h) = Contains-append_right (v ∷ w ∷ []) ws u h

-- the least word of a list with the lesser of two is the least of the list with both
IsLeast-lesser : (v w u : Word) (ws : List Word) → IsLeast (ord_min word_cmp v w ∷ ws) u → IsLeast (v ∷ w ∷ ws) u
IsLeast-lesser v w u ws l = by (is_lt (word_cmp w v)) refl l
  where
    by : (b : Bool) → is_lt (word_cmp w v) ≡ b → IsLeast (cond b w v ∷ ws) u → IsLeast (v ∷ w ∷ ws) u
    by true is l =
        let first : is_le (word_cmp u w) ≡ true = All-head (λ r. is_le (word_cmp u r) ≡ true) w ws l.least in
        record {
          stands = Contains-second v w u ws l.stands;
          least = All-cons (λ r. is_le (word_cmp u r) ≡ true) v (w ∷ ws) (le_trans u w v first (less_is (word_cmp w v) is)) l.least;
        }
    by false is l =
        let first : is_le (word_cmp u v) ≡ true = All-head (λ r. is_le (word_cmp u r) ≡ true) v ws l.least in
        let second : is_le (word_cmp u w) ≡ true = le_trans u v w first (turned (word_cmp w v) (word_cmp v w) (word_cmp_total.antisymm w v) is) in
        record {
          stands = Contains-skip v w u ws l.stands;
          least = All-cons (λ r. is_le (word_cmp u r) ≡ true) v (w ∷ ws) first
              (All-cons (λ r. is_le (word_cmp u r) ≡ true) w ws second (All-tail (λ r. is_le (word_cmp u r) ≡ true) v ws l.least));
        }

IsLeast-step : (best : Option Word) (w : Word) (ws : List Word) (r : Option Word)
    → MatchOption r (before (Some (lesser_of best w)) ws ≡ []) (IsLeast (before (Some (lesser_of best w)) ws))
    → MatchOption r (before best (w ∷ ws) ≡ []) (IsLeast (before best (w ∷ ws)))
IsLeast-step best w ws None h = cc
IsLeast-step None w ws (Some u) l = l
IsLeast-step (Some v) w ws (Some u) l = IsLeast-lesser v w u ws l

module _ (passes : Word → Bool) where
  abbrev pub fail : List Word → List Word
  fail ws = filter (λ w. not (passes w)) ws

  pub all_pass : (ws : List Word) → fail ws ≡ [] → All (λ w. passes w ≡ true) ws
  all_pass [] none = All-nil (λ w. passes w ≡ true)
  all_pass (w ∷ ws) none = by (passes w) refl (all_pass ws) none
    where
      by : (b : Bool) → passes w ≡ b → (fail ws ≡ [] → All (λ v. passes v ≡ true) ws) → cond (not b) (w ∷ fail ws) (fail ws) ≡ []
          → All (λ v. passes v ≡ true) (w ∷ ws)
      by true is more e = All-cons (λ v. passes v ≡ true) w ws is (more e)
      by false is more e = cc

  -- the least of a word, if there is one, and the words of a list that fail
  abbrev pub least_from : Option Word → List Word → Option Word
  least_from best [] = best
  least_from best (w ∷ ws) = least_from (cond (passes w) best (Some (lesser_of best w))) ws

  -- what is found is the least word, None where there is none
  abbrev pub Finds : Option Word → List Word → Type 0
  Finds found ws = MatchOption found (ws ≡ []) (IsLeast ws)

  least_from-least : (best : Option Word) (ws : List Word) → Finds (least_from best ws) (before best (fail ws))
  least_from-least None [] = refl
  least_from-least (Some v) [] =
      record {
        stands = Contains-first v [];
        least =
            All-cons (λ u. is_le (word_cmp v u) ≡ true) v [] (le_itself v) (All-nil (λ u. is_le (word_cmp v u) ≡ true));
      }
  least_from-least best (w ∷ ws) = by (passes w) (λ b. least_from-least b ws)
    where
      by : (b : Bool) → ((p : Option Word) → Finds (least_from p ws) (before p (fail ws)))
          → Finds (least_from (cond b best (Some (lesser_of best w))) ws) (before best (cond (not b) (w ∷ fail ws) (fail ws)))
      by true more = more best
      by false more = IsLeast-step best w (fail ws) (least_from (Some (lesser_of best w)) ws) (more (Some (lesser_of best w)))

  -- what the fold over a list finds
  pub least_found : (ws : List Word) (r : Option Word) → r ≡ least_from None ws → Finds r (fail ws)
  least_found ws r is = subst (λ o. Finds o (fail ws)) (sym is) (least_from-least None ws)
