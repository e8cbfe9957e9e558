-- The list of the admissible words, as the code makes it.
use Rattle.std.proofs.Common.{◌≡◌, ℕ, ◌+◌, ◌-◌, ◌≤◌, ◌<◌, zero, suc, nat_le, Bool, true, false, ◌&&◌, cond, List, [], ◌∷◌, ◌++◌, length, map, filter, All, get_or, refl, sym, ap, ◌∙◌, arith, append_assoc}
use Rattle.std.proofs.lemmas.List.{append-nil, map-append}
use Rattle.std.proofs.lemmas.List.Elements.{All-nil, All-cons, All-append, All-map, All-weaker, filter-append}
use Rattle.std.proofs.lemmas.Bool.Decides.{nat_tests}
use Rattle.zeta_model.specs.declared.Letter.{Letter}
use Rattle.zeta_model.specs.declared.Letter.TheVariants.{X, Y}
use Rattle.zeta_model.specs.Words.{depth_of, ends_with_y, is_admissible}
use Rattle.zeta_model.specs.WordLists.{all_words, admissible_within}
use Rattle.zeta_model.proofs.DepthLemmas.{depth_of-x, depth_of-y, depth_of-some}
use Rattle.word_letters.specs.Inner.{is_tail, words_behind}
use Rattle.word_letters.proofs.FilterLemmas.{filter-map, filter-filter, filter_same, filter_none, map-map}

abbrev Word : Type 0
Word = List Letter

-- each word of the list has its weight
pub length-all_words : (k : ℕ) → All (λ w. length w ≡ k) (all_words k)
unfolding all_words
length-all_words zero = All-cons (λ w. length w ≡ 0) [] [] refl (All-nil (λ w. length w ≡ 0))
length-all_words (suc k) =
    let more : (a : Letter) → All (λ w. length w ≡ suc k) (map (λ w. a ∷ w) (all_words k)) =
    λ a. All-map (λ w. length w ≡ suc k) (λ w. a ∷ w) (all_words k)
    (All-weaker (λ w. length w ≡ k) (λ w. suc (length w) ≡ suc k) (λ w e. ap suc e) (all_words k) (length-all_words k)) in
    All-append (λ w. length w ≡ suc k) (map (λ w. X ∷ w) (all_words k)) (map (λ w. Y ∷ w) (all_words k)) (more X) (more Y)

-- two tests that agree at the words that are not empty
filter_words : (p q : Word → Bool) (n : ℕ) → ((a : Letter) (t : Word) → p (a ∷ t) ≡ q (a ∷ t)) → filter p (all_words (suc n)) ≡ filter q (all_words (suc n))
filter_words p q n same = filter_same p q (all_words (suc n))
    (All-weaker (λ w. length w ≡ suc n) (λ w. p w ≡ q w) agree (all_words (suc n)) (length-all_words (suc n)))
  where
    agree : (w : Word) → length w ≡ suc n → p w ≡ q w
    agree [] e = absurd (omega arith)
    agree (a ∷ t) e = same a t

-- the words of one letter more that pass a test
filter-all_words : (p : Word → Bool) (n : ℕ)
    → filter p (all_words (suc n)) ≡ map (λ t. X ∷ t) (filter (λ t. p (X ∷ t)) (all_words n)) ++ map (λ t. Y ∷ t) (filter (λ t. p (Y ∷ t)) (all_words n))
unfolding all_words
filter-all_words p n = filter-append p (map (λ t. X ∷ t) (all_words n)) (map (λ t. Y ∷ t) (all_words n))
    ∙ (λ i. filter-map p (λ t. X ∷ t) (all_words n) i ++ filter-map p (λ t. Y ∷ t) (all_words n) i)

tail-none : (t : Word) → is_tail 0 t ≡ false
tail-none t = elim (ends_with_y t) as (λ b. ends_with_y t ≡ b → (b && nat_le (depth_of t) 0) ≡ false) [
  | true ↦ λ e. above (depth_of t) (depth_of-some t e)
  | false ↦ λ e. refl
] refl
  where
    above : (k : ℕ) → 0 < k → nat_le k 0 ≡ false
    above k h = grind (arith, nat_tests)

pub words_behind-none : (f : Word) (n : ℕ) → words_behind f n 0 ≡ []
unfolding words_behind
words_behind-none f n = ap (map (λ t. f ++ t)) (filter_none (is_tail 0) (all_words n) (tails (all_words n)))
  where
    tails : (ws : List Word) → All (λ t. is_tail 0 t ≡ false) ws
    tails ws k d h = tail-none (get_or ws k d)

pub words_behind-one : (f : Word) (d : ℕ) → 0 < d → words_behind f 1 d ≡ (f ++ Y ∷ []) ∷ []
unfolding words_behind all_words
words_behind-one f d h =
    let deep : nat_le (depth_of (Y ∷ [])) d ≡ true = fits (depth_of (Y ∷ [])) d (omega (arith, depth_of-y [])) in
    ap (λ b. map (λ t. f ++ t) (cond b ((Y ∷ []) ∷ []) [])) deep
  where
    fits : (k d : ℕ) → k ≤ d → nat_le k d ≡ true
    fits k d h = grind (arith, nat_tests)

tail-x : (d : ℕ) (a : Letter) (t : Word) → is_tail d (X ∷ a ∷ t) ≡ is_tail d (a ∷ t)
tail-x d a t = ap (λ k. ends_with_y (a ∷ t) && nat_le k d) (depth_of-x (a ∷ t))

tail-y : (d : ℕ) (a : Letter) (t : Word) → is_tail (suc d) (Y ∷ a ∷ t) ≡ is_tail d (a ∷ t)
tail-y d a t = ap (λ b. ends_with_y (a ∷ t) && b) (ap (λ k. nat_le k (suc d)) (depth_of-y (a ∷ t)) ∙ less (depth_of (a ∷ t)) d)
  where
    less : (k d : ℕ) → nat_le (1 + k) (suc d) ≡ nat_le k d
    less k d = grind (arith, nat_tests)

behind_letter : (a : Letter) (f : Word) (ts : List Word) → map (λ t. f ++ t) (map (λ t. a ∷ t) ts) ≡ map (λ t. (f ++ a ∷ []) ++ t) ts
behind_letter a f ts = map-map (λ t. f ++ t) (λ t. a ∷ t) ts ∙ (λ i. map (λ t. sym (append_assoc f (a ∷ []) t) i) ts)

words_behind-two : (f : Word) (n d : ℕ)
    → words_behind f (suc (suc n)) (suc d) ≡ words_behind (f ++ X ∷ []) (suc n) (suc d) ++ words_behind (f ++ Y ∷ []) (suc n) d
unfolding words_behind
words_behind-two f n d =
    let xs : List Word = filter (is_tail (suc d)) (all_words (suc n)) in
    let ys : List Word = filter (is_tail d) (all_words (suc n)) in
    let apart : filter (is_tail (suc d)) (all_words (suc (suc n))) ≡ map (λ t. X ∷ t) xs ++ map (λ t. Y ∷ t) ys =
    filter-all_words (is_tail (suc d)) (suc n)
    ∙ (λ i. map (λ t. X ∷ t) (filter_words (λ t. is_tail (suc d) (X ∷ t)) (is_tail (suc d)) n (tail-x (suc d)) i) ++ map (λ t. Y ∷ t)
    (filter_words (λ t. is_tail (suc d) (Y ∷ t)) (is_tail d) n (tail-y d) i)) in
    ap (map (λ t. f ++ t)) apart ∙ map-append (λ t. f ++ t) (map (λ t. X ∷ t) xs) (map (λ t. Y ∷ t) ys)
    ∙ (λ i. behind_letter X f xs i ++ behind_letter Y f ys i)

pub words_behind-more : (f : Word) (n d : ℕ) → 1 < n → 0 < d
    → words_behind f n d ≡ words_behind (f ++ X ∷ []) (n - 1) d ++ words_behind (f ++ Y ∷ []) (n - 1) (d - 1)
words_behind-more f zero d h g = absurd (omega arith)
words_behind-more f (suc zero) d h g = absurd (omega arith)
words_behind-more f (suc (suc n)) zero h g = absurd (omega arith)
words_behind-more f (suc (suc n)) (suc d) h g =
    let e : suc n ≡ suc (suc n) - 1 = omega arith in
    let k : d ≡ suc d - 1 = omega arith in
    words_behind-two f n d ∙ (λ i. words_behind (f ++ X ∷ []) (e i) (suc d) ++ words_behind (f ++ Y ∷ []) (e i) (k i))

-- the code's last step: the one word with y behind the front
pub words_behind-last : (old new : List Word) (f fy : Word) (n d : ℕ) → n ≡ 1 → 0 < d → fy ≡ f ++ Y ∷ [] → new ≡ old ++ fy ∷ []
    → new ≡ old ++ words_behind f n d
words_behind-last old new f fy n d one deep ey made =
    let last : words_behind f n d ≡ (f ++ Y ∷ []) ∷ [] = ap (λ k. words_behind f k d) one ∙ words_behind-one f d deep in
    made ∙ ap (λ w. old ++ w ∷ []) ey ∙ ap (λ ws. old ++ ws) (sym last)

-- a step of the code: the words with x behind the front, and then those with y
pub words_behind-made : (old one two : List Word) (f fx fy : Word) (n d : ℕ) → 1 < n → 0 < d → fx ≡ f ++ X ∷ [] → fy ≡ f ++ Y ∷ []
    → one ≡ old ++ words_behind fx (n - 1) d → two ≡ one ++ words_behind fy (n - 1) (d - 1) → two ≡ old ++ words_behind f n d
words_behind-made old one two f fx fy n d more deep ex ey first second =
    let xs : List Word = words_behind (f ++ X ∷ []) (n - 1) d in
    let ys : List Word = words_behind (f ++ Y ∷ []) (n - 1) (d - 1) in
    let with_x : one ≡ old ++ xs = first ∙ ap (λ g. old ++ words_behind g (n - 1) d) ex in
    second ∙ (λ i. with_x i ++ words_behind (ey i) (n - 1) (d - 1)) ∙ append_assoc old xs ys ∙ ap (λ ws. old ++ ws) (sym (words_behind-more f n d more deep))

pub admissible_within-small : (k d : ℕ) → k < 2 → admissible_within k d ≡ []
unfolding admissible_within all_words
admissible_within-small zero d h = refl
admissible_within-small (suc zero) d h = refl
admissible_within-small (suc (suc k)) d h = absurd (omega arith)

pub admissible_within-behind : (k d : ℕ) → 2 ≤ k → admissible_within k d ≡ words_behind (X ∷ []) (k - 1) d
unfolding admissible_within words_behind
admissible_within-behind zero d h = absurd (omega arith)
admissible_within-behind (suc zero) d h = absurd (omega arith)
admissible_within-behind (suc (suc n)) d h =
    let p : Word → Bool = λ w. is_admissible w && nat_le (depth_of w) d in
    let from_x : (a : Letter) (t : Word) → p (X ∷ a ∷ t) ≡ is_tail d (a ∷ t) = λ a t. ap (λ k. ends_with_y (a ∷ t) && nat_le k d) (depth_of-x (a ∷ t)) in
    let from_y : filter (λ t. p (Y ∷ t)) (all_words (suc n)) ≡ [] = filter_none (λ t. p (Y ∷ t)) (all_words (suc n)) (λ k d h. refl) in
    let e : suc n ≡ suc (suc n) - 1 = omega arith in
    filter-filter (λ w. nat_le (depth_of w) d) is_admissible (all_words (suc (suc n)))
    ∙ filter-all_words p (suc n)
    ∙ (λ i. map (λ t. X ∷ t) (filter_words (λ t. p (X ∷ t)) (is_tail d) n from_x i) ++ map (λ t. Y ∷ t) (from_y i))
    ∙ append-nil (map (λ t. X ∷ t) (filter (is_tail d) (all_words (suc n))))
    ∙ ap (λ k. map (λ t. X ∷ t) (filter (is_tail d) (all_words k))) e
