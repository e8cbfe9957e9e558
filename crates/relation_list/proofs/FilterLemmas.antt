-- Filters and joined lists.
use Rattle.std.proofs.Common.{◌≡◌, ℕ, ◌+◌, ◌-◌, ◌≤◌, ◌<◌, zero, suc, Bool, true, false, cond, List, [], ◌∷◌, ◌++◌, length, take, get_or, map, filter, refl, sym, ap, ◌∙◌, arith, append_assoc}
use Rattle.std.specs.List.{flat_map, range_with_len}
use Rattle.std.proofs.lemmas.List.{append-nil, flat_map_more, map-append, take_more}
use Rattle.std.proofs.lemmas.List.Elements.{filter-append, filter_more}
pub use Rattle.word_letters.proofs.FilterLemmas.{filter-map, filter-filter, filter_same, filter_none}

pub filter-flat_map : {A B : Type 0} (p : B → Bool) (f : A → List B) (xs : List A) → filter p (flat_map f xs) ≡ flat_map (λ x. filter p (f x)) xs
filter-flat_map p f [] = refl
filter-flat_map p f (x ∷ xs) = filter-append p (f x) (flat_map f xs) ∙ ap (λ ys. filter p (f x) ++ ys) (filter-flat_map p f xs)

-- the elements that give nothing may be left out before
pub flat_map_kept : {A B : Type 0} (keep : A → Bool) (f : A → List B) → ((x : A) → keep x ≡ false → f x ≡ []) → (xs : List A)
    → flat_map f xs ≡ flat_map f (filter keep xs)
flat_map_kept keep f none [] = refl
flat_map_kept keep f none (x ∷ xs) =
    elim (keep x) as (λ b. keep x ≡ b → f x ++ flat_map f xs ≡ flat_map f (cond b (x ∷ filter keep xs) (filter keep xs))) [
      | true ↦ λ e. ap (λ ys. f x ++ ys) (flat_map_kept keep f none xs)
      | false ↦ λ e. ap (λ ys. ys ++ flat_map f xs) (none x e) ∙ flat_map_kept keep f none xs
    ] refl

flat_map-range_with_len : {A : Type 0} (f : ℕ → List A) (a n : ℕ) → flat_map f (range_with_len a (suc n)) ≡ flat_map f (range_with_len a n) ++ f (a + n)
flat_map-range_with_len f a zero = let e : a + 0 ≡ a = omega arith in append-nil (f a) ∙ ap f (sym e)
flat_map-range_with_len f a (suc n) =
    let e : a + 1 + n ≡ a + suc n = omega arith in
    ap (λ ys. f a ++ ys) (flat_map-range_with_len f (a + 1) n) ∙ sym (append_assoc (f a) (flat_map f (range_with_len (a + 1) n)) (f (a + 1 + n)))
    ∙ ap (λ k. (f a ++ flat_map f (range_with_len (a + 1) n)) ++ f k) e

-- one step of a loop that goes from a upwards and has come to k
pub flat_map_upto : {A : Type 0} (f : ℕ → List A) (bs : List A) (a k : ℕ) → a ≤ k
    → (bs ++ flat_map f (range_with_len a (k - a))) ++ f k ≡ bs ++ flat_map f (range_with_len a (k + 1 - a))
flat_map_upto f bs a k h =
    let here : a + (k - a) ≡ k = omega arith in
    let more : suc (k - a) ≡ k + 1 - a = omega arith in
    append_assoc bs (flat_map f (range_with_len a (k - a))) (f k)
    ∙ ap (λ ys. bs ++ ys) (ap (λ j. flat_map f (range_with_len a (k - a)) ++ f j) (sym here) ∙ sym (flat_map-range_with_len f a (k - a))
    ∙ ap (λ n. flat_map f (range_with_len a n)) more)

-- one step of a loop over xs that has come to the element x at place i
pub map_upto : {A B : Type 0} (f : A → B) (bs : List B) (xs : List A) (i : ℕ) (x : A) → i < length xs → x ≡ get_or xs i x
    → (bs ++ map f (take i xs)) ++ f x ∷ [] ≡ bs ++ map f (take (i + 1) xs)
map_upto f bs xs i x h is =
    append_assoc bs (map f (take i xs)) (f x ∷ [])
    ∙ ap (λ ys. bs ++ ys) (ap (λ y. map f (take i xs) ++ f y ∷ []) is ∙ sym (map-append f (take i xs) (get_or xs i x ∷ []))
    ∙ ap (map f) (sym (take_more xs i x h)))

pub flat_map_items_upto : {A B : Type 0} (f : A → List B) (bs : List B) (xs : List A) (i : ℕ) (x : A) → i < length xs → x ≡ get_or xs i x
    → (bs ++ flat_map f (take i xs)) ++ f x ≡ bs ++ flat_map f (take (i + 1) xs)
flat_map_items_upto f bs xs i x h is = flat_map_more f bs (take i xs) x
    ∙ ap (λ ys. bs ++ flat_map f ys) (ap (λ y. take i xs ++ y ∷ []) is ∙ sym (take_more xs i x h))

kept_here : {A : Type 0} (p : A → Bool) (xs : List A) (i : ℕ) (x : A) → i < length xs → x ≡ get_or xs i x
    → filter p (take (i + 1) xs) ≡ filter p (take i xs) ++ cond (p x) (x ∷ []) []
kept_here p xs i x h is = filter_more p xs i x h ∙ ap (λ y. filter p (take i xs) ++ cond (p y) (y ∷ []) []) (sym is)

pub kept_upto : {A B : Type 0} (f : A → B) (p : A → Bool) (bs : List B) (xs : List A) (i : ℕ) (x : A) → i < length xs → x ≡ get_or xs i x → p x ≡ true
    → (bs ++ map f (filter p (take i xs))) ++ f x ∷ [] ≡ bs ++ map f (filter p (take (i + 1) xs))
kept_upto f p bs xs i x h is passes =
    append_assoc bs (map f (filter p (take i xs))) (f x ∷ [])
    ∙ ap (λ ys. bs ++ ys) (sym (map-append f (filter p (take i xs)) (x ∷ []))
    ∙ ap (map f) (sym (kept_here p xs i x h is ∙ ap (λ b. filter p (take i xs) ++ cond b (x ∷ []) []) passes)))

pub left_out_upto : {A B : Type 0} (f : A → B) (p : A → Bool) (bs : List B) (xs : List A) (i : ℕ) (x : A) → i < length xs → x ≡ get_or xs i x → p x ≡ false
    → bs ++ map f (filter p (take i xs)) ≡ bs ++ map f (filter p (take (i + 1) xs))
left_out_upto f p bs xs i x h is fails =
    ap (λ ys. bs ++ map f ys) (sym (kept_here p xs i x h is ∙ ap (λ b. filter p (take i xs) ++ cond b (x ∷ []) []) fails ∙ append-nil (filter p (take i xs))))
