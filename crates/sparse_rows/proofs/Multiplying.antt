-- A list whose first elements have been changed.
use Rattle.std.proofs.Common.{◌≡◌, ℕ, zero, suc, ◌+◌, ◌<◌, List, [], ◌∷◌, ◌++◌, length, map, take, drop, Bool, true, slice_index_or, slice_set, refl, sym, ◌∙◌, ap, arith}
use Rattle.std.proofs.Math.Seq.{take-length}
use Rattle.std.proofs.Math.ListN.{drop_of_length-le}
use Rattle.std.proofs.lemmas.List.{append-nil}
use Rattle.sparse_rows.specs.Entries.{AllIn}

-- an element of a list of the ring is of the ring
pub has_at : {K E : Type 0} (has : E → Bool) (es : List (K × E)) (i : ℕ) (d : K × E) → AllIn has es → i < length es → has (slice_index_or es i d).1 ≡ true
has_at has [] i d all h = absurd (omega arith)
has_at has (e ∷ es) zero d all h = all.0
has_at has (e ∷ es) (suc i) d all h = has_at has es i d all.1 (omega arith)

module _ {A : Type 0} (f : A → A) where
  -- f of each of the first i elements, and the others as they are
  abbrev pub changed_below : List A → ℕ → List A
  changed_below xs zero = xs
  changed_below [] (suc i) = []
  changed_below (x ∷ xs) (suc i) = f x ∷ changed_below xs i

  pub changed_below-length : (xs : List A) → changed_below xs (length xs) ≡ map f xs
  changed_below-length [] = refl
  changed_below-length (x ∷ xs) = ap (λ ys. f x ∷ ys) (changed_below-length xs)

  pub length-changed_below : (xs : List A) (i : ℕ) → length (changed_below xs i) ≡ length xs
  length-changed_below xs zero = refl
  length-changed_below [] (suc i) = refl
  length-changed_below (x ∷ xs) (suc i) = ap suc (length-changed_below xs i)

  -- the next element is as it was
  pub next-changed_below : (xs : List A) (i : ℕ) (d : A) → slice_index_or (changed_below xs i) i d ≡ slice_index_or xs i d
  next-changed_below xs zero d = refl
  next-changed_below [] (suc i) d = refl
  next-changed_below (x ∷ xs) (suc i) d = next-changed_below xs i d

  set-changed_below : (xs : List A) (i : ℕ) (d : A) → i < length xs
      → slice_set (changed_below xs i) i (f (slice_index_or xs i d)) ≡ changed_below xs (suc i)
  set-changed_below [] i d h = absurd (omega arith)
  set-changed_below (x ∷ xs) zero d h = refl
  set-changed_below (x ∷ xs) (suc i) d h = ap (λ ys. f x ∷ ys) (set-changed_below xs i d (omega arith))

  -- one element more
  pub changed_next : (xs now : List A) (i : ℕ) (d y : A) → now ≡ changed_below xs i → i < length xs → y ≡ f (slice_index_or now i d)
      → slice_set now i y ≡ changed_below xs (i + 1)
  changed_next xs now i d y e h is =
      let more : suc i ≡ i + 1 = omega arith in
      (λ t. slice_set (e t) i ((is ∙ ap (λ ys. f (slice_index_or ys i d)) e ∙ ap f (next-changed_below xs i d)) t))
      ∙ set-changed_below xs i d h ∙ ap (changed_below xs) more

  -- when all elements have been changed, the list is that of the changed ones
  pub changed_whole : (xs now : List A) (i n : ℕ) → now ≡ changed_below xs i → i ≡ length xs → n ≡ length xs
      → take n (now ++ drop (length now) xs) ≡ map f xs
  changed_whole xs now i n e all is =
      let whole : now ≡ map f xs = e ∙ ap (changed_below xs) all ∙ changed_below-length xs in
      let long : length now ≡ length xs = ap length e ∙ length-changed_below xs i in
      let nothing : drop (length now) xs ≡ [] = drop_of_length-le xs (omega (arith, long)) in
      (λ t. take ((is ∙ sym long) t) (now ++ nothing t)) ∙ ap (take (length now)) (append-nil now) ∙ take-length now ∙ whole

-- the next element is still of the ring
pub has_next : {K E : Type 0} (has : E → Bool) (f : K × E → K × E) (xs now : List (K × E)) (i : ℕ) (d : K × E) → now ≡ changed_below f xs i → i < length xs
    → AllIn has xs → has (slice_index_or now i d).1 ≡ true
has_next has f xs now i d e h all = ap (λ ys. has (slice_index_or ys i d).1) e ∙ ap (λ p. has p.1) (next-changed_below f xs i d) ∙ has_at has xs i d all h
