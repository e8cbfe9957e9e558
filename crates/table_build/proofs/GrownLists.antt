-- Numbers and rows that stand behind others.
use Rattle.std.specs.Prelude.{◌≡◌, ℕ, ◌+◌, ◌⊎◌, List, [], ◌∷◌, ◌++◌, length, get_or, take, drop}
use Rattle.std.proofs.Common.{sym, ◌∙◌, ap, inl, inr, arith}
use Rattle.std.proofs.lemmas.Bool.{cases_lt}
use Rattle.std.proofs.lemmas.List.{length-append, get_or_append_left, get_or-append-add, take_at}
use Rattle.table_build.specs.Inner.{Stands}

-- one behind others is the last
pub last_one : {A : Type 0} (xs : List A) (x d : A) → get_or (xs ++ x ∷ []) (length xs) d ≡ x
last_one xs x d = ap (λ i. get_or (xs ++ x ∷ []) i d) (let z : length xs ≡ length xs + 0 = omega arith in z) ∙ get_or-append-add xs (x ∷ []) 0 d

pub length-last : {A : Type 0} (xs : List A) (x : A) → length (xs ++ x ∷ []) ≡ length xs + 1
length-last xs x = length-append xs (x ∷ [])

-- what stands in a list with one more
pub stands_last : (xs : List ℕ) (x k : ℕ) → Stands (xs ++ x ∷ []) k → Stands xs k ⊎ (k ≡ x)
stands_last xs x k (i, l, e) = elim (cases_lt i (length xs)) [
  | inl front ↦ inl (i, front, sym (get_or_append_left xs (x ∷ []) 0 i front) ∙ e)
  | inr behind ↦
      let at : i ≡ length xs = omega (arith, l, behind, length-last xs x) in
      inr (sym e ∙ ap (λ j. get_or (xs ++ x ∷ []) j 0) at ∙ last_one xs x 0)
]

pub stands_front : (xs ys : List ℕ) (k : ℕ) → Stands xs k → Stands (xs ++ ys) k
stands_front xs ys k (i, l, e) = (i, omega (arith, l, length-append xs ys), get_or_append_left xs ys 0 i l ∙ e)

pub stands_there : (xs : List ℕ) (x : ℕ) → Stands (xs ++ x ∷ []) x
stands_there xs x = (length xs, omega (arith, length-last xs x), last_one xs x 0)

-- a slice that is written back into its list
pub written_back : {A : Type 0} (n : ℕ) (new items : List A) → n ≡ length items → length new ≡ length items → take n (new ++ drop (length new) items) ≡ new
written_back n new items e f = take_at new (drop (length new) items) n (f ∙ sym e)
