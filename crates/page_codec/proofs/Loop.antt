-- Reading n of them one after the other, as a loop does.
use Rattle.std.proofs.Common.{◌≡◌, ℕ, suc, ◌-◌, ◌+◌, ◌≤◌, ◌<◌, List, [], ◌∷◌, ◌++◌, Option, Some, None, refl, sym, ap, ◌∙◌, append_assoc, arith}
use Rattle.std.specs.Option.{option_map}
use Rattle.std.proofs.lemmas.List.{append-nil}
use Rattle.page_codec.specs.Inner.{◌>>=◌, Reader, times_at}

-- what was read before, and what is still read
abbrev pub with_front : {A : Type 0} → List A → Option (List A × List ℕ) → Option (List A × List ℕ)
with_front front read = option_map (λ x. (front ++ x.0, x.1)) read

regroup : {A : Type 0} (front : List A) (c : A) (read : Option (List A × List ℕ))
    → with_front front (read >>= λ x. Some (c ∷ x.0, x.1)) ≡ with_front (front ++ c ∷ []) read
regroup front c (Some x) = ap (λ l. Some (l, x.1)) (sym (append_assoc front (c ∷ []) x.0))
regroup front c None = refl

pub goes_on : {A : Type 0} (at : Reader A) (front : List A) (count i : ℕ) (bytes : List ℕ) (c : A) (after : List ℕ) (total : Option (List A × List ℕ))
    → i < count → Some (c, after) ≡ at bytes
    → with_front front (times_at at (count - i) bytes) ≡ total → with_front (front ++ c ∷ []) (times_at at (count - (i + 1)) after) ≡ total
unfolding times_at
goes_on at front count i bytes c after total lt h so_far =
    let k : count - i ≡ suc (count - (i + 1)) = omega arith in
    let one : with_front front (times_at at (count - i) bytes) ≡ with_front (front ++ c ∷ []) (times_at at (count - (i + 1)) after) =
    rw (k, ← h) (regroup front c (times_at at (count - (i + 1)) after)) in
    sym one ∙ so_far

pub ends : {A : Type 0} (at : Reader A) (front : List A) (count i : ℕ) (bytes : List ℕ) (total : Option (List A × List ℕ)) → i < count → None ≡ at bytes
    → with_front front (times_at at (count - i) bytes) ≡ total → None ≡ total
unfolding times_at
ends at front count i bytes total lt h so_far =
    let k : count - i ≡ suc (count - (i + 1)) = omega arith in
    let one : with_front front (times_at at (count - i) bytes) ≡ None = rw (k, ← h) refl in
    sym one ∙ so_far

pub is_done : {A : Type 0} (at : Reader A) (front : List A) (count i : ℕ) (bytes : List ℕ) (total : Option (List A × List ℕ)) → count ≤ i
    → with_front front (times_at at (count - i) bytes) ≡ total → Some (front, bytes) ≡ total
unfolding times_at
is_done at front count i bytes total le so_far =
    let k : count - i ≡ 0 = omega arith in
    let one : with_front front (times_at at (count - i) bytes) ≡ Some (front, bytes) = rw k (ap (λ l. Some (l, bytes)) (append-nil front)) in
    sym one ∙ so_far
