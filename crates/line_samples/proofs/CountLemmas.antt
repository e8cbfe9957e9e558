-- What one reply more changes of what is counted.
use Rattle.std.proofs.Common.{◌≡◌, ℕ, ◌+◌, Bool, true, false, ◌||◌, not, cond, List, [], ◌∷◌, ◌++◌, length, refl, sym, ap, ◌∙◌, arith}
use Rattle.std.specs.Prelude.{Vec}
use Rattle.std.specs.HashSet.{PutsKey}
use Rattle.std.specs.List.{list_any}
use Rattle.std.specs.Str.{bytes_eq}
use Rattle.std.specs.declared.alloc.Global.{Global}
use Rattle.std.proofs.lemmas.List.Sums.{sum_by_push}
use Rattle.std.proofs.lemmas.List.Sorted.{list_any-IsPermutation}
use Rattle.std.proofs.lemmas.Slice.Eq.{bytes_eq-Decides}
use Rattle.line_samples.specs.Counts.{is_zero_text, distinct_count, terms_in}
use Rattle.line_samples.specs.Inner.{Texts, IsTallyOf}

or_false : (b : Bool) → (b || false) ≡ b
or_false true = refl
or_false false = refl

or_step : (b any all last : Bool) → all ≡ (any || last) → (b || all) ≡ ((b || any) || last)
or_step true any all last e = refl
or_step false any all last e = e

module _ {X : Type 0} (p : X → Bool) where
  list_any-push : (xs : List X) (x : X) → list_any p (xs ++ x ∷ []) ≡ (list_any p xs || p x)
  list_any-push [] x = or_false (p x)
  list_any-push (a ∷ xs) x = or_step (p a) (list_any p xs) (list_any p (xs ++ x ∷ [])) (p x) (list_any-push xs x)

-- the two texts are one, or the test fails both ways
same_bytes : (a b : List ℕ) → bytes_eq a b ≡ true → a ≡ b
same_bytes a b e = (bytes_eq-Decides a b).0 e

bytes_eq-turned : (a b : List ℕ) → bytes_eq b a ≡ bytes_eq a b
bytes_eq-turned a b = by (bytes_eq b a) (bytes_eq a b) refl refl
  where
    by : (x y : Bool) → bytes_eq b a ≡ x → bytes_eq a b ≡ y → x ≡ y
    by true true e f = refl
    by false false e f = refl
    by true false e f = sym ((bytes_eq-Decides a b).1 (sym (same_bytes b a e))) ∙ f
    by false true e f = sym e ∙ (bytes_eq-Decides b a).1 (sym (same_bytes a b f))

counts_step : (b e e' f : Bool) (x y : ℕ) → e' ≡ e → (e ≡ true → b ≡ f) → y ≡ x + cond f 0 1
    → cond (b || e) y (1 + y) ≡ cond b x (1 + x) + cond (e' || f) 0 1
counts_step b true false f x y same alike h = cc
counts_step b false true f x y same alike h = cc
counts_step b true true true x y same alike h = let t = alike refl in rw t (omega arith)
counts_step b true true false x y same alike h = let t = alike refl in rw t (omega arith)
counts_step true false false f x y same alike h = h
counts_step false false false f x y same alike h = omega arith

-- a reply is new where it did not come before
pub distinct_count-push : (rs : List (List ℕ)) (r : List ℕ) → distinct_count (rs ++ r ∷ []) ≡ distinct_count rs + cond (list_any (bytes_eq r) rs) 0 1
distinct_count-push [] r = refl
distinct_count-push (a ∷ rs) r =
    ap (λ t. cond t (distinct_count (rs ++ r ∷ [])) (1 + distinct_count (rs ++ r ∷ []))) (list_any-push (bytes_eq a) rs r)
    ∙ counts_step (list_any (bytes_eq a) rs) (bytes_eq a r) (bytes_eq r a) (list_any (bytes_eq r) rs) (distinct_count rs) (distinct_count (rs ++ r ∷ []))
    (bytes_eq-turned a r) (λ e. ap (λ t. list_any (bytes_eq t) rs) (same_bytes a r e)) (distinct_count-push rs r)

or_turned : (a b : Bool) → (a || b) ≡ (b || a)
or_turned true true = refl
or_turned true false = refl
or_turned false true = refl
or_turned false false = refl

seen_before : (q r : List ℕ) (rs : List (List ℕ)) (b : Bool) → bytes_eq q r ≡ b → list_any (bytes_eq r) rs ≡ true
    → list_any (bytes_eq q) rs ≡ (list_any (bytes_eq q) rs || b)
seen_before q r rs true e there = let here : list_any (bytes_eq q) rs ≡ true = ap (λ t. list_any (bytes_eq t) rs) (same_bytes q r e) ∙ there in rw here refl
seen_before q r rs false e there = sym (or_false (list_any (bytes_eq q) rs))

not_true : (b : Bool) → false ≡ not b → b ≡ true
not_true true e = refl
not_true false e = e

not_count : (b added : Bool) → added ≡ not b → ◌≡◌ {A = ℕ} (cond added 1 0) (cond b 0 1)
not_count true added e = rw e refl
not_count false added e = rw e refl

module _ (rs : List (List ℕ)) (r : List ℕ) (seen after : Texts) (k : Vec ℕ Global) (is : k.items ≡ r)
    (was : (q : List ℕ) → list_any (λ v. bytes_eq q v.items) seen.keys ≡ list_any (bytes_eq q) rs) where
  -- a text that the set holds is one of the replies
  seen-push : (added : Bool) → added ≡ not (list_any (λ v. bytes_eq k.items v.items) seen.keys) → PutsKey seen after k added
      → (q : List ℕ) → list_any (λ v. bytes_eq q v.items) after.keys ≡ list_any (bytes_eq q) (rs ++ r ∷ [])
  seen-push true new puts q =
      sym (list_any-IsPermutation (λ v. bytes_eq q v.items) (k ∷ seen.keys) after.keys puts)
      ∙ ap (λ t. bytes_eq q t || list_any (λ v. bytes_eq q v.items) seen.keys) is ∙ ap (λ t. bytes_eq q r || t) (was q)
      ∙ or_turned (bytes_eq q r) (list_any (bytes_eq q) rs) ∙ sym (list_any-push (bytes_eq q) rs r)
  seen-push false old puts q =
      let there : list_any (bytes_eq r) rs ≡ true =
      sym (was r) ∙ ap (λ t. list_any (λ v. bytes_eq t v.items) seen.keys) (sym is) ∙ not_true _ old in
      ap (λ ks. list_any (λ v. bytes_eq q v.items) ks) puts ∙ was q ∙ seen_before q r rs (bytes_eq q r) refl there
      ∙ sym (list_any-push (bytes_eq q) rs r)

  new_is : (added : Bool) → added ≡ not (list_any (λ v. bytes_eq k.items v.items) seen.keys)
      → ◌≡◌ {A = ℕ} (cond added 1 0) (cond (list_any (bytes_eq r) rs) 0 1)
  new_is added e = not_count (list_any (bytes_eq r) rs) added (e ∙ ap not (ap (λ t. list_any (λ v. bytes_eq t v.items) seen.keys) is ∙ was r))

-- one reply more is counted
pub IsTallyOf-push : (rs : List (List ℕ)) (r : List ℕ) (seen after : Texts) (none none' all all' : ℕ) (k : Vec ℕ Global) (added : Bool)
    → IsTallyOf rs seen none all → none' ≡ none + cond (is_zero_text r) 1 0 → all' ≡ all + terms_in r → k.items ≡ r
    → added ≡ not (list_any (λ v. bytes_eq k.items v.items) seen.keys) → PutsKey seen after k added
    → length after.keys ≡ length seen.keys + cond added 1 0 → IsTallyOf (rs ++ r ∷ []) after none' all'
IsTallyOf-push rs r seen after none none' all all' k added t z n is new puts len = record {
  zero_is = z ∙ ap (λ c. c + cond (is_zero_text r) 1 0) t.zero_is ∙ sym (sum_by_push (λ t. cond (is_zero_text t) 1 0) rs r);
  terms_is = n ∙ ap (λ c. c + terms_in r) t.terms_is ∙ sym (sum_by_push terms_in rs r);
  distinct_is = len ∙ ap (λ c. c + cond added 1 0) t.distinct_is ∙ ap (λ c. distinct_count rs + c) (new_is rs r seen after k is t.seen_is added new)
      ∙ sym (distinct_count-push rs r);
  seen_is = seen-push rs r seen after k is t.seen_is added new puts;
}
