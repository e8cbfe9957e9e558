-- The listing of a folded sum is one, and there is no other.
use Rattle.std.proofs.Common.{◌≡◌, ℕ, ◌+◌, ◌*◌, ◌%◌, ◌<◌, ◌≤◌, Bool, true, false, List, [], ◌∷◌, Ordering, Less, Equal, Greater, refl, sym, ap, ◌∙◌}
use Rattle.std.proofs.Common.{mod-eq_of_lt, arith}
use Rattle.std.specs.List.{AllByRecursion}
use Rattle.std.specs.List.Sorted.{IsStrictlySortedBy}
use Rattle.std.proofs.lemmas.Nat.{mod_below}
use Rattle.zeta_model.specs.declared.Letter.{Letter}
use Rattle.zeta_model.specs.Duality.{representative_of}
use Rattle.zeta_model.specs.Modular.{Same}
use Rattle.zeta_model.proofs.ModularLemmas.{same-add_right, same-cancel}
use Rattle.zeta_model.specs.Sums.{single}
use Rattle.dual_reply.specs.Sums.{sign_number, folded_sum}
use Rattle.dual_reply.specs.Listing.{Entry, listing_cmp, IsListing}
use Rattle.dual_reply.specs.Inner.{with_entry, with_terms, folded_entry, entries_of}
use Rattle.word_sums.specs.Terms.{coefficient_of}
use Rattle.dual_reply.specs.declared.words.Signed.{Signed}
use Rattle.dual_reply.proofs.SumLemmas.{single-same, single-other}
use Rattle.dual_reply.proofs.ListingLemmas.{IsBehind, IsIncreasing, AreReduced, behind_behind, turned, listing_same, listing_itself}
use Rattle.dual_reply.proofs.ListingLemmas.{with_entry_increasing, with_entry_all, coefficient_of-with_entry}

abbrev W : Type 0
W = List Letter

pub sign_number-bounds : (m : ℕ) (negative : Bool) → 3 ≤ m → (0 < sign_number m negative) × (sign_number m negative < m)
sign_number-bounds m true h = (omega arith, omega arith)
sign_number-bounds m false h = (omega arith, omega arith)

module _ (m : ℕ) (low : 3 ≤ m) where
  -- what holds of each entry of a word with its sign, and is kept by a sum, holds of each entry of the listing
  pub with_terms_all : (P : Entry → Type 0) → ((e f : Entry) (s : ℕ) → P e → P f → s ≡ (f.1 + e.1) % m → (s ≡ 0 → ⊥) → P (f.0, s))
      → (es : List Entry) (ts : List Signed) → AllByRecursion P es → AllByRecursion (λ t. P (folded_entry m t)) ts → AllByRecursion P (with_terms m es ts)
  with_terms_all P sum es [] h k = h
  with_terms_all P sum es (t ∷ ts) h k =
      with_terms_all P sum (with_entry m (folded_entry m t) es) ts
      (with_entry_all m (folded_entry m t) P k.0 (λ f s. sum (folded_entry m t) f s k.0) es h) k.1

  reduced_terms : (ts : List Signed) → AllByRecursion (λ t. (0 < (folded_entry m t).1) × ((folded_entry m t).1 < m)) ts
  reduced_terms [] = tt
  reduced_terms (t ∷ ts) = (sign_number-bounds m t.negative low, reduced_terms ts)

  reduced_sum : (s a : ℕ) → s ≡ a % m → (s ≡ 0 → ⊥) → (0 < s) × (s < m)
  reduced_sum s a e n = (omega arith, omega (arith, mod_below a m (omega arith)))

  with_terms_increasing : (es : List Entry) (ts : List Signed) → IsIncreasing es → IsIncreasing (with_terms m es ts)
  with_terms_increasing es [] h = h
  with_terms_increasing es (t ∷ ts) h = with_terms_increasing (with_entry m (folded_entry m t) es) ts (with_entry_increasing m (folded_entry m t) es h)

  coefficient_of-with_terms : (w : W) (es : List Entry) (ts : List Signed)
      → Same m (coefficient_of (λ a. a) (with_terms m es ts) w) (coefficient_of (λ a. a) es w + folded_sum m ts w)
  coefficient_of-with_terms w es [] = let e : coefficient_of (λ a. a) es w ≡ coefficient_of (λ a. a) es w + 0 = omega arith in ap (λ n. n % m) e
  coefficient_of-with_terms w es (t ∷ ts) =
      let x = sign_number m t.negative * single (representative_of t.word) w in
      let e : (x + coefficient_of (λ a. a) es w) + folded_sum m ts w ≡ coefficient_of (λ a. a) es w + (x + folded_sum m ts w) = omega arith in
      coefficient_of-with_terms w (with_entry m (folded_entry m t) es) ts
      ∙ same-add_right m (coefficient_of (λ a. a) (with_entry m (folded_entry m t) es) w) (x + coefficient_of (λ a. a) es w) (folded_sum m ts w)
      (coefficient_of-with_entry m (folded_entry m t) w es)
      ∙ ap (λ n. n % m) e

  pub entries_of-IsListing : (ts : List Signed) → IsListing m ts (entries_of m ts)
  unfolding entries_of IsStrictlySortedBy
  entries_of-IsListing ts = record {
    increasing = with_terms_increasing [] ts tt;
    residues = with_terms_all (λ e. (0 < e.1) × (e.1 < m)) (λ e f s p q r n. reduced_sum s (f.1 + e.1) r n) [] ts tt (reduced_terms ts);
    coefficients = λ w. coefficient_of-with_terms w [] ts ∙ ap (λ n. n % m) (let e : 0 + folded_sum m ts w ≡ folded_sum m ts w = omega arith in e);
  }

  not_there : (w : W) (es : List Entry) → IsBehind w es → coefficient_of (λ a. a) es w ≡ 0
  not_there w [] b = refl
  not_there w (e ∷ es) b =
      let z : single e.0 w ≡ 0 = single-other e.0 w (λ h. let q : listing_cmp w e.0 ≡ Equal = listing_itself w e.0 (sym h) in
      let l : listing_cmp w e.0 ≡ Less = b.0 in let c : Less ≡ Equal = sym l ∙ q in cc) in
      let r : coefficient_of (λ a. a) es w ≡ 0 = not_there w es b.1 in
      (λ i. e.1 * z i + r i) ∙ omega arith

  head_at : (e : Entry) (es : List Entry) → IsBehind e.0 es → coefficient_of (λ a. a) (e ∷ es) e.0 ≡ e.1
  head_at e es b = (λ i. e.1 * single-same e.0 e.0 refl i + not_there e.0 es b i) ∙ omega arith

  -- an entry cannot stand in the one list alone
  alone : (r : ℕ) → 0 < r → r < m → Same m r 0 → ⊥
  alone r p l h =
      let a : r % m ≡ r = mod-eq_of_lt l in
      let z : 0 < m = omega arith in
      let b : 0 % m ≡ 0 = mod-eq_of_lt z in
      let c : r ≡ 0 = sym a ∙ h ∙ b in
      absurd (omega arith)

  -- two heads are one entry, or a word stands in the one list alone
  heads : (e f : Entry) (es fs : List Entry) → IsBehind e.0 es → IsBehind f.0 fs → (0 < e.1) × (e.1 < m) → (0 < f.1) × (f.1 < m)
      → ((w : W) → Same m (coefficient_of (λ a. a) (e ∷ es) w) (coefficient_of (λ a. a) (f ∷ fs) w)) → (o : Ordering) → listing_cmp e.0 f.0 ≡ o → e ≡ f
  heads e f es fs a b r s h Less q =
      let z : coefficient_of (λ a. a) (f ∷ fs) e.0 ≡ 0 = not_there e.0 (f ∷ fs) (q, behind_behind e.0 f.0 fs q b) in
      absurd (alone e.1 r.0 r.1 (ap (λ n. n % m) (sym (head_at e es a)) ∙ h e.0 ∙ ap (λ n. n % m) z))
  heads e f es fs a b r s h Greater q =
      let t : listing_cmp f.0 e.0 ≡ Less = turned e.0 f.0 q in
      let z : coefficient_of (λ a. a) (e ∷ es) f.0 ≡ 0 = not_there f.0 (e ∷ es) (t, behind_behind f.0 e.0 es t a) in
      absurd (alone f.1 s.0 s.1 (ap (λ n. n % m) (sym (head_at f fs b)) ∙ sym (h f.0) ∙ ap (λ n. n % m) z))
  heads e f es fs a b r s h Equal q =
      let w : e.0 ≡ f.0 = listing_same e.0 f.0 q in
      let c : e.1 % m ≡ f.1 % m = ap (λ n. n % m) (sym (head_at e es a)) ∙ h e.0 ∙ ap (λ v. coefficient_of (λ a. a) (f ∷ fs) v % m) w
      ∙ ap (λ n. n % m) (head_at f fs b) in
      let d : e.1 ≡ f.1 = sym (mod-eq_of_lt r.1) ∙ c ∙ mod-eq_of_lt s.1 in
      λ i. (w i, d i)

  tails : (e f : Entry) (es fs : List Entry) → e ≡ f → ((w : W) → Same m (coefficient_of (λ a. a) (e ∷ es) w) (coefficient_of (λ a. a) (f ∷ fs) w))
      → (w : W)
      → Same m (coefficient_of (λ a. a) es w) (coefficient_of (λ a. a) fs w)
  tails e f es fs q h w =
      let x = e.1 * single e.0 w in
      let a : coefficient_of (λ a. a) es w + x ≡ x + coefficient_of (λ a. a) es w = omega arith in
      let b : x + coefficient_of (λ a. a) fs w ≡ coefficient_of (λ a. a) fs w + x = omega arith in
      same-cancel m (coefficient_of (λ a. a) es w) (coefficient_of (λ a. a) fs w) x (omega arith) (ap (λ n. n % m) a ∙ h w
      ∙ ap (λ g. (g.1 * single g.0 w + coefficient_of (λ a. a) fs w) % m) (sym q) ∙ ap (λ n. n % m) b)

  pub listing_unique : (es fs : List Entry) → IsIncreasing es → IsIncreasing fs → AreReduced m es → AreReduced m fs
      → ((w : W) → Same m (coefficient_of (λ a. a) es w) (coefficient_of (λ a. a) fs w)) → es ≡ fs
  unfolding IsStrictlySortedBy
  listing_unique [] [] i j r s h = refl
  listing_unique [] (f ∷ fs) i j r s h = absurd (alone f.1 s.0.0 s.0.1 (ap (λ n. n % m) (sym (head_at f fs j.0)) ∙ sym (h f.0)))
  listing_unique (e ∷ es) [] i j r s h = absurd (alone e.1 r.0.0 r.0.1 (ap (λ n. n % m) (sym (head_at e es i.0)) ∙ h e.0))
  listing_unique (e ∷ es) (f ∷ fs) i j r s h =
      let q : e ≡ f = heads e f es fs i.0 j.0 r.0 s.0 h (listing_cmp e.0 f.0) refl in
      let t : es ≡ fs = listing_unique es fs i.1 j.1 r.1 s.1 (tails e f es fs q h) in
      λ k. q k ∷ t k

  -- a listing is the one that is printed
  pub listing_is : (ss : List Signed) (es : List Entry) → IsListing m ss es → es ≡ entries_of m ss
  listing_is ss es i =
      let j = entries_of-IsListing ss in
      listing_unique es (entries_of m ss) i.increasing j.increasing i.residues j.residues (λ w. i.coefficients w ∙ sym (j.coefficients w))
