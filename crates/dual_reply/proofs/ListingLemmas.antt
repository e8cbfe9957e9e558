-- The list of entries: what adding an entry keeps, and that its coefficients determine it.
use Rattle.std.proofs.Common.{◌≡◌, ℕ, ◌+◌, ◌*◌, ◌%◌, ◌<◌, Bool, true, false, cond, eqb, List, [], ◌∷◌, length, Ordering, Less, Equal, Greater, is_eq}
use Rattle.std.proofs.Common.{refl, sym, ap, ◌∙◌, arith}
use Rattle.std.specs.List.{AllByRecursion}
use Rattle.std.specs.List.Sorted.{IsStrictlySortedBy}
use Rattle.std.specs.Cmp.{IsTotalOrder}
use Rattle.std.specs.Ordering.{nat_cmp, ordering_then, ordering_reverse}
use Rattle.std.proofs.lemmas.Bool.{eqb-true, eqb-false}
use Rattle.std.proofs.lemmas.Cmp.{then_total, on_total, nat_cmp_total, tied_itself}
use Rattle.zeta_model.specs.declared.Letter.{Letter}
use Rattle.zeta_model.specs.Words.{word_cmp}
use Rattle.zeta_model.specs.Modular.{Same}
use Rattle.zeta_model.proofs.ModularLemmas.{same-add_left, same-add_right, same-mul_right, same-mod}
use Rattle.word_letters.specs.Order.{word_cmp_total, same_words}
use Rattle.zeta_model.specs.Sums.{single}
use Rattle.std.specs.Map.{keys_of}
use Rattle.word_sums.specs.Terms.{coefficient_of}
use Rattle.dual_reply.specs.Listing.{Entry, listing_cmp}
use Rattle.dual_reply.specs.Inner.{placed, with_entry}

abbrev W : Type 0
W = List Letter

pub listing_cmp_total : IsTotalOrder listing_cmp
listing_cmp_total = then_total (on_total length nat_cmp_total) word_cmp_total

second_equal : (a b : Ordering) → ordering_then a b ≡ Equal → b ≡ Equal
second_equal Less b e = cc
second_equal Equal b e = e
second_equal Greater b e = cc

pub listing_same : (u v : W) → listing_cmp u v ≡ Equal → u ≡ v
listing_same u v e = same_words u v (ap is_eq (second_equal (nat_cmp (length u) (length v)) (word_cmp u v) e))

pub listing_itself : (u v : W) → u ≡ v → listing_cmp u v ≡ Equal
listing_itself u v e = ap (listing_cmp u) (sym e) ∙ tied_itself listing_cmp_total u

-- the words of the list all stand behind the word
abbrev pub IsBehind : W → List Entry → Type 0
IsBehind w es = AllByRecursion (λ v. listing_cmp w v ≡ Less) (keys_of es)

abbrev pub IsIncreasing : List Entry → Type 0
IsIncreasing es = IsStrictlySortedBy listing_cmp (keys_of es)

abbrev pub AreReduced : ℕ → List Entry → Type 0
AreReduced m es = AllByRecursion (λ e. (0 < e.1) × (e.1 < m)) es

pub turned : (u v : W) → listing_cmp u v ≡ Greater → listing_cmp v u ≡ Less
turned u v e = listing_cmp_total.antisymm v u ∙ ap ordering_reverse e

-- a word that stands before a list stands before any list whose words are behind one of its own
pub behind_behind : (u v : W) (es : List Entry) → listing_cmp u v ≡ Less → IsBehind v es → IsBehind u es
behind_behind u v [] l b = tt
behind_behind u v (e ∷ es) l b = (listing_cmp_total.trans u v e.0 l b.0, behind_behind u v es l b.1)

module _ (m : ℕ) (e : Entry) where
  joined_behind : (u : W) (s : ℕ) (b : Bool) (f : Entry) (fs : List Entry) → IsBehind u (f ∷ fs) → IsBehind u (cond b fs ((f.0, s) ∷ fs))
  joined_behind u s true f fs h = h.1
  joined_behind u s false f fs h = h

  placed_behind : (u : W) (o : Ordering) (f : Entry) (fs longer : List Entry) → listing_cmp u e.0 ≡ Less → IsBehind u (f ∷ fs) → IsBehind u longer
      → IsBehind u (placed o m e f fs longer)
  placed_behind u Less f fs longer l h k = (l, h)
  placed_behind u Equal f fs longer l h k = joined_behind u ((f.1 + e.1) % m) (eqb ((f.1 + e.1) % m) 0) f fs h
  placed_behind u Greater f fs longer l h k = (h.0, k)

  with_entry_behind : (u : W) (es : List Entry) → listing_cmp u e.0 ≡ Less → IsBehind u es → IsBehind u (with_entry m e es)
  with_entry_behind u [] l h = (l, tt)
  with_entry_behind u (f ∷ fs) l h = placed_behind u (listing_cmp e.0 f.0) f fs (with_entry m e fs) l h (with_entry_behind u fs l h.1)

  joined_increasing : (s : ℕ) (b : Bool) (f : Entry) (fs : List Entry) → IsIncreasing (f ∷ fs) → IsIncreasing (cond b fs ((f.0, s) ∷ fs))
  unfolding IsStrictlySortedBy
  joined_increasing s true f fs h = h.1
  joined_increasing s false f fs h = h

  placed_increasing : (o : Ordering) (f : Entry) (fs longer : List Entry) → o ≡ listing_cmp e.0 f.0 → IsIncreasing (f ∷ fs) → IsIncreasing longer
      → (listing_cmp f.0 e.0 ≡ Less → IsBehind f.0 longer) → IsIncreasing (placed o m e f fs longer)
  unfolding IsStrictlySortedBy
  placed_increasing Less f fs longer q h k b = ((sym q, behind_behind e.0 f.0 fs (sym q) h.0), h)
  placed_increasing Equal f fs longer q h k b = joined_increasing ((f.1 + e.1) % m) (eqb ((f.1 + e.1) % m) 0) f fs h
  placed_increasing Greater f fs longer q h k b = (b (turned e.0 f.0 (sym q)), k)

  pub with_entry_increasing : (es : List Entry) → IsIncreasing es → IsIncreasing (with_entry m e es)
  unfolding IsStrictlySortedBy
  with_entry_increasing [] h = (tt, tt)
  with_entry_increasing (f ∷ fs) h =
      placed_increasing (listing_cmp e.0 f.0) f fs (with_entry m e fs) refl h (with_entry_increasing fs h.1) (λ l. with_entry_behind f.0 fs l h.0)

  -- what holds of the entry, of the others and of each that is put together holds of all
  module _ (P : Entry → Type 0) (p : P e) (sum : (f : Entry) (s : ℕ) → P f → s ≡ (f.1 + e.1) % m → (s ≡ 0 → ⊥) → P (f.0, s)) where
    joined_all : (f : Entry) (fs : List Entry) (s : ℕ) (b : Bool) → s ≡ (f.1 + e.1) % m → eqb s 0 ≡ b → AllByRecursion P (f ∷ fs)
        → AllByRecursion P (cond b fs ((f.0, s) ∷ fs))
    joined_all f fs s true q t h = h.1
    joined_all f fs s false q t h = (sum f s h.0 q (eqb-false s 0 t), h.1)

    placed_all : (o : Ordering) (f : Entry) (fs longer : List Entry) → AllByRecursion P (f ∷ fs) → AllByRecursion P longer
        → AllByRecursion P (placed o m e f fs longer)
    placed_all Less f fs longer h k = (p, h)
    placed_all Equal f fs longer h k = joined_all f fs ((f.1 + e.1) % m) (eqb ((f.1 + e.1) % m) 0) refl refl h
    placed_all Greater f fs longer h k = (h.0, k)

    pub with_entry_all : (es : List Entry) → AllByRecursion P es → AllByRecursion P (with_entry m e es)
    with_entry_all [] h = (p, tt)
    with_entry_all (f ∷ fs) h = placed_all (listing_cmp e.0 f.0) f fs (with_entry m e fs) h (with_entry_all fs h.1)

  joined_at : (w : W) (f : Entry) (fs : List Entry) (s : ℕ) (b : Bool) → eqb s 0 ≡ b
      → coefficient_of (λ a. a) (cond b fs ((f.0, s) ∷ fs)) w ≡ s * single f.0 w + coefficient_of (λ a. a) fs w
  joined_at w f fs s true t =
      let z : s ≡ 0 = eqb-true s 0 t in
      let q : coefficient_of (λ a. a) fs w ≡ 0 * single f.0 w + coefficient_of (λ a. a) fs w = omega arith in
      q ∙ ap (λ n. n * single f.0 w + coefficient_of (λ a. a) fs w) (sym z)
  joined_at w f fs s false t = refl

  placed_at : (w : W) (o : Ordering) (f : Entry) (fs longer : List Entry) → o ≡ listing_cmp e.0 f.0
      → Same m (coefficient_of (λ a. a) longer w) (e.1 * single e.0 w + coefficient_of (λ a. a) fs w)
      → Same m (coefficient_of (λ a. a) (placed o m e f fs longer) w) (e.1 * single e.0 w + coefficient_of (λ a. a) (f ∷ fs) w)
  placed_at w Less f fs longer q h = refl
  placed_at w Equal f fs longer q h =
      let s = (f.1 + e.1) % m in
      let x = single f.0 w in
      let y : single e.0 w ≡ x = ap (λ v. single v w) (listing_same e.0 f.0 (sym q)) in
      let a : Same m (s * x + coefficient_of (λ a. a) fs w) ((f.1 + e.1) * x + coefficient_of (λ a. a) fs w) =
      same-add_right m (s * x) ((f.1 + e.1) * x) (coefficient_of (λ a. a) fs w) (same-mul_right m s (f.1 + e.1) x (same-mod m (f.1 + e.1))) in
      let b : (f.1 + e.1) * x + coefficient_of (λ a. a) fs w ≡ e.1 * x + (f.1 * x + coefficient_of (λ a. a) fs w) = omega arith in
      ap (λ n. n % m) (joined_at w f fs s (eqb s 0) refl) ∙ a ∙ ap (λ n. n % m) b
      ∙ ap (λ n. (e.1 * n + (f.1 * x + coefficient_of (λ a. a) fs w)) % m) (sym y)
  placed_at w Greater f fs longer q h =
      let a = same-add_left m (coefficient_of (λ a. a) longer w) (e.1 * single e.0 w + coefficient_of (λ a. a) fs w) (f.1 * single f.0 w) h in
      let b : f.1 * single f.0 w + (e.1 * single e.0 w + coefficient_of (λ a. a) fs w)
      ≡ e.1 * single e.0 w + (f.1 * single f.0 w + coefficient_of (λ a. a) fs w) = omega arith in
      a ∙ ap (λ n. n % m) b

  pub coefficient_of-with_entry : (w : W) (es : List Entry)
      → Same m (coefficient_of (λ a. a) (with_entry m e es) w) (e.1 * single e.0 w + coefficient_of (λ a. a) es w)
  coefficient_of-with_entry w [] = refl
  coefficient_of-with_entry w (f ∷ fs) = placed_at w (listing_cmp e.0 f.0) f fs (with_entry m e fs) refl (coefficient_of-with_entry w fs)
