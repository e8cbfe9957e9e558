-- Lyndon words by a test of the suffixes, one letter shorter each time.
use Rattle.std.proofs.Common.{◌≡◌, ◌<◌, ◌↔◌, IsTrue, Bool, true, false, ◌&&◌, List, [], ◌∷◌, ◌++◌, length, drop, refl, sym, ap, ◌∙◌, arith}
use Rattle.std.specs.declared.cmp.Ordering.{Ordering}
use Rattle.std.specs.declared.cmp.Ordering.TheVariants.{Less, Equal, Greater}
use Rattle.std.specs.Ordering.{is_lt}
use Rattle.zeta_model.specs.declared.Letter.{Letter}
use Rattle.zeta_model.specs.Words.{word_cmp}
use Rattle.lyndon_words.specs.Lyndon.{IsBefore, IsLyndon}
use Rattle.lyndon_words.specs.Inner.{is_below_suffixes, lyndon_test}

pub is_lt-Less : (o : Ordering) → is_lt o ≡ true → o ≡ Less
is_lt-Less Less e = refl
is_lt-Less Equal e = cc
is_lt-Less Greater e = cc

pub both_true : (a b : Bool) → (a && b) ≡ true → (a ≡ true) × (b ≡ true)
both_true true b e = (refl, e)
both_true false b e = cc

below-suffix : (w u v : List Letter) → is_below_suffixes w (u ++ v) ≡ true → 0 < length v → IsBefore w v
below-suffix w [] [] e h = absurd (omega arith)
below-suffix w [] (b ∷ v) e h = is_lt-Less (word_cmp w (b ∷ v)) (both_true (is_lt (word_cmp w (b ∷ v))) (is_below_suffixes w v) e).0
below-suffix w (a ∷ u) v e h = below-suffix w u v (both_true (is_lt (word_cmp w (a ∷ u ++ v))) (is_below_suffixes w (u ++ v)) e).1 h

suffixes-below : (w v : List Letter) → ((s t : List Letter) → v ≡ s ++ t → 0 < length t → IsBefore w t) → is_below_suffixes w v ≡ true
suffixes-below w [] f = refl
suffixes-below w (a ∷ v) f =
    let first : is_lt (word_cmp w (a ∷ v)) ≡ true = ap is_lt (f [] (a ∷ v) refl (omega arith)) in
    let rest : is_below_suffixes w v ≡ true = suffixes-below w v (λ s t e h. f (a ∷ s) t (λ i. a ∷ e i) h) in
    ap (λ t. t && is_below_suffixes w v) first ∙ rest

pub IsLyndon-from_test : (w : List Letter) → lyndon_test w ≡ true → IsLyndon w
IsLyndon-from_test [] e = cc
IsLyndon-from_test (a ∷ w) e = record { nonempty = omega arith; least = go }
  where
    go : (u v : List Letter) → a ∷ w ≡ u ++ v → 0 < length u → 0 < length v → IsBefore (a ∷ w) v
    go [] v f hu hv = absurd (omega arith)
    go (b ∷ u) v f hu hv =
        let rest : w ≡ u ++ v = cc in
        below-suffix (a ∷ w) u v (ap (is_below_suffixes (a ∷ w)) (sym rest) ∙ e) hv

pub lyndon_test-true : (w : List Letter) → IsLyndon w → lyndon_test w ≡ true
lyndon_test-true [] l = absurd (omega (arith, l.nonempty))
lyndon_test-true (a ∷ w) l = suffixes-below (a ∷ w) w (λ s t e h. l.least (a ∷ s) t (λ i. a ∷ e i) (omega arith) h)

pub below-itself_false : (w v : List Letter) → 0 < length v → is_lt (word_cmp w v) ≡ false → is_below_suffixes w v ≡ false
below-itself_false w [] h e = absurd (omega arith)
below-itself_false w (a ∷ v) h e = ap (λ t. t && is_below_suffixes w v) e

pub below-next : (w v : List Letter) → 0 < length v → is_lt (word_cmp w v) ≡ true → is_below_suffixes w v ≡ is_below_suffixes w (drop 1 v)
below-next w [] h e = absurd (omega arith)
below-next w (a ∷ v) h e = ap (λ t. t && is_below_suffixes w v) e

pub lyndon_test-some : (w : List Letter) → 0 < length w → lyndon_test w ≡ is_below_suffixes w (drop 1 w)
lyndon_test-some [] h = absurd (omega arith)
lyndon_test-some (a ∷ w) h = refl

pub lyndon_test-none : (w : List Letter) → length w ≡ 0 → lyndon_test w ≡ false
lyndon_test-none [] h = refl
lyndon_test-none (a ∷ w) h = absurd (omega arith)

pub suffixes-none : (w v : List Letter) → length v ≡ 0 → is_below_suffixes w v ≡ true
suffixes-none w [] h = refl
suffixes-none w (a ∷ v) h = absurd (omega arith)

-- the test answers true exactly at Lyndon words
pub tested : (w : List Letter) (r : Bool) → lyndon_test w ≡ r → IsTrue r ↔ IsLyndon w
tested w true e = (λ h. IsLyndon-from_test w e, λ l. refl)
tested w false e = (λ h. let f : false ≡ true = h in cc, λ l. sym e ∙ lyndon_test-true w l)
