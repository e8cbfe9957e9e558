-- The text of a monomial determines its factors.
use Rattle.std.proofs.Common.{◌≡◌, ℕ, zero, suc, ◌+◌, ◌^◌, ◌<◌, ◌≤◌, Bool, true, false, List, [], ◌∷◌, ◌++◌, length, map, refl, sym, ap, subst, ◌∙◌, arith}
use Rattle.std.specs.Prelude.{◌==◌, if◌then◌else◌, codes, IsTrue}
use Rattle.std.specs.List.{AllByRecursion, join_with_byte}
use Rattle.std.specs.Fmt.{decimal}
use Rattle.std.proofs.lemmas.Bool.{eqb-true}
use Rattle.std.proofs.lemmas.Fmt.{decimal_injective}
use Rattle.zeta_model.specs.declared.Letter.{Letter}
use Rattle.zeta_model.specs.declared.Letter.TheVariants.{X, Y}
use Rattle.zeta_model.specs.Words.{ends_with_y}
use Rattle.zeta_model.specs.Indices.{index_from, index_of, word_text}
use Rattle.zeta_model.specs.Sums.{same_word}
use Rattle.word_letters.specs.Order.{same_words}
use Rattle.word_letters.proofs.IndexLemmas.{word_text-injective, has_index-ends}
use Rattle.poly_print.specs.Polynomials.{powers_from, powers_of, power_text, monomial_text}
use Rattle.poly_print.proofs.CutTexts.{IsFree, IsDigit, free_append, cut, never, join_same, join_free, decimal_free}

-- a word that has a text of its own
pub record IsPrinted (u : List Letter) : Type 0 where
  pub ends : ends_with_y u ≡ true
  pub light : length u ≤ 24

-- a factor and how often it stands there
pub record IsPower (p : List Letter × ℕ) : Type 0 where
  pub word : IsPrinted p.0
  pub some : 0 < p.1
  pub few : p.1 < 2 ^ 64

pub no_digit : (c : ℕ) → c < 48 → IsDigit c → ⊥
no_digit c h d = absurd (omega arith)

pub high_digit : (c : ℕ) → 57 < c → IsDigit c → ⊥
high_digit c h d = absurd (omega arith)

parts_free : (c : ℕ) → (IsDigit c → ⊥) → (k : ℕ) (w : List Letter) → 0 < k → k + length w < 2 ^ 64
    → AllByRecursion (IsFree c) (map decimal (index_from k w))
parts_free c n k [] s h = tt
parts_free c n k (X ∷ w) s h = parts_free c n (k + 1) w (omega arith) (omega arith)
parts_free c n k (Y ∷ w) s h = (decimal_free c k n (omega arith), parts_free c n 1 w (omega arith) (omega arith))

-- no byte but digits and `z(,)` stands in the text of a word
pub word_free : (c : ℕ) → (IsDigit c → ⊥) → (122 ≡ c → ⊥) → (40 ≡ c → ⊥) → (44 ≡ c → ⊥) → (41 ≡ c → ⊥) → (w : List Letter) → length w ≤ 24
    → IsFree c (word_text w)
word_free c n z o k e w l = (
  z,
  (
    o,
    free_append c (join_with_byte 44 (map decimal (index_of w))) (41 ∷ []) (join_free 44 c (map decimal (index_of w)) k (parts_free c n 1 w
        (omega arith) (omega arith))) (e, tt),
  ),
)

star_free : (w : List Letter) → length w ≤ 24 → IsFree 42 (word_text w)
star_free w l = word_free 42 (no_digit 42 (omega arith)) (λ h. absurd (omega arith)) (λ h. absurd (omega arith)) (λ h. absurd (omega arith)) (λ h. absurd
    (omega arith)) w l

plus_free : (w : List Letter) → length w ≤ 24 → IsFree 43 (word_text w)
plus_free w l = word_free 43 (no_digit 43 (omega arith)) (λ h. absurd (omega arith)) (λ h. absurd (omega arith)) (λ h. absurd (omega arith)) (λ h. absurd
    (omega arith)) w l

caret_free : (w : List Letter) → length w ≤ 24 → IsFree 94 (word_text w)
caret_free w l = word_free 94 (high_digit 94 (omega arith)) (λ h. absurd (omega arith)) (λ h. absurd (omega arith)) (λ h. absurd (omega arith))
    (λ h. absurd (omega arith)) w l

-- the text of a power, by whether it stands there once
text_by : Bool → List Letter × ℕ → List ℕ
text_by true p = word_text p.0
text_by false p = word_text p.0 ++ (codes "^" ++ decimal p.1)

by_text : (b : Bool) (p : List Letter × ℕ) → (if b then word_text p.0 else word_text p.0 ++ (codes "^" ++ decimal p.1)) ≡ text_by b p
unfolding text_by
by_text true p = refl
by_text false p = refl

one_is_one : (k : ℕ) → (k == 1) ≡ true → k ≡ 1
one_is_one k h = eqb-true k 1 h

text_free : (c : ℕ) → (IsDigit c → ⊥) → (94 ≡ c → ⊥) → (b : Bool) (p : List Letter × ℕ) → IsPower p → IsFree c (word_text p.0) → IsFree c (text_by b p)
unfolding text_by
text_free c n v true p h w = w
text_free c n v false p h w = free_append c (word_text p.0) (94 ∷ decimal p.1) w (v, decimal_free c p.1 n h.few)

texts_same : (b c : Bool) (p q : List Letter × ℕ) → (p.1 == 1) ≡ b → (q.1 == 1) ≡ c → IsPower p → IsPower q → text_by b p ≡ text_by c q → p ≡ q
unfolding text_by
texts_same true true p q hp hq k l e =
    let u = word_text-injective p.0 q.0 k.word.light l.word.light (has_index-ends p.0 k.word.ends) (has_index-ends q.0 l.word.ends) e in
    let n : p.1 ≡ q.1 = one_is_one p.1 hp ∙ sym (one_is_one q.1 hq) in
    λ i. (u i, n i)
texts_same true false p q hp hq k l e = absurd (never 94 (word_text p.0) (word_text q.0) (decimal q.1) (caret_free p.0 k.word.light) e)
texts_same false true p q hp hq k l e = absurd (never 94 (word_text q.0) (word_text p.0) (decimal p.1) (caret_free q.0 l.word.light) (sym e))
texts_same false false p q hp hq k l e =
    let r = cut 94 (word_text p.0) (word_text q.0) (decimal p.1) (decimal q.1) (caret_free p.0 k.word.light) (caret_free q.0 l.word.light) e in
    let u = word_text-injective p.0 q.0 k.word.light l.word.light (has_index-ends p.0 k.word.ends) (has_index-ends q.0 l.word.ends) r.0 in
    let n = decimal_injective p.1 q.1 k.few l.few r.1 in
    λ i. (u i, n i)

power_text-injective : (p q : List Letter × ℕ) → IsPower p → IsPower q → power_text p ≡ power_text q → p ≡ q
power_text-injective p q k l e = texts_same (p.1 == 1) (q.1 == 1) p q refl refl k l (sym (by_text (p.1 == 1) p) ∙ e ∙ by_text (q.1 == 1) q)

powers_free : (c : ℕ) → (IsDigit c → ⊥) → (94 ≡ c → ⊥) → ((w : List Letter) → length w ≤ 24 → IsFree c (word_text w)) → (ps : List (List Letter × ℕ))
    → AllByRecursion IsPower ps → AllByRecursion (IsFree c) (map power_text ps)
powers_free c n v f [] h = tt
powers_free c n v f (p ∷ ps) h = (
  subst (IsFree c) (sym (by_text (p.1 == 1) p)) (text_free c n v (p.1 == 1) p h.0
      (f p.0 h.0.word.light)),
  powers_free c n v f ps h.1,
)

maps_same : (ps qs : List (List Letter × ℕ)) → AllByRecursion IsPower ps → AllByRecursion IsPower qs → map power_text ps ≡ map power_text qs → ps ≡ qs
maps_same [] [] h k e = refl
maps_same [] (q ∷ qs) h k e = cc
maps_same (p ∷ ps) [] h k e = cc
maps_same (p ∷ ps) (q ∷ qs) h k e =
    let s : power_text p ≡ power_text q = cc in
    let t : map power_text ps ≡ map power_text qs = cc in
    let u = power_text-injective p q h.0 k.0 s in
    let v = maps_same ps qs h.1 k.1 t in
    λ i. u i ∷ v i

-- u as often as k says, before a list
copies : ℕ → List Letter → List (List Letter) → List (List Letter)
copies zero u us = us
copies (suc k) u us = u ∷ copies k u us

copies-more : (k : ℕ) (u : List Letter) (us : List (List Letter)) → copies (k + 1) u us ≡ copies k u (u ∷ us)
unfolding copies
copies-more zero u us = refl
copies-more (suc k) u us = ap (λ n. copies n u us) (let e : suc k + 1 ≡ suc (k + 1) = omega arith in e) ∙ ap (λ vs. u ∷ vs) (copies-more k u us)

expanded : List (List Letter × ℕ) → List (List Letter)
expanded [] = []
expanded (p ∷ ps) = copies p.1 p.0 (expanded ps)

-- one more factor, by whether it is that which stood there
expand_by : (u : List Letter) (k : ℕ) (v : List Letter) (vs : List (List Letter)) (b : Bool) → same_word u v ≡ b → expanded (powers_from u (k + 1) vs)
    ≡ copies (k + 1) u vs → expanded (powers_from v 1 vs) ≡ v ∷ vs → expanded (if b then powers_from u (k + 1) vs else (u, k) ∷ powers_from v 1 vs)
    ≡ copies k u (v ∷ vs)
unfolding copies expanded
expand_by u k v vs true h same other =
    let t : IsTrue (same_word u v) = h in
    same ∙ copies-more k u vs ∙ ap (λ w. copies k u (w ∷ vs)) (same_words u v t)
expand_by u k v vs false h same other = ap (copies k u) other

expand_from : (u : List Letter) (k : ℕ) (us : List (List Letter)) → expanded (powers_from u k us) ≡ copies k u us
unfolding copies expanded
expand_from u k [] = refl
expand_from u k (v ∷ vs) = expand_by u k v vs (same_word u v) refl (expand_from u (k + 1) vs) (expand_from v 1 vs)

expand : (us : List (List Letter)) → expanded (powers_of us) ≡ us
unfolding copies expanded
expand [] = refl
expand (u ∷ us) = expand_from u 1 us

from_by : (u : List Letter) (k : ℕ) (v : List Letter) (vs : List (List Letter)) (b : Bool) → IsPower (u, k)
    → AllByRecursion IsPower (powers_from u (k + 1) vs) → AllByRecursion IsPower (powers_from v 1 vs)
    → AllByRecursion IsPower (if b then powers_from u (k + 1) vs else (u, k) ∷ powers_from v 1 vs)
from_by u k v vs true h same other = same
from_by u k v vs false h same other = (h, other)

from_powers : (u : List Letter) (k : ℕ) (us : List (List Letter)) → IsPrinted u → 0 < k → AllByRecursion IsPrinted us → k + length us < 2 ^ 64
    → AllByRecursion IsPower (powers_from u k us)
from_powers u k [] h s a l = (record { word = h; some = s; few = omega arith }, tt)
from_powers u k (v ∷ vs) h s a l = from_by u k v vs (same_word u v) (record {
  word = h;
  some = s;
  few =
      omega arith;
}) (from_powers u (k + 1) vs h (omega arith) a.1 (omega arith)) (from_powers v 1 vs a.0 (omega arith) a.1 (omega arith))

-- a list of factors that has a text: some factors, each with a text of its own
pub record HasText (p : List (List Letter)) : Type 0 where
  pub some : 0 < length p
  pub few : length p < 2 ^ 63
  pub words : AllByRecursion IsPrinted p

pub powers_are : (u : List Letter) (us : List (List Letter)) → HasText (u ∷ us) → AllByRecursion IsPower (powers_of (u ∷ us))
powers_are u us h = let few : length (u ∷ us) < 2 ^ 63 = h.few in from_powers u 1 us h.words.0 (omega arith) h.words.1 (omega arith)

-- powers of some factors are not empty
begins_by : (u : List Letter) (k : ℕ) (v : List Letter) (vs : List (List Letter)) (b : Bool) → 0 < length (powers_from u (k + 1) vs)
    → 0 < length (if b then powers_from u (k + 1) vs else (u, k) ∷ powers_from v 1 vs)
begins_by u k v vs true h = h
begins_by u k v vs false h = omega arith

pub begins : (u : List Letter) (k : ℕ) (us : List (List Letter)) → 0 < length (powers_from u k us)
begins u k [] = omega arith
begins u k (v ∷ vs) = begins_by u k v vs (same_word u v) (begins u (k + 1) vs)

powers_star_free : (ps : List (List Letter × ℕ)) → AllByRecursion IsPower ps → AllByRecursion (IsFree 42) (map power_text ps)
powers_star_free ps h = powers_free 42 (no_digit 42 (omega arith)) (λ h. absurd (omega arith)) star_free ps h

powers_plus_free : (ps : List (List Letter × ℕ)) → AllByRecursion IsPower ps → AllByRecursion (IsFree 43) (map power_text ps)
powers_plus_free ps h = powers_free 43 (no_digit 43 (omega arith)) (λ h. absurd (omega arith)) plus_free ps h

joined_same : (ps qs : List (List Letter × ℕ)) → 0 < length ps → 0 < length qs → AllByRecursion IsPower ps → AllByRecursion IsPower qs
    → join_with_byte 42 (map power_text ps) ≡ join_with_byte 42 (map power_text qs) → ps ≡ qs
joined_same [] qs s t h k e = absurd (omega arith)
joined_same (p ∷ ps) [] s t h k e = absurd (omega arith)
joined_same (p ∷ ps) (q ∷ qs) s t h k e =
    maps_same (p ∷ ps) (q ∷ qs) h k (join_same 42 (power_text p) (power_text q) (map power_text ps) (map power_text qs) (powers_star_free (p ∷ ps) h)
    (powers_star_free (q ∷ qs) k) e)

pub monomial_text-injective : (p q : List (List Letter)) → HasText p → HasText q → monomial_text p ≡ monomial_text q → p ≡ q
monomial_text-injective [] q h k e = let s : 0 < 0 = h.some in absurd (omega arith)
monomial_text-injective (u ∷ us) [] h k e = let s : 0 < 0 = k.some in absurd (omega arith)
monomial_text-injective (u ∷ us) (v ∷ vs) h k e =
    sym (expand (u ∷ us)) ∙ ap expanded (joined_same (powers_of (u ∷ us)) (powers_of (v ∷ vs)) (begins u 1 us) (begins v 1 vs) (powers_are u us h)
    (powers_are v vs k) e) ∙ expand (v ∷ vs)

pub monomial_free : (u : List Letter) (us : List (List Letter)) → HasText (u ∷ us) → IsFree 43 (monomial_text (u ∷ us))
monomial_free u us h = join_free 42 43 (map power_text (powers_of (u ∷ us))) (λ h. absurd (omega arith)) (powers_plus_free (powers_of (u ∷ us))
    (powers_are u us h))
