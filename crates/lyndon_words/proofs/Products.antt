-- The product of two monomials is a monomial with the factors of both.
use Rattle.std.proofs.Common.{◌≡◌, ℕ, ◌+◌, ◌<◌, ◌≤◌, suc, inl, inr, Bool, true, false, cond, IsTrue, List, [], ◌∷◌, ◌++◌, length, drop, get_or, refl, sym, ap, ◌∙◌, arith, length-append, drop-cons}
use Rattle.std.specs.Ordering.{is_lt}
use Rattle.zeta_model.specs.declared.Letter.{Letter}
use Rattle.zeta_model.specs.Words.{word_cmp, is_admissible}
use Rattle.zeta_model.specs.Sums.{sum_of, single}
use Rattle.lyndon_words.specs.Lyndon.{IsBefore, IsLyndon, AllLyndon, IsAtLeast, Falls, joined}
use Rattle.lyndon_words.specs.Monomials.{AllAdmissible, IsMonomial, IsProduct, put, product_of}
use Rattle.lyndon_words.proofs.WordLess.{Precedes, precedes, precedes-trans}
use Rattle.lyndon_words.proofs.Suffixes.{is_lt-Less}
use Rattle.lyndon_words.proofs.JoinFront.{not_before, through}
use Rattle.lyndon_words.proofs.AdmissibleFactors.{length-factors}

pub length-put : (w : List Letter) (us : List (List Letter)) → length (put w us) ≡ suc (length us)
length-put w [] = refl
length-put w (u ∷ us) = elim (is_lt (word_cmp u w)) as (λ b. length (cond b (w ∷ u ∷ us) (u ∷ put w us)) ≡ suc (suc (length us))) [
  | true ↦ refl
  | false ↦ ap suc (length-put w us)
]

length-joined-put : (w : List Letter) (us : List (List Letter)) → length (joined (put w us)) ≡ length w + length (joined us)
length-joined-put w [] = length-append w []
length-joined-put w (u ∷ us) = elim (is_lt (word_cmp u w))
    as (λ b. length (joined (cond b (w ∷ u ∷ us) (u ∷ put w us))) ≡ length w + length (u ++ joined us)) [
      | true ↦ length-append w (u ++ joined us)
      | false ↦ omega (arith, length-append u (joined (put w us)), length-append u (joined us), length-joined-put w us)
    ]

sum_of-put : (w : List Letter) (us : List (List Letter)) (t : List Letter) → sum_of (put w us) t ≡ single w t + sum_of us t
sum_of-put w [] t = refl
sum_of-put w (u ∷ us) t = elim (is_lt (word_cmp u w)) as (λ b. sum_of (cond b (w ∷ u ∷ us) (u ∷ put w us)) t ≡ single w t + (single u t + sum_of us t)) [
  | true ↦ refl
  | false ↦ let e : sum_of (put w us) t ≡ single w t + sum_of us t = sum_of-put w us t in
      ap (λ n. single u t + n) e ∙ swapped (single u t) (single w t) (sum_of us t)
]
  where
    swapped : (a b c : ℕ) → a + (b + c) ≡ b + (a + c)
    swapped a b c = omega arith

AllLyndon-put : (w : List Letter) (us : List (List Letter)) → IsLyndon w → AllLyndon us → AllLyndon (put w us)
AllLyndon-put w [] l a = (l, tt)
AllLyndon-put w (u ∷ us) l a = elim (is_lt (word_cmp u w)) as (λ b. AllLyndon (cond b (w ∷ u ∷ us) (u ∷ put w us))) [
  | true ↦ (l, a)
  | false ↦ (a.0, AllLyndon-put w us l a.1)
]

AllAdmissible-put : (w : List Letter) (us : List (List Letter)) → IsTrue (is_admissible w) → AllAdmissible us → AllAdmissible (put w us)
AllAdmissible-put w [] l a = (l, tt)
AllAdmissible-put w (u ∷ us) l a = elim (is_lt (word_cmp u w)) as (λ b. AllAdmissible (cond b (w ∷ u ∷ us) (u ∷ put w us))) [
  | true ↦ (l, a)
  | false ↦ (a.0, AllAdmissible-put w us l a.1)
]

IsAtLeast-put : (k w : List Letter) (us : List (List Letter)) → ¬ (IsBefore k w) → IsAtLeast k us → IsAtLeast k (put w us)
IsAtLeast-put k w [] h a = (h, tt)
IsAtLeast-put k w (u ∷ us) h a = elim (is_lt (word_cmp u w)) as (λ b. IsAtLeast k (cond b (w ∷ u ∷ us) (u ∷ put w us))) [
  | true ↦ (h, a)
  | false ↦ (a.0, IsAtLeast-put k w us h a.1)
]

precedes-irreflexive : (u : List Letter) → ¬ (Precedes u u)
precedes-irreflexive [] p = p
precedes-irreflexive (a ∷ u) (inl p) = absurd (omega arith)
precedes-irreflexive (a ∷ u) (inr p) = precedes-irreflexive u p.1

not_back : (u w : List Letter) → IsBefore u w → ¬ (IsBefore w u)
not_back u w p q = precedes-irreflexive u (precedes-trans u w u (precedes u w p) (precedes w u q))

Falls-put : (w : List Letter) (us : List (List Letter)) → Falls us → Falls (put w us)
Falls-put w [] f = (tt, tt)
Falls-put w (u ∷ us) f =
    let go : (b : Bool) → is_lt (word_cmp u w) ≡ b → Falls (cond b (w ∷ u ∷ us) (u ∷ put w us)) =
    λ b. elim b as (λ b. is_lt (word_cmp u w) ≡ b → Falls (cond b (w ∷ u ∷ us) (u ∷ put w us))) [
      | true ↦ λ e. let n : ¬ (IsBefore w u) = not_back u w (is_lt-Less (word_cmp u w) e) in ((n, through w u us n f.0), f)
      | false ↦ λ e. (IsAtLeast-put u w us (not_before (word_cmp u w) e) f.0, Falls-put w us f.1)
    ] in
    go (is_lt (word_cmp u w)) refl

-- the parts of a monomial but for its weight, with the weight and the counts that it is to have
record Gathers (p : List (List Letter)) (n : ℕ) (counts : List Letter → ℕ) : Type 0 where
  lyndon : AllLyndon p
  admissible : AllAdmissible p
  falls : Falls p
  weight : length (joined p) ≡ n
  counted : (t : List Letter) → sum_of p t ≡ counts t

gathers : (a b : List (List Letter)) → AllLyndon a → AllAdmissible a → AllLyndon b → AllAdmissible b → Falls b
    → Gathers (product_of a b) (length (joined a) + length (joined b)) (λ t. sum_of a t + sum_of b t)
gathers [] b la aa lb ab fb = record { lyndon = lb; admissible = ab; falls = fb; weight = omega arith; counted = λ t. zeros (sum_of b t) }
  where
    zeros : (n : ℕ) → n ≡ 0 + n
    zeros n = omega arith
gathers (w ∷ a) b la aa lb ab fb =
    let rest : Gathers (product_of a (put w b)) (length (joined a) + length (joined (put w b))) (λ t. sum_of a t + sum_of (put w b) t) =
    gathers a (put w b) la.1 aa.1 (AllLyndon-put w b la.0 lb) (AllAdmissible-put w b aa.0 ab) (Falls-put w b fb) in
    record {
      lyndon = rest.lyndon;
      admissible = rest.admissible;
      falls = rest.falls;
      weight = omega (arith, rest.weight, length-joined-put w b, length-append w (joined a));
      counted = λ t. rest.counted t ∙ ap (λ n. sum_of a t + n) (sum_of-put w b t) ∙ swapped (sum_of a t) (single w t) (sum_of b t);
    }
  where
    swapped : (k m n : ℕ) → k + (m + n) ≡ (m + k) + n
    swapped k m n = omega arith

pub IsProduct-product_of : (a b : List (List Letter)) → IsMonomial a → IsMonomial b → length (joined a) + length (joined b) ≤ 24
    → IsProduct a b (product_of a b)
IsProduct-product_of a b ma mb h =
    let g : Gathers (product_of a b) (length (joined a) + length (joined b)) (λ t. sum_of a t + sum_of b t) =
    gathers a b ma.lyndon ma.admissible mb.lyndon mb.admissible mb.falls in
    record {
      monomial = record { lyndon = g.lyndon; admissible = g.admissible; falls = g.falls; within = omega (arith, g.weight) };
      counts = g.counted;
    }

-- one more word of a is put into what was made
pub product_of-step : (a old new : List (List Letter)) (i : ℕ) (w : List Letter) → i < length a → w ≡ get_or a i w → new ≡ put w old
    → product_of (drop (i + 1) a) new ≡ product_of (drop i a) old
product_of-step a old new i w h g e =
    let next : suc i ≡ i + 1 = omega arith in
    let d : drop i a ≡ w ∷ drop (i + 1) a = drop-cons a i w h ∙ (λ j. sym g j ∷ drop (next j) a) in
    ap (product_of (drop (i + 1) a)) e ∙ ap (λ t. product_of t old) (sym d)

pub product-fits : (a b : List (List Letter)) → IsMonomial a → IsMonomial b → length (joined a) + length (joined b) ≤ 24 → length a + length b ≤ 12
product-fits a b ma mb h = omega (arith, length-factors a ma.admissible, length-factors b mb.admissible)
