-- The factors of a word from those of the word behind its first letter.
use Rattle.std.proofs.Common.{◌≡◌, ◌≤◌, suc, ◌⊎◌, inl, inr, Bool, true, false, cond, List, [], ◌∷◌, ◌++◌, length, refl, ap, subst, ◌∙◌, arith, append_assoc}
use Rattle.std.specs.declared.cmp.Ordering.{Ordering}
use Rattle.std.specs.declared.cmp.Ordering.TheVariants.{Less, Equal, Greater}
use Rattle.std.specs.Ordering.{is_lt}
use Rattle.zeta_model.specs.declared.Letter.{Letter}
use Rattle.zeta_model.specs.Words.{word_cmp}
use Rattle.lyndon_words.specs.Lyndon.{IsBefore, IsLyndon, AllLyndon, IsAtLeast, Falls, joined, IsFactors}
use Rattle.lyndon_words.specs.Inner.{join_front}
use Rattle.lyndon_words.proofs.WordLess.{Precedes, before, precedes, precedes-trans, precedes_cases}
use Rattle.lyndon_words.proofs.LyndonConcat.{IsLyndon-letter, IsLyndon-append}
use Rattle.lyndon_words.proofs.Suffixes.{is_lt-Less}

abbrev pub factors_of : List Letter → List (List Letter)
factors_of [] = []
factors_of (a ∷ w) = join_front (a ∷ []) (factors_of w)

pub not_before : (o : Ordering) → is_lt o ≡ false → ¬ (o ≡ Less)
not_before Less e p = cc
not_before Equal e p = cc
not_before Greater e p = cc

-- u is at least what a word is at least that u is at least
pub through : (u v : List Letter) (ws : List (List Letter)) → ¬ (IsBefore u v) → IsAtLeast v ws → IsAtLeast u ws
through u v [] h a = tt
through u v (w ∷ ws) h a = (λ p. go p (precedes_cases u v), through u v ws h a.1)
  where
    go : IsBefore u w → Precedes u v ⊎ ((u ≡ v) ⊎ Precedes v u) → ⊥
    go p (inl q) = h (before u v q)
    go p (inr (inl e)) = a.0 (subst (λ t. IsBefore t w) e p)
    go p (inr (inr q)) = a.0 (before v w (precedes-trans v u w q (precedes u w p)))

pub joined-join_front : (f : List Letter) (ks : List (List Letter)) → joined (join_front f ks) ≡ f ++ joined ks
joined-join_front f [] = refl
joined-join_front f (k ∷ ks) =
    elim (is_lt (word_cmp f k)) as (λ b. joined (cond b (join_front (f ++ k) ks) (f ∷ k ∷ ks)) ≡ f ++ (k ++ joined ks)) [
      | true ↦ joined-join_front (f ++ k) ks ∙ append_assoc f k (joined ks)
      | false ↦ refl
    ]

pub length-join_front : (f : List Letter) (ks : List (List Letter)) → length (join_front f ks) ≤ suc (length ks)
length-join_front f [] = omega arith
length-join_front f (k ∷ ks) =
    elim (is_lt (word_cmp f k)) as (λ b. length (cond b (join_front (f ++ k) ks) (f ∷ k ∷ ks)) ≤ suc (suc (length ks))) [
      | true ↦ omega (arith, length-join_front (f ++ k) ks)
      | false ↦ omega arith
    ]

AllLyndon-join_front : (f : List Letter) (ks : List (List Letter)) → IsLyndon f → AllLyndon ks → AllLyndon (join_front f ks)
AllLyndon-join_front f [] lf lk = (lf, tt)
AllLyndon-join_front f (k ∷ ks) lf lk =
    let go : (b : Bool) → is_lt (word_cmp f k) ≡ b → AllLyndon (cond b (join_front (f ++ k) ks) (f ∷ k ∷ ks)) =
    λ b. elim b as (λ b. is_lt (word_cmp f k) ≡ b → AllLyndon (cond b (join_front (f ++ k) ks) (f ∷ k ∷ ks))) [
      | true ↦ λ e. AllLyndon-join_front (f ++ k) ks (IsLyndon-append f k lf lk.0 (is_lt-Less (word_cmp f k) e)) lk.1
      | false ↦ λ e. (lf, lk)
    ] in
    go (is_lt (word_cmp f k)) refl

Falls-join_front : (f : List Letter) (ks : List (List Letter)) → Falls ks → Falls (join_front f ks)
Falls-join_front f [] d = (tt, tt)
Falls-join_front f (k ∷ ks) d =
    let go : (b : Bool) → is_lt (word_cmp f k) ≡ b → Falls (cond b (join_front (f ++ k) ks) (f ∷ k ∷ ks)) =
    λ b. elim b as (λ b. is_lt (word_cmp f k) ≡ b → Falls (cond b (join_front (f ++ k) ks) (f ∷ k ∷ ks))) [
      | true ↦ λ e. Falls-join_front (f ++ k) ks d.1
      | false ↦ λ e. let low : ¬ (IsBefore f k) = not_before (word_cmp f k) e in ((low, through f k ks low d.0), d)
    ] in
    go (is_lt (word_cmp f k)) refl

pub IsFactors-factors_of : (w : List Letter) → IsFactors w (factors_of w)
IsFactors-factors_of [] = record { lyndon = tt; falls = tt; whole = refl }
IsFactors-factors_of (a ∷ w) =
    let rest : IsFactors w (factors_of w) = IsFactors-factors_of w in
    record {
      lyndon = AllLyndon-join_front (a ∷ []) (factors_of w) (IsLyndon-letter a) rest.lyndon;
      falls = Falls-join_front (a ∷ []) (factors_of w) rest.falls;
      whole = joined-join_front (a ∷ []) (factors_of w) ∙ ap (λ t. a ∷ t) rest.whole;
    }

pub length-factors_of : (w : List Letter) → length (factors_of w) ≤ length w
length-factors_of [] = omega arith
length-factors_of (a ∷ w) = omega (arith, length-join_front (a ∷ []) (factors_of w), length-factors_of w)
