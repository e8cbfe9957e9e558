-- The Lyndon factors of an admissible word are admissible, and admissible words put together are.
use Rattle.std.proofs.Common.{◌≡◌, ◌*◌, ◌<◌, ◌≤◌, ◌⊎◌, inl, inr, true, false, ◌&&◌, IsTrue, List, [], ◌∷◌, ◌++◌, length, refl, sym, ap, subst, ◌∙◌, arith, length-append}
use Rattle.std.proofs.lemmas.List.{append-nil}
use Rattle.zeta_model.specs.declared.Letter.{Letter}
use Rattle.zeta_model.specs.declared.Letter.TheVariants.{X, Y}
use Rattle.zeta_model.specs.Words.{is_y, begins_with_x, ends_with_y, is_admissible}
use Rattle.lyndon_words.specs.Lyndon.{IsBefore, IsLyndon, AllLyndon, Falls, joined}
use Rattle.lyndon_words.specs.Monomials.{AllAdmissible}
use Rattle.lyndon_words.proofs.Suffixes.{both_true}

record LastLetter (w : List Letter) : Type 0 where
  front : List Letter
  last : Letter
  is : w ≡ front ++ last ∷ []
  ends : ends_with_y w ≡ is_y last

last_letter : (a : Letter) (w : List Letter) → LastLetter (a ∷ w)
last_letter X [] = record { front = []; last = X; is = refl; ends = refl }
last_letter Y [] = record { front = []; last = Y; is = refl; ends = refl }
last_letter X (b ∷ w) =
    let l : LastLetter (b ∷ w) = last_letter b w in
    record { front = X ∷ l.front; last = l.last; is = λ i. X ∷ l.is i; ends = l.ends }
last_letter Y (b ∷ w) =
    let l : LastLetter (b ∷ w) = last_letter b w in
    record { front = Y ∷ l.front; last = l.last; is = λ i. Y ∷ l.is i; ends = l.ends }

-- a Lyndon word of more than one letter is admissible
longer-admissible : (a b : Letter) (w : List Letter) → IsLyndon (a ∷ b ∷ w) → IsTrue (is_admissible (a ∷ b ∷ w))
longer-admissible a b w l =
    let e : LastLetter (a ∷ b ∷ w) = last_letter a (b ∷ w) in
    let less : IsBefore (a ∷ b ∷ w) (e.last ∷ []) =
    l.least e.front (e.last ∷ []) e.is (omega (arith, ap length e.is, length-append e.front (e.last ∷ []))) (omega arith) in
    go a e.last less e.ends
  where
    go : (a' c : Letter) → IsBefore (a' ∷ b ∷ w) (c ∷ []) → ends_with_y (a ∷ b ∷ w) ≡ is_y c
        → IsTrue (begins_with_x (a' ∷ b ∷ w) && ends_with_y (a ∷ b ∷ w))
    go X Y p e = e
    go X X p e = cc
    go Y X p e = cc
    go Y Y p e = cc

pub two_letters : (w : List Letter) → IsTrue (is_admissible w) → 2 ≤ length w
two_letters [] e = cc
two_letters (X ∷ []) e = cc
two_letters (Y ∷ []) e = cc
two_letters (a ∷ b ∷ w) e = omega arith

ends-cons : (a : Letter) (w : List Letter) → 0 < length w → ends_with_y (a ∷ w) ≡ ends_with_y w
ends-cons a [] h = absurd (omega arith)
ends-cons X (b ∷ w) h = refl
ends-cons Y (b ∷ w) h = refl

ends-append : (u v : List Letter) → 0 < length v → ends_with_y (u ++ v) ≡ ends_with_y v
ends-append [] v h = refl
ends-append (a ∷ u) v h = ends-cons a (u ++ v) (omega (arith, length-append u v)) ∙ ends-append u v h

begins-append : (u v : List Letter) → 0 < length u → begins_with_x (u ++ v) ≡ begins_with_x u
begins-append [] v h = absurd (omega arith)
begins-append (X ∷ u) v h = refl
begins-append (Y ∷ u) v h = refl

-- a Lyndon word that begins with x is x alone or admissible
x_or_admissible : (w : List Letter) → IsLyndon w → begins_with_x w ≡ true → (w ≡ X ∷ []) ⊎ IsTrue (is_admissible w)
x_or_admissible [] l e = cc
x_or_admissible (X ∷ []) l e = inl refl
x_or_admissible (Y ∷ []) l e = cc
x_or_admissible (a ∷ b ∷ w) l e = inr (longer-admissible a b w l)

-- behind a word that begins with x and is not less than it, a word begins with x
begins-later : (u v : List Letter) → begins_with_x u ≡ true → 0 < length v → ¬ (IsBefore u v) → begins_with_x v ≡ true
begins-later [] v e h n = cc
begins-later (Y ∷ u) v e h n = cc
begins-later (X ∷ u) [] e h n = absurd (omega arith)
begins-later (X ∷ u) (X ∷ v) e h n = refl
begins-later (X ∷ u) (Y ∷ v) e h n = absurd (n refl)

x-before : (w : List Letter) → IsTrue (is_admissible w) → IsBefore (X ∷ []) w
x-before [] e = cc
x-before (X ∷ []) e = cc
x-before (Y ∷ w) e = cc
x-before (X ∷ b ∷ w) e = refl

pub factors-admissible : (us : List (List Letter)) → AllLyndon us → Falls us → begins_with_x (joined us) ≡ true → ends_with_y (joined us) ≡ true
    → AllAdmissible us
factors-admissible [] l f b e = tt
factors-admissible (u ∷ []) l f b e = (alone (x_or_admissible u l.0 (sym (begins-append u [] l.0.nonempty) ∙ b)), tt)
  where
    alone : (u ≡ X ∷ []) ⊎ IsTrue (is_admissible u) → IsTrue (is_admissible u)
    alone (inl s) = let c : ends_with_y u ≡ false = ap ends_with_y s in let d : ends_with_y u ≡ true = ap ends_with_y (sym (append-nil u)) ∙ e in cc
    alone (inr a) = a
factors-admissible (u ∷ (v ∷ vs)) l f b e =
    let begins : begins_with_x u ≡ true = sym (begins-append u (joined (v ∷ vs)) l.0.nonempty) ∙ b in
    let later : begins_with_x v ≡ true = begins-later u v begins l.1.0.nonempty f.0.0 in
    let some : 0 < length (joined (v ∷ vs)) = omega (arith, length-append v (joined vs), l.1.0.nonempty) in
    let rest : AllAdmissible (v ∷ vs) =
    factors-admissible (v ∷ vs) l.1 f.1 (begins-append v (joined vs) l.1.0.nonempty ∙ later) (sym (ends-append u (joined (v ∷ vs)) some) ∙ e) in
    (first rest.0 (x_or_admissible u l.0 begins), rest)
  where
    first : IsTrue (is_admissible v) → (u ≡ X ∷ []) ⊎ IsTrue (is_admissible u) → IsTrue (is_admissible u)
    first a (inl s) = absurd (f.0.0 (subst (λ t. IsBefore t v) (sym s) (x-before v a)))
    first a (inr h) = h

pub length-factors : (us : List (List Letter)) → AllAdmissible us → 2 * length us ≤ length (joined us)
length-factors [] a = omega arith
length-factors (u ∷ us) a = omega (arith, length-append u (joined us), two_letters u a.0, length-factors us a.1)

pub joined-admissible : (us : List (List Letter)) → AllAdmissible us → 0 < length us → IsTrue (is_admissible (joined us))
joined-admissible [] a h = absurd (omega arith)
joined-admissible (u ∷ []) a h = subst (λ t. IsTrue (is_admissible t)) (sym (append-nil u)) a.0
joined-admissible (u ∷ (v ∷ vs)) a h =
    let rest : IsTrue (is_admissible (joined (v ∷ vs))) = joined-admissible (v ∷ vs) a.1 (omega arith) in
    let p = both_true (begins_with_x u) (ends_with_y u) a.0 in
    let q = both_true (begins_with_x (joined (v ∷ vs))) (ends_with_y (joined (v ∷ vs))) rest in
    let ends : ends_with_y (u ++ joined (v ∷ vs)) ≡ true =
    ends-append u (joined (v ∷ vs)) (omega (arith, length-append v (joined vs), two_letters v a.1.0)) ∙ q.1 in
    let begins : begins_with_x (u ++ joined (v ∷ vs)) ≡ true = begins-append u (joined (v ∷ vs)) (omega (arith, two_letters u a.0)) ∙ p.0 in
    ap (λ t. t && ends_with_y (u ++ joined (v ∷ vs))) begins ∙ ends
