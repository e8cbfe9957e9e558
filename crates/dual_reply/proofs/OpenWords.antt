-- The words of accepted lines.
use Rattle.std.proofs.Common.{◌≡◌, ℕ, zero, suc, ◌<◌, ◌≤◌, true, List, [], ◌∷◌, ◌++◌, length, map, refl, sym, ap, ◌∙◌, subst, arith, ◌&&◌}
use Rattle.std.specs.List.{AllByRecursion}
use Rattle.zeta_model.specs.declared.Letter.{Letter}
use Rattle.zeta_model.specs.Words.{is_admissible, begins_with_x, ends_with_y, has_index}
use Rattle.zeta_model.specs.Indices.{z_word, word_of_index}
use Rattle.word_letters.proofs.IndexLemmas.{length-word_of_index, word_of_index-cons}
use Rattle.line_tokens.specs.Tokens.{value_of}
use Rattle.dual_reply.specs.Grammar.{WrittenZeta, IsZeta, Term, term_of, IsAccepted, IsAcceptedIndex}
use Rattle.dual_reply.specs.Sums.{signed_of}
use Rattle.dual_reply.proofs.IndexNumbers.{positives}

ends_with_z : (k : ℕ) (w : List Letter) → 0 < k → has_index w ≡ true → ends_with_y (z_word k ++ w) ≡ true
ends_with_z zero w p h = absurd (omega arith)
ends_with_z (suc zero) [] p h = refl
ends_with_z (suc zero) (a ∷ w) p h = h
ends_with_z (suc (suc zero)) [] p h = refl
ends_with_z (suc (suc zero)) (a ∷ w) p h = h
ends_with_z (suc (suc (suc k))) w p h = ends_with_z (suc (suc k)) w (omega arith) h

has_index_z : (k : ℕ) (w : List Letter) → 0 < k → has_index w ≡ true → has_index (z_word k ++ w) ≡ true
has_index_z zero w p h = absurd (omega arith)
has_index_z (suc zero) w p h = ends_with_z (suc zero) w p h
has_index_z (suc (suc k)) w p h = ends_with_z (suc (suc k)) w p h

has_index-word_of_index : (ks : List ℕ) → AllByRecursion (λ k. 0 < k) ks → has_index (word_of_index ks) ≡ true
has_index-word_of_index [] h = refl
has_index-word_of_index (k ∷ ks) h = ap has_index (word_of_index-cons k ks) ∙ has_index_z k (word_of_index ks) h.0 (has_index-word_of_index ks h.1)

begins_z : (k : ℕ) (w : List Letter) → 1 < k → begins_with_x (z_word k ++ w) ≡ true
begins_z zero w h = absurd (omega arith)
begins_z (suc zero) w h = absurd (omega arith)
begins_z (suc (suc k)) w h = refl

-- the word of an accepted index
pub record IsOpen (w : List Letter) : Type 0 where
  pub admissible : is_admissible w ≡ true
  pub light : length w ≤ 24

accepted_is_open : (k : ℕ) (ks : List ℕ) → AllByRecursion (λ k. 0 < k) (k ∷ ks) → IsAcceptedIndex (k ∷ ks) → IsOpen (word_of_index (k ∷ ks))
accepted_is_open k ks p a =
    let e = word_of_index-cons k ks in
    let b : begins_with_x (word_of_index (k ∷ ks)) ≡ true = ap begins_with_x e ∙ begins_z k (word_of_index ks) a.0 in
    let d : ends_with_y (word_of_index (k ∷ ks)) ≡ true = ap ends_with_y e ∙ ends_with_z k (word_of_index ks) p.0 (has_index-word_of_index ks p.1) in
    record { admissible = (λ i. b i && d i); light = omega (arith, length-word_of_index (k ∷ ks), a.1) }

abbrev pub AreOpen : List Term → Type 0
AreOpen ts = AllByRecursion (λ s. IsOpen s.word) (map signed_of ts)

abbrev AreAccepted : List Term → Type 0
AreAccepted ts = AllByRecursion (λ t. IsAcceptedIndex t.index) ts

accepted_are_open : (zs : List WrittenZeta) → AllByRecursion IsZeta zs → AreAccepted (map term_of zs) → AreOpen (map term_of zs)
accepted_are_open [] h a = tt
accepted_are_open (z ∷ zs) h a =
    let p = positives (z.first ∷ z.more) h.0 in
    (accepted_is_open (value_of z.first) (map value_of z.more) p a.0, accepted_are_open zs h.1 a.1)

pub terms_are_open : (terms : List Term) (line : List ℕ) → IsAccepted terms line → AreOpen terms
terms_are_open terms line a =
    let r = a.1 in
    subst AreOpen (sym r.4) (accepted_are_open (r.1 ∷ r.2) r.3.formed (subst AreAccepted r.4 a.2))
