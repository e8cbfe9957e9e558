-- Running sums, step by step: powers, the place that gains, one number more, and the sums over no number.
use Rattle.std.proofs.Common.{◌≡◌, ℕ, zero, suc, ◌+◌, ◌*◌, ◌%◌, ◌/◌, ◌^◌, ◌<◌, ◌≢◌, List, [], ◌∷◌, ◌++◌, length, drop, get_or, set, refl, sym, ap, subst}
use Rattle.std.proofs.Common.{◌∙◌, inl, inr, arith, take, length-append, get_or-set_other, get_or-set_same}
use Rattle.std.specs.Prelude.{All}
use Rattle.std.proofs.Math.Nat.{mod-eq_of_lt, zero-mod, add_comm, pow-zero, pow-suc}
use Rattle.std.proofs.Math.Seq.{take-append_seam}
use Rattle.std.proofs.lemmas.List.{drop_more, drop_all, get_or_append_left, get_or_at}
use Rattle.std.proofs.lemmas.Bool.{cases_lt, cases_eq}
use Rattle.std.proofs.lemmas.Nat.{mul-mod_first, pow-add}
use Rattle.zeta_model.specs.Modular.{Same}
use Rattle.zeta_model.proofs.ModularLemmas.{same-add, same-add_left, same-mul, same-mul_right, same-mod}
use Rattle.truncated_sums.specs.TruncatedSums.{truncated_sum}
use Rattle.truncated_sums.specs.Running.{AreSums, Gains}
use Rattle.truncated_sums.proofs.Truncating.{truncated_sum-suc, truncated_sum-zero}

pub same-pow : (m a b k : ℕ) → Same m a b → Same m (a ^ k) (b ^ k)
same-pow m a b zero e = ap (λ x. x % m) (pow-zero a ∙ sym (pow-zero b))
same-pow m a b (suc k) e = ap (λ x. x % m) (pow-suc a k) ∙ same-mul m (a ^ k) (b ^ k) a b (same-pow m a b k e) e ∙ sym (ap (λ x. x % m) (pow-suc b k))

-- the square of half a power
pub power_even : (m a half k : ℕ) → k % 2 ≡ 0 → half ≡ a ^ (k / 2) % m → half * half % m ≡ a ^ k % m
power_even m a half k even e =
    let same : Same m half (a ^ (k / 2)) = ap (λ x. x % m) e ∙ same-mod m (a ^ (k / 2)) in
    let twice : k / 2 + k / 2 ≡ k = omega arith in
    same-mul m half (a ^ (k / 2)) half (a ^ (k / 2)) same same ∙ ap (λ x. x % m) (sym (pow-add a (k / 2) (k / 2)) ∙ ap (λ i. a ^ i) twice)

-- .. and once more the number
pub power_odd : (m a half square k : ℕ) → k % 2 ≢ 0 → half ≡ a ^ (k / 2) % m → square ≡ half * half % m → square * a % m ≡ a ^ k % m
power_odd m a half square k odd e is =
    let same : Same m half (a ^ (k / 2)) = ap (λ x. x % m) e ∙ same-mod m (a ^ (k / 2)) in
    let twice : suc (k / 2 + k / 2) ≡ k = omega arith in
    let product : Same m (half * half) (a ^ (k / 2 + k / 2)) =
    same-mul m half (a ^ (k / 2)) half (a ^ (k / 2)) same same ∙ ap (λ x. x % m) (sym (pow-add a (k / 2) (k / 2))) in
    ap (λ s. s * a % m) is ∙ mul-mod_first (half * half) a m ∙ same-mul_right m (half * half) (a ^ (k / 2 + k / 2)) a product
    ∙ ap (λ x. x % m) (sym (pow-suc a (k / 2 + k / 2)) ∙ ap (λ i. a ^ i) twice)

module _ {E : Type 0} (m : ℕ) (value : E → ℕ) where
  pub gains_none : (a : E) (index : List ℕ) (old : List E) → Gains {E = E} m value a index 0 old old
  gains_none a index old = record { each = λ j d h. absurd (omega arith); others = λ j d h. refl }

  -- the sum at the place j gains
  pub gains_next : (a e : E) (k : ℕ) (index : List ℕ) (j : ℕ) (old now : List E) → j < length now → k ≡ get_or index j 0
      → ((d : E) → value e ≡ (value (get_or now j d) + value a ^ k * value (get_or now (j + 1) d)) % m) → Gains {E = E} m value a index j old now
      → Gains {E = E} m value a index (j + 1) old (set now j e)
  gains_next a e k index j old now below is gained kept =
      let here : (d : E) → value (get_or (set now j e) j d) ≡ (value (get_or old j d) + value a ^ get_or index j 0 * value (get_or old (j + 1) d)) % m =
      λ d. ap value (get_or-set_same now j e d below) ∙ gained d
      ∙ (λ t. (value (kept.others j d (omega arith) t) + value a ^ is t * value (kept.others (j + 1) d (omega arith) t)) % m) in
      record {
        each = λ i d h.
            elim (cases_eq i j) [
              | inl same ↦ subst (λ i. value (get_or (set now j e) i d) ≡ (value (get_or old i d) + value a ^ get_or index i 0 * value (get_or old (i + 1) d)) % m) (sym same) (here d)
              | inr other ↦ ap value (get_or-set_other now j i e d other) ∙ kept.each i d (omega arith)
            ];
        others = λ i d h. let ne : i ≢ j = omega arith in get_or-set_other now j i e d ne ∙ kept.others i d (omega arith);
      }

  -- the sums over one number more
  pub sums_next : (inverse : ℕ → ℕ) (n : ℕ) (a : E) (index : List ℕ) (old new : List E) → value a ≡ inverse (n + 1) % m
      → Gains {E = E} m value a index (length index) old new → AreSums {E = E} m value inverse n index old → AreSums {E = E} m value inverse (n + 1) index new
  sums_next inverse n a index old new is gains kept = record {
    each = λ j d h.
        let one : n + 1 ≡ suc n = omega arith in
        elim (cases_lt j (length index)) [
          | inl below ↦
              let k : ℕ = get_or index j 0 in
              let ks : List ℕ = drop (j + 1) index in
              let cut : drop j index ≡ k ∷ ks = drop_more index j 0 below in
              let whole : Same m (value (get_or old j d)) (truncated_sum inverse n (k ∷ ks)) = ap (λ x. x % m) (kept.each j d h)
              ∙ same-mod m (truncated_sum inverse n (drop j index)) ∙ ap (λ l. truncated_sum inverse n l % m) cut in
              let behind : Same m (value (get_or old (j + 1) d)) (truncated_sum inverse n ks) = ap (λ x. x % m) (kept.each (j + 1) d (omega arith))
              ∙ same-mod m (truncated_sum inverse n ks) in
              let same : Same m (value a) (inverse (suc n)) = ap (λ x. x % m) is ∙ same-mod m (inverse (n + 1)) ∙ ap (λ i. inverse i % m) one in
              let power : Same m (value a ^ k) (inverse (suc n) ^ k) = same-pow m (value a) (inverse (suc n)) k same in
              let gained : Same m (value a ^ k * value (get_or old (j + 1) d)) (inverse (suc n) ^ k * truncated_sum inverse n ks) = same-mul m (value a ^ k) (inverse (suc n) ^ k) (value (get_or old (j + 1) d)) (truncated_sum inverse n ks) power behind in
              let turn : truncated_sum inverse n (k ∷ ks) + inverse (suc n) ^ k * truncated_sum inverse n ks ≡ inverse (suc n) ^ k * truncated_sum inverse n ks + truncated_sum inverse n (k ∷ ks) = add_comm (truncated_sum inverse n (k ∷ ks)) (inverse (suc n) ^ k * truncated_sum inverse n ks) in
              gains.each j d below
              ∙ same-add m (value (get_or old j d)) (truncated_sum inverse n (k ∷ ks)) (value a ^ k * value (get_or old (j + 1) d)) (inverse (suc n) ^ k * truncated_sum inverse n ks) whole gained
              ∙ ap (λ x. x % m) (turn ∙ sym (truncated_sum-suc inverse n k ks))
              ∙ (λ t. truncated_sum inverse (sym one t) (sym cut t) % m)
          | inr last ↦
              let none : drop j index ≡ [] = drop_all j index last in
              ap value (gains.others j d last) ∙ kept.each j d h ∙ ap (λ l. truncated_sum inverse n l % m) none
              ∙ sym (ap (λ l. truncated_sum inverse (n + 1) l % m) none)
        ];
  }

  -- the sums over no number
  pub sums_start : (inverse : ℕ → ℕ) (index : List ℕ) (zeros : List E) (none one : E) → 1 < m → value none ≡ 0 → value one ≡ 1 → length zeros ≡ length index
      → All (λ a. a ≡ none) zeros → AreSums {E = E} m value inverse 0 index (zeros ++ one ∷ [])
  sums_start inverse index zeros none one large value_none value_one lengths all = record {
    each = λ j d h.
        elim (cases_lt j (length index)) [
          | inl below ↦
              let cut : drop j index ≡ get_or index j 0 ∷ drop (j + 1) index = drop_more index j 0 below in
              ap value (get_or_append_left zeros (one ∷ []) d j (omega arith) ∙ all j d (omega arith)) ∙ value_none ∙ sym (zero-mod m)
              ∙ sym (ap (λ l. truncated_sum inverse 0 l % m) cut ∙ ap (λ x. x % m) (truncated_sum-zero inverse (get_or index j 0) (drop (j + 1) index)))
          | inr last ↦
              let here : length zeros ≡ j = omega arith in
              ap value (get_or_at zeros one [] d j here) ∙ value_one ∙ sym (ap (λ l. truncated_sum inverse 0 l % m) (drop_all j index last)
              ∙ mod-eq_of_lt large)
        ];
  }

-- what is written back to a vector
pub written : {E : Type 0} (n : ℕ) (xs ys : List E) → length xs ≡ length ys → n ≡ length ys → take n (xs ++ drop (length xs) ys) ≡ xs
written n xs ys e f = let g : n ≡ length xs = omega arith in ap (λ k. take k (xs ++ drop (length xs) ys)) g ∙ take-append_seam xs (drop (length xs) ys)

-- a list with one element more
pub all_push : {E : Type 0} (P : E → Type 0) (xs : List E) (y : E) → All P xs → P y → All P (xs ++ y ∷ [])
all_push P xs y all here k d h =
    elim (cases_lt k (length xs)) [
      | inl below ↦ subst P (sym (get_or_append_left xs (y ∷ []) d k below)) (all k d below)
      | inr last ↦ let at : length xs ≡ k = omega (arith, length-append xs (y ∷ [])) in subst P (sym (get_or_at xs y [] d k at)) here
    ]

-- a sum with a product, of which one factor and the product are rests
pub rest_step : (m x y p power product sum : ℕ) → sum ≡ (x + product) % m → product ≡ p * y % m → p ≡ power % m → sum ≡ (x + power * y) % m
rest_step m x y p power product sum e f g =
    e ∙ same-add_left m product (power * y) x (ap (λ t. t % m) f ∙ same-mod m (p * y) ∙ same-mul_right m p power y (ap (λ t. t % m) g ∙ same-mod m power))
