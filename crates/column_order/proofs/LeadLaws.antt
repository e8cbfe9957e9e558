-- The lead order is total and strict, and products keep it.
use Rattle.std.proofs.Common.{◌≡◌, ℕ, ◌+◌, ◌<◌, ◌⊎◌, inl, inr, true, false, cond, List, [], ◌∷◌, ◌++◌, length, refl, sym, ap, ◌∙◌, arith}
use Rattle.std.specs.List.{sum_by}
use Rattle.std.specs.FinMap.{IsAntisymmetric, slice_cmp-IsAntisymmetric}
use Rattle.std.specs.declared.cmp.Ordering.{Ordering}
use Rattle.std.specs.declared.cmp.Ordering.TheVariants.{Less, Equal, Greater}
use Rattle.std.specs.Ordering.{is_lt, nat_cmp, MatchOrdering, ordering_then, ordering_reverse}
use Rattle.std.specs.Cmp.{IsTotalOrder, on_total, nat_cmp_is, ranks, tied_itself}
use Rattle.std.specs.Cmp.Lexicographic.{slice_cmp}
use Rattle.std.proofs.lemmas.Cmp.{lists_total, nat_cmp_total, then_total, back_total}
use Rattle.std.proofs.lemmas.List.Sums.{sum_by-cons, sum_by-append}
use Rattle.zeta_model.specs.declared.Letter.{Letter}
use Rattle.zeta_model.specs.Words.{word_cmp, depth_of, is_y}
use Rattle.zeta_model.proofs.WordOrder.{word_cmp_total, word_cmp-IsAntisymmetric}
use Rattle.lyndon_words.specs.Lyndon.{Falls, joined}
use Rattle.lyndon_words.specs.Monomials.{put, product_of}
use Rattle.lyndon_words.proofs.Products.{length-put}
use Rattle.column_order.specs.LeadOrder.{rank_sum, lead_cmp, Leads}
use Rattle.column_order.proofs.PutOrder.{slice_cmp-put, product_of-comm}

pub lead_cmp_total : (f : List Letter → ℕ) → IsTotalOrder (lead_cmp f)
lead_cmp_total f =
    then_total (on_total length nat_cmp_total)
    (then_total (back_total (on_total (rank_sum f) nat_cmp_total))
    (then_total (back_total (on_total (λ p. depth_of (joined p)) nat_cmp_total))
    (back_total (lists_total word_cmp_total))))

then-Equal : (a b : Ordering) → ordering_then a b ≡ Equal → b ≡ Equal
then-Equal Less b e = cc
then-Equal Equal b e = e
then-Equal Greater b e = cc

pub lead_cmp-IsAntisymmetric : (f : List Letter → ℕ) → IsAntisymmetric (lead_cmp f)
lead_cmp-IsAntisymmetric f p q e =
    let depths : Ordering = nat_cmp (depth_of (joined q)) (depth_of (joined p)) in
    let sums : Ordering = nat_cmp (rank_sum f q) (rank_sum f p) in
    let last : Ordering = slice_cmp word_cmp q p in
    let tied : last ≡ Equal = then-Equal depths last
    (then-Equal sums (ordering_then depths last) (then-Equal (nat_cmp (length p) (length q)) (ordering_then sums (ordering_then depths last)) e)) in
    sym (slice_cmp-IsAntisymmetric word_cmp-IsAntisymmetric q p tied)

pub Leads-irreflexive : (f : List Letter → ℕ) (p : List (List Letter)) → ¬ (Leads f p p)
Leads-irreflexive f p e = let i : lead_cmp f p p ≡ Equal = tied_itself (lead_cmp_total f) p in let n : Equal ≡ Less = sym i ∙ e in cc

pub Leads-trans : (f : List Letter → ℕ) (p q r : List (List Letter)) → Leads f p q → Leads f q r → Leads f p r
Leads-trans f = let o : IsTotalOrder (lead_cmp f) = lead_cmp_total f in o.trans

pub Leads_cases : (f : List Letter → ℕ) (p q : List (List Letter)) → Leads f p q ⊎ ((p ≡ q) ⊎ Leads f q p)
Leads_cases f p q = go (lead_cmp f p q) refl
  where
    o : IsTotalOrder (lead_cmp f)
    o = lead_cmp_total f

    go : (r : Ordering) → lead_cmp f p q ≡ r → Leads f p q ⊎ ((p ≡ q) ⊎ Leads f q p)
    go Less e = inl e
    go Equal e = inr (inl (lead_cmp-IsAntisymmetric f p q e))
    go Greater e = inr (inr (o.antisymm q p ∙ ap ordering_reverse e))

sum_by-put : (f : List Letter → ℕ) (w : List Letter) (us : List (List Letter)) → sum_by f (put w us) ≡ f w + sum_by f us
sum_by-put f w [] = sum_by-cons f w []
sum_by-put f w (u ∷ us) = elim (is_lt (word_cmp u w)) as (λ b. sum_by f (cond b (w ∷ u ∷ us) (u ∷ put w us)) ≡ f w + sum_by f (u ∷ us)) [
  | true ↦ sum_by-cons f w (u ∷ us)
  | false ↦ omega (arith, sum_by-cons f u (put w us), sum_by-cons f u us, sum_by-put f w us)
]

depth_of-append : (u v : List Letter) → depth_of (u ++ v) ≡ depth_of u + depth_of v
depth_of-append u v = sum_by-append (λ a. cond (is_y a) 1 0) u v

depth_of-put : (w : List Letter) (us : List (List Letter)) → depth_of (joined (put w us)) ≡ depth_of w + depth_of (joined us)
depth_of-put w [] = depth_of-append w []
depth_of-put w (u ∷ us) = elim (is_lt (word_cmp u w))
    as (λ b. depth_of (joined (cond b (w ∷ u ∷ us) (u ∷ put w us))) ≡ depth_of w + depth_of (joined (u ∷ us))) [
      | true ↦ depth_of-append w (u ++ joined us)
      | false ↦ omega (arith, depth_of-append u (joined (put w us)), depth_of-append u (joined us), depth_of-put w us)
    ]

pub nat_cmp-add : (k a b : ℕ) → nat_cmp (k + a) (k + b) ≡ nat_cmp a b
nat_cmp-add k a b = sym (nat_cmp_is (k + a) (k + b) (nat_cmp a b) (go (nat_cmp a b) (ranks a b)))
  where
    go : (r : Ordering) → MatchOrdering r (a < b) (a ≡ b) (b < a) → MatchOrdering r (k + a < k + b) (k + a ≡ k + b) (k + b < k + a)
    go Less h = omega arith
    go Equal h = omega arith
    go Greater h = omega arith

lead_cmp-put : (f : List Letter → ℕ) (w : List Letter) (p q : List (List Letter)) → lead_cmp f (put w p) (put w q) ≡ lead_cmp f p q
lead_cmp-put f w p q =
    let long : (us : List (List Letter)) → length (put w us) ≡ 1 + length us = λ us. omega (arith, length-put w us) in
    let length_cmp : nat_cmp (length (put w p)) (length (put w q)) ≡ nat_cmp (length p) (length q) =
    (λ i. nat_cmp (long p i) (long q i)) ∙ nat_cmp-add 1 (length p) (length q) in
    let rank_cmp : nat_cmp (rank_sum f (put w q)) (rank_sum f (put w p)) ≡ nat_cmp (rank_sum f q) (rank_sum f p) =
    (λ i. nat_cmp (sum_by-put f w q i) (sum_by-put f w p i)) ∙ nat_cmp-add (f w) (rank_sum f q) (rank_sum f p) in
    let depth_cmp : nat_cmp (depth_of (joined (put w q))) (depth_of (joined (put w p))) ≡ nat_cmp (depth_of (joined q)) (depth_of (joined p)) =
    (λ i. nat_cmp (depth_of-put w q i) (depth_of-put w p i)) ∙ nat_cmp-add (depth_of w) (depth_of (joined q)) (depth_of (joined p)) in
    λ i. ordering_then (length_cmp i) (ordering_then (rank_cmp i) (ordering_then (depth_cmp i) (slice_cmp-put w q p i)))

lead_cmp-product_of : (f : List Letter → ℕ) (r p q : List (List Letter)) → lead_cmp f (product_of r p) (product_of r q) ≡ lead_cmp f p q
lead_cmp-product_of f [] p q = refl
lead_cmp-product_of f (w ∷ r) p q = lead_cmp-product_of f r (put w p) (put w q) ∙ lead_cmp-put f w p q

pub lead_cmp-product : (f : List Letter → ℕ) (p q r : List (List Letter)) → Falls p → Falls q → Falls r
    → lead_cmp f (product_of p r) (product_of q r) ≡ lead_cmp f p q
lead_cmp-product f p q r fp fq fr = (λ i. lead_cmp f (product_of-comm p r fp fr i) (product_of-comm q r fq fr i)) ∙ lead_cmp-product_of f r p q
