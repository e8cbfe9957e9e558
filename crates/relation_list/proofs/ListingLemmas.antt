-- The names of depth at most d are those that the code makes, part by part.
use Rattle.std.proofs.Common.{◌≡◌, ℕ, ◌+◌, ◌-◌, ◌≤◌, ◌<◌, max, nat_le, Bool, true, false, ◌&&◌, List, [], ◌++◌, map, filter, All, refl, sym, ap, ◌∙◌, arith}
use Rattle.std.specs.List.{flat_map, range_with_len}
use Rattle.std.proofs.lemmas.List.Elements.{All-weaker, filter-append, filter_passes}
use Rattle.std.proofs.lemmas.Bool.Decides.{nat_tests}
use Rattle.zeta_model.specs.declared.Letter.{Letter}
use Rattle.zeta_model.specs.Words.{depth_of, is_admissible}
use Rattle.zeta_model.specs.WordLists.{all_words, admissible_words, admissible_within}
use Rattle.zeta_model.specs.Duality.{dual_of}
use Rattle.zeta_model.proofs.DepthLemmas.{admissible-deep}
use Rattle.relation_list.specs.declared.names.Direct.{Direct}
use Rattle.relation_list.specs.declared.names.Direct.TheVariants.{Fin, Reg, Dual}
use Rattle.relation_list.specs.declared.names.RelName.TheVariants.{Plain, Prod}
use Rattle.relation_list.specs.Names.{in_order, below_dual, direct_depth_of}
use Rattle.relation_list.specs.Listings.{fins_by, fins_from, fins, regs_from, regs, duals, directs, prods_by, prods_from, prods, listing_of}
use Rattle.relation_list.specs.Inner.{direct_within, name_within}
use Rattle.relation_list.proofs.FilterLemmas.{filter-map, filter-filter, filter_same, filter_none, filter-flat_map, flat_map_kept}

abbrev Word : Type 0
Word = List Letter

-- words of depth at most d, where e more letters y are counted
within-left : (k e d : ℕ) → filter (λ w. nat_le (e + depth_of w) d) (admissible_words k) ≡ admissible_within k (d - e)
unfolding admissible_within
within-left k e d =
    filter_same (λ w. nat_le (e + depth_of w) d) (λ w. nat_le (depth_of w) (d - e)) (admissible_words k)
    (All-weaker (λ w. is_admissible w ≡ true) (λ w. nat_le (e + depth_of w) d ≡ nat_le (depth_of w) (d - e)) (λ w h. less (depth_of w) (admissible-deep w h))
    (admissible_words k) (filter_passes is_admissible (all_words k)))
  where
    less : (n : ℕ) → 0 < n → nat_le (e + n) d ≡ nat_le n (d - e)
    less n h = grind (arith, nat_tests)

within-none : (k : ℕ) → admissible_within k 0 ≡ []
unfolding admissible_within
within-none k =
    filter_none (λ w. nat_le (depth_of w) 0) (admissible_words k)
    (All-weaker (λ w. is_admissible w ≡ true) (λ w. nat_le (depth_of w) 0 ≡ false) (λ w h. above (depth_of w) (admissible-deep w h))
    (admissible_words k) (filter_passes is_admissible (all_words k)))
  where
    above : (n : ℕ) → 0 < n → nat_le n 0 ≡ false
    above n h = grind (arith, nat_tests)

-- where e is over d, nothing is left
nothing_left : (k e d : ℕ) → nat_le e d ≡ false → admissible_within k (d - e) ≡ []
nothing_left k e d h = let z : d - e ≡ 0 = over e d h in ap (admissible_within k) z ∙ within-none k
  where
    over : (e d : ℕ) → nat_le e d ≡ false → d - e ≡ 0
    over e d h = grind (arith, nat_tests)

both_comm : (a b : Bool) → (a && b) ≡ (b && a)
both_comm true true = refl
both_comm true false = refl
both_comm false true = refl
both_comm false false = refl

filter_swap : {A : Type 0} (p q : A → Bool) (xs : List A) → filter p (filter q xs) ≡ filter q (filter p xs)
filter_swap p q xs = filter-filter p q xs ∙ (λ i. filter (λ x. both_comm (q x) (p x) i) xs) ∙ sym (filter-filter q p xs)

-- the Fin of u with words of k letters, at most d deep
pub filter-fins_by : (k d : ℕ) (u : Word)
    → filter (direct_within d) (fins_by k u) ≡ map (λ v. Fin u v) (filter (in_order u) (admissible_within k (d - depth_of u)))
filter-fins_by k d u =
    filter-map (direct_within d) (λ v. Fin u v) (filter (in_order u) (admissible_words k))
    ∙ ap (map (λ v. Fin u v)) (filter_swap (λ v. nat_le (depth_of u + depth_of v) d) (in_order u) (admissible_words k)
    ∙ ap (filter (in_order u)) (within-left k (depth_of u) d))

pub filter-fins_from : (w d k : ℕ)
    → filter (direct_within d) (fins_from w k) ≡ flat_map (λ u. filter (direct_within d) (fins_by (w - k) u)) (admissible_within k d)
unfolding admissible_within
filter-fins_from w d k =
    filter-flat_map (direct_within d) (fins_by (w - k)) (admissible_words k)
    ∙ flat_map_kept (λ u. nat_le (depth_of u) d) (λ u. filter (direct_within d) (fins_by (w - k) u)) none (admissible_words k)
  where
    none : (u : Word) → nat_le (depth_of u) d ≡ false → filter (direct_within d) (fins_by (w - k) u) ≡ []
    none u h = filter-fins_by (w - k) d u ∙ ap (λ ws. map (λ v. Fin u v) (filter (in_order u) ws)) (nothing_left (w - k) (depth_of u) d h)

pub filter-fins : (w d : ℕ) → filter (direct_within d) (fins w) ≡ flat_map (λ k. filter (direct_within d) (fins_from w k)) (range_with_len 1 (w - 1))
unfolding fins
filter-fins w d = filter-flat_map (direct_within d) (fins_from w) (range_with_len 1 (w - 1))

pub filter-regs_from : (w d m : ℕ) → filter (direct_within d) (regs_from w m) ≡ map (λ v. Reg m v) (admissible_within (w - m) (d - m))
filter-regs_from w d m =
    filter-map (direct_within d) (λ v. Reg m v) (admissible_words (w - m))
    ∙ ap (map (λ v. Reg m v)) (within-left (w - m) m d)

pub filter-regs : (w d : ℕ) → filter (direct_within d) (regs w) ≡ flat_map (λ m. filter (direct_within d) (regs_from w m)) (range_with_len 1 (w - 1))
unfolding regs
filter-regs w d = filter-flat_map (direct_within d) (regs_from w) (range_with_len 1 (w - 1))

-- u is less than its dual, whose depth is at most d
abbrev pub is_dual_within : ℕ → Word → Bool
is_dual_within d u = below_dual u && nat_le (depth_of (dual_of u)) d

pub filter-duals : (w d : ℕ) → filter (direct_within d) (duals w) ≡ map (λ u. Dual u) (filter (is_dual_within d) (admissible_within w d))
unfolding duals admissible_within
filter-duals w d =
    filter-map (direct_within d) (λ u. Dual u) (filter below_dual (admissible_words w))
    ∙ ap (map (λ u. Dual u))
    (filter-filter (λ u. direct_within d (Dual u)) below_dual (admissible_words w)
    ∙ (λ i. filter (λ u. tests (below_dual u) (depth_of u) (depth_of (dual_of u)) i) (admissible_words w))
    ∙ sym (filter-filter (is_dual_within d) (λ u. nat_le (depth_of u) d) (admissible_words w)))
  where
    tests : (b : Bool) (k l : ℕ) → (b && nat_le (max k l) d) ≡ (nat_le k d && (b && nat_le l d))
    tests true k l = grind (arith, nat_tests)
    tests false k l = grind (arith, nat_tests)

pub filter-directs : (w d : ℕ) → filter (direct_within d) (directs w) ≡ filter (direct_within d) (fins w) ++
    (filter (direct_within d) (regs w) ++ filter (direct_within d) (duals w))
filter-directs w d = filter-append (direct_within d) (fins w) (regs w ++ duals w)
    ∙ ap (λ rs. filter (direct_within d) (fins w) ++ rs) (filter-append (direct_within d) (regs w) (duals w))

pub filter-prods_by : (k d : ℕ) (r : Direct) → filter (name_within d) (prods_by k r) ≡ map (λ u. Prod r u) (admissible_within k (d - direct_depth_of r))
filter-prods_by k d r =
    filter-map (name_within d) (λ u. Prod r u) (admissible_words k)
    ∙ ap (map (λ u. Prod r u)) (within-left k (direct_depth_of r) d)

pub filter-prods_from : (w d k : ℕ)
    → filter (name_within d) (prods_from w k) ≡ flat_map (λ r. filter (name_within d) (prods_by (w - k) r)) (filter (direct_within d) (directs k))
filter-prods_from w d k =
    filter-flat_map (name_within d) (prods_by (w - k)) (directs k)
    ∙ flat_map_kept (direct_within d) (λ r. filter (name_within d) (prods_by (w - k) r)) none (directs k)
  where
    none : (r : Direct) → direct_within d r ≡ false → filter (name_within d) (prods_by (w - k) r) ≡ []
    none r h = filter-prods_by (w - k) d r ∙ ap (map (λ u. Prod r u)) (nothing_left (w - k) (direct_depth_of r) d h)

pub listing_of-parts : (w d : ℕ)
    → listing_of w d ≡ map (λ r. Plain r) (filter (direct_within d) (directs w)) ++ flat_map (λ k. filter (name_within d) (prods_from w k))
    (range_with_len 3 (w - 4))
unfolding listing_of prods
listing_of-parts w d =
    filter-append (name_within d) (map (λ r. Plain r) (directs w)) (prods w)
    ∙ (λ i. filter-map (name_within d) (λ r. Plain r) (directs w) i ++ filter-flat_map (name_within d) (prods_from w) (range_with_len 3 (w - 4)) i)

-- each direct name that the code makes is of depth at most d
pub directs-fit : (w d : ℕ) → All (λ r. direct_depth_of r ≤ d) (filter (direct_within d) (directs w))
directs-fit w d =
    All-weaker (λ r. direct_within d r ≡ true) (λ r. direct_depth_of r ≤ d) (λ r h. below (direct_depth_of r) h) (filter (direct_within d) (directs w))
    (filter_passes (direct_within d) (directs w))
  where
    below : (k : ℕ) → nat_le k d ≡ true → k ≤ d
    below k h = grind (arith, nat_tests)
