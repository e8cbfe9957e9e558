-- What is known of the parts of a name; and no name is deeper than its weight.
use Rattle.std.proofs.Common.{◌≡◌, ℕ, ◌≤◌, ◌<◌, nat_lt, nat_le, Bool, true, false, ◌&&◌, List, length, map, refl, sym, ap, ◌∙◌, arith}
use Rattle.std.proofs.lemmas.List.{length-reverse, length-map}
use Rattle.std.proofs.lemmas.List.Sums.{count_by-le-length}
use Rattle.std.proofs.lemmas.Bool.Decides.{nat_tests}
use Rattle.zeta_model.specs.declared.Letter.{Letter}
use Rattle.zeta_model.specs.Words.{is_y, depth_of, is_admissible}
use Rattle.zeta_model.specs.Duality.{other_letter, dual_of}
use Rattle.relation_list.specs.declared.names.Direct.{Direct}
use Rattle.relation_list.specs.declared.names.Direct.TheVariants.{Fin, Reg, Dual}
use Rattle.relation_list.specs.declared.names.RelName.{RelName}
use Rattle.relation_list.specs.declared.names.RelName.TheVariants.{Plain, Prod}
use Rattle.relation_list.specs.Names.{in_order, below_dual, direct_weight_of, weight_of_name, direct_depth_of, depth_of_name, is_direct, is_formed, is_name_of}

pub depth_of-le : (w : List Letter) → depth_of w ≤ length w
depth_of-le w = count_by-le-length is_y w

length-dual_of : (w : List Letter) → length (dual_of w) ≡ length w
length-dual_of w = length-reverse (map other_letter w) ∙ length-map w other_letter

pub direct_depth_of-le : (r : Direct) → direct_depth_of r ≤ direct_weight_of r
direct_depth_of-le (Fin u v) = omega (arith, depth_of-le u, depth_of-le v)
direct_depth_of-le (Reg m v) = omega (arith, depth_of-le v)
direct_depth_of-le (Dual u) = omega (arith, depth_of-le u, depth_of-le (dual_of u), length-dual_of u)

pub depth_of_name-le : (n : RelName) → depth_of_name n ≤ weight_of_name n
depth_of_name-le (Plain r) = direct_depth_of-le r
depth_of_name-le (Prod r u) = omega (arith, direct_depth_of-le r, depth_of-le u)

both_first : (a b : Bool) → (a && b) ≡ true → a ≡ true
both_first true b h = refl
both_first false b h = h

both_second : (a b : Bool) → (a && b) ≡ true → b ≡ true
both_second true b h = h
both_second false b h = cc

within : (k : ℕ) → nat_le k 24 ≡ true → k ≤ 24
within k h = grind (arith, nat_tests)

pub weight_of_name-le : (n : RelName) → is_name_of n ≡ true → weight_of_name n ≤ 24
weight_of_name-le n h = within (weight_of_name n) (both_second (is_formed n) (nat_le (weight_of_name n) 24) h)

pub depth_of_name-most : (n : RelName) → is_name_of n ≡ true → depth_of_name n ≤ 24
depth_of_name-most n h = omega (arith, depth_of_name-le n, weight_of_name-le n h)

pub fin-admissible : (r : Direct) (u v : List Letter) → is_direct r ≡ true → r ≡ Fin u v
    → (is_admissible u ≡ true) × (is_admissible v ≡ true) × (in_order u v ≡ true)
fin-admissible r u v h e =
    let f : is_direct (Fin u v) ≡ true = ap is_direct (sym e) ∙ h in
    let g : (is_admissible v && in_order u v) ≡ true = both_second (is_admissible u) (is_admissible v && in_order u v) f in (
      both_first (is_admissible u) (is_admissible v && in_order u v) f,
      both_first (is_admissible v) (in_order u v) g,
      both_second (is_admissible v)
          (in_order u v) g,
    )

pub prod-parts : (n : RelName) (r : Direct) (u : List Letter) → is_name_of n ≡ true → n ≡ Prod r u
    → (is_direct r ≡ true) × (3 ≤ direct_weight_of r) × (is_admissible u ≡ true)
prod-parts n r u h e =
    let f : is_formed (Prod r u) ≡ true = both_first (is_formed (Prod r u)) (nat_le (weight_of_name (Prod r u)) 24) (ap is_name_of (sym e) ∙ h) in
    let g : (nat_le 3 (direct_weight_of r) && is_admissible u) ≡ true = both_second (is_direct r) (nat_le 3 (direct_weight_of r) && is_admissible u) f in (
      both_first (is_direct r) (nat_le 3 (direct_weight_of r) && is_admissible u) f,
      high (direct_weight_of r)
          (both_first (nat_le 3 (direct_weight_of r)) (is_admissible u) g),
      both_second (nat_le 3 (direct_weight_of r)) (is_admissible u) g,
    )
  where
    high : (k : ℕ) → nat_le 3 k ≡ true → 3 ≤ k
    high k h = grind (arith, nat_tests)

pub reg-parts : (r : Direct) (m : ℕ) (v : List Letter) → is_direct r ≡ true → r ≡ Reg m v → (0 < m) × (is_admissible v ≡ true)
reg-parts r m v h e =
    let f : is_direct (Reg m v) ≡ true = ap is_direct (sym e) ∙ h in
    (above m (both_first (nat_lt 0 m) (is_admissible v) f), both_second (nat_lt 0 m) (is_admissible v) f)
  where
    above : (m : ℕ) → nat_lt 0 m ≡ true → 0 < m
    above m h = grind (arith, nat_tests)

pub dual-parts : (r : Direct) (u : List Letter) → is_direct r ≡ true → r ≡ Dual u → (is_admissible u ≡ true) × (below_dual u ≡ true)
dual-parts r u h e =
    let f : is_direct (Dual u) ≡ true = ap is_direct (sym e) ∙ h in
    (both_first (is_admissible u) (below_dual u) f, both_second (is_admissible u) (below_dual u) f)

pub plain-direct : (n : RelName) (r : Direct) → is_name_of n ≡ true → n ≡ Plain r → is_direct r ≡ true
plain-direct n r h e = both_first (is_direct r) (nat_le (direct_weight_of r) 24) (ap is_name_of (sym e) ∙ h)
