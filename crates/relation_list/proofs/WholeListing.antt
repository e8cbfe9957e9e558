-- The listing holds the names of its weight and depth, and no others.
use Rattle.std.proofs.Common.{◌≡◌, ℕ, ◌+◌, ◌-◌, ◌<◌, ◌≤◌, nat_lt, nat_le, inl, inr, Bool, true, false, ◌&&◌, ◌↔◌, List, [], ◌∷◌, ◌++◌, length, map, filter, Contains, refl, subst, arith}
use Rattle.std.specs.List.{range_with_len}
use Rattle.std.proofs.lemmas.List.Elements.{All-contains, Contains-append_left, Contains-append_right, Contains-append_cases}
use Rattle.std.proofs.lemmas.Bool.Decides.{nat_tests}
use Rattle.zeta_model.specs.declared.Letter.{Letter}
use Rattle.zeta_model.specs.declared.Letter.TheVariants.{X, Y}
use Rattle.zeta_model.specs.Words.{is_admissible}
use Rattle.relation_list.specs.declared.names.Direct.{Direct}
use Rattle.relation_list.specs.declared.names.Direct.TheVariants.{Fin, Reg, Dual}
use Rattle.relation_list.specs.declared.names.RelName.{RelName}
use Rattle.relation_list.specs.declared.names.RelName.TheVariants.{Plain, Prod}
use Rattle.zeta_model.specs.WordLists.{all_words, admissible_words}
use Rattle.relation_list.specs.Names.{in_order, below_dual, direct_weight_of, weight_of_name, depth_of_name, is_direct, is_formed, is_name_of}
use Rattle.relation_list.specs.Listings.{fins_by, fins_from, fins, regs_from, regs, duals, directs, prods_by, prods_from, prods, names, listing_of}
use Rattle.relation_list.proofs.Members.{From, Within, contains_first, contains-map, from-map, contains-flat_map, within-flat_map, contains-filter, from-filter, contains-range, within-range}
use Rattle.word_letters.proofs.AdmissibleWords.{length-all_words}

abbrev Word : Type 0
Word = List Letter

pub contains-all_words : (w : Word) → Contains (all_words (length w)) w
unfolding all_words
contains-all_words [] = contains_first [] []
contains-all_words (X ∷ w) = Contains-append_left (map (λ t. X ∷ t) (all_words (length w))) (map (λ t. Y ∷ t) (all_words (length w))) (X ∷ w)
    (contains-map (λ t. X ∷ t) (all_words (length w)) w (contains-all_words w))
contains-all_words (Y ∷ w) = Contains-append_right (map (λ t. X ∷ t) (all_words (length w))) (map (λ t. Y ∷ t) (all_words (length w))) (Y ∷ w)
    (contains-map (λ t. Y ∷ t) (all_words (length w)) w (contains-all_words w))

-- w is an admissible word of k letters
pub record Admits (k : ℕ) (w : Word) : Type 0 where
  pub admissible : is_admissible w ≡ true
  pub long : length w ≡ k

admits : (k : ℕ) (w : Word) → Contains (admissible_words k) w → Admits k w
admits k w c =
    let r : Contains (all_words k) w × (is_admissible w ≡ true) = from-filter is_admissible (all_words k) w c in
    record { admissible = r.1; long = All-contains (λ w. length w ≡ k) (all_words k) w (length-all_words k) r.0 }

admitted : (k : ℕ) (w : Word) → is_admissible w ≡ true → length w ≡ k → Contains (admissible_words k) w
admitted k w a e = contains-filter is_admissible (all_words k) w (subst (λ n. Contains (all_words n) w) e (contains-all_words w)) a

-- an admissible word has two letters at least
admissible-long : (w : Word) → is_admissible w ≡ true → 2 ≤ length w
admissible-long [] h = cc
admissible-long (X ∷ []) h = cc
admissible-long (Y ∷ w) h = cc
admissible-long (X ∷ a ∷ w) h = omega arith

both : (a b : Bool) → a ≡ true → b ≡ true → (a && b) ≡ true
both true true h g = refl
both true false h g = g
both false b h g = h

first : (a b : Bool) → (a && b) ≡ true → a ≡ true
first true b h = refl
first false b h = h

second : (a b : Bool) → (a && b) ≡ true → b ≡ true
second true b h = h
second false b h = cc

-- a direct name of weight w
pub record Formed (w : ℕ) (r : Direct) : Type 0 where
  pub direct : is_direct r ≡ true
  pub heavy : direct_weight_of r ≡ w

above_none : (m : ℕ) → nat_lt 0 m ≡ true → 0 < m
above_none m h = grind (arith, nat_tests)

none_below : (m : ℕ) → 0 < m → nat_lt 0 m ≡ true
none_below m h = grind (arith, nat_tests)

at_most : (k n : ℕ) → nat_le k n ≡ true → k ≤ n
at_most k n h = grind (arith, nat_tests)

is_at_most : (k n : ℕ) → k ≤ n → nat_le k n ≡ true
is_at_most k n h = grind (arith, nat_tests)

-- r is Fin of u with a word of n letters
pub record IsFinOf (n : ℕ) (u : Word) (r : Direct) : Type 0 where
  pub other : Word
  pub is : Fin u other ≡ r
  pub ordered : in_order u other ≡ true
  pub admits_other : Admits n other

pub fin_of : (n : ℕ) (u : Word) (r : Direct) → Contains (fins_by n u) r → IsFinOf n u r
fin_of n u r c =
    let f : From (λ v. Fin u v) (filter (in_order u) (admissible_words n)) r = from-map (λ v. Fin u v) (filter (in_order u) (admissible_words n)) r c in
    let g : Contains (admissible_words n) f.origin × (in_order u f.origin ≡ true) = from-filter (in_order u) (admissible_words n) f.origin f.held in
    record { other = f.origin; is = f.gives; ordered = g.1; admits_other = admits n f.origin g.0 }

-- r is Fin of a word of k letters with one of w - k letters
pub record IsFinAt (w k : ℕ) (r : Direct) : Type 0 where
  pub word : Word
  pub admits_word : Admits k word
  pub fin : IsFinOf (w - k) word r

pub fin_at : (w k : ℕ) (r : Direct) → Contains (fins_from w k) r → IsFinAt w k r
fin_at w k r c =
    let f : Within (fins_by (w - k)) (admissible_words k) r = within-flat_map (fins_by (w - k)) (admissible_words k) r c in
    record { word = f.origin; admits_word = admits k f.origin f.held; fin = fin_of (w - k) f.origin r f.gives }

formed-fin : (w : ℕ) (r : Direct) → Contains (fins w) r → Formed w r
unfolding fins
formed-fin w r c =
    let f : Within (fins_from w) (range_with_len 1 (w - 1)) r = within-flat_map (fins_from w) (range_with_len 1 (w - 1)) r c in
    let k : (1 ≤ f.origin) × (f.origin < 1 + (w - 1)) = within-range 1 (w - 1) f.origin f.held in
    let a : IsFinAt w f.origin r = fin_at w f.origin r f.gives in
    subst (Formed w) a.fin.is (record {
      direct = both (is_admissible a.word) (is_admissible a.fin.other && in_order a.word a.fin.other) a.admits_word.admissible
          (both (is_admissible a.fin.other) (in_order a.word a.fin.other) a.fin.admits_other.admissible a.fin.ordered);
      heavy = omega (arith, k.0, k.1, a.admits_word.long, a.fin.admits_other.long);
    })

held-fin : (w : ℕ) (u v : Word) → is_direct (Fin u v) ≡ true → length u + length v ≡ w → Contains (fins w) (Fin u v)
unfolding fins
held-fin w u v h e =
    let au : is_admissible u ≡ true = first (is_admissible u) (is_admissible v && in_order u v) h in
    let rest : (is_admissible v && in_order u v) ≡ true = second (is_admissible u) (is_admissible v && in_order u v) h in
    let av : is_admissible v ≡ true = first (is_admissible v) (in_order u v) rest in
    let o : in_order u v ≡ true = second (is_admissible v) (in_order u v) rest in
    let long : length v ≡ w - length u = omega arith in
    contains-flat_map (fins_from w) (range_with_len 1 (w - 1)) (length u) (Fin u v)
    (contains-range 1 (w - 1) (length u) (omega (arith, admissible-long u au)) (omega (arith, admissible-long u au, admissible-long v av)))
    (contains-flat_map (fins_by (w - length u)) (admissible_words (length u)) u (Fin u v) (admitted (length u) u au refl)
    (contains-map (λ t. Fin u t) (filter (in_order u) (admissible_words (w - length u))) v
    (contains-filter (in_order u) (admissible_words (w - length u)) v (admitted (w - length u) v av long) o)))

-- r is Reg of m with a word of w - m letters
pub record IsRegAt (w m : ℕ) (r : Direct) : Type 0 where
  pub word : Word
  pub is : Reg m word ≡ r
  pub admits_word : Admits (w - m) word

pub reg_at : (w m : ℕ) (r : Direct) → Contains (regs_from w m) r → IsRegAt w m r
reg_at w m r c =
    let f : From (λ v. Reg m v) (admissible_words (w - m)) r = from-map (λ v. Reg m v) (admissible_words (w - m)) r c in
    record { word = f.origin; is = f.gives; admits_word = admits (w - m) f.origin f.held }

formed-reg : (w : ℕ) (r : Direct) → Contains (regs w) r → Formed w r
unfolding regs
formed-reg w r c =
    let f : Within (regs_from w) (range_with_len 1 (w - 1)) r = within-flat_map (regs_from w) (range_with_len 1 (w - 1)) r c in
    let k : (1 ≤ f.origin) × (f.origin < 1 + (w - 1)) = within-range 1 (w - 1) f.origin f.held in
    let a : IsRegAt w f.origin r = reg_at w f.origin r f.gives in
    subst (Formed w) a.is (record {
      direct = both (nat_lt 0 f.origin) (is_admissible a.word) (none_below f.origin (omega (arith, k.0))) a.admits_word.admissible;
      heavy = omega (arith, k.0, k.1, a.admits_word.long);
    })

held-reg : (w m : ℕ) (v : Word) → is_direct (Reg m v) ≡ true → m + length v ≡ w → Contains (regs w) (Reg m v)
unfolding regs
held-reg w m v h e =
    let some : 0 < m = above_none m (first (nat_lt 0 m) (is_admissible v) h) in
    let av : is_admissible v ≡ true = second (nat_lt 0 m) (is_admissible v) h in
    contains-flat_map (regs_from w) (range_with_len 1 (w - 1)) m (Reg m v)
    (contains-range 1 (w - 1) m (omega arith) (omega (arith, admissible-long v av)))
    (contains-map (λ t. Reg m t) (admissible_words (w - m)) v (admitted (w - m) v av (omega arith)))

formed-dual : (w : ℕ) (r : Direct) → Contains (duals w) r → Formed w r
unfolding duals
formed-dual w r c =
    let f : From (λ u. Dual u) (filter below_dual (admissible_words w)) r = from-map (λ u. Dual u) (filter below_dual (admissible_words w)) r c in
    let g : Contains (admissible_words w) f.origin × (below_dual f.origin ≡ true) = from-filter below_dual (admissible_words w) f.origin f.held in
    let a : Admits w f.origin = admits w f.origin g.0 in
    subst (Formed w) f.gives (record { direct = both (is_admissible f.origin) (below_dual f.origin) a.admissible g.1; heavy = a.long })

held-dual : (w : ℕ) (u : Word) → is_direct (Dual u) ≡ true → length u ≡ w → Contains (duals w) (Dual u)
unfolding duals
held-dual w u h e =
    contains-map (λ t. Dual t) (filter below_dual (admissible_words w)) u
    (contains-filter below_dual (admissible_words w) u (admitted w u (first (is_admissible u) (below_dual u) h) e) (second (is_admissible u) (below_dual u) h))

formed-direct : (w : ℕ) (r : Direct) → Contains (directs w) r → Formed w r
formed-direct w r c = elim (Contains-append_cases (fins w) (regs w ++ duals w) r c) [
  | inl p ↦ formed-fin w r p
  | inr p ↦ elim (Contains-append_cases (regs w) (duals w) r p) [ inl q ↦ formed-reg w r q | inr q ↦ formed-dual w r q ]
]

held-direct : (w : ℕ) (r : Direct) → is_direct r ≡ true → direct_weight_of r ≡ w → Contains (directs w) r
held-direct w (Fin u v) h e = Contains-append_left (fins w) (regs w ++ duals w) (Fin u v) (held-fin w u v h e)
held-direct w (Reg m v) h e = Contains-append_right (fins w) (regs w ++ duals w) (Reg m v)
    (Contains-append_left (regs w) (duals w) (Reg m v) (held-reg w m v h e))
held-direct w (Dual u) h e = Contains-append_right (fins w) (regs w ++ duals w) (Dual u) (Contains-append_right (regs w) (duals w) (Dual u) (held-dual w u h e))

-- n is Prod of r with a word of k letters
pub record IsProdOf (k : ℕ) (r : Direct) (n : RelName) : Type 0 where
  pub word : Word
  pub is : Prod r word ≡ n
  pub admits_word : Admits k word

pub prod_of : (k : ℕ) (r : Direct) (n : RelName) → Contains (prods_by k r) n → IsProdOf k r n
prod_of k r n c =
    let f : From (λ u. Prod r u) (admissible_words k) n = from-map (λ u. Prod r u) (admissible_words k) n c in
    record { word = f.origin; is = f.gives; admits_word = admits k f.origin f.held }

-- n is Prod of a direct name of weight k with a word of w - k letters
pub record IsProdAt (w k : ℕ) (n : RelName) : Type 0 where
  pub factor : Direct
  pub formed : Formed k factor
  pub prod : IsProdOf (w - k) factor n

pub prod_at : (w k : ℕ) (n : RelName) → Contains (prods_from w k) n → IsProdAt w k n
prod_at w k n c =
    let f : Within (prods_by (w - k)) (directs k) n = within-flat_map (prods_by (w - k)) (directs k) n c in
    record { factor = f.origin; formed = formed-direct k f.origin f.held; prod = prod_of (w - k) f.origin n f.gives }

-- a name of weight w
record Named (w : ℕ) (n : RelName) : Type 0 where
  formed : is_formed n ≡ true
  heavy : weight_of_name n ≡ w

named-prod : (w : ℕ) (n : RelName) → Contains (prods w) n → Named w n
unfolding prods
named-prod w n c =
    let f : Within (prods_from w) (range_with_len 3 (w - 4)) n = within-flat_map (prods_from w) (range_with_len 3 (w - 4)) n c in
    let k : (3 ≤ f.origin) × (f.origin < 3 + (w - 4)) = within-range 3 (w - 4) f.origin f.held in
    let a : IsProdAt w f.origin n = prod_at w f.origin n f.gives in
    subst (Named w) a.prod.is (record {
      formed = both (is_direct a.factor) (nat_le 3 (direct_weight_of a.factor) && is_admissible a.prod.word) a.formed.direct
          (both (nat_le 3 (direct_weight_of a.factor)) (is_admissible a.prod.word)
          (is_at_most 3 (direct_weight_of a.factor) (omega (arith, k.0, a.formed.heavy))) a.prod.admits_word.admissible);
      heavy = omega (arith, k.0, k.1, a.formed.heavy, a.prod.admits_word.long);
    })

held-prod : (w : ℕ) (r : Direct) (u : Word) → is_formed (Prod r u) ≡ true → direct_weight_of r + length u ≡ w → Contains (prods w) (Prod r u)
unfolding prods
held-prod w r u h e =
    let dr : is_direct r ≡ true = first (is_direct r) (nat_le 3 (direct_weight_of r) && is_admissible u) h in
    let rest : (nat_le 3 (direct_weight_of r) && is_admissible u) ≡ true = second (is_direct r) (nat_le 3 (direct_weight_of r) && is_admissible u) h in
    let high : 3 ≤ direct_weight_of r = at_most 3 (direct_weight_of r) (first (nat_le 3 (direct_weight_of r)) (is_admissible u) rest) in
    let au : is_admissible u ≡ true = second (nat_le 3 (direct_weight_of r)) (is_admissible u) rest in
    contains-flat_map (prods_from w) (range_with_len 3 (w - 4)) (direct_weight_of r) (Prod r u)
    (contains-range 3 (w - 4) (direct_weight_of r) high (omega (arith, admissible-long u au)))
    (contains-flat_map (prods_by (w - direct_weight_of r)) (directs (direct_weight_of r)) r (Prod r u) (held-direct (direct_weight_of r) r dr refl)
    (contains-map (λ t. Prod r t) (admissible_words (w - direct_weight_of r)) u (admitted (w - direct_weight_of r) u au (omega arith))))

named : (w : ℕ) (n : RelName) → Contains (names w) n → Named w n
named w n c = elim (Contains-append_cases (map (λ r. Plain r) (directs w)) (prods w) n c) [
  | inl p ↦
      let f : From (λ r. Plain r) (directs w) n = from-map (λ r. Plain r) (directs w) n p in
      let a : Formed w f.origin = formed-direct w f.origin f.held in
      subst (Named w) f.gives (record { formed = a.direct; heavy = a.heavy })
  | inr p ↦ named-prod w n p
]

held : (w : ℕ) (n : RelName) → is_formed n ≡ true → weight_of_name n ≡ w → Contains (names w) n
held w (Plain r) h e = Contains-append_left (map (λ r. Plain r) (directs w)) (prods w) (Plain r)
    (contains-map (λ r. Plain r) (directs w) r (held-direct w r h e))
held w (Prod r u) h e = Contains-append_right (map (λ r. Plain r) (directs w)) (prods w) (Prod r u) (held-prod w r u h e)

pub listing_of-whole : (w d : ℕ) (n : RelName) → w ≤ 24 → Contains (listing_of w d) n ↔ ((is_name_of n ≡ true) × (weight_of_name n ≡ w) × (depth_of_name n ≤ d))
unfolding listing_of
listing_of-whole w d n h = (there, back)
  where
    there : Contains (listing_of w d) n → (is_name_of n ≡ true) × (weight_of_name n ≡ w) × (depth_of_name n ≤ d)
    there c =
        let f : Contains (names w) n × (nat_le (depth_of_name n) d ≡ true) = from-filter (λ n. nat_le (depth_of_name n) d) (names w) n c in
        let a : Named w n = named w n f.0 in (
          both (is_formed n) (nat_le (weight_of_name n) 24) a.formed (is_at_most (weight_of_name n) 24 (omega (arith, a.heavy))),
          a.heavy,
          at_most
              (depth_of_name n) d f.1,
        )

    back : (is_name_of n ≡ true) × (weight_of_name n ≡ w) × (depth_of_name n ≤ d) → Contains (listing_of w d) n
    back b = contains-filter (λ n. nat_le (depth_of_name n) d) (names w) n (held w n (first (is_formed n) (nat_le (weight_of_name n) 24) b.0) b.1)
        (is_at_most (depth_of_name n) d b.2)
