-- No name stands twice in the listing.
use Rattle.std.proofs.Common.{◌≡◌, ◌≢◌, ℕ, ◌-◌, zero, suc, nat_le, inl, inr, List, [], ◌∷◌, ◌++◌, length, map, filter, Contains, AllPairs, sym, ap, ◌∙◌, arith}
use Rattle.std.specs.List.{range_with_len}
use Rattle.std.proofs.lemmas.List.Elements.{Contains-append_cases}
use Rattle.zeta_model.specs.declared.Letter.{Letter}
use Rattle.zeta_model.specs.declared.Letter.TheVariants.{X, Y}
use Rattle.zeta_model.specs.Words.{is_admissible}
use Rattle.relation_list.specs.declared.names.Direct.{Direct}
use Rattle.relation_list.specs.declared.names.Direct.TheVariants.{Fin, Reg, Dual}
use Rattle.relation_list.specs.declared.names.RelName.{RelName}
use Rattle.relation_list.specs.declared.names.RelName.TheVariants.{Plain, Prod}
use Rattle.zeta_model.specs.WordLists.{all_words, admissible_words}
use Rattle.relation_list.specs.Names.{in_order, below_dual, direct_weight_of, depth_of_name}
use Rattle.relation_list.specs.Listings.{fins_by, fins_from, fins, regs_from, regs, duals, directs, prods_by, prods_from, prods, names, listing_of}
use Rattle.relation_list.proofs.Members.{From, Within, none_contained, from-map, within-flat_map, Distinct, Distinct-append, Distinct-map, Distinct-filter, Distinct-flat_map, Distinct-range, pairs_from_Distinct}
use Rattle.relation_list.proofs.WholeListing.{IsFinOf, IsFinAt, fin_of, fin_at, IsRegAt, reg_at, IsProdOf, IsProdAt, prod_of, prod_at}

abbrev Word : Type 0
Word = List Letter

Distinct-all_words : (k : ℕ) → Distinct (all_words k)
unfolding all_words
Distinct-all_words zero = (none_contained [], tt)
Distinct-all_words (suc k) = Distinct-append (map (λ w. X ∷ w) (all_words k)) (map (λ w. Y ∷ w) (all_words k))
    (Distinct-map (λ w. X ∷ w) (λ u v e. cc) (all_words k) (Distinct-all_words k))
    (Distinct-map (λ w. Y ∷ w) (λ u v e. cc) (all_words k) (Distinct-all_words k)) apart
  where
    apart : (z : Word) → Contains (map (λ w. X ∷ w) (all_words k)) z → Contains (map (λ w. Y ∷ w) (all_words k)) z → ⊥
    apart z c p =
        let f : From (λ w. X ∷ w) (all_words k) z = from-map (λ w. X ∷ w) (all_words k) z c in
        let g : From (λ w. Y ∷ w) (all_words k) z = from-map (λ w. Y ∷ w) (all_words k) z p in
        let fe : X ∷ f.origin ≡ z = f.gives in
        let ge : Y ∷ g.origin ≡ z = g.gives in
        let e : X ∷ f.origin ≡ Y ∷ g.origin = fe ∙ sym ge in
        cc

Distinct-admissible_words : (k : ℕ) → Distinct (admissible_words k)
Distinct-admissible_words k = Distinct-filter is_admissible (all_words k) (Distinct-all_words k)

Distinct-fins : (w : ℕ) → Distinct (fins w)
unfolding fins
Distinct-fins w = Distinct-flat_map (fins_from w) each apart (range_with_len 1 (w - 1)) (Distinct-range 1 (w - 1))
  where
    by_word : (k : ℕ) (u v : Word) (r : Direct) → Contains (fins_by (w - k) u) r → Contains (fins_by (w - k) v) r → u ≡ v
    by_word k u v r c p =
        let f : IsFinOf (w - k) u r = fin_of (w - k) u r c in
        let g : IsFinOf (w - k) v r = fin_of (w - k) v r p in
        let e : Fin u f.other ≡ Fin v g.other = f.is ∙ sym g.is in
        cc

    each : (k : ℕ) → Distinct (fins_from w k)
    each k = Distinct-flat_map (fins_by (w - k))
        (λ u. Distinct-map (λ v. Fin u v) (λ s t e. cc) (filter (in_order u) (admissible_words (w - k)))
        (Distinct-filter (in_order u) (admissible_words (w - k)) (Distinct-admissible_words (w - k)))) (by_word k) (admissible_words k)
        (Distinct-admissible_words k)

    apart : (k l : ℕ) (r : Direct) → Contains (fins_from w k) r → Contains (fins_from w l) r → k ≡ l
    apart k l r c p =
        let f : IsFinAt w k r = fin_at w k r c in
        let g : IsFinAt w l r = fin_at w l r p in
        let e : Fin f.word f.fin.other ≡ Fin g.word g.fin.other = f.fin.is ∙ sym g.fin.is in
        let same : f.word ≡ g.word = cc in
        sym f.admits_word.long ∙ ap length same ∙ g.admits_word.long

Distinct-regs : (w : ℕ) → Distinct (regs w)
unfolding regs
Distinct-regs w = Distinct-flat_map (regs_from w)
    (λ m. Distinct-map (λ v. Reg m v) (λ s t e. cc) (admissible_words (w - m)) (Distinct-admissible_words (w - m))) apart (range_with_len 1 (w - 1))
    (Distinct-range 1 (w - 1))
  where
    apart : (k l : ℕ) (r : Direct) → Contains (regs_from w k) r → Contains (regs_from w l) r → k ≡ l
    apart k l r c p =
        let f : IsRegAt w k r = reg_at w k r c in
        let g : IsRegAt w l r = reg_at w l r p in
        let e : Reg k f.word ≡ Reg l g.word = f.is ∙ sym g.is in
        cc

Distinct-duals : (w : ℕ) → Distinct (duals w)
unfolding duals
Distinct-duals w = Distinct-map (λ u. Dual u) (λ s t e. cc) (filter below_dual (admissible_words w))
    (Distinct-filter below_dual (admissible_words w) (Distinct-admissible_words w))

-- which of the three kinds a direct name is
abbrev kind_of : Direct → ℕ
kind_of (Fin u v) = 0
kind_of (Reg m v) = 1
kind_of (Dual u) = 2

kind-fins : (w : ℕ) (r : Direct) → Contains (fins w) r → kind_of r ≡ 0
unfolding fins
kind-fins w r c =
    let f : Within (fins_from w) (range_with_len 1 (w - 1)) r = within-flat_map (fins_from w) (range_with_len 1 (w - 1)) r c in
    ap kind_of (sym (fin_at w f.origin r f.gives).fin.is)

kind-regs : (w : ℕ) (r : Direct) → Contains (regs w) r → kind_of r ≡ 1
unfolding regs
kind-regs w r c =
    let f : Within (regs_from w) (range_with_len 1 (w - 1)) r = within-flat_map (regs_from w) (range_with_len 1 (w - 1)) r c in
    ap kind_of (sym (reg_at w f.origin r f.gives).is)

kind-duals : (w : ℕ) (r : Direct) → Contains (duals w) r → kind_of r ≡ 2
unfolding duals
kind-duals w r c = ap kind_of (sym (from-map (λ u. Dual u) (filter below_dual (admissible_words w)) r c).gives)

Distinct-directs : (w : ℕ) → Distinct (directs w)
Distinct-directs w = Distinct-append (fins w) (regs w ++ duals w) (Distinct-fins w)
    (Distinct-append (regs w) (duals w) (Distinct-regs w) (Distinct-duals w) (λ r c p. absurd (omega (arith, kind-regs w r c, kind-duals w r p)))) apart
  where
    apart : (r : Direct) → Contains (fins w) r → Contains (regs w ++ duals w) r → ⊥
    apart r c p = elim (Contains-append_cases (regs w) (duals w) r p)
        [ inl q ↦ absurd (omega (arith, kind-fins w r c, kind-regs w r q)) | inr q ↦ absurd (omega (arith, kind-fins w r c, kind-duals w r q)) ]

Distinct-prods : (w : ℕ) → Distinct (prods w)
unfolding prods
Distinct-prods w = Distinct-flat_map (prods_from w) each apart (range_with_len 3 (w - 4)) (Distinct-range 3 (w - 4))
  where
    by_factor : (k : ℕ) (r s : Direct) (n : RelName) → Contains (prods_by (w - k) r) n → Contains (prods_by (w - k) s) n → r ≡ s
    by_factor k r s n c p =
        let f : IsProdOf (w - k) r n = prod_of (w - k) r n c in
        let g : IsProdOf (w - k) s n = prod_of (w - k) s n p in
        let e : Prod r f.word ≡ Prod s g.word = f.is ∙ sym g.is in
        cc

    each : (k : ℕ) → Distinct (prods_from w k)
    each k = Distinct-flat_map (prods_by (w - k))
        (λ r. Distinct-map (λ u. Prod r u) (λ s t e. cc) (admissible_words (w - k)) (Distinct-admissible_words (w - k))) (by_factor k) (directs k)
        (Distinct-directs k)

    apart : (k l : ℕ) (n : RelName) → Contains (prods_from w k) n → Contains (prods_from w l) n → k ≡ l
    apart k l n c p =
        let f : IsProdAt w k n = prod_at w k n c in
        let g : IsProdAt w l n = prod_at w l n p in
        let e : Prod f.factor f.prod.word ≡ Prod g.factor g.prod.word = f.prod.is ∙ sym g.prod.is in
        let same : f.factor ≡ g.factor = cc in
        sym f.formed.heavy ∙ ap direct_weight_of same ∙ g.formed.heavy

Distinct-names : (w : ℕ) → Distinct (names w)
unfolding prods
Distinct-names w = Distinct-append (map (λ r. Plain r) (directs w)) (prods w) (Distinct-map (λ r. Plain r) (λ s t e. cc) (directs w) (Distinct-directs w))
    (Distinct-prods w) apart
  where
    apart : (n : RelName) → Contains (map (λ r. Plain r) (directs w)) n → Contains (prods w) n → ⊥
    apart n c p =
        let f : From (λ r. Plain r) (directs w) n = from-map (λ r. Plain r) (directs w) n c in
        let g : Within (prods_from w) (range_with_len 3 (w - 4)) n = within-flat_map (prods_from w) (range_with_len 3 (w - 4)) n p in
        let a : IsProdAt w g.origin n = prod_at w g.origin n g.gives in
        let e : Plain f.origin ≡ Prod a.factor a.prod.word = f.gives ∙ sym a.prod.is in
        cc

pub listing_of-once : (w d : ℕ) → AllPairs (λ n o. n ≢ o) (listing_of w d)
unfolding listing_of
listing_of-once w d = pairs_from_Distinct (listing_of w d) (Distinct-filter (λ n. nat_le (depth_of_name n) d) (names w) (Distinct-names w))
