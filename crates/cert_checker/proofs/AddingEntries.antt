-- Steps of `add_entries`: a multiple of a row is added, one pair after the other.
use Rattle.std.proofs.Common.{◌≡◌, ◌≢◌, ℕ, ◌+◌, ◌*◌, ◌%◌, ◌<◌, List, [], ◌∷◌, length, set, get_or, Bool, true, false, cond, eqb, refl, sym, ◌∙◌, ap}
use Rattle.std.proofs.Common.{subst, arith}
use Rattle.std.specs.List.{All}
use Rattle.std.proofs.lemmas.Bool.{eqb-true, eqb-false}
use Rattle.std.proofs.lemmas.List.{length-set}
use Rattle.std.proofs.lemmas.List.Elements.{All-set}
use Rattle.zeta_model.specs.Modular.{Same}
use Rattle.zeta_model.proofs.ModularLemmas.{same-add_right}
use Rattle.sparse_rows.specs.Entries.{IsBelow, AllIn}
use Rattle.echelon.specs.Lists.{entries_of}
use Rattle.cert_checker.specs.Inner.{numbers_of}
use Rattle.cert_checker.proofs.SumLemmas.{numbers_of-get, numbers_of-set_same, numbers_of-set_other}

module _ {A E : Type 0} (m c : ℕ) (total : A → ℕ) (is_sum : A → Type 0) (has : E → Bool) (value : E → ℕ) where
  -- what the sums stand for, with what is left to add, is what they stood for, with all that was to be added
  pub record Adding (old : List A) (all : List (ℕ × E)) (sums : List A) (rest : List (ℕ × E)) : Type 0 where
    pub below : IsBelow (λ k. k) (length sums) rest
    pub len : length sums ≡ length old
    pub all_sums : All is_sum sums
    pub in_ring : AllIn has rest
    pub same : (q : ℕ) → Same m (numbers_of total sums q + c * entries_of value rest q) (numbers_of total old q + c * entries_of value all q)

module _ {A E : Type 0} (m c : ℕ) (total : A → ℕ) (is_sum : A → Type 0) (has : E → Bool) (value : E
    → ℕ) (old : List A) (all : List (ℕ × E)) (sums : List A) (rest behind : List (ℕ × E)) (entry : ℕ × E)
    (kept : Adding m c total is_sum has value old all sums rest) (is : rest ≡ entry ∷ behind) where
  pub within : entry.0 < length sums
  within = (subst (IsBelow (λ k. k) (length sums)) is kept.below).0

  pub entry_in : has entry.1 ≡ true
  entry_in = (subst (AllIn has) is kept.in_ring).0

  -- one pair more
  pub added : (x d : A) → is_sum x → Same m (total x) (total (get_or sums entry.0 d) + c * value entry.1)
      → Adding m c total is_sum has value old all (set sums entry.0 x) behind
  added x d sum e = record {
    below = subst (λ n. IsBelow (λ k. k) n behind) (sym (length-set sums entry.0 x)) (subst (IsBelow (λ k. k) (length sums)) is kept.below).1;
    len = length-set sums entry.0 x ∙ kept.len;
    all_sums = All-set is_sum sums entry.0 x sum kept.all_sums;
    in_ring = (subst (AllIn has) is kept.in_ring).1;
    same = λ q. go q (eqb entry.0 q) refl ∙ ap (λ es. (numbers_of total sums q + c * entries_of value es q) % m) (sym is) ∙ kept.same q;
  }
    where
      go : (q : ℕ) (b : Bool) → eqb entry.0 q ≡ b
          → Same m (numbers_of total (set sums entry.0 x) q + c * entries_of value behind q)
          (numbers_of total sums q + c * (cond b (value entry.1) 0 + entries_of value behind q))
      go q true t =
          let same : entry.0 ≡ q = eqb-true entry.0 q t in
          let at_q : numbers_of total (set sums entry.0 x) q ≡ total x =
          subst (λ k. numbers_of total (set sums entry.0 x) k ≡ total x) same (numbers_of-set_same total sums entry.0 x within) in
          let was : total (get_or sums entry.0 d) ≡ numbers_of total sums q =
          numbers_of-get total sums entry.0 d within ∙ ap (numbers_of total sums) same in
          ap (λ n. (n + c * entries_of value behind q) % m) at_q
          ∙ same-add_right m (total x) (numbers_of total sums q + c * value entry.1) (c * entries_of value behind q) (e
          ∙ ap (λ n. (n + c * value entry.1) % m) was)
          ∙ ap (λ n. n % m) (omega arith)
      go q false t =
          let other : q ≢ entry.0 = λ e. eqb-false entry.0 q t (sym e) in
          ap (λ n. (n + c * entries_of value behind q) % m) (numbers_of-set_other total sums entry.0 q x other) ∙ ap (λ n. n % m) (omega arith)

-- nothing is left to add
pub added_all : {A E : Type 0} (m c : ℕ) (total : A → ℕ) (is_sum : A → Type 0) (has : E → Bool) (value : E
    → ℕ) (old : List A) (all : List (ℕ × E)) (sums : List A) (rest : List (ℕ × E))
    → Adding m c total is_sum has value old all sums rest → length rest ≡ 0 → (q : ℕ)
    → Same m (numbers_of total sums q) (numbers_of total old q + c * entries_of value all q)
added_all m c total is_sum has value old all sums [] kept none q =
    ap (λ n. n % m) (let e : numbers_of total sums q ≡ numbers_of total sums q + c * 0 = omega arith in e) ∙ kept.same q
added_all m c total is_sum has value old all sums (e ∷ es) kept none q = absurd (omega arith)
