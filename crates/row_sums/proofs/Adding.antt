-- Steps of `add_entries`: a multiple of a row is added, one pair after the other.
use Rattle.std.proofs.Common.{◌≡◌, ◌≢◌, ℕ, ◌+◌, ◌*◌, ◌%◌, ◌<◌, List, [], ◌∷◌, length, set, get_or, Bool, true, false, cond, eqb, refl, sym, ◌∙◌, ap}
use Rattle.std.proofs.Common.{subst, arith}
use Rattle.std.specs.List.{All}
use Rattle.std.proofs.lemmas.Bool.{eqb-true, eqb-false}
use Rattle.std.proofs.lemmas.List.{length-set}
use Rattle.std.proofs.lemmas.List.Elements.{All-set}
use Rattle.zeta_model.specs.Modular.{Same}
use Rattle.zeta_model.proofs.ModularLemmas.{same-add_right}
use Rattle.sparse_rows.specs.Entries.{IsBelow, AllIn}
use Rattle.sparse_rows.specs.Entries.{entry_of}
use Rattle.row_sums.specs.Totals.{total_at}
use Rattle.row_sums.proofs.TotalLemmas.{total_at-get, total_at-set_same, total_at-set_other}

module _ {A K E : Type 0} (number : K → ℕ) (m c : ℕ) (total : A → ℕ) (is_sum : A → Type 0) (has : E → Bool) (value : E → ℕ) where
  -- what the sums stand for, with what is left to add, is what they stood for, with all that was to be added
  pub record Adding (old : List A) (all : List (K × E)) (sums : List A) (rest : List (K × E)) : Type 0 where
    pub below : IsBelow number (length sums) rest
    pub len : length sums ≡ length old
    pub all_sums : All is_sum sums
    pub in_ring : AllIn has rest
    pub same : (q : ℕ) → Same m (total_at total sums q + c * entry_of number value rest q) (total_at total old q + c * entry_of number value all q)

module _ {A K E : Type 0} (number : K → ℕ) (m c : ℕ) (total : A → ℕ) (is_sum : A → Type 0) (has : E → Bool) (value : E
    → ℕ) (old : List A) (all : List (K × E)) (sums : List A) (rest behind : List (K × E)) (entry : K × E)
    (kept : Adding number m c total is_sum has value old all sums rest) (is : rest ≡ entry ∷ behind) where
  pub within : number entry.0 < length sums
  within = (subst (IsBelow number (length sums)) is kept.below).0

  pub entry_in : has entry.1 ≡ true
  entry_in = (subst (AllIn has) is kept.in_ring).0

  -- one pair more
  pub added : (x d : A) → is_sum x → Same m (total x) (total (get_or sums (number entry.0) d) + c * value entry.1)
      → Adding number m c total is_sum has value old all (set sums (number entry.0) x) behind
  added x d sum e = record {
    below = subst (λ n. IsBelow number n behind) (sym (length-set sums (number entry.0) x)) (subst (IsBelow number (length sums)) is kept.below).1;
    len = length-set sums (number entry.0) x ∙ kept.len;
    all_sums = All-set is_sum sums (number entry.0) x sum kept.all_sums;
    in_ring = (subst (AllIn has) is kept.in_ring).1;
    same = λ q. go q (eqb (number entry.0) q) refl ∙ ap (λ es. (total_at total sums q + c * entry_of number value es q) % m) (sym is) ∙ kept.same q;
  }
    where
      go : (q : ℕ) (b : Bool) → eqb (number entry.0) q ≡ b
          → Same m (total_at total (set sums (number entry.0) x) q + c * entry_of number value behind q)
          (total_at total sums q + c * (cond b (value entry.1) 0 + entry_of number value behind q))
      go q true t =
          let same : number entry.0 ≡ q = eqb-true (number entry.0) q t in
          let at_q : total_at total (set sums (number entry.0) x) q ≡ total x =
          subst (λ k. total_at total (set sums (number entry.0) x) k ≡ total x) same (total_at-set_same total sums (number entry.0) x within) in
          let was : total (get_or sums (number entry.0) d) ≡ total_at total sums q =
          total_at-get total sums (number entry.0) d within ∙ ap (total_at total sums) same in
          ap (λ n. (n + c * entry_of number value behind q) % m) at_q
          ∙ same-add_right m (total x) (total_at total sums q + c * value entry.1) (c * entry_of number value behind q) (e
          ∙ ap (λ n. (n + c * value entry.1) % m) was)
          ∙ ap (λ n. n % m) (omega arith)
      go q false t =
          let other : q ≢ number entry.0 = λ e. eqb-false (number entry.0) q t (sym e) in
          ap (λ n. (n + c * entry_of number value behind q) % m) (total_at-set_other total sums (number entry.0) q x other) ∙ ap (λ n. n % m) (omega arith)

-- nothing is left to add
pub added_all : {A K E : Type 0} (number : K → ℕ) (m c : ℕ) (total : A → ℕ) (is_sum : A → Type 0) (has : E → Bool) (value : E
    → ℕ) (old : List A) (all : List (K × E)) (sums : List A) (rest : List (K × E))
    → Adding number m c total is_sum has value old all sums rest → length rest ≡ 0 → (q : ℕ)
    → Same m (total_at total sums q) (total_at total old q + c * entry_of number value all q)
added_all number m c total is_sum has value old all sums [] kept none q =
    ap (λ n. n % m) (let e : total_at total sums q ≡ total_at total sums q + c * 0 = omega arith in e) ∙ kept.same q
added_all number m c total is_sum has value old all sums (e ∷ es) kept none q = absurd (omega arith)
