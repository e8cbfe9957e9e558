-- What a coordinator keeps: the counted shares, and which worker has which other share.
use Rattle.std.specs.Prelude.{◌≡◌, ℕ, ◌<◌, not, nat_eq, List, [], map, filter, Any, refl}
use Rattle.std.specs.Coded.{Coded, code_by, coded×, coded_ℕ, coded_list}
use Rattle.share_model.specs.Checked.{Checked, checked_code}
use Rattle.share_merge.specs.Turns.{HasIndex}

-- the counted shares, in the order of counting, and the pairs of an index and the worker to whom it is granted, in the order of granting
pub record Lists (R E : Type 0) : Type 0 where
  pub counted : List (Checked R E)
  pub granted : List (ℕ × ℕ)

-- lists are stored as a pair
abbrev pub lists_code : {R E : Type 0} → Coded R → Coded E → Coded (Lists R E)
lists_code {R} {E} r e =
    code_by (List (Checked R E) × List (ℕ × ℕ)) (coded× (coded_list (checked_code r e)) (coded_list (coded× coded_ℕ coded_ℕ)))
    (λ lists. (lists.counted, lists.granted)) (λ p. record { counted = p.0; granted = p.1 }) (λ _. refl)

-- index i is granted to some worker
abbrev pub IsGranted : List (ℕ × ℕ) → ℕ → Type 0
IsGranted granted i = Any (λ g. g.0 ≡ i) granted

-- the grants of other indices than i
abbrev pub without_index : ℕ → List (ℕ × ℕ) → List (ℕ × ℕ)
without_index i granted = filter (λ g. not (nat_eq g.0 i)) granted

-- the grants to other workers than k
abbrev pub without_worker : ℕ → List (ℕ × ℕ) → List (ℕ × ℕ)
without_worker k granted = filter (λ g. not (nat_eq g.1 k)) granted

module _ {R E : Type 0} where
  -- as at first: nothing is counted, and nothing granted
  abbrev pub empty : Lists R E
  empty = record { counted = []; granted = [] }

  -- the indices of the counted shares, in the order of counting
  abbrev pub indices_of : List (Checked R E) → List ℕ
  indices_of counted = map (λ c. c.id.index) counted

  -- index i is neither counted nor granted
  pub record IsFree (lists : Lists R E) (i : ℕ) : Type 0 where
    pub not_counted : ¬ (HasIndex lists.counted i)
    pub not_granted : ¬ (IsGranted lists.granted i)

  -- the least such index of so many
  pub record IsLeastFree (of : ℕ) (lists : Lists R E) (i : ℕ) : Type 0 where
    pub below : i < of
    pub is_free : IsFree lists i
    pub earlier : (k : ℕ) → k < i → ¬ (IsFree lists k)

  -- there is none
  abbrev pub HasNoFree : ℕ → Lists R E → Type 0
  HasNoFree of lists = (i : ℕ) → i < of → ¬ (IsFree lists i)
