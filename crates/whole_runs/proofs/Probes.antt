-- A probe is one work.
use Rattle.std.specs.Prelude.{◌≡◌, ℕ, zero, suc, ◌%◌, ◌<◌, ◌≤◌, List}
use Rattle.std.proofs.Common.{refl, sym, ap, ◌∙◌, inl, inr, arith}
use Rattle.std.proofs.lemmas.Bool.{cases_lt}
use Rattle.zeta_model.specs.Inverses.{HasInverse}
use Rattle.table_model.proofs.Inverses.{has_inverse_or_not}
use Rattle.table_model.proofs.FindingFaults.{all_or_first}
use Rattle.truncated_sums.specs.Inverses.{IsFirstWithout}
use Rattle.whole_runs.specs.declared.status.Status.TheVariants as status
use Rattle.whole_runs.specs.Texts.{term_line}
use Rattle.whole_runs.specs.Works.{Work, IsProbe}
use Rattle.whole_runs.specs.Works.Work.{Replies, Writes}
use Rattle.whole_runs.specs.Works.IsProbe.{no_inverse, whole}
use Rattle.whole_runs.proofs.ProbeReplies.{some_probe_reply, one_probe_reply}

-- no two numbers are the first without an inverse
same_term : (m n a s b t : ℕ) → IsFirstWithout m n a s → IsFirstWithout m n b t → s ≡ t
same_term m n a s b t x y = elim (cases_lt s t) [
  | inl l ↦ absurd (x.none (y.before s x.least l))
  | inr l ↦ elim (cases_lt t s) [
    | inl k ↦ absurd (y.none (x.before t y.least k))
    | inr k ↦ omega arith
  ]
]

pub one_probe : (n m : ℕ) (v w : Work) → IsProbe n m v → IsProbe n m w → v ≡ w
one_probe n m v w (no_inverse a s f x) (no_inverse b t g y) =
    let term : s ≡ t = same_term m n a s b t f g in
    let value : a ≡ b = f.residue ∙ ap (λ k. k % m) term ∙ sym g.residue in
    x ∙ (λ i. Writes (term_line (value i) (term i)) status.NoInverse) ∙ sym y
one_probe n m v w (no_inverse a s f x) (whole all reply replies y) = absurd (f.none (all s f.least f.within))
one_probe n m v w (whole all reply replies x) (no_inverse b t g y) = absurd (g.none (all t g.least g.within))
one_probe n m v w (whole all reply replies x) (whole every other others y) =
    let same : (line : List ℕ) → reply line ≡ other line = λ line. one_probe_reply m n line (reply line) (other line) (replies line) (others line) in
    x ∙ (λ i. Replies (λ line. same line i)) ∙ sym y

pub some_probe : (n m : ℕ) → 0 < m → (work : Work) × IsProbe n m work
some_probe n m pos = elim (all_or_first (λ k. HasInverse m (suc k)) (λ k. has_inverse_or_not m (suc k) pos) n) [
  | inl all ↦ (
    Replies (λ line. (some_probe_reply m n line).0),
    whole (each all) (λ line. (some_probe_reply m n line).0) (λ line. (some_probe_reply m n line).1) refl,
  )
  | inr (i, f) ↦ (
    Writes (term_line (suc i % m) (suc i)) status.NoInverse,
    no_inverse (suc i % m) (suc i) (record {
      least = omega arith;
      within = let l = f.below in omega arith;
      residue = refl;
      none = f.lacks;
      before = earlier i f.earlier;
    }) refl,
  )
]
  where
    each : ((k : ℕ) → k < n → HasInverse m (suc k)) → (a : ℕ) → 1 ≤ a → a ≤ n → HasInverse m a
    each all zero l h = absurd (omega arith)
    each all (suc a) l h = all a (omega arith)

    earlier : (i : ℕ) → ((k : ℕ) → k < i → HasInverse m (suc k)) → (a : ℕ) → 1 ≤ a → a < suc i → HasInverse m a
    earlier i all zero l h = absurd (omega arith)
    earlier i all (suc a) l h = all a (omega arith)
