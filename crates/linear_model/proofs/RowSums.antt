-- Adding a multiple of one row to another, column by column.
use Rattle.std.specs.Prelude.{◌≡◌, ◌≢◌, ℕ, ◌+◌, ◌-◌, ◌*◌, ◌%◌, ◌<◌, ◌≤◌, ◌⊎◌, List, length, slice_index, slice_set}
use Rattle.std.proofs.Common.{sym, ◌∙◌, ap, subst, inl, inr, arith}
use Rattle.std.proofs.Math.Nat.{add-mod-mod, mod-mod}
use Rattle.std.proofs.lemmas.Bool.{cases_eq}
use Rattle.std.proofs.lemmas.List.{get_or-set_same, get_or-set_other, length-set}
use Rattle.zeta_model.specs.Modular.{Same}
use Rattle.zeta_model.proofs.ModularLemmas.{same-opposite}

-- below column col the row now has what it had and f times g, and from there on it is as it was
pub record AddedBelow (m width f col : ℕ) (g : ℕ → ℕ) (old now : List ℕ) : Type 0 where
  pub width_is : length now ≡ width
  pub added : (j : ℕ) → j < col → Same m (slice_index now j) (slice_index old j + f * g j)
  pub kept : (j : ℕ) → col ≤ j → slice_index now j ≡ slice_index old j

-- one column more
pub added_next : (m width f col : ℕ) (g : ℕ → ℕ) (old now : List ℕ) (number : ℕ) → AddedBelow m width f col g old now → col < width
    → number ≡ (slice_index now col + f * g col) % m → AddedBelow m width f (col + 1) g old (slice_set now col number)
added_next m width f col g old now number below inside is = record {
  width_is = length-set now col number ∙ below.width_is;
  added = λ j l. at_column j l (cases_eq j col);
  kept = λ j l. let other : j ≢ col = omega arith in get_or-set_other now col j number 0 other ∙ below.kept j (omega arith);
}
  where
    here : Same m (slice_index (slice_set now col number) col) (slice_index old col + f * g col)
    here =
        let within : col < length now = omega (arith, below.width_is) in
        ap (λ x. x % m) (get_or-set_same now col number 0 within ∙ is)
        ∙ mod-mod (slice_index now col + f * g col) m
        ∙ ap (λ x. (x + f * g col) % m) (below.kept col (omega arith))

    at_column : (j : ℕ) → j < col + 1 → ((j ≡ col) ⊎ (j ≢ col)) → Same m (slice_index (slice_set now col number) j) (slice_index old j + f * g j)
    at_column j l (inl e) = subst (λ x. Same m (slice_index (slice_set now col number) x) (slice_index old x + f * g x)) (sym e) here
    at_column j l (inr ne) = ap (λ x. x % m) (get_or-set_other now col j number 0 ne) ∙ below.added j (omega arith)

-- a times m - 1 undoes a
pub undone : (m a f : ℕ) → 0 < m → f ≡ (0 + a * (m - 1)) % m → Same m (a + f) 0
undone m a f pos is =
    ap (λ x. (a + x) % m) is
    ∙ add-mod-mod a (0 + a * (m - 1)) m
    ∙ ap (λ x. x % m) (let e : a + (0 + a * (m - 1)) ≡ 0 + a + a * (m - 1) = omega arith in e)
    ∙ same-opposite m 0 a pos
