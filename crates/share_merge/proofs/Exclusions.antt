-- Each answer of a merge is told of one index or row.
use Rattle.std.specs.Prelude.{◌≡◌, ℕ, ◌<◌, List, [], ◌∷◌, length, get_or}
use Rattle.std.proofs.Common.{sym, ◌∙◌, ap, subst, inl, inr, arith}
use Rattle.std.proofs.lemmas.Bool.{cases_lt}
use Rattle.std.proofs.lemmas.Option.{get_or_from_slice_get}
use Rattle.column_order.specs.Columns.{ColumnList}
use Rattle.echelon.specs.Lists.{entries_of}
use Rattle.table_model.specs.Conversion.{IsTable, Converts}
use Rattle.table_model.proofs.RowWords.{words_of_row-table}
use Rattle.table_model.proofs.FirstFaults.{first_break}
use Rattle.share_model.specs.Checked.{Checked}
use Rattle.share_merge.specs.Turns.{Turn, share_count, HasAll, IsLeastMissing, turns_of, turn_row, turn_words, BreaksAtRow}

-- the least index that does not occur is one
pub one_missing : {R E : Type 0} (shares index other : ℕ) (list : List (Checked R E)) → IsLeastMissing shares list index → IsLeastMissing shares list other
    → index ≡ other
one_missing shares index other list a b = elim (cases_lt index other) [
  | inl less ↦ absurd (a.missing (b.earlier index less))
  | inr late ↦ elim (cases_lt other index) [
    | inl less ↦ absurd (b.missing (a.earlier other less))
    | inr same ↦ omega (arith, late, same)
  ]
]

-- the first share says how many there are
pub share_count_is : {R E : Type 0} (list : List (Checked R E)) (x : Checked R E) → 0 < length list → x ≡ get_or list 0 x → x.id.of ≡ share_count list
share_count_is {R} {E} [] x some is = absurd (omega (arith, some))
share_count_is {R} {E} (c ∷ cs) x some is = ap (λ (d : Checked R E). d.id.of) is

-- each index below that number occurs
pub all_there : {R E : Type 0} (list : List (Checked R E)) (x : Checked R E) (shares : ℕ) → 0 < length list → x ≡ get_or list 0 x → shares ≡ x.id.of
    → HasAll shares list → HasAll (share_count list) list
all_there list x shares some is of all = subst (λ n. HasAll n list) (of ∙ share_count_is list x some is) all

-- so that none is missing
pub none_missing : {R E : Type 0} (shares index : ℕ) (list : List (Checked R E)) → HasAll shares list → ¬ (IsLeastMissing shares list index)
none_missing shares index list all least = least.missing (all index least.inside)

-- the work breaks at one row, with one residue
pub one_break : {R E : Type 0} (m : ℕ) (value : E → ℕ) (columns : ColumnList) → IsTable m columns → Converts m columns → (list : List (Checked R E))
    (residue share row other_residue other_share other_row : ℕ) → BreaksAtRow m value columns list residue share row
    → BreaksAtRow m value columns list other_residue other_share other_row
    → (residue ≡ other_residue) × (share ≡ other_share) × (row ≡ other_row)
one_break {R} {E} m value columns is_table converts list residue share row other_residue other_share other_row a b =
    let words = turn_words value columns list in
    let both = first_break m columns is_table words (λ k. words_of_row-table m columns is_table (entries_of value (turn_row list k))) converts
    a.place b.place residue other_residue a.breaks b.breaks in
    let turns = turns_of list in
    let one : a.turn ≡ b.turn =
    sym (get_or_from_slice_get turns a.place a.turn b.turn a.is_turn) ∙ ap (λ p. get_or turns p b.turn) both.0
    ∙ get_or_from_slice_get turns b.place b.turn b.turn b.is_turn in (
      both.1,
      sym a.of_share ∙ ap (λ (t : Turn R E). t.share.id.index) one ∙ b.of_share,
      sym a.of_row ∙ ap (λ (t : Turn R E). t.row) one ∙ b.of_row,
    )
