use Rattle.std.proofs.Common.{◌≡◌, Some, None, slice_get, sym, subst}
use Rattle.std.specs.List.{Contains}
use Rattle.zeta_model.specs.Words.{word_cmp}
use Rattle.zeta_model.proofs.WordOrder.{word_cmp_total, word_cmp-IsAntisymmetric}
use Rattle.std.specs.List.Sorted.{IsStrictlySortedBy}
use Rattle.column_order.proofs.SortedLists.{absent, found_at, rises}
use Rattle.column_order.proofs.WordPlaces.{IsToldOf, told_at, told_nowhere, words_increase}
use Rattle.column_order.proofs.columns.Columns.place_of_word.Goals as goal

found : (c : goal.After-row_known-1) → IsToldOf c.args.self.now c.args.w (Some c.index.result.now)
found c =
    let at : slice_get c.deref.result.now c.in-Ok.k ≡ Some c.args.w =
    found_at word_cmp word_cmp_total word_cmp-IsAntisymmetric c.deref.result.now c.args.w c.in-Ok.k c.in-Ok.ensures.bound c.in-Ok.ensures.ok in
    let inside : slice_get c.self.inside.words.items c.in-Ok.k ≡ Some c.args.w =
    subst (λ t. slice_get t c.in-Ok.k ≡ Some c.args.w) c.deref.ensures.value at in
    subst (λ v. IsToldOf v c.args.w (Some c.index.result.now)) c.self.view_is
    (told_at c.self.inside.preference c.self.inside.weight c.self.inside.depth c.self.inside.columns.items c.self.inside.words.items c.self.inside.places.items
    c.self.invariant c.args.w c.in-Ok.k c.index.result.now inside c.index.ensures)

missed : (c : goal.In-Err) → IsToldOf c.args.self.now c.args.w None
missed c =
    let increase : IsStrictlySortedBy word_cmp c.self.inside.words.items =
    words_increase c.self.inside.preference c.self.inside.weight c.self.inside.depth c.self.inside.columns.items c.self.inside.words.items c.self.inside.places.items
    c.self.invariant c.args.w in
    let sorted : IsStrictlySortedBy word_cmp c.deref.result.now = subst (IsStrictlySortedBy word_cmp) (sym c.deref.ensures.value) increase in
    let nowhere : ¬ (Contains c.deref.result.now c.args.w) =
    absent word_cmp word_cmp_total word_cmp-IsAntisymmetric c.deref.result.now c.args.w c.in-Err.field-0
    (c.in-Err.ensures.position (rises word_cmp word_cmp_total word_cmp-IsAntisymmetric c.deref.result.now c.args.w sorted)) in
    subst (λ v. IsToldOf v c.args.w None) c.self.view_is
    (told_nowhere c.self.inside.preference c.self.inside.weight c.self.inside.depth c.self.inside.columns.items c.self.inside.words.items c.self.inside.places.items
    c.self.invariant c.args.w (λ h. nowhere (subst (λ t. Contains t c.args.w) (sym c.deref.ensures.value) h)))

pub returns-in-Ok-clause-place : goal.returns-in-Ok-clause-place
returns-in-Ok-clause-place c = (found c).place

pub returns-in-Ok-clause-word : goal.returns-in-Ok-clause-word
returns-in-Ok-clause-word c = (found c).word

pub returns-in-Ok-clause-none : goal.returns-in-Ok-clause-none
returns-in-Ok-clause-none c = (found c).none

pub returns-in-Err-clause-place : goal.returns-in-Err-clause-place
returns-in-Err-clause-place c = (missed c).place

pub returns-in-Err-clause-word : goal.returns-in-Err-clause-word
returns-in-Err-clause-word c = (missed c).word

pub returns-in-Err-clause-none : goal.returns-in-Err-clause-none
returns-in-Err-clause-none c = (missed c).none
