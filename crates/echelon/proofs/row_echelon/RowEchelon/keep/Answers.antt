use Rattle.std.proofs.Common.{◌≡◌, ◌+◌, [], ◌∷◌, ◌++◌, sym, ◌∙◌, ap, subst}
use Rattle.echelon.specs.States.{IsElimination}
use Rattle.echelon.specs.Inner.{AllStand}
use Rattle.echelon.proofs.Remains.{AllStand-push}
use Rattle.echelon.proofs.RowLists.{IsElimination-push}
use Rattle.echelon.proofs.row_echelon.RowEchelon.keep.Goals as goal

pub invariant_of-self-2 : goal.invariant_of-self-2
invariant_of-self-2 g c =
    let s = c.args.self.now in
    let n = c.args.n in
    let row = c.args.row.now in
    let kept : IsElimination (g.R.Ring.modulus s.ring) (g.R.Ring.has s.ring) (g.R.Ring.value s.ring) g.R.Ring.zero s.columns s.above s.numbers s.rows =
    subst (λ s. IsElimination (g.R.Ring.modulus s.ring) (g.R.Ring.has s.ring)
    (g.R.Ring.value s.ring) g.R.Ring.zero s.columns s.above s.numbers s.rows) c.self.view_is c.self.invariant.0 in
    let pushed : IsElimination (g.R.Ring.modulus s.ring) (g.R.Ring.has s.ring) (g.R.Ring.value s.ring) g.R.Ring.zero s.columns (n + 1) (s.numbers ++ n ∷ [])
    (s.rows ++ row ∷ []) =
    IsElimination-push (g.R.Ring.modulus s.ring) (g.R.Ring.has s.ring)
    (g.R.Ring.value s.ring) g.R.Ring.zero s.columns s.above n s.numbers s.rows row kept c.requires.number c.requires.fits c.requires.one c.requires.clear in
    let inside : IsElimination (g.R.Ring.modulus c.self.inside.ring) (g.R.Ring.has c.self.inside.ring)
    (g.R.Ring.value c.self.inside.ring) g.R.Ring.zero c.self.inside.columns (n + 1) (c.self.inside.numbers.items ++ n ∷ [])
    (c.self.inside.rows.items ++ row ∷ []) =
    subst (λ s. IsElimination (g.R.Ring.modulus s.ring) (g.R.Ring.has s.ring) (g.R.Ring.value s.ring) g.R.Ring.zero s.columns (n + 1) (s.numbers ++ n ∷ [])
    (s.rows ++ row ∷ [])) (sym c.self.view_is) pushed in
    let numbers_is : c.self.inside.numbers.items ++ n ∷ [] ≡ c.push_reserved.new.self.items =
    sym (c.push_reserved.ensures.items ∙ ap (λ xs. xs ++ n ∷ []) c.in_ok-reserve.ensures.items) in
    let rows_is : c.self.inside.rows.items ++ row ∷ [] ≡ c.push_reserved-2.new.self.items =
    sym (c.push_reserved-2.ensures.items ∙ (λ i. c.in_ok-reserve-2.ensures.items i ++ c.in_ok-copy.ensures.ok i ∷ [])) in (
      subst (λ ns. IsElimination (g.R.Ring.modulus c.self.inside.ring) (g.R.Ring.has c.self.inside.ring)
          (g.R.Ring.value c.self.inside.ring) g.R.Ring.zero c.self.inside.columns (n + 1) ns c.push_reserved-2.new.self.items) numbers_is
          (subst (λ rs. IsElimination (g.R.Ring.modulus c.self.inside.ring) (g.R.Ring.has c.self.inside.ring)
          (g.R.Ring.value c.self.inside.ring) g.R.Ring.zero c.self.inside.columns (n + 1) (c.self.inside.numbers.items ++ n ∷ []) rs) rows_is inside),
      c.self.invariant.1,
      subst (λ rs. AllStand (g.R.Ring.modulus c.self.inside.ring) (g.R.Ring.value c.self.inside.ring) rs c.self.inside.standing.items) rows_is
          (AllStand-push (g.R.Ring.modulus c.self.inside.ring)
          (g.R.Ring.value c.self.inside.ring) c.self.inside.rows.items row c.self.inside.standing.items c.self.invariant.2),
    )

pub invariant_of-self-in_err-reserve-2 : goal.invariant_of-self-in_err-reserve-2
invariant_of-self-in_err-reserve-2 g c =
    let s = c.self.inside in (
      subst (λ ns. IsElimination (g.R.Ring.modulus s.ring) (g.R.Ring.has s.ring)
          (g.R.Ring.value s.ring) g.R.Ring.zero s.columns s.above ns c.reserve-2.new.self.items) (sym c.in_ok-reserve.ensures.items)
          (subst (λ rs. IsElimination (g.R.Ring.modulus s.ring) (g.R.Ring.has s.ring)
          (g.R.Ring.value s.ring) g.R.Ring.zero s.columns s.above s.numbers.items rs) (sym c.in_err-reserve-2.ensures.items) c.self.invariant.0),
      c.self.invariant.1,
      subst (λ rs. AllStand (g.R.Ring.modulus s.ring) (g.R.Ring.value s.ring) rs s.standing.items)
          (sym c.in_err-reserve-2.ensures.items) c.self.invariant.2,
    )

pub invariant_of-self-in_err-copy : goal.invariant_of-self-in_err-copy
invariant_of-self-in_err-copy g c =
    let s = c.self.inside in (
      subst (λ ns. IsElimination (g.R.Ring.modulus s.ring) (g.R.Ring.has s.ring)
          (g.R.Ring.value s.ring) g.R.Ring.zero s.columns s.above ns c.reserve-2.new.self.items) (sym c.in_ok-reserve.ensures.items)
          (subst (λ rs. IsElimination (g.R.Ring.modulus s.ring) (g.R.Ring.has s.ring)
          (g.R.Ring.value s.ring) g.R.Ring.zero s.columns s.above s.numbers.items rs) (sym c.in_ok-reserve-2.ensures.items) c.self.invariant.0),
      c.self.invariant.1,
      subst (λ rs. AllStand (g.R.Ring.modulus s.ring) (g.R.Ring.value s.ring) rs s.standing.items) (sym c.in_ok-reserve-2.ensures.items) c.self.invariant.2,
    )

pub returns-clause-elimination : goal.returns-clause-elimination
returns-clause-elimination g c =
    let s = c.args.self.now in
    let n = c.args.n in
    let row = c.args.row.now in
    let kept : IsElimination (g.R.Ring.modulus s.ring) (g.R.Ring.has s.ring) (g.R.Ring.value s.ring) g.R.Ring.zero s.columns s.above s.numbers s.rows =
    subst (λ s. IsElimination (g.R.Ring.modulus s.ring) (g.R.Ring.has s.ring)
    (g.R.Ring.value s.ring) g.R.Ring.zero s.columns s.above s.numbers s.rows) c.self.view_is c.self.invariant.0 in
    let numbers_is : s.numbers ++ n ∷ [] ≡ c.push_reserved.new.self.items =
    sym (c.push_reserved.ensures.items ∙ ap (λ xs. xs ++ n ∷ []) c.in_ok-reserve.ensures.items ∙ ap (λ s. s.numbers ++ n ∷ []) c.self.view_is) in
    let rows_is : s.rows ++ row ∷ [] ≡ c.push_reserved-2.new.self.items =
    sym (c.push_reserved-2.ensures.items ∙ (λ i. c.in_ok-reserve-2.ensures.items i ++ c.in_ok-copy.ensures.ok i ∷ [])
    ∙ ap (λ s. s.rows ++ row ∷ []) c.self.view_is) in
    subst (λ ns. IsElimination (g.R.Ring.modulus s.ring) (g.R.Ring.has s.ring) (g.R.Ring.value s.ring) g.R.Ring.zero s.columns
    (n + 1) ns c.push_reserved-2.new.self.items) numbers_is
    (subst (λ rs. IsElimination (g.R.Ring.modulus s.ring) (g.R.Ring.has s.ring) (g.R.Ring.value s.ring) g.R.Ring.zero s.columns (n + 1)
    (s.numbers ++ n ∷ []) rs) rows_is
    (IsElimination-push (g.R.Ring.modulus s.ring) (g.R.Ring.has s.ring)
    (g.R.Ring.value s.ring) g.R.Ring.zero s.columns s.above n s.numbers s.rows row kept c.requires.number c.requires.fits c.requires.one c.requires.clear))
