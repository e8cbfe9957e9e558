use Rattle.std.proofs.Common.{◌≡◌, ℕ, ◌+◌, ◌<◌, [], List, length, get_or, ◌∙◌, subst, arith}
use Rattle.outside_io.specs.Traces.{Trace}
use Rattle.zeta_model.proofs.ModularLemmas.{same-add_right}
use Rattle.linear_model.specs.Rows.{combination, SameRow}
use Rattle.page_codec.specs.declared.page.Page.{Page}
use Rattle.page_file.specs.Files.{IsSealed}
use Rattle.echelon.specs.Lists.{row_at}
use Rattle.echelon.specs.Offers.{used_at}
use Rattle.table_build.specs.Inner.{sealed_combination}
use Rattle.table_build.proofs.SealSteps.{told_one}
use Rattle.table_build.proofs.SealedSums.{AreCombined}
use Rattle.table_build.proofs.sealing.combinations_of.Goals as goal

pub returns-in-Ok-added_in_turn-clause-told : goal.returns-in-Ok-added_in_turn-clause-told
returns-in-Ok-added_in_turn-clause-told g c =
    let ring = c.args.ring.now in
    let m = g.R.Ring.modulus ring in
    let value = g.R.Ring.value ring in
    let sealed = c.args.sealed.now.numbers.items in
    let numbers = c.args.numbers.now in
    let uses = c.args.uses.now in
    let starts = c.args.starts.items in
    let sums = c.in-Ok.sums.items in
    let made = c.in-Ok-added_in_turn.made.items in
    let sums_are : c.deref.result.now ≡ sums = c.deref.ensures.value in
    let counted : length starts ≡ length numbers = c.requires.sums.starts_count in
    let made_count : length sums ≡ length starts = c.in-Ok.ensures.count.starts_count in
    let turn : (j : ℕ) → j < length sums → SameRow m (row_at value made j)
    (λ q. row_at value sums j q + combination j (row_at value made) (used_at value numbers (get_or uses j [])) q) =
    subst (λ (xs : List (List (ℕ × g.row.R-Elem.Denot))). (j : ℕ) → j < length xs → SameRow m (row_at value made j)
    (λ q. row_at value xs j q + combination j (row_at value made) (used_at value numbers (get_or uses j [])) q)) sums_are c.in-Ok-added_in_turn.ensures.sums in
    let First : Trace → Type 0 = λ t. (pages : List Page) → IsSealed pages t.now.contents → (j : ℕ) → j < length starts → SameRow m (row_at value sums j)
    (λ q. row_at value starts j q + combination (length sealed) (λ i. sealed_combination pages (get_or sealed i 0))
    (used_at value sealed (get_or uses j [])) q) in
    told_one First (λ t. (pages : List Page) → IsSealed pages t.now.contents → AreCombined m value sealed numbers uses starts made pages)
    (g.D.Disk.trace c.args.disk.now)
    (λ t first pages sealed_pages j l q.
    turn j (omega (arith, l, counted, made_count)) q
    ∙ same-add_right m (row_at value sums j q)
    (row_at value starts j q + combination (length sealed) (λ i. sealed_combination pages (get_or sealed i 0)) (used_at value sealed (get_or uses j [])) q)
    (combination j (row_at value made) (used_at value numbers (get_or uses j [])) q) (first pages sealed_pages j (omega (arith, l, counted)) q))
    c.in-Ok.ensures.told
