use Rattle.std.proofs.Common.{◌≡◌, ◌≢◌, ℕ, ◌+◌, ◌%◌, ◌<◌, [], length, get_or, set, inl, inr, sym, ◌∙◌, ap, subst, arith}
use Rattle.std.specs.List.{All}
use Rattle.std.proofs.lemmas.Bool.{cases_eq}
use Rattle.std.proofs.lemmas.List.{get_or_default, length-set, get_or-set_same, get_or-set_other}
use Rattle.linear_model.specs.Rows.{combination, SameRow}
use Rattle.sparse_rows.specs.Entries.{IsBelow}
use Rattle.row_sums.specs.Totals.{total_at}
use Rattle.echelon.specs.Lists.{row_at}
use Rattle.echelon.specs.Offers.{used_at}
use Rattle.table_build.proofs.totals.add_all_used.Goals as goal

pub add_used-requires-clause-below : goal.add_used-requires-clause-below
add_used-requires-clause-below g c = λ i l.
    let j = c.loop-j.j in
    let sums = c.loop-j.sums in
    let d = c.index-sums-j.result in
    let inside : j < length c.args.sums.now = omega (arith, c.loop-j-test.true, c.requires.as_many) in
    let here : length (get_or sums j d) ≡ length (get_or c.args.sums.now j []) =
    ap length (get_or_default sums j d [] (omega (arith, inside, c.loop-j.invariant.as_many))) ∙ c.loop-j.invariant.sizes j in
    subst (λ n. IsBelow (λ k. k) n (get_or c.args.combinations.now i [])) (sym here) (c.requires.below j inside i l)

pub loop-j-preserved : goal.loop-j-preserved
loop-j-preserved g c =
    let ring = c.args.ring.now in
    let m = g.R.Ring.modulus ring in
    let value = g.R.Ring.value ring in
    let total = g.R.Ring.total ring in
    let is_sum = g.R.Ring.is_sum ring in
    let j = c.loop-j.j in
    let old = c.args.sums.now in
    let sums = c.loop-j.sums in
    let new = c.add_used.new.sum in
    let n = length c.args.combinations.now in
    let rows = row_at value c.args.combinations.now in
    let numbers = c.args.numbers.now in
    let uses = c.args.uses.now in
    let within : j < length sums = omega (arith, c.loop-j-test.true, c.requires.as_many, c.loop-j.invariant.as_many) in
    let known : j < length uses = omega (arith, c.loop-j-test.true) in
    let here : get_or (set sums j new) j [] ≡ new = get_or-set_same sums j new [] within in
    let there : (k : ℕ) → k ≢ j → get_or (set sums j new) k [] ≡ get_or sums k [] = λ k ne. get_or-set_other sums j k new [] ne in
    let was : get_or sums j c.index-sums-j.result ≡ get_or old j [] =
    get_or_default sums j c.index-sums-j.result [] within ∙ c.loop-j.invariant.left j (omega arith) in
    let was_is : c.index-sums-j.result ≡ get_or old j [] = c.index-sums-j.is ∙ was in
    let uses_is : c.index-uses-j.result ≡ get_or uses j [] = c.index-uses-j.is ∙ get_or_default uses j c.index-uses-j.result [] known in
    record {
      as_many = length-set sums j new ∙ c.loop-j.invariant.as_many;
      sizes = λ k. elim (cases_eq k j) [
        | inl same ↦ ap (λ i. length (get_or (set sums j new) i [])) same ∙ ap length here ∙ c.add_used.ensures.len ∙ ap length was
            ∙ ap (λ i. length (get_or old i [])) (sym same)
        | inr ne ↦ ap length (there k ne) ∙ c.loop-j.invariant.sizes k
      ];
      are_sums = λ k l. elim (cases_eq k j) [
        | inl same ↦ subst (All is_sum) (sym (ap (λ i. get_or (set sums j new) i []) same ∙ here)) c.add_used.ensures.is_sum
        | inr ne ↦ subst (All is_sum) (sym (there k ne)) (c.loop-j.invariant.are_sums k (omega (arith, l, length-set sums j new)))
      ];
      added = λ k l. elim (cases_eq k j) [
        | inl same ↦ subst (λ i. SameRow m (total_at total (get_or (set sums j new) i [])) (λ q. total_at total (get_or old i []) q
            + combination n rows (used_at value numbers (get_or uses i [])) q)) (sym same)
            (λ q. ap (λ s. total_at total s q % m) here ∙ c.add_used.ensures.sum q
            ∙ (λ i. (total_at total (was i) q + combination n rows (used_at value numbers (uses_is i)) q) % m))
        | inr ne ↦ λ q. ap (λ s. total_at total s q % m) (there k ne) ∙ c.loop-j.invariant.added k (omega (arith, l, ne)) q
      ];
      left = λ k l. there k (λ same. omega (arith, same, l)) ∙ c.loop-j.invariant.left k (omega (arith, l));
    }
