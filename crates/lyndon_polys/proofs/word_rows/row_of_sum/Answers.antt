use Rattle.std.proofs.Common.{◌≡◌, ◌+◌, ◌*◌, ◌%◌, ◌++◌, true, length, take, drop, sym, ◌∙◌, ap, subst, arith}
use Rattle.std.specs.Prelude.{All, Contains}
use Rattle.std.specs.Map.{keys_of}
use Rattle.zeta_model.specs.Sums.{single}
use Rattle.linear_model.specs.Rows.{SameRow}
use Rattle.word_sums.specs.Terms.{AllIn as AllTermsIn}
use Rattle.lyndon_polys.specs.Tables.{entries_of}
use Rattle.lyndon_polys.specs.Inner.{numbers_of, IsRowOf}
use Rattle.lyndon_polys.proofs.Summing.{written, ok_from, Summing, Summing-start, Summing-next, Summing-end, next_in, next_known, row_is}
use Rattle.lyndon_polys.proofs.word_rows.row_of_sum.Goals as goal

pub loop-word-init : goal.loop-word-init
loop-word-init g c =
    let ring = c.args.ring.now in
    let has = g.R.Ring.has ring in
    let value = g.R.Ring.value ring in
    let all = sym (c.into_iter-word-iterator.ensures.into_iter_gives ∙ c.iter-word-items.ensures.rest) in
    Summing-start (g.R.Ring.modulus ring) (value c.args.scale) has value (g.R.Ring.is_sum ring) (g.R.Ring.total ring) c.args.columns.now c.args.rows.now
    c.args.start.now c.into_iter-word-iterator.result c.in_ok-sums.sums.items c.one-coefficient.result
    (omega (arith, c.in_ok-sums.ensures.len, c.len.ensures.length)) c.in_ok-sums.ensures.all
    (subst (λ a. has a ≡ true) (sym c.one-coefficient.ensures) (g.met.R.Ring.has_one ring)) (ap value c.one-coefficient.ensures ∙ g.met.R.Ring.value_one ring)
    c.requires.start_below c.requires.start_in_ring (subst (AllTermsIn has) all c.requires.sum_in_ring)
    (subst (λ es. All (Contains (keys_of c.args.rows.now)) (keys_of es)) all c.requires.known) c.in_ok-sums.ensures.zero

pub unreachable-requires : goal.unreachable-requires
unreachable-requires g c =
    c.in-None-find.ensures.none (next_known _ _ _ _ _ _ _ _ _ _ _ _ _ c.loop-word.word-iterator c.next.new.self c.in-Some.word.now c.in-Some.residue.now
    c.in-Some.ensures.steps c.loop-word.invariant)

pub mul-coefficient-requires-clause-has_b : goal.mul-coefficient-requires-clause-has_b
mul-coefficient-requires-clause-has_b g c =
    next_in _ _ _ _ _ _ _ _ _ _ _ _ _ c.loop-word.word-iterator c.next.new.self c.in-Some.word.now c.in-Some.residue.now
    c.in-Some.ensures.steps c.loop-word.invariant

pub loop-word-preserved : goal.loop-word-preserved
loop-word-preserved g c =
    let ring = c.args.ring.now in
    let m = g.R.Ring.modulus ring in
    let has = g.R.Ring.has ring in
    let value = g.R.Ring.value ring in
    let total = g.R.Ring.total ring in
    let columns = c.args.columns.now in
    let rows = c.args.rows.now in
    let start = c.args.start.now in
    let iter = c.into_iter-word-iterator.result in
    let before = c.loop-word.word-iterator in
    let rest = c.next.new.self in
    let w = c.in-Some.word.now in
    let a = c.in-Some.residue.now in
    let row = c.entries-waiting.result.now in
    let coefficient = c.loop-word.coefficient in
    let waiting = c.loop-word.waiting.now in
    let items = c.loop-word.sums.items in
    let new = c.add_entries.new.sums in
    let same_len : length new ≡ length items = c.add_entries.ensures.len ∙ ap length c.deref_mut.ensures.value in
    let back : take c.loop-word.sums.len (new ++ drop (length new) items) ≡ new =
    written c.loop-word.sums.len new items (sym c.deref_mut.ensures.len ∙ ap length c.deref_mut.ensures.value) same_len in
    let a_in : has a ≡ true = next_in _ _ _ _ _ _ _ _ _ _ _ _ _ before rest w a c.in-Some.ensures.steps c.loop-word.invariant in
    let x_in : has c.mul-coefficient.result ≡ true =
    subst (λ b. has b ≡ true) (sym c.mul-coefficient.ensures) (g.met.R.Ring.has_mul ring c.args.scale a c.requires.has_scale a_in) in
    let of_word : IsRowOf m has value columns (single w) row =
    subst (IsRowOf m has value columns (single w)) (sym c.entries-waiting.ensures.entries)
    (row_is _ _ _ _ _ _ _ _ _ _ _ _ _ before rest w a c.in-Some.ensures.steps c.loop-word.invariant c.requires.rows c.in-Some-find.row.now
    c.in-Some-find.ensures.some) in
    let gives : SameRow m (numbers_of total new) (λ q. numbers_of total items q + value coefficient * entries_of value waiting q) =
    λ q. c.add_entries.ensures.sum q
    ∙ ap (λ xs. (numbers_of total xs q + value coefficient * entries_of value waiting q) % m) c.deref_mut.ensures.value in
    subst (λ xs. Summing m (value c.args.scale) has value (g.R.Ring.is_sum ring) total columns rows start iter xs c.mul-coefficient.result row rest) (sym back)
    (Summing-next _ _ _ _ _ _ _ _ _ _ items coefficient waiting before rest w a c.in-Some.ensures.steps c.loop-word.invariant
    c.mul-coefficient.result row new x_in
    (ap value c.mul-coefficient.ensures ∙ g.met.R.Ring.value_mul ring c.args.scale a c.requires.has_scale a_in) of_word same_len
    c.add_entries.ensures.all gives)

pub returns : goal.returns
returns g c =
    let ring = c.args.ring.now in
    let m = g.R.Ring.modulus ring in
    let has = g.R.Ring.has ring in
    let value = g.R.Ring.value ring in
    let is_sum = g.R.Ring.is_sum ring in
    let total = g.R.Ring.total ring in
    let columns = c.args.columns.now in
    let rows = c.args.rows.now in
    let start = c.args.start.now in
    let k = value c.args.scale in
    let rest = c.loop-word.word-iterator in
    let coefficient = c.loop-word.coefficient in
    let waiting = c.loop-word.waiting.now in
    let items = c.loop-word.sums.items in
    let new = c.add_entries-2.new.sums in
    let same_len : length new ≡ length items = c.add_entries-2.ensures.len ∙ ap length c.deref_mut-2.ensures.value in
    let back : take c.loop-word.sums.len (new ++ drop (length new) items) ≡ new =
    written c.loop-word.sums.len new items (sym c.deref_mut-2.ensures.len ∙ ap length c.deref_mut-2.ensures.value) same_len in
    let closed : c.deref.result.now ≡ new = c.deref.ensures.value ∙ back in
    let gives : SameRow m (numbers_of total c.deref.result.now) (λ q. numbers_of total items q + value coefficient * entries_of value waiting q) =
    λ q. ap (λ xs. numbers_of total xs q % m) closed ∙ c.add_entries-2.ensures.sum q
    ∙ ap (λ xs. (numbers_of total xs q + value coefficient * entries_of value waiting q) % m) c.deref_mut-2.ensures.value in
    let kept : Summing m k has value is_sum total columns rows start c.args.sum.now items coefficient waiting rest =
    subst (λ whole. Summing m k has value is_sum total columns rows start whole items coefficient waiting rest)
    (c.into_iter-word-iterator.ensures.into_iter_gives ∙ c.iter-word-items.ensures.rest) c.loop-word.invariant in
    record {
      row = ok_from _ _ _ _
          (λ row below in_ring entries s h.
          Summing-end _ _ _ _ _ _ _ _ _ _ items coefficient waiting rest c.deref.result.now row c.in-None.ensures.steps.0 kept
          (ap length closed ∙ same_len) gives below in_ring entries s h)
          c.gathered.result c.gathered.ensures.below c.gathered.ensures.in_ring c.gathered.ensures.entries;
    }
