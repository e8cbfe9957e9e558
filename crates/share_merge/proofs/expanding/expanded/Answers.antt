use Rattle.std.proofs.Common.{◌≡◌, ◌*◌, ◌+◌, ◌%◌, ◌≤◌, ℕ, true, [], ◌∷◌, length, sym, ◌∙◌, subst, arith, All}
use Rattle.std.proofs.lemmas.List.{nil_from_length}
use Rattle.linear_model.specs.Rows.{SameRow}
use Rattle.sparse_rows.specs.Entries.{IsBelow, AllIn}
use Rattle.row_sums.specs.Totals.{total_at}
use Rattle.echelon.specs.Lists.{entries_of}
use Rattle.table_model.specs.ListedSpan.{count_of}
use Rattle.share_merge.specs.Turns.{turns_of, share_count}
use Rattle.share_merge.proofs.RowPlaces.{places_count}
use Rattle.share_merge.proofs.EntryBounds.{below_where_vanishing}
use Rattle.share_merge.proofs.TurnRows.{turn_combination_in, turn_combination_below}
use Rattle.share_merge.proofs.ExpandedTurns.{IsExpanding, expanding_start, expanding_next, expanding_done}
use Rattle.share_merge.proofs.expanding.expanded.Goals as goal

pub loop-turn-init : goal.loop-turn-init
loop-turn-init g c =
    let ring = c.args.table.now.ring in
    let list = c.args.shares.now in
    let told = c.in_ok-sum.ensures in
    let big : 3 ≤ g.R.Ring.modulus ring = g.met.R.Ring.modulus_from ring in
    let count = places_count g.R.Ring.modulus g.R.Ring.has g.R.Ring.value list (turns_of list) c.args.places.now c.requires.places in
    expanding_start (g.R.Ring.modulus ring) (g.R.Ring.has ring) (g.R.Ring.value ring) list (g.R.Ring.is_sum ring) (g.R.Ring.total ring) c.args.relations
    c.args.turns.now c.entries-rest.result.now c.in_ok-sum.sum c.entries-rest.ensures.entries c.requires.in_ring
    (below_where_vanishing (g.R.Ring.has ring) (g.R.Ring.value ring) g.R.Ring.zero (g.met.R.Ring.has_zero ring) (g.met.R.Ring.value_zero ring)
    (g.met.R.Ring.value_injective ring) (g.R.Ring.modulus ring) (length (turns_of list)) c.args.turns.now (omega (arith, big)) (g.met.R.Ring.value_below ring)
    c.entries-rest.ensures.row c.requires.in_ring (λ q l. c.requires.ends q (omega (arith, l, count))))
    (subst (λ r. All (g.R.Ring.is_sum r) c.in_ok-sum.sum) c.ring-ring.ensures told.all) told.len
    (subst (λ r. (q : ℕ) → total_at (g.R.Ring.total r) c.in_ok-sum.sum q ≡ 0) c.ring-ring.ensures told.zero)

pub combination_of-combination-requires-clause-inside : goal.combination_of-combination-requires-clause-inside
combination_of-combination-requires-clause-inside g c =
    let list = c.args.shares.now in
    let count = places_count g.R.Ring.modulus g.R.Ring.has g.R.Ring.value list (turns_of list) c.args.places.now c.requires.places in
    let below : IsBelow (λ k. k) (length (turns_of list)) (c.in-Some.turn.now ∷ c.in-Some.behind.now) =
    subst (IsBelow (λ k. k) (length (turns_of list))) c.in-Some.ensures.cases.0 c.loop-turn.invariant.below in
    omega (arith, below.0, count)

pub add-requires-clause-below : goal.add-requires-clause-below
add-requires-clause-below g c =
    let t = c.args.table.now in
    let list = c.args.shares.now in
    let count = places_count g.R.Ring.modulus g.R.Ring.has g.R.Ring.value list (turns_of list) c.args.places.now c.requires.places in
    let below : IsBelow (λ k. k) (length (turns_of list)) (c.in-Some.turn.now ∷ c.in-Some.behind.now) =
    subst (IsBelow (λ k. k) (length (turns_of list))) c.in-Some.ensures.cases.0 c.loop-turn.invariant.below in
    subst (λ n. IsBelow (λ k. k) n c.entries.result.now) (sym (c.loop-turn.invariant.len ∙ c.requires.count))
    (subst (IsBelow (λ k. k) (count_of t.columns)) (sym (c.entries.ensures.entries ∙ c.combination_of-combination.ensures))
    (turn_combination_below g.R.Ring.modulus g.R.Ring.has g.R.Ring.value t (share_count list) list c.args.places.now c.requires.shares c.requires.places
    c.in-Some.turn.now.0 (omega (arith, below.0, count))))

pub add-requires-clause-all : goal.add-requires-clause-all
add-requires-clause-all g c = subst (λ r. All (g.R.Ring.is_sum r) c.loop-turn.sum) (sym c.ring-ring.ensures) c.loop-turn.invariant.all

pub add-requires-clause-in_ring : goal.add-requires-clause-in_ring
add-requires-clause-in_ring g c =
    let t = c.args.table.now in
    let list = c.args.shares.now in
    let count = places_count g.R.Ring.modulus g.R.Ring.has g.R.Ring.value list (turns_of list) c.args.places.now c.requires.places in
    let below : IsBelow (λ k. k) (length (turns_of list)) (c.in-Some.turn.now ∷ c.in-Some.behind.now) =
    subst (IsBelow (λ k. k) (length (turns_of list))) c.in-Some.ensures.cases.0 c.loop-turn.invariant.below in
    subst (λ r. AllIn (g.R.Ring.has r) c.entries.result.now) (sym c.ring-ring.ensures)
    (subst (AllIn (g.R.Ring.has t.ring)) (sym (c.entries.ensures.entries ∙ c.combination_of-combination.ensures))
    (turn_combination_in g.R.Ring.modulus g.R.Ring.has g.R.Ring.value t (share_count list) list c.args.places.now c.requires.shares c.requires.places
    c.in-Some.turn.now.0 (omega (arith, below.0, count))))

pub add-requires-clause-has_c : goal.add-requires-clause-has_c
add-requires-clause-has_c g c =
    let t = c.args.table.now in
    let all : AllIn (g.R.Ring.has t.ring) (c.in-Some.turn.now ∷ c.in-Some.behind.now) =
    subst (AllIn (g.R.Ring.has t.ring)) c.in-Some.ensures.cases.0 c.loop-turn.invariant.in_ring in
    subst (λ r. g.R.Ring.has r c.in-Some.turn.now.1 ≡ true) (sym c.ring-ring.ensures) all.0

pub loop-turn-preserved : goal.loop-turn-preserved
loop-turn-preserved g c =
    let ring = c.args.table.now.ring in
    let list = c.args.shares.now in
    let m = g.R.Ring.modulus ring in
    let has = g.R.Ring.has ring in
    let value = g.R.Ring.value ring in
    let is_sum = g.R.Ring.is_sum ring in
    let total = g.R.Ring.total ring in
    let old = c.loop-turn.sum in
    let new = c.add.new.self in
    let pair = c.in-Some.turn.now in
    let rest = c.in-Some.behind.now in
    let added = c.entries.result.now in
    expanding_next m has value list is_sum total c.args.relations c.args.turns.now pair.0 pair.1 rest old new added
    (subst (λ es. IsExpanding m has value list is_sum total c.args.relations c.args.turns.now es old) c.in-Some.ensures.cases.0 c.loop-turn.invariant)
    (c.entries.ensures.entries ∙ c.combination_of-combination.ensures)
    (subst (λ r. All (g.R.Ring.is_sum r) new) c.ring-ring.ensures c.add.ensures.all) c.add.ensures.len
    (subst (λ r. SameRow (g.R.Ring.modulus r) (total_at (g.R.Ring.total r) new)
    (λ q. total_at (g.R.Ring.total r) old q + g.R.Ring.value r pair.1 * entries_of (g.R.Ring.value r) added q)) c.ring-ring.ensures c.add.ensures.sum)

pub returns : goal.returns
returns g c =
    let t = c.args.table.now in
    let ring = t.ring in
    let list = c.args.shares.now in
    let m = g.R.Ring.modulus ring in
    let has = g.R.Ring.has ring in
    let value = g.R.Ring.value ring in
    let zero = g.R.Ring.zero in
    let is_sum = g.R.Ring.is_sum ring in
    let total = g.R.Ring.total ring in
    let made = c.in_ok-made.made in
    let told = c.in_ok-made.ensures in
    let sums = c.loop-turn.sum in
    let big : 3 ≤ m = g.met.R.Ring.modulus_from ring in
    let none : c.loop-turn.rest.now ≡ [] = nil_from_length c.loop-turn.rest.now c.in_default.ensures.cases in
    expanding_done m has value list is_sum total c.args.relations c.args.turns.now zero t.columns sums made (omega (arith, big))
    (g.met.R.Ring.has_zero ring) (g.met.R.Ring.value_zero ring) (g.met.R.Ring.value_injective ring)
    (subst (λ es. IsExpanding m has value list is_sum total c.args.relations c.args.turns.now es sums) none c.loop-turn.invariant) c.requires.count
    told.row (subst (λ r. AllIn (g.R.Ring.has r) made) c.ring-ring.ensures told.in_ring)
    (subst (λ r. (q : ℕ) → entries_of (g.R.Ring.value r) made q ≡ total_at (g.R.Ring.total r) sums q % g.R.Ring.modulus r) c.ring-ring.ensures told.entries)
