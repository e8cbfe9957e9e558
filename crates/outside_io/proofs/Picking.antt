-- Which images a disk in memory may be left with.
use Rattle.std.proofs.Common.{◌≡◌, ℕ, ◌+◌, ◌<◌, ◌≤◌, List, [], ◌∷◌, ◌++◌, length, get_or, take, refl, sym, ap, subst, ◌∙◌, arith}
use Rattle.std.proofs.lemmas.List.{take_more}
use Rattle.outside_io.specs.Moments.{Moment, IsImage, settled}
use Rattle.outside_io.specs.Traces.{Trace, step}
use Rattle.outside_io.specs.Inner.{after_change, replay_from, replay}
use Rattle.outside_io.specs.declared.history.Change.{Change}
use Rattle.outside_io.specs.declared.history.Change.TheVariants as changes
use Rattle.outside_io.proofs.Keeping.{replay_push}

-- one change more of a list of changes
pub replay_next : (start : List ℕ) (cs : List Change) (i : ℕ) (c : Change) → i < length cs → c ≡ get_or cs i c
    → (replay start (take (i + 1) cs)).now ≡ after_change c (replay start (take i cs)).now
replay_next start cs i c lt is =
    let more : take (i + 1) cs ≡ take i cs ++ c ∷ [] = take_more cs i c lt ∙ ap (λ (x : Change). take i cs ++ x ∷ []) (sym is) in
    ap (λ (t : Trace). t.now) (replay_push start (take i cs) (take (i + 1) cs) c more)

-- the length at the last sync is one that an image may have
abbrev IsWithin : Moment → Type 0
IsWithin m = (m.low ≤ length m.synced) × (length m.synced ≤ m.high)

within_change : (c : Change) (m : Moment) → IsWithin m → IsWithin (after_change c m)
within_change (changes.Wrote at v) m h = (h.0, omega (arith, h.1))
within_change (changes.Broke at n) m h = (h.0, omega (arith, h.1))
within_change (changes.Cut n) m h = (omega (arith, h.0), h.1)
within_change (changes.BrokeOff n) m h = (omega (arith, h.0), h.1)
within_change changes.Synced m h = (omega arith, omega arith)

within_from : (t : Trace) (cs : List Change) → IsWithin t.now → IsWithin (replay_from t cs).now
within_from t [] h = h
within_from t (c ∷ cs) h = within_from (step (after_change c) t) cs (within_change c t.now h)

pub synced_image : (start : List ℕ) (cs : List Change) → IsImage (replay start cs).now (replay start cs).now.synced
synced_image start cs =
    let h = within_from (record { now = settled start; past = [] }) cs (omega arith, omega arith) in
    record { low = h.0; high = h.1; kept = λ i lt below shut. refl }

pub synced_seen : (start : List ℕ) (cs : List Change) (t : Trace) → replay start cs ≡ t → IsImage t.now t.now.synced
synced_seen start cs t is = subst (λ (u : Trace). IsImage u.now u.now.synced) is (synced_image start cs)
