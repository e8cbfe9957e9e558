-- What a record of changes stands for, with one change more, and that what a read gives is an image.
use Rattle.std.proofs.Common.{◌≡◌, ◌⊎◌, inl, inr, ℕ, ◌+◌, ◌-◌, ◌<◌, ◌≤◌, Bool, true, false, leb, ltb, ◌||◌, ◌&&◌, List, [], ◌∷◌, ◌++◌, length, get_or, take, drop, refl, sym, ap, subst, ◌∙◌, arith, length-append, length-drop}
use Rattle.std.proofs.lemmas.List.{length-take-le, get_or-append_right, get_or-take, get_or-drop}
use Rattle.std.proofs.Math.ListN.{get_or-append}
use Rattle.std.proofs.lemmas.Bool.{cases_lt}
use Rattle.std.proofs.lemmas.Bool.Decides.{nat_tests}
use Rattle.outside_io.specs.Moments.{Moment, IsImage, is_open, overlaid, writing, settled}
use Rattle.outside_io.specs.Traces.{Trace, step}
use Rattle.outside_io.specs.declared.history.Change.{Change}
use Rattle.outside_io.specs.Inner.{after_change, replay_from, replay, IsKept}

from_push : (t : Trace) (cs : List Change) (c : Change) → replay_from t (cs ++ c ∷ []) ≡ step (after_change c) (replay_from t cs)
from_push t [] c = refl
from_push t (d ∷ cs) c = from_push (step (after_change d) t) cs c

pub replay_push : (start : List ℕ) (cs later : List Change) (c : Change) → later ≡ cs ++ c ∷ []
    → replay start later ≡ step (after_change c) (replay start cs)
replay_push start cs later c is = ap (replay start) is ∙ from_push (record { now = settled start; past = [] }) cs c

pub kept_push : (start : List ℕ) (cs later : List Change) (c : Change) (old : Trace) (next : List ℕ) → later ≡ cs ++ c ∷ [] → replay start cs ≡ old
    → next ≡ (after_change c old.now).contents → IsImage (after_change c old.now) next → IsKept (replay start later) next
kept_push start cs later c old next is view same image =
    let here : replay start later ≡ step (after_change c) old = replay_push start cs later c is ∙ ap (step (after_change c)) view in
    subst (λ (t : Trace). IsKept t next) (sym here) (record { same = same; image = image })

-- ---- images of a write

or_left : (a b : Bool) → a || b ≡ false → a ≡ false
or_left true b e = absurd cc
or_left false b e = refl

or_right : (a b : Bool) → a || b ≡ false → b ≡ false
or_right true b e = absurd cc
or_right false b e = e

pub broken_image : (m : Moment) (at n : ℕ) → IsImage m m.contents → IsImage (writing m at n m.contents) m.contents
broken_image m at n i = record { low = i.low; high = omega (arith, i.high); kept = λ k lt below shut. i.kept k lt below (or_right _ _ shut) }

length-overlaid : (old bytes : List ℕ) (at : ℕ) → at ≤ length old → length (overlaid old at bytes) ≡ at + length bytes + (length old - (at + length bytes))
length-overlaid old bytes at within =
    omega (
      arith,
      length-append (take at old ++ bytes) (drop (at + length bytes) old),
      length-append
          (take at old) bytes,
      length-take-le at old within,
      length-drop (at + length bytes) old,
    )

elsewhere : (old bytes : List ℕ) (at k : ℕ) → at ≤ length old → k < length old → (k < at) ⊎ (at + length bytes ≤ k)
    → get_or (overlaid old at bytes) k 0 ≡ get_or old k 0
elsewhere old bytes at k within below (inl before) =
    let front = length-take-le at old within in
    get_or-append (take at old ++ bytes) (drop (at + length bytes) old) 0 k (omega (arith, before, front, length-append (take at old) bytes))
    ∙ get_or-append (take at old) bytes 0 k (omega (arith, before, front)) ∙ get_or-take at old k 0 before
elsewhere old bytes at k within below (inr past) =
    let n = at + length bytes in
    let len : length (take at old ++ bytes) ≡ n = omega (arith, length-take-le at old within, length-append (take at old) bytes) in
    get_or-append_right (take at old ++ bytes) (drop n old) n k 0 len past ∙ get_or-drop n old (k - n) 0
    ∙ ap (λ (j : ℕ). get_or old j 0) (omega (arith, past))

outside : (at n k : ℕ) → (leb at k && ltb k (at + n)) ≡ false → (k < at) ⊎ (at + n ≤ k)
outside at n k shut = elim (cases_lt k at) [
  | inl before ↦ inl before
  | inr after ↦ elim (cases_lt k (at + n)) [
    | inl within ↦ absurd (opened after within)
    | inr past ↦ inr past
  ]
]
  where
    opened : at ≤ k → k < at + n → ⊥
    opened after within = grind (arith, nat_tests)

pub written_image : (m : Moment) (at : ℕ) (bytes : List ℕ) → at ≤ length m.contents → IsImage m m.contents
    → IsImage (writing m at (length bytes) (overlaid m.contents at bytes)) (overlaid m.contents at bytes)
written_image m at bytes within i =
    let len = length-overlaid m.contents bytes at within in
    let go : (k : ℕ) → k < length (overlaid m.contents at bytes) → k < length m.synced → (k < at) ⊎ (at + length bytes ≤ k)
    → is_open m.open_ranges k ≡ false → get_or (overlaid m.contents at bytes) k 0 ≡ get_or m.synced k 0 =
    λ k lt below out shut.
    let inside : k < length m.contents = elim out [ inl before ↦ omega (arith, before, within) | inr past ↦ omega (arith, past, lt, len) ] in
    elsewhere m.contents bytes at k within inside out ∙ i.kept k inside below shut in
    record {
      low = omega (arith, i.low, len);
      high = omega (arith, i.high, len);
      kept = λ k lt below shut. go k lt below (outside at (length bytes) k (or_left _ _ shut)) (or_right _ _ shut);
    }

pub written_next : (m : Moment) (at : ℕ) (bytes held next shown : List ℕ) → at ≤ length m.contents → shown ≡ m.contents → IsImage m shown → held ≡ bytes
    → next ≡ overlaid shown at bytes
    → IsImage (writing m at (length held) (overlaid m.contents at held)) next
written_next m at bytes held next shown within is image same made =
    let here = written_image m at held within (subst (IsImage m) is image) in
    subst (IsImage (writing m at (length held) (overlaid m.contents at held)))
    (sym (made ∙ ap (λ (l : List ℕ). overlaid l at bytes) is ∙ ap (overlaid m.contents at) (sym same))) here

-- a change that leaves the contents
pub kept_note : (start : List ℕ) (cs later : List Change) (c : Change) (old : Trace) (shown : List ℕ) → later ≡ cs ++ c ∷ [] → replay start cs ≡ old
    → IsKept (replay start cs) shown
    → old.now.contents ≡ (after_change c old.now).contents → (IsImage old.now old.now.contents → IsImage (after_change c old.now) old.now.contents)
    → IsKept (replay start later) shown
kept_note start cs later c old shown is view kept same image =
    let here : IsKept old shown = subst (λ (t : Trace). IsKept t shown) view kept in
    let before : IsImage old.now old.now.contents = subst (IsImage old.now) here.same here.image in
    kept_push start cs later c old shown is view (here.same ∙ same) (subst (IsImage (after_change c old.now)) (sym here.same) (image before))

pub kept_image : (t : Trace) (bytes : List ℕ) → IsKept t bytes → IsImage t.now t.now.contents
kept_image t bytes kept = subst (IsImage t.now) kept.same kept.image
