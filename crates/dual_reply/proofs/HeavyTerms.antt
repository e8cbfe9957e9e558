-- The terms of weight at most 24, and the weight of the first other one.
use Rattle.std.proofs.Common.{◌≡◌, ℕ, ◌≤◌, Bool, true, false, cond, leb, Option, Some, None, List, [], ◌∷◌, ◌++◌, map, sum, refl, sym, ap, ◌∙◌}
use Rattle.std.specs.List.{AllByRecursion}
use Rattle.std.proofs.lemmas.Bool.{leb-true, leb-false, le-leb, lt-leb}
use Rattle.dual_reply.specs.Grammar.{Term}
use Rattle.dual_reply.specs.Sums.{signed_of}
use Rattle.dual_reply.specs.Refusals.{IsFirstHeavy}
use Rattle.dual_reply.specs.Inner.{earlier}
use Rattle.dual_reply.specs.declared.words.Signed.{Signed}

abbrev pub is_light : Term → Bool
is_light t = leb (sum t.index) 24

abbrev pub lights : List Term → List Signed
lights [] = []
lights (t ∷ ts) = cond (is_light t) (signed_of t ∷ lights ts) (lights ts)

abbrev pub heavies : Option ℕ → List Term → Option ℕ
heavies h [] = h
heavies h (t ∷ ts) = heavies (cond (is_light t) h (earlier h (sum t.index))) ts

abbrev pub AreLight : List Term → Type 0
AreLight ts = AllByRecursion (λ t. sum t.index ≤ 24) ts

pub lights_all : (ts : List Term) → AreLight ts → lights ts ≡ map signed_of ts
lights_all [] h = refl
lights_all (t ∷ ts) h = ap (λ b. cond b (signed_of t ∷ lights ts) (lights ts)) (le-leb (sum t.index) 24 h.0) ∙ ap (λ l. signed_of t ∷ l) (lights_all ts h.1)

heavies-some : (k : ℕ) (ts : List Term) → heavies (Some k) ts ≡ Some k
heavies-some k [] = refl
heavies-some k (t ∷ ts) = elim (is_light t) as (λ b. heavies (cond b (Some k) (Some k)) ts ≡ Some k) [ true ↦ heavies-some k ts | false ↦ heavies-some k ts ]

heavies-light : (front ts : List Term) → AreLight front → heavies None (front ++ ts) ≡ heavies None ts
heavies-light [] ts h = refl
heavies-light (t ∷ front) ts h =
    ap (λ b. heavies (cond b None (Some (sum t.index))) (front ++ ts)) (le-leb (sum t.index) 24 h.0) ∙ heavies-light front ts h.1

pub none_heavy : (ts : List Term) → AreLight ts → heavies None ts ≡ None
none_heavy [] h = refl
none_heavy (t ∷ ts) h = ap (λ b. heavies (cond b None (Some (sum t.index))) ts) (le-leb (sum t.index) 24 h.0) ∙ none_heavy ts h.1

pub first_heavy : (ts : List Term) (k : ℕ) → IsFirstHeavy ts k → heavies None ts ≡ Some k
first_heavy ts k h =
    let t = h.heavy in
    ap (heavies None) h.whole ∙ heavies-light h.front (t ∷ h.behind) h.light
    ∙ ap (λ b. heavies (cond b None (Some (sum t.index))) h.behind) (lt-leb (sum t.index) 24 h.over)
    ∙ heavies-some (sum t.index) h.behind ∙ ap Some (sym h.told)

-- what is known of some terms by what is told of their weights
abbrev pub Weighs : List Term → Option ℕ → Type 0
Weighs ts None = AreLight ts
Weighs ts (Some k) = IsFirstHeavy ts k

further : (t : Term) (ts : List Term) (h : Option ℕ) → sum t.index ≤ 24 → Weighs ts h → Weighs (t ∷ ts) h
further t ts None l w = (l, w)
further t ts (Some k) l w = record {
  front = t ∷ w.front;
  heavy = w.heavy;
  behind = w.behind;
  whole = ap (λ us. t ∷ us) w.whole;
  light = (l, w.light);
  over = w.over;
  told = w.told;
}

pub weighs : (ts : List Term) → Weighs ts (heavies None ts)
weighs [] = tt
weighs (t ∷ ts) =
    elim (is_light t) as (λ b. is_light t ≡ b → Weighs (t ∷ ts) (heavies (cond b None (Some (sum t.index))) ts)) [
      | true ↦ λ e. further t ts (heavies None ts) (leb-true (sum t.index) 24 e) (weighs ts)
      | false ↦ λ e. rw (heavies-some (sum t.index) ts) (record {
        front = [];
        heavy = t;
        behind = ts;
        whole = refl;
        light = tt;
        over = leb-false (sum t.index) 24 e;
        told = refl;
      })
    ]
    refl
