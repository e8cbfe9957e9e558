-- One disk of many is used.
use Rattle.std.specs.Prelude.{◌≡◌, ◌⊎◌, ℕ, ◌+◌, ◌<◌, ◌≤◌, List, [], ◌∷◌, ◌++◌, length, take, drop, get_or, Option, Some, None, IfSome}
use Rattle.std.proofs.Common.{set, refl, sym, ap, subst, ◌∙◌, inl, inr, arith}
use Rattle.std.proofs.lemmas.Bool.{cases_order}
use Rattle.std.proofs.lemmas.List.{get_or-set_same, get_or-set_other, length-set, length-append, get_or_append_left, take_more, append-nil, append_assoc, length-take-le, take-append-drop}
use Rattle.std.proofs.Math.Seq.{get_or-append_seam}
use Rattle.outside_io.specs.Causes.{Rose}
use Rattle.outside_io.specs.Traces.{Trace}
use Rattle.merge_runs.specs.Disks.{NoneFell, AnyRose, AreTold}

-- counts are as they were
pub none_fell : (counts : List ℕ) → NoneFell counts counts
none_fell counts = record { count = refl; each = λ k l. omega arith }

pub none_fell_since : (a b c : List ℕ) → NoneFell a b → NoneFell b c → NoneFell a c
none_fell_since a b c x y = record {
  count = y.count ∙ x.count;
  each = λ k l. omega (arith, x.each k l, y.each k (omega (arith, x.count)));
}

-- one count is another, and not less
pub one_later : (counts : List ℕ) (k now : ℕ) → k < length counts → get_or counts k 0 ≤ now → NoneFell counts (set counts k now)
one_later counts k now inside later = record {
  count = length-set counts k now;
  each = λ j l. elim (cases_order j k) [
    | inl same ↦ subst (λ i. get_or counts i 0 ≤ get_or (set counts k now) i 0) (sym same)
        (subst (λ v. get_or counts k 0 ≤ v) (sym (get_or-set_same counts k now 0 inside)) later)
    | inr other ↦ subst (λ v. get_or counts j 0 ≤ v) (sym (get_or-set_other counts k j now 0 (differs j other))) (omega arith)
  ];
}
  where
    differs : (j : ℕ) → (j < k) ⊎ (k < j) → j ≡ k → ⊥
    differs j (inl l) e = omega arith
    differs j (inr l) e = omega arith

pub one_rose : (counts : List ℕ) (k now : ℕ) → k < length counts → Rose (get_or counts k 0) now → AnyRose counts (set counts k now)
one_rose counts k now inside rose = record {
  disk = k;
  is_disk = inside;
  rose = subst (Rose (get_or counts k 0)) (sym (get_or-set_same counts k now 0 inside)) rose;
}

-- a count that rose since then rose since an earlier time
pub rose_since : (a b c : List ℕ) → NoneFell a b → AnyRose b c → AnyRose a c
rose_since a b c fell rose =
    let inside : rose.disk < length a = omega (arith, rose.is_disk, fell.count) in
    record { disk = rose.disk; is_disk = inside; rose = omega (arith, rose.rose, fell.each rose.disk inside) }

-- and where it rose once it has risen
pub rose_before : (a b c : List ℕ) → AnyRose a b → NoneFell b c → NoneFell a b → AnyRose a c
rose_before a b c rose fell first =
    record { disk = rose.disk; is_disk = rose.is_disk; rose = omega (arith, rose.rose, fell.each rose.disk (omega (arith, rose.is_disk, first.count))) }

pub none_told : AreTold [] []
none_told = record { count = refl; each = λ k l. absurd (omega arith) }

pub no_disks : (told : List (Option Trace)) → AreTold (take 0 told) []
no_disks told = none_told

-- one file more
pub one_more_told : (told : List (Option Trace)) (files : List (List ℕ)) (one : Option Trace) (file : List ℕ) → AreTold told files
    → IfSome one (λ t. file ≡ t.now.contents) → AreTold (told ++ one ∷ []) (files ++ file ∷ [])
one_more_told told files one file are is = record {
  count = length-append files (file ∷ []) ∙ ap (λ n. n + 1) are.count ∙ sym (length-append told (one ∷ []));
  each = λ k l. elim (cases_order k (length told)) [
    | inl same ↦
        let first : get_or (told ++ one ∷ []) k None ≡ one = ap (λ i. get_or (told ++ one ∷ []) i None) same ∙ get_or-append_seam told one [] None in
        let second : get_or (files ++ file ∷ []) k [] ≡ file =
        ap (λ i. get_or (files ++ file ∷ []) i []) (same ∙ sym are.count) ∙ get_or-append_seam files file [] [] in
        moved one _ file _ (sym first) (sym second) is
    | inr o ↦ elim o [
      | inl less ↦
          moved _ _ _ _ (sym (get_or_append_left told (one ∷ []) None k less))
          (sym (get_or_append_left files (file ∷ []) [] k (omega (arith, less, are.count)))) (are.each k less)
      | inr more ↦ absurd (omega (arith, l, more, length-append told (one ∷ [])))
    ]
  ];
}
  where
    moved : (a b : Option Trace) (x y : List ℕ) → a ≡ b → x ≡ y → IfSome a (λ t. x ≡ t.now.contents) → IfSome b (λ t. y ≡ t.now.contents)
    moved a b x y e f h = subst (λ v. IfSome b (λ t. v ≡ t.now.contents)) f (subst (λ o. IfSome o (λ t. x ≡ t.now.contents)) e h)

pub next_told : (told : List (Option Trace)) (files : List (List ℕ)) (k : ℕ) (file : List ℕ) → k < length told → AreTold (take k told) files
    → IfSome (get_or told k None) (λ t. file ≡ t.now.contents) → AreTold (take (k + 1) told) (files ++ file ∷ [])
next_told told files k file inside are is =
    subst (λ ts. AreTold ts (files ++ file ∷ [])) (sym (take_more told k None inside)) (one_more_told (take k told) files (get_or told k None) file are is)

-- some bytes that a disk tells, where it tells
some_bytes : Option Trace → List ℕ
some_bytes None = []
some_bytes (Some t) = t.now.contents

some_are : (one : Option Trace) → IfSome one (λ t. some_bytes one ≡ t.now.contents)
unfolding some_bytes
some_are None = tt
some_are (Some t) = refl

-- files of the disks behind
pub rest_told : (told rest : List (Option Trace)) (files : List (List ℕ)) → AreTold told files
    → (behind : List (List ℕ)) × AreTold (told ++ rest) (files ++ behind)
rest_told told [] files are =
    ([], subst (λ ts. AreTold ts (files ++ [])) (sym (append-nil told)) (subst (λ fs. AreTold told fs) (sym (append-nil files)) are))
rest_told told (one ∷ rest) files are =
    let file : List ℕ = some_bytes one in
    let later = rest_told (told ++ one ∷ []) rest (files ++ file ∷ []) (one_more_told told files one file are (some_are one)) in (
      file ∷ later.0,
      subst (λ ts. AreTold ts (files ++ file ∷ later.0)) (append_assoc told (one ∷ []) rest)
          (subst (λ fs. AreTold ((told ++ one ∷ []) ++ rest) fs) (append_assoc files (file ∷ []) later.0) later.1),
    )

-- so are files of all disks, where those of the first are known
pub all_told : (told : List (Option Trace)) (k : ℕ) (front : List (List ℕ)) (file : List ℕ) → k < length told → AreTold (take k told) front
    → IfSome (get_or told k None) (λ t. file ≡ t.now.contents)
    → (length front ≡ k) × (behind : List (List ℕ)) × AreTold told (front ++ file ∷ behind)
all_told told k front file inside are is =
    let rest = rest_told (take (k + 1) told) (drop (k + 1) told) (front ++ file ∷ []) (next_told told front k file inside are is) in (
      are.count ∙ length-take-le k told (omega (arith, inside)),
      rest.0,
      subst (λ ts. AreTold ts (front ++ file ∷ rest.0)) (take-append-drop (k + 1) told)
          (subst (λ fs. AreTold (take (k + 1) told ++ drop (k + 1) told) fs) (append_assoc front (file ∷ []) rest.0) rest.1),
    )
