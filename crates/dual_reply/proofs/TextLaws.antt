-- The text of a sum determines its entries, and begins with a digit.
use Rattle.std.proofs.Common.{◌≡◌, ℕ, ◌+◌, ◌%◌, ◌^◌, ◌<◌, ◌≤◌, true, false, List, [], ◌∷◌, ◌++◌, length, map, refl, sym, ap, subst, ◌∙◌, append_assoc, arith}
use Rattle.std.specs.Prelude.{codes}
use Rattle.std.specs.List.{AllByRecursion, join_with_byte}
use Rattle.std.specs.Fmt.{decimal}
use Rattle.std.proofs.lemmas.Fmt.{decimal_by_steps, decimal_injective, decimal_nonempty}
use Rattle.std.proofs.lemmas.Bool.{le-leb}
use Rattle.zeta_model.specs.declared.Letter.{Letter}
use Rattle.zeta_model.specs.declared.Letter.TheVariants.{X, Y}
use Rattle.zeta_model.specs.Words.{ends_with_y}
use Rattle.zeta_model.specs.Indices.{index_from, index_of, word_text}
use Rattle.word_letters.proofs.IndexLemmas.{has_index-ends, word_text-injective}
use Rattle.line_tokens.proofs.MarkLemmas.{true-and}
use Rattle.dual_reply.specs.Listing.{Entry}
use Rattle.dual_reply.specs.Refusals.{begins_with_digit}
use Rattle.dual_reply.specs.Reply.{entry_text, sum_text, refusal_text}
use Rattle.dual_reply.specs.declared.refusal.Refusal.{Refusal}
use Rattle.dual_reply.specs.declared.refusal.Refusal.TheVariants.{LineTooLong, Syntax, NotAdmissible, WeightIs}
use Rattle.dual_reply.proofs.TextLemmas.{behind_text, join-cons}

-- the byte stands nowhere in the text
abbrev pub IsFree : ℕ → List ℕ → Type 0
IsFree c xs = AllByRecursion (λ b. b ≡ c → ⊥) xs

all_append : {X : Type 0} (P : X → Type 0) (xs ys : List X) → AllByRecursion P xs → AllByRecursion P ys → AllByRecursion P (xs ++ ys)
all_append P [] ys h k = k
all_append P (x ∷ xs) ys h k = (h.0, all_append P xs ys h.1 k)

all_weaker : {X : Type 0} (P Q : X → Type 0) → ((x : X) → P x → Q x) → (xs : List X) → AllByRecursion P xs → AllByRecursion Q xs
all_weaker P Q f [] h = tt
all_weaker P Q f (x ∷ xs) h = (f x h.0, all_weaker P Q f xs h.1)

-- texts that end at the byte are cut there
cut : (c : ℕ) (xs ys a b : List ℕ) → IsFree c xs → IsFree c ys → xs ++ c ∷ a ≡ ys ++ c ∷ b → (xs ≡ ys) × (a ≡ b)
cut c [] [] a b h k e = (refl, cc)
cut c [] (y ∷ ys) a b h k e = absurd (k.0 cc)
cut c (x ∷ xs) [] a b h k e = absurd (h.0 cc)
cut c (x ∷ xs) (y ∷ ys) a b h k e =
    let t : xs ++ c ∷ a ≡ ys ++ c ∷ b = cc in
    let r = cut c xs ys a b h.1 k.1 t in
    let s : x ≡ y = cc in
    (λ i. s i ∷ r.0 i, r.1)

never : (c : ℕ) (xs ys b : List ℕ) → IsFree c xs → xs ≡ ys ++ c ∷ b → ⊥
never c [] [] b h e = cc
never c [] (y ∷ ys) b h e = cc
never c (x ∷ xs) [] b h e = h.0 cc
never c (x ∷ xs) (y ∷ ys) b h e = let t : xs ≡ ys ++ c ∷ b = cc in never c xs ys b h.1 t

join_same : (c : ℕ) (x y : List ℕ) (xs ys : List (List ℕ)) → AllByRecursion (IsFree c) (x ∷ xs) → AllByRecursion (IsFree c) (y ∷ ys)
    → join_with_byte c (x ∷ xs) ≡ join_with_byte c (y ∷ ys) → x ∷ xs ≡ y ∷ ys
join_same c x y [] [] h k e = ap (λ z. z ∷ []) e
join_same c x y [] (z ∷ ys) h k e = absurd (never c x y (join_with_byte c (z ∷ ys)) h.0 e)
join_same c x y (z ∷ xs) [] h k e = absurd (never c y x (join_with_byte c (z ∷ xs)) k.0 (sym e))
join_same c x y (z ∷ xs) (z' ∷ ys) h k e =
    let r = cut c x y (join_with_byte c (z ∷ xs)) (join_with_byte c (z' ∷ ys)) h.0 k.0 e in
    let s = join_same c z z' xs ys h.1 k.1 r.1 in
    λ i. r.0 i ∷ s i

join_free : (c d : ℕ) (xs : List (List ℕ)) → (c ≡ d → ⊥) → AllByRecursion (IsFree d) xs → IsFree d (join_with_byte c xs)
join_free c d [] n h = tt
join_free c d (x ∷ []) n h = h.0
join_free c d (x ∷ y ∷ xs) n h = all_append (λ b. b ≡ d → ⊥) x (c ∷ join_with_byte c (y ∷ xs)) h.0 (n, join_free c d (y ∷ xs) n h.1)

abbrev IsDigit : ℕ → Type 0
IsDigit b = (48 ≤ b) × (b ≤ 57)

decimal_digits : (n : ℕ) → n < 2 ^ 64 → AllByRecursion IsDigit (decimal n)
decimal_digits n h = decimal_by_steps (λ n ds. AllByRecursion IsDigit ds)
    (λ n l. ((omega arith, omega arith), tt))
    (λ n ds l k. all_append IsDigit ds ((48 + n % 10) ∷ []) k ((omega arith, omega arith), tt))
    n h

digits_free : (c : ℕ) → (IsDigit c → ⊥) → (xs : List ℕ) → AllByRecursion IsDigit xs → IsFree c xs
digits_free c n xs h = all_weaker IsDigit (λ b. b ≡ c → ⊥) (λ b d e. n (subst IsDigit e d)) xs h

abbrev AreSmall : List ℕ → Type 0
AreSmall ks = AllByRecursion (λ k. k < 2 ^ 64) ks

parts_free : (c : ℕ) → (IsDigit c → ⊥) → (ks : List ℕ) → AreSmall ks → AllByRecursion (IsFree c) (map decimal ks)
parts_free c n [] h = tt
parts_free c n (k ∷ ks) h = (digits_free c n (decimal k) (decimal_digits k h.0), parts_free c n ks h.1)

parts_small : (k : ℕ) (w : List Letter) → k + length w < 2 ^ 64 → 1 + length w < 2 ^ 64 → AreSmall (index_from k w)
parts_small k [] h l = tt
parts_small k (X ∷ w) h l = parts_small (k + 1) w (omega arith) (omega arith)
parts_small k (Y ∷ w) h l = (omega arith, parts_small 1 w (omega arith) (omega arith))

-- an entry that is printed
pub record IsPrinted (e : Entry) : Type 0 where
  pub residue : e.1 < 2 ^ 63
  pub ends : ends_with_y e.0 ≡ true
  pub light : length e.0 ≤ 24

no_digit : (c : ℕ) → (c < 48) → IsDigit c → ⊥
no_digit c h d = absurd (omega arith)

word_free : (w : List Letter) → length w ≤ 24 → IsFree 43 (word_text w)
word_free w l =
    let s = parts_small 1 w (omega arith) (omega arith) in
    let j = join_free 44 43 (map decimal (index_of w)) (λ h. cc) (parts_free 43 (no_digit 43 (omega arith)) (index_of w) s) in
    (λ h. cc, ((λ h. cc), all_append (λ b. b ≡ 43 → ⊥) (join_with_byte 44 (map decimal (index_of w))) (41 ∷ []) j ((λ h. cc), tt)))

entry_free : (e : Entry) → IsPrinted e → IsFree 43 (entry_text e)
entry_free e p =
    let r = p.residue in
    let d = digits_free 43 (no_digit 43 (omega arith)) (decimal e.1) (decimal_digits e.1 (omega arith)) in
    all_append (λ b. b ≡ 43 → ⊥) (decimal e.1) (42 ∷ word_text e.0) d ((λ h. cc), word_free e.0 p.light)

entries_free : (es : List Entry) → AllByRecursion IsPrinted es → AllByRecursion (IsFree 43) (map entry_text es)
entries_free [] h = tt
entries_free (e ∷ es) h = (entry_free e h.0, entries_free es h.1)

entry_same : (e f : Entry) → IsPrinted e → IsPrinted f → entry_text e ≡ entry_text f → e ≡ f
entry_same e f p q h =
    let r = p.residue in
    let s = q.residue in
    let d = digits_free 42 (no_digit 42 (omega arith)) (decimal e.1) (decimal_digits e.1 (omega arith)) in
    let g = digits_free 42 (no_digit 42 (omega arith)) (decimal f.1) (decimal_digits f.1 (omega arith)) in
    let c = cut 42 (decimal e.1) (decimal f.1) (word_text e.0) (word_text f.0) d g h in
    let a = decimal_injective e.1 f.1 (omega arith) (omega arith) c.0 in
    let b = word_text-injective e.0 f.0 p.light q.light (has_index-ends e.0 p.ends) (has_index-ends f.0 q.ends) c.1 in
    λ i. (b i, a i)

entries_same : (es fs : List Entry) → AllByRecursion IsPrinted es → AllByRecursion IsPrinted fs → map entry_text es ≡ map entry_text fs → es ≡ fs
entries_same [] [] h k e = refl
entries_same [] (f ∷ fs) h k e = cc
entries_same (e ∷ es) [] h k q = cc
entries_same (e ∷ es) (f ∷ fs) h k q =
    let s : entry_text e ≡ entry_text f = cc in
    let t : map entry_text es ≡ map entry_text fs = cc in
    let u = entry_same e f h.0 k.0 s in
    let v = entries_same es fs h.1 k.1 t in
    λ i. u i ∷ v i

-- a star stands in the text of some entries
starred : (e : Entry) (es : List Entry) → sum_text (e ∷ es) ≡ decimal e.1 ++ 42 ∷ (word_text e.0 ++ behind_text 43 (map entry_text es))
starred e es = join-cons 43 (entry_text e) (map entry_text es) ∙ append_assoc (decimal e.1) (42 ∷ word_text e.0) (behind_text 43 (map entry_text es))

-- a text without a star is that of no entry
no_star : (xs : List ℕ) (e : Entry) (es : List Entry) → IsFree 42 xs → xs ≡ sum_text (e ∷ es) → ⊥
no_star xs e es h q = never 42 xs (decimal e.1) (word_text e.0 ++ behind_text 43 (map entry_text es)) h (q ∙ starred e es)

zero_free : IsFree 42 (codes "0")
zero_free = ((λ h. absurd (omega arith)), tt)

none_is_none : (f : Entry) (fs : List Entry) → codes "0" ≡ sum_text (f ∷ fs) → ⊥
none_is_none f fs e = no_star (codes "0") f fs zero_free e

some_are_same : (e f : Entry) (es fs : List Entry) → AllByRecursion IsPrinted (e ∷ es) → AllByRecursion IsPrinted (f ∷ fs)
    → sum_text (e ∷ es) ≡ sum_text (f ∷ fs) → e ∷ es ≡ f ∷ fs
some_are_same e f es fs h k q =
    entries_same (e ∷ es) (f ∷ fs) h k
    (join_same 43 (entry_text e) (entry_text f) (map entry_text es) (map entry_text fs) (entries_free (e ∷ es) h) (entries_free (f ∷ fs) k) q)

pub sum_text-injective : (es fs : List Entry) → AllByRecursion IsPrinted es → AllByRecursion IsPrinted fs → sum_text es ≡ sum_text fs → es ≡ fs
sum_text-injective [] [] h k e = refl
sum_text-injective [] (f ∷ fs) h k e = absurd (none_is_none f fs e)
sum_text-injective (e ∷ es) [] h k q = absurd (none_is_none e es (sym q))
sum_text-injective (e ∷ es) (f ∷ fs) h k q = some_are_same e f es fs h k q

-- the text of a sum begins with a digit, and that of no refusal does
digits_first : (xs ys : List ℕ) → AllByRecursion IsDigit xs → 0 < length xs → begins_with_digit (xs ++ ys) ≡ true
digits_first [] ys h l = absurd (omega arith)
digits_first (x ∷ xs) ys h l = true-and _ _ (le-leb 48 x h.0.0) (le-leb x 57 h.0.1)

pub sum_text-digit : (es : List Entry) → AllByRecursion IsPrinted es → begins_with_digit (sum_text es) ≡ true
sum_text-digit [] h = refl
sum_text-digit (e ∷ es) h =
    let r = h.0.residue in
    ap begins_with_digit (starred e es)
    ∙ digits_first (decimal e.1) (42 ∷ (word_text e.0 ++ behind_text 43 (map entry_text es))) (decimal_digits e.1 (omega arith))
    (decimal_nonempty e.1 (omega arith))

pub refusal_text-letter : (refusal : Refusal) → begins_with_digit (refusal_text refusal) ≡ false
refusal_text-letter LineTooLong = refl
refusal_text-letter (Syntax at) = refl
refusal_text-letter (NotAdmissible at) = refl
refusal_text-letter (WeightIs weight) = refl
