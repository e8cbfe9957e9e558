-- Bytes of a disk that were read into a buffer, piece by piece.
use Rattle.std.proofs.Common.{◌≡◌, ℕ, ◌+◌, ◌-◌, ◌≤◌, List, ◌++◌, length, take, drop, Option, Some, None, sym, ap, subst, ◌∙◌, arith, length-drop}
use Rattle.std.specs.Prelude.{IfSome}
use Rattle.std.proofs.Math.Seq.{take-add, take-append-add}
use Rattle.std.proofs.lemmas.List.{drop-drop, drop-take, length-take-le, take-append-le}
use borrow.Rule.Slice.PartMut.{put_mid, post_of, mid_of, same_len_mid}
use Rattle.outside_io.specs.Traces.{Trace}
use Rattle.page_file.specs.Puts.{StandsAt}

pub length-put_mid : (xs ys : List ℕ) (a k : ℕ) → a ≤ length xs → length ys ≡ length (mid_of a k xs) → length (put_mid a k xs ys) ≡ length xs
length-put_mid xs ys a k within same = same_len_mid a k xs ys same

-- the first a bytes are there, and then n more
pub filled : (xs ys contents : List ℕ) (a k n at : ℕ) → a ≤ length xs → n ≤ length ys → take a xs ≡ take a (drop at contents)
    → take n ys ≡ take n (drop (at + a) contents) → take (a + n) (put_mid a k xs ys) ≡ take (a + n) (drop at contents)
filled xs ys contents a k n at within few first next =
    let behind : List ℕ = ys ++ post_of a k xs in
    let len : length (take a xs) ≡ a = length-take-le a xs within in
    ap (λ (m : ℕ). take (m + n) (take a xs ++ behind)) (sym len) ∙ take-append-add (take a xs) behind n
    ∙ (λ i. first i ++ (take-append-le n ys (post_of a k xs) few ∙ next ∙ ap (take n) (sym (drop-drop a at contents))) i)
    ∙ sym (take-add a n (drop at contents))

pub filled_told : (first now : Option Trace) (xs ys : List ℕ) (a k n at : ℕ) → now ≡ first → a ≤ length xs → n ≤ length ys
    → IfSome first (λ t. take a xs ≡ take a (drop at t.now.contents)) → IfSome now (λ t. take n ys ≡ take n (drop (at + a) t.now.contents))
    → IfSome first (λ t. take (a + n) (put_mid a k xs ys) ≡ take (a + n) (drop at t.now.contents))
filled_told None now xs ys a k n at same within few so_far next = tt
filled_told (Some t) now xs ys a k n at same within few so_far next =
    filled xs ys t.now.contents a k n at within few so_far (subst (λ (u : Option Trace). IfSome u (λ t. take n ys ≡ take n (drop (at + a) t.now.contents))) same next)

-- the first bytes of a window are left out
pub passed : (xs : List ℕ) (from to n : ℕ) → from ≤ to → to ≤ length xs → n ≤ length (take (to - from) (drop from xs))
    → take (to - (from + n)) (drop (from + n) xs) ≡ drop n (take (to - from) (drop from xs))
passed xs from to n order within few =
    let len : length (take (to - from) (drop from xs)) ≡ to - from = length-take-le (to - from) (drop from xs) (omega (arith, length-drop from xs)) in
    let parts : to - from ≡ n + (to - (from + n)) = omega (arith, len) in
    sym (ap (λ (m : ℕ). drop n (take m (drop from xs))) parts ∙ drop-take n (to - (from + n)) (drop from xs)
    ∙ ap (take (to - (from + n))) (drop-drop n from xs))

-- so many bytes of a buffer are those of the contents
pub stands : (buffer contents : List ℕ) (place n : ℕ) → n ≤ length buffer → take n buffer ≡ take n (drop place contents)
    → StandsAt place (take n buffer) contents
stands buffer contents place n few same = same ∙ ap (λ (m : ℕ). take m (drop place contents)) (sym (length-take-le n buffer few))

pub stand_told : (told : Option Trace) (xs : List ℕ) (n place len : ℕ)
    → IfSome told (λ t. (len ≡ length t.now.contents) × (take n xs ≡ take n (drop place t.now.contents)))
    → IfSome told (λ t. take n xs ≡ take n (drop place t.now.contents))
stand_told None xs n place len h = tt
stand_told (Some t) xs n place len h = h.1
