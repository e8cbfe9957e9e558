-- Bytes that were there before still stand first.
use Rattle.std.proofs.Common.{◌≡◌, ℕ, ◌++◌, Bool, true, false, cond, List, length, take, drop, sym, ap, ◌∙◌, append_assoc}
use Rattle.std.proofs.Math.Seq.{take-append_seam, take-length}
use Rattle.std.proofs.lemmas.List.{take-append-drop}

split : (xs zs : List ℕ) → take (length xs) zs ≡ xs → zs ≡ xs ++ drop (length xs) zs
split xs zs e = sym (take-append-drop (length xs) zs) ∙ ap (λ l. l ++ drop (length xs) zs) e

pub kept_all : (xs zs : List ℕ) → zs ≡ xs → take (length xs) zs ≡ xs
kept_all xs zs e = ap (take (length xs)) e ∙ take-length xs

pub kept_append : (xs ys zs : List ℕ) (b : Bool) → zs ≡ cond b (xs ++ ys) xs → take (length xs) zs ≡ xs
kept_append xs ys zs true e = ap (take (length xs)) e ∙ take-append_seam xs ys
kept_append xs ys zs false e = kept_all xs zs e

pub kept_trans : (xs ys zs : List ℕ) → take (length xs) ys ≡ xs → take (length ys) zs ≡ ys → take (length xs) zs ≡ xs
kept_trans xs ys zs p q =
    ap (take (length xs)) (split ys zs q ∙ ap (λ l. l ++ drop (length ys) zs) (split xs ys p) ∙ append_assoc xs (drop (length xs) ys) (drop (length ys) zs))
    ∙ take-append_seam xs (drop (length xs) ys ++ drop (length ys) zs)
