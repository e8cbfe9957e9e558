-- What single steps of the code answer. No public clause cites these, so a reader need not believe them.
use Rattle.std.specs.Prelude.{ℕ, zero, suc, Bool, true, false, ◌&&◌, cond, List, [], ◌∷◌, ◌++◌}
use Rattle.std.specs.Ordering.{is_lt}
use Rattle.zeta_model.specs.declared.Letter.{Letter}
use Rattle.zeta_model.specs.declared.Letter.TheVariants.{X, Y}
use Rattle.zeta_model.specs.Words.{word_cmp}

-- f before a list, joined with the first word of it for as long as it is less
abbrev pub join_front : List Letter → List (List Letter) → List (List Letter)
join_front f [] = f ∷ []
join_front f (k ∷ ks) = cond (is_lt (word_cmp f k)) (join_front (f ++ k) ks) (f ∷ k ∷ ks)

-- w is before each nonempty suffix of v
abbrev pub is_below_suffixes : List Letter → List Letter → Bool
is_below_suffixes w [] = true
is_below_suffixes w (a ∷ v) = is_lt (word_cmp w (a ∷ v)) && is_below_suffixes w v

abbrev pub lyndon_test : List Letter → Bool
lyndon_test [] = false
lyndon_test (a ∷ w) = is_below_suffixes (a ∷ w) w

-- the Lyndon words that are f with n letters behind it, at most d of them y, in increasing order
abbrev pub lyndon_behind : List Letter → ℕ → ℕ → List (List Letter)
lyndon_behind f zero d = cond (lyndon_test f) (f ∷ []) []
lyndon_behind f (suc n) zero = lyndon_behind (f ++ X ∷ []) n zero
lyndon_behind f (suc n) (suc d) = lyndon_behind (f ++ X ∷ []) n (suc d) ++ lyndon_behind (f ++ Y ∷ []) n d
