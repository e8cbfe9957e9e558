-- Bytes and the marks that they spell, blanks, and tests.
use Rattle.std.proofs.Common.{◌≡◌, ℕ, Bool, true, false, ◌&&◌, ◌||◌, cond, eqb, ◌⊎◌, inl, inr, ⊎_elim, Option, Some, None, refl, sym, ap, subst, ◌∙◌}
use Rattle.std.proofs.lemmas.Bool.{eqb-true}
use Rattle.line_tokens.specs.declared.marks.Mark.{Mark}
use Rattle.line_tokens.specs.declared.marks.Mark.TheVariants.{Plus, Minus, Star, Slash, Caret, Open, Close, Comma, Letter}
use Rattle.line_tokens.specs.Tokens.{mark_byte, is_blank, is_digit}
use Rattle.line_tokens.specs.Marks.{mark_of}

-- a test that was true, or one that was false
pub by_if : {X A : Type 0} (f : X → A) (b : Bool) (x y : X) (out : A) (G : Type 0) → f (cond b x y) ≡ out → (b ≡ true → f x ≡ out → G)
    → (b ≡ false → f y ≡ out → G) → G
by_if f true x y out G e yes' no' = yes' refl e
by_if f false x y out G e yes' no' = no' refl e

pub and-true : (a b : Bool) → (a && b) ≡ true → (a ≡ true) × (b ≡ true)
and-true true true e = (refl, refl)
and-true true false e = cc
and-true false b e = cc

pub true-and : (a b : Bool) → a ≡ true → b ≡ true → (a && b) ≡ true
true-and a b e f = (λ i. e i && f i)

pub mark_of-mark_byte : (m : Mark) → mark_of (mark_byte m) ≡ Some m
mark_of-mark_byte Plus = refl
mark_of-mark_byte Minus = refl
mark_of-mark_byte Star = refl
mark_of-mark_byte Slash = refl
mark_of-mark_byte Caret = refl
mark_of-mark_byte Open = refl
mark_of-mark_byte Close = refl
mark_of-mark_byte Comma = refl
mark_of-mark_byte Letter = refl

pub is_blank-mark_byte : (m : Mark) → is_blank (mark_byte m) ≡ false
is_blank-mark_byte Plus = refl
is_blank-mark_byte Minus = refl
is_blank-mark_byte Star = refl
is_blank-mark_byte Slash = refl
is_blank-mark_byte Caret = refl
is_blank-mark_byte Open = refl
is_blank-mark_byte Close = refl
is_blank-mark_byte Comma = refl
is_blank-mark_byte Letter = refl

pub is_digit-mark_byte : (m : Mark) → is_digit (mark_byte m) ≡ false
is_digit-mark_byte Plus = refl
is_digit-mark_byte Minus = refl
is_digit-mark_byte Star = refl
is_digit-mark_byte Slash = refl
is_digit-mark_byte Caret = refl
is_digit-mark_byte Open = refl
is_digit-mark_byte Close = refl
is_digit-mark_byte Comma = refl
is_digit-mark_byte Letter = refl

one_mark : (b c : ℕ) (m k : Mark) → mark_byte k ≡ c → eqb b c ≡ true → Some k ≡ Some m → b ≡ mark_byte m
one_mark b c m k e t s = let f : k ≡ m = cc in eqb-true b c t ∙ sym e ∙ ap mark_byte f

-- a byte that spells a mark is that mark's
pub byte_of_mark : (b : ℕ) (m : Mark) → mark_of b ≡ Some m → b ≡ mark_byte m
byte_of_mark b m e =
    let f = λ (o : Option Mark). o in
    let G : Type 0 = b ≡ mark_byte m in
    by_if f (eqb b 43) _ _ (Some m) G e (one_mark b 43 m Plus refl)
    (λ _ e. by_if f (eqb b 45) _ _ (Some m) G e (one_mark b 45 m Minus refl)
    (λ _ e. by_if f (eqb b 42) _ _ (Some m) G e (one_mark b 42 m Star refl)
    (λ _ e. by_if f (eqb b 47) _ _ (Some m) G e (one_mark b 47 m Slash refl)
    (λ _ e. by_if f (eqb b 94) _ _ (Some m) G e (one_mark b 94 m Caret refl)
    (λ _ e. by_if f (eqb b 40) _ _ (Some m) G e (one_mark b 40 m Open refl)
    (λ _ e. by_if f (eqb b 41) _ _ (Some m) G e (one_mark b 41 m Close refl)
    (λ _ e. by_if f (eqb b 44) _ _ (Some m) G e (one_mark b 44 m Comma refl)
    (λ _ e. by_if f (eqb b 122) _ _ (Some m) G e (one_mark b 122 m Letter refl)
    (λ _ e. cc)))))))))

or_cases : (a b : Bool) → (a || b) ≡ true → (a ≡ true) ⊎ (b ≡ true)
or_cases true b e = inl refl
or_cases false true e = inr refl
or_cases false false e = cc

-- a fact of each blank
by_blank : (P : ℕ → Type 0) → P 32 → P 9 → P 13 → (b : ℕ) → is_blank b ≡ true → P b
by_blank P space tab return b e =
    ⊎_elim
    (λ f. ⊎_elim
    (λ g. subst P (sym (eqb-true b 32 g)) space)
    (λ g. subst P (sym (eqb-true b 9 g)) tab)
    (or_cases (eqb b 32) (eqb b 9) f))
    (λ f. subst P (sym (eqb-true b 13 f)) return)
    (or_cases (eqb b 32 || eqb b 9) (eqb b 13) e)

-- a blank is no digit and spells no mark
pub is_digit-blank : (b : ℕ) → is_blank b ≡ true → is_digit b ≡ false
is_digit-blank b e = by_blank (λ c. is_digit c ≡ false) refl refl refl b e

pub mark_of-blank : (b : ℕ) → is_blank b ≡ true → mark_of b ≡ None
mark_of-blank b e = by_blank (λ c. mark_of c ≡ None) refl refl refl b e

-- a digit is no blank and spells no mark
not_blank_if : (b : ℕ) (t : Bool) → is_blank b ≡ t → is_digit b ≡ true → is_blank b ≡ false
not_blank_if b true e d = let f = is_digit-blank b e in let g : true ≡ false = sym d ∙ f in cc
not_blank_if b false e d = e

pub is_blank-digit : (b : ℕ) → is_digit b ≡ true → is_blank b ≡ false
is_blank-digit b d = not_blank_if b (is_blank b) refl d

no_mark_if : (b : ℕ) (o : Option Mark) → mark_of b ≡ o → is_digit b ≡ true → mark_of b ≡ None
no_mark_if b None e d = e
no_mark_if b (Some m) e d = let f = ap is_digit (byte_of_mark b m e) ∙ is_digit-mark_byte m in let g : true ≡ false = sym d ∙ f in cc

pub mark_of-digit : (b : ℕ) → is_digit b ≡ true → mark_of b ≡ None
mark_of-digit b d = no_mark_if b (mark_of b) refl d
