-- The test of parameters: what each refusal tells, in the order of the tests.
use Rattle.std.specs.Prelude.{◌≡◌, ℕ, zero, suc, ◌+◌, ◌^◌, ◌≤◌, ◌<◌, ◌⊎◌, ◌==◌, List, [], ◌∷◌, Option, Some, None, codes}
use Rattle.std.specs.List.{slice_split}
use Rattle.zeta_model.specs.declared.Letter.{Letter}
use Rattle.zeta_model.specs.Indices.{word_text}
use Rattle.column_order.specs.declared.ranks.Mode.{Mode}
use Rattle.column_order.specs.declared.ranks.Mode.TheVariants.{Lex, Odd}
use Rattle.column_order.specs.Columns.{column_count}
use Rattle.page_codec.specs.declared.params.Params.{Params}
use Rattle.page_codec.specs.declared.fault.ParamFault.{ParamFault}
use Rattle.page_codec.specs.declared.fault.ParamFault.TheVariants.{Weight, Depth, Modulus, NotBelow, Order, Preferred, Columns}
use Rattle.page_codec.specs.Bounds.{IsPreferable}

-- a text is cut at each +
abbrev pub pieces_of : List ℕ → List (List ℕ)
pieces_of text = slice_split (λ b. b == 43) text

-- piece number i is the index text of a word that may stand behind the one before
pub record Names (w d i : ℕ) (before : Option (List Letter)) (piece : List ℕ) (u : List Letter) : Type 0 where
  pub first_16 : i < 16
  pub text : piece ≡ word_text u
  pub may_stand : IsPreferable w d before u

-- the pieces name the words, one each
abbrev pub AllName : ℕ → ℕ → ℕ → Option (List Letter) → List (List ℕ) → List (List Letter) → Type 0
AllName w d i before [] [] = Unit {0}
AllName w d i before [] (u ∷ us) = ⊥
AllName w d i before (piece ∷ pieces) [] = ⊥
AllName w d i before (piece ∷ pieces) (u ∷ us) = Names w d i before piece u × AllName w d (i + 1) (Some u) pieces us

-- piece number k is the first that names no word that may stand there
abbrev pub FailsFirst : ℕ → ℕ → ℕ → Option (List Letter) → List (List ℕ) → ℕ → Type 0
FailsFirst w d i before [] k = ⊥
FailsFirst w d i before (piece ∷ pieces) k =
    ((k ≡ i) × ((u : List Letter) → ¬ (Names w d i before piece u))) ⊎ ((u : List Letter) × Names w d i before piece u
    × FailsFirst w d (i + 1) (Some u) pieces k)

-- the preferred words that a text names; none where there is no text
abbrev pub AreNamed : ℕ → ℕ → Option (List ℕ) → List (List Letter) → Type 0
AreNamed w d None words = words ≡ []
AreNamed w d (Some text) words = AllName w d 0 None (pieces_of text) words

abbrev pub order_of : List ℕ → ℕ → Type 0
order_of name order = ((name ≡ codes "lex") × (order ≡ 0)) ⊎ ((name ≡ codes "odd") × (order ≡ 1))

abbrev pub FailsText : ℕ → ℕ → Option (List ℕ) → ℕ → Type 0
FailsText w d None k = ⊥
FailsText w d (Some text) k = FailsFirst w d 0 None (pieces_of text) k

-- the order of columns that a number stands for
abbrev pub mode_of : ℕ → Mode
mode_of zero = Lex
mode_of (suc n) = Odd

-- weight, depth and modulus pass
pub record PassesNumbers (w d m : ℕ) : Type 0 where
  pub weight_from : 2 ≤ w
  pub weight_to : w ≤ 24
  pub depth_from : 1 ≤ d
  pub depth_to : d < w
  pub modulus_from : 3 ≤ m
  pub modulus_to : m < 2 ^ 63
  pub below : w < m

abbrev pub IsOrder : List ℕ → Type 0
IsOrder name = (order : ℕ) × order_of name order

-- each refusal exactly where its test fails and those before it pass
abbrev pub Refuses : ℕ → ℕ → ℕ → List ℕ → Option (List ℕ) → ParamFault → Type 0
Refuses w d m order text (Weight n) = (n ≡ w) × ((w < 2) ⊎ (24 < w))
Refuses w d m order text (Depth n) = (n ≡ d) × (2 ≤ w) × (w ≤ 24) × ((d < 1) ⊎ (w ≤ d))
Refuses w d m order text (Modulus n) = (n ≡ m) × (2 ≤ w) × (w ≤ 24) × (1 ≤ d) × (d < w) × ((m < 3) ⊎ (2 ^ 63 ≤ m))
Refuses w d m order text (NotBelow a b) = (a ≡ w) × (b ≡ m) × (2 ≤ w) × (w ≤ 24) × (1 ≤ d) × (d < w) × (3 ≤ m) × (m ≤ w)
Refuses w d m order text Order = PassesNumbers w d m × (¬ (IsOrder order))
Refuses w d m order text (Preferred k) = PassesNumbers w d m × IsOrder order × FailsText w d text k
Refuses w d m order text (Columns n) =
    PassesNumbers w d m × IsOrder order × ((words : List (List Letter)) × AreNamed w d text words) × (n ≡ column_count w d) × (2048 < n)

-- the parameters of a test that nothing refuses
pub record Passes (w d m : ℕ) (order : List ℕ) (text : Option (List ℕ)) (p : Params) : Type 0 where
  pub numbers : PassesNumbers w d m
  pub weight : p.weight ≡ w
  pub depth : p.depth ≡ d
  pub modulus : p.modulus ≡ m
  pub order_is : order_of order p.order
  pub preferred : AreNamed w d text p.preferred
  pub columns : column_count w d ≤ 2048

-- the first piece of a text, and what stands behind the + that ends it
abbrev pub Cuts : List ℕ → List ℕ → Option (List ℕ) → Type 0
Cuts text piece None = pieces_of text ≡ piece ∷ []
Cuts text piece (Some rest) = pieces_of text ≡ piece ∷ pieces_of rest
