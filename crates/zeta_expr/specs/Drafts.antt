-- What has been made of the tokens read so far. That it is what the line spells is proved.
use Rattle.std.specs.Prelude.{ℕ, Bool, true, false, Some, None, List, [], ◌∷◌, ◌++◌}
use Rattle.line_tokens.specs.declared.marks.Mark.{Mark}
use Rattle.line_tokens.specs.declared.marks.Mark.TheVariants.{Plus, Minus, Star, Slash, Caret, Open, Close, Comma, Letter}
use Rattle.line_tokens.specs.Machine.{Maker}
use Rattle.zeta_expr.specs.declared.expr.Factor.{Factor}
use Rattle.zeta_expr.specs.declared.expr.Factor.TheVariants.{Number, Zeta}
use Rattle.zeta_expr.specs.declared.place.Place.{Place}
use Rattle.zeta_expr.specs.declared.place.Place.TheVariants.{Start, AfterTop, AfterBottom, AfterZeta, AfterPower}
use Rattle.std.specs.Coded.{Coded, code_by, coded×, coded_ℕ, coded_bool, coded_list}
use Rattle.std.proofs.Common.{refl}
use Rattle.zeta_expr.specs.Forms.{TermForm, factor_code, term_code}

-- the terms before the last, the last one's sign and factors, the last index, and the last number before `/`
pub record DraftForm : Type 0 where
  pub terms : List TermForm
  pub negative : Bool
  pub factors : List Factor
  pub word : List ℕ
  pub top : ℕ

-- with the factor that ends at a place, where one does
abbrev pub with_factor : Place → ℕ → DraftForm → DraftForm
with_factor AfterTop n d = record d { factors = d.factors ++ Number n None ∷ [] }
with_factor AfterBottom n d = record d { factors = d.factors ++ Number d.top (Some n) ∷ [] }
with_factor AfterZeta n d = record d { factors = d.factors ++ Zeta d.word 1 ∷ []; word = [] }
with_factor AfterPower n d = record d { factors = d.factors ++ Zeta d.word n ∷ []; word = [] }
with_factor _ n d = d

abbrev pub with_term : DraftForm → DraftForm
with_term d = record d { terms = d.terms ++ record { negative = d.negative; factors = d.factors } ∷ []; factors = [] }

-- behind a sign, the first or a later one
abbrev pub signed : Bool → Place → ℕ → DraftForm → DraftForm
signed negative Start n d = record d { negative = negative }
signed negative p n d = record (with_term (with_factor p n d)) { negative = negative }

abbrev pub on_mark : Place → Mark → ℕ → DraftForm → DraftForm
on_mark p Plus n d = signed false p n d
on_mark p Minus n d = signed true p n d
on_mark p Star n d = with_factor p n d
on_mark p Slash n d = record d { top = n }
on_mark p Letter n d = record d { word = [] }
on_mark p Comma n d = record d { word = d.word ++ n ∷ [] }
on_mark p Close n d = record d { word = d.word ++ n ∷ [] }
on_mark p Open n d = d
on_mark p Caret n d = d

abbrev pub maker : Maker Place DraftForm
maker = record { on_mark = on_mark; at_end = λ p n d. with_term (with_factor p n d) }

abbrev pub start : DraftForm
start = record { terms = []; negative = false; factors = []; word = []; top = 0 }

-- a draft is stored as its parts
abbrev pub draft_code : Coded DraftForm
draft_code =
    code_by (List TermForm × (Bool × (List Factor × (List ℕ × ℕ)))) (coded× (coded_list term_code) (coded× coded_bool (coded× (coded_list factor_code)
    (coded× (coded_list coded_ℕ) coded_ℕ))))
    (λ d. (d.terms, (d.negative, (d.factors, (d.word, d.top)))))
    (λ t. record { terms = t.0; negative = t.1.0; factors = t.1.1.0; word = t.1.1.1.0; top = t.1.1.1.1 })
    (λ _. refl)
