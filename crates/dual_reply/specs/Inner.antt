-- What single steps of the code answer. Public clauses cite these through `reply_of` alone, and `Canonical.antt` says of that what it is by
-- the grammar and the listing, so a reader need not believe them.
use Rattle.std.specs.Prelude.{ℕ, suc, ◌+◌, ◌%◌, Bool, true, false, not, ◌&&◌, ◌||◌, ◌==◌, if◌then◌else◌, Option}
use Rattle.std.specs.Prelude.{Some, None, is_some, option_map, Result, Ok, Err}
use Rattle.std.specs.Prelude.{List, [], ◌∷◌, ◌++◌, length, sum, nat_lt, nat_le}
use Rattle.std.specs.List.{list_all}
use Rattle.std.specs.Coded.{Coded, code_by, coded×, coded_ℕ, coded_bool, coded_list, coded_option}
use Rattle.std.proofs.Common.{refl}
use Rattle.std.specs.declared.cmp.Ordering.{Ordering}
use Rattle.std.specs.declared.cmp.Ordering.TheVariants.{Less, Equal, Greater}
use Rattle.zeta_model.specs.declared.Letter.{Letter}
use Rattle.zeta_model.specs.Words.{is_admissible, word_code}
use Rattle.zeta_model.specs.Duality.{representative_of}
use Rattle.line_tokens.specs.declared.marks.Mark.{Mark}
use Rattle.line_tokens.specs.declared.marks.Mark.TheVariants.{Plus, Minus, Star, Slash, Caret, Open, Close, Comma, Letter as LetterZ}
use Rattle.line_tokens.specs.declared.spots.Spot.TheVariants.{Between}
use Rattle.line_tokens.specs.Tokens.{is_blank}
use Rattle.line_tokens.specs.Machine.{Maker, passed, read}
use Rattle.dual_reply.specs.Refusals.{begins_with_digit}
use Rattle.dual_reply.specs.Sums.{signed, sign_number}
use Rattle.dual_reply.specs.Listing.{Entry, listing_cmp}
use Rattle.dual_reply.specs.Places.{places}
use Rattle.dual_reply.specs.declared.place.Place.{Place}
use Rattle.dual_reply.specs.declared.place.Place.TheVariants.{Start}
use Rattle.dual_reply.specs.declared.refusal.Refusal.{Refusal}
use Rattle.dual_reply.specs.declared.refusal.Refusal.TheVariants.{LineTooLong, Syntax, NotAdmissible, WeightIs}
use Rattle.dual_reply.specs.declared.words.Signed.{Signed}

-- ---- the terms of a line

-- the words of the zetas of weight at most 24, the weight of the first other zeta, and the sign and the numbers of the last zeta
pub record DraftForm : Type 0 where
  pub terms : List Signed
  pub heavy : Option ℕ
  pub negative : Bool
  pub index : List ℕ

abbrev pub start : DraftForm
start = record { terms = []; heavy = None; negative = false; index = [] }

abbrev pub is_index : List ℕ → Bool
is_index ks = nat_lt 0 (length ks) && list_all (λ k. nat_lt 0 k) ks

-- the first of two numbers that is there
abbrev pub earlier : Option ℕ → ℕ → Option ℕ
earlier None k = Some k
earlier (Some j) k = Some j

-- with the zeta of the last index
abbrev pub with_zeta : DraftForm → DraftForm
with_zeta d =
    if is_index d.index
    then (if nat_le (sum d.index) 24 then record d { terms = d.terms ++ signed d.negative d.index ∷ [] }
    else record d { heavy = earlier d.heavy (sum d.index) })
    else d

abbrev pub with_number : ℕ → DraftForm → DraftForm
with_number n d = record d { index = d.index ++ n ∷ [] }

abbrev pub on_mark : Mark → ℕ → DraftForm → DraftForm
on_mark Plus n d = record d { negative = false }
on_mark Minus n d = record d { negative = true }
on_mark Open n d = record d { index = [] }
on_mark Comma n d = with_number n d
on_mark Close n d = with_zeta (with_number n d)
on_mark Star n d = d
on_mark Slash n d = d
on_mark Caret n d = d
on_mark LetterZ n d = d

abbrev pub maker : Maker Place DraftForm
maker = record { on_mark = λ p m n d. on_mark m n d; at_end = λ p n d. d }

-- each zeta is of weight at most 24, and its word is admissible
abbrev pub is_plain : DraftForm → Bool
is_plain d = not (is_some d.heavy) && list_all (λ s. is_admissible s.word) d.terms

-- the byte of the first number 1 that stands behind a bracket that opens and any blanks; true where such a bracket stands just before
abbrev pub first_one : Bool → List ℕ → Option ℕ
first_one opened [] = None
first_one opened (b ∷ bytes) =
    if b == 49 && not (begins_with_digit bytes) && opened then Some 0 else option_map suc (first_one (b == 40 || (is_blank b && opened)) bytes)

abbrev pub weighed : Option ℕ → List Signed → Result (List Signed) Refusal
weighed None terms = Ok terms
weighed (Some weight) terms = Err (WeightIs weight)

abbrev pub judged : Option ℕ → Option ℕ → List Signed → Result (List Signed) Refusal
judged None heavy terms = weighed heavy terms
judged (Some at) heavy terms = Err (NotAdmissible at)

-- the reading of a line of which this was made, or of none of the grammar, of which so many bytes were passed
abbrev pub reading_made : List ℕ → ℕ → Option DraftForm → Result (List Signed) Refusal
reading_made line at None = Err (Syntax at)
reading_made line at (Some d) = judged (first_one false line) d.heavy d.terms

-- the words of the zetas of a line with their signs, or why it is refused
unfoldable pub reading_of : List ℕ → Result (List Signed) Refusal
reading_of line =
    if nat_lt 4096 (length line) then Err LineTooLong
    else reading_made line (passed places (Between Start) line) (read places maker (Between Start) 0 start line)

-- a word with its sign is stored as its parts
abbrev pub signed_code : Coded Signed
signed_code = code_by (Bool × List Letter) (coded× coded_bool word_code) (λ s. (s.negative, s.word)) (λ p. record { negative = p.0; word = p.1 }) (λ _. refl)

-- a draft is stored as its parts
abbrev pub draft_code : Coded DraftForm
draft_code =
    code_by (List Signed × (Option ℕ × (Bool × List ℕ)))
    (coded× (coded_list signed_code) (coded× (coded_option coded_ℕ) (coded× coded_bool (coded_list coded_ℕ))))
    (λ d. (d.terms, (d.heavy, (d.negative, d.index))))
    (λ t. record { terms = t.0; heavy = t.1.0; negative = t.1.1.0; index = t.1.1.1 })
    (λ _. refl)

-- ---- the entries of a folded sum, put in one after another

-- two entries of one word put together: none where they cancel
abbrev pub put_together : ℕ → ℕ → Entry → List Entry → List Entry
put_together m residue f fs = if residue == 0 then fs else (f.0, residue) ∷ fs

abbrev pub placed : Ordering → ℕ → Entry → Entry → List Entry → List Entry → List Entry
placed Less m e f fs longer = e ∷ f ∷ fs
placed Equal m e f fs longer = put_together m ((f.1 + e.1) % m) f fs
placed Greater m e f fs longer = f ∷ longer

-- the list with one more entry in its place
abbrev pub with_entry : ℕ → Entry → List Entry → List Entry
with_entry m e [] = e ∷ []
with_entry m e (f ∷ fs) = placed (listing_cmp e.0 f.0) m e f fs (with_entry m e fs)

abbrev pub folded_entry : ℕ → Signed → Entry
folded_entry m t = (representative_of t.word, sign_number m t.negative)

abbrev pub with_terms : ℕ → List Entry → List Signed → List Entry
with_terms m es [] = es
with_terms m es (t ∷ ts) = with_terms m (with_entry m (folded_entry m t) es) ts

-- the entries of a folded sum, which are its one listing
unfoldable pub entries_of : ℕ → List Signed → List Entry
entries_of m terms = with_terms m [] terms
