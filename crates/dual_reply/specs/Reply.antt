-- The reply to a line.
use Rattle.std.specs.Prelude.{ℕ, Bool, true, false, Result, Ok, Err, List, [], ◌∷◌, ◌++◌, codes, map}
use Rattle.std.specs.List.{join_with_byte}
use Rattle.std.specs.Fmt.{decimal}
use Rattle.zeta_model.specs.Indices.{word_text}
use Rattle.dual_reply.specs.Inner.{reading_of, entries_of}
use Rattle.dual_reply.specs.Listing.{Entry}
use Rattle.dual_reply.specs.declared.refusal.Refusal.{Refusal}
use Rattle.dual_reply.specs.declared.refusal.Refusal.TheVariants.{LineTooLong, Syntax, NotAdmissible, WeightIs}
use Rattle.dual_reply.specs.declared.words.Signed.{Signed}

-- `100*z(3,1)`
abbrev pub entry_text : Entry → List ℕ
entry_text e = decimal e.1 ++ (codes "*" ++ word_text e.0)

-- the text, behind a byte where it is not the first
abbrev pub behind_byte : ℕ → Bool → List ℕ → List ℕ
behind_byte c true text = text
behind_byte c false text = c ∷ text

-- the entries joined by `+`, and `0` where there is none
abbrev pub sum_text : List Entry → List ℕ
sum_text [] = codes "0"
sum_text (e ∷ es) = join_with_byte 43 (map entry_text (e ∷ es))

-- `line too long`, `syntax 5`, `not admissible 2`, `weight 25`
abbrev pub refusal_text : Refusal → List ℕ
refusal_text LineTooLong = codes "line too long"
refusal_text (Syntax at) = codes "syntax " ++ decimal at
refusal_text (NotAdmissible at) = codes "not admissible " ++ decimal at
refusal_text (WeightIs weight) = codes "weight " ++ decimal weight

abbrev pub reply_to : ℕ → Result (List Signed) Refusal → List ℕ
reply_to m (Ok terms) = sum_text (entries_of m terms)
reply_to m (Err refusal) = refusal_text refusal

abbrev pub reply_of : ℕ → List ℕ → List ℕ
reply_of m line = reply_to m (reading_of line)
