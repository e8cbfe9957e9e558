-- What the steps for a line answer, as its meaning.
use Rattle.std.proofs.Common.{◌≡◌, ℕ, ◌%◌, ◌≤◌, Bool, Some, None, Result, Ok, Err, List, length, refl, sym, ap, ◌∙◌}
use Rattle.std.specs.Result.{IfOk, IfErr, OnOk}
use Rattle.zeta_model.specs.declared.Letter.{Letter}
use Rattle.word_sums.specs.Terms.{coefficient_of}
use Rattle.word_sums.specs.Sums.{IsSum, IsSumOf}
use Rattle.zeta_expr.specs.declared.fault.LineFault.{LineFault}
use Rattle.zeta_expr.specs.declared.fault.LineFault.TheVariants.{LineTooLong, Syntax, NoInverse, WeightIs, DepthIs, Memory}
use Rattle.zeta_expr.specs.Forms.{TermForm}
use Rattle.zeta_expr.specs.Faults.{IsReadFault}
use Rattle.zeta_expr.specs.Readings.{IsReading}
use Rattle.zeta_expr.specs.Meaning.{refusal_of, sum_of_terms, IsMeaningFault}
use Rattle.zeta_expr.specs.LineMeaning.{means, refused, unless_refused, IsMeaning, too_long, no_line, reads}
use Rattle.table_rewrite.specs.Refusals.{IsRefusalOf}
use Rattle.table_rewrite.specs.Inner.{IsNoMemory}

module _ (m w d : ℕ) (line : List ℕ) where
  pub read_refused : (fault : LineFault) → IsReadFault line fault → IsRefusalOf m w d line fault
  read_refused LineTooLong h = too_long h refl
  read_refused (Syntax at) h = no_line at h.0 h.1 refl
  read_refused (NoInverse b) h = absurd h
  read_refused (WeightIs k) h = absurd h
  read_refused (DepthIs k) h = absurd h
  read_refused (Memory e) h = tt

  -- a refusal that is not want of memory is the line's
  pub refusal_meant : (fault : LineFault) → IsRefusalOf m w d line fault → IsNoMemory fault → IsMeaning m w d line (refused fault)
  refusal_meant LineTooLong h n = h
  refusal_meant (Syntax at) h n = h
  refusal_meant (NoInverse b) h n = h
  refusal_meant (WeightIs k) h n = h
  refusal_meant (DepthIs k) h n = h
  refusal_meant (Memory e) h n = absurd n

  module _ (e : List TermForm) (short : length line ≤ 4096) (reading : IsReading line e) where
    told : (fault : LineFault) → refusal_of m w d e ≡ Some fault → IsMeaning m w d line (refused fault)
    told fault h = reads e short reading (ap (λ o. unless_refused o (λ t. sum_of_terms m e t % m)) (sym h))

    meaning_refused : (fault : LineFault) → IsMeaningFault m w d e fault → IsRefusalOf m w d line fault
    meaning_refused LineTooLong h = told LineTooLong h
    meaning_refused (Syntax at) h = told (Syntax at) h
    meaning_refused (NoInverse b) h = told (NoInverse b) h
    meaning_refused (WeightIs k) h = told (WeightIs k) h
    meaning_refused (DepthIs k) h = told (DepthIs k) h
    meaning_refused (Memory f) h = tt

    module _ {E : Type 0} where
      pub line_refused : (r : Result (List (List Letter × E)) LineFault) → IfErr r (IsMeaningFault m w d e) → IfErr r (IsRefusalOf m w d line)
      line_refused (Ok sum) h = h
      line_refused (Err fault) h = meaning_refused fault h

      module _ (nought : E) (has : E → Bool) (value : E → ℕ) where
        pub line_sum : (r : Result (List (List Letter × E)) LineFault) → IfOk r (IsSumOf nought has value m (sum_of_terms m e)) → IfOk r (IsSum nought has)
        line_sum (Ok sum) is = record { terms = is.terms; in_ring = is.in_ring }
        line_sum (Err fault) is = is

        pub line_means : (r : Result (List (List Letter × E)) LineFault) → IfOk r (IsSumOf nought has value m (sum_of_terms m e))
            → OnOk r (refusal_of m w d e ≡ None) → IfOk r (λ sum. IsMeaning m w d line (means (coefficient_of value sum)))
        line_means (Ok sum) is none =
            reads e short reading ((λ i. means (λ t. is.coefficients t i)) ∙ ap (λ o. unless_refused o (λ t. sum_of_terms m e t % m)) (sym none))
        line_means (Err fault) is none = is
