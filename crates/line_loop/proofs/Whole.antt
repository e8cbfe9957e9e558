-- What a conversation says, as a part of all that is said to the input.
use Rattle.std.proofs.Common.{◌≡◌, ℕ, ◌+◌, ◌<◌, List, [], ◌++◌, length, take, Option, Some, None, refl, sym, ap, subst, ◌∙◌, arith, length-append}
use Rattle.std.proofs.lemmas.List.{append-nil, take-append-le}
use Rattle.outside_io.specs.Told.{before_told, after_told}
use Rattle.outside_io.proofs.Telling.{before-nothing}
use Rattle.line_loop.specs.declared.conversation.Ended.{Ended}
use Rattle.line_loop.specs.declared.conversation.Ended.TheVariants.{Done, Memory, ReadFault, WriteFault, TooMuchInput}
use Rattle.line_loop.specs.Lines.{cut, answers, too_much_text, whole_output, IsPrefix}
use Rattle.line_loop.specs.Talk.{Tells, TakesAtMost, Ends, Talks, EndsWhole, SaysOf}
use Rattle.line_loop.proofs.Cutting.{said_of_whole, whole_output-within, whole_output-over}

module _ (limit : ℕ) (reply : List ℕ → List ℕ) where
  -- where the bytes that were read and more are the input
  input_told : (seen more : List ℕ) (left left_new : Option (List ℕ)) → left ≡ before_told seen left_new → Tells left_new more → Tells left (seen ++ more)
  input_told seen more left None read told = subst (λ (l : Option (List ℕ)). Tells l (seen ++ more)) (sym read) tt
  input_told seen more left (Some xs) read told = subst (λ (l : Option (List ℕ)). Tells l (seen ++ more)) (sym read) (ap (λ (l : List ℕ). seen ++ l) told)

  whole_output-past : (seen more : List ℕ) → limit < length seen
      → whole_output limit reply (seen ++ more) ≡ answers reply (cut (take limit seen)).0 ++ too_much_text
  whole_output-past seen more past =
      let longer : limit < length (seen ++ more) = omega (arith, past, length-append seen more) in
      whole_output-over limit reply (seen ++ more) longer
      ∙ ap (λ (l : List ℕ). answers reply (cut l).0 ++ too_much_text) (take-append-le limit seen more (omega (arith, past)))

  -- some bytes behind those that were read, as the source tells them
  some_more : (left : Option (List ℕ)) → (more : List ℕ) × Tells left more
  some_more None = ([], tt)
  some_more (Some more) = (more, refl)

  says : (ended : Ended) (seen said more : List ℕ) (left left_new taken taken_new : Option (List ℕ)) → left ≡ before_told seen left_new
      → taken_new ≡ after_told taken said → Tells left_new more
      → IsPrefix said (whole_output limit reply (seen ++ more)) → EndsWhole limit reply taken taken_new (seen ++ more) ended
      → SaysOf limit reply left taken taken_new ended
  says ended seen said more left left_new taken taken_new read wrote told part whole = record {
    input = seen ++ more;
    told = input_told seen more left left_new read told;
    front = record { front = said; rest = part.0; parts = part.1; taken = wrote };
    whole = whole;
  }

  says_of : (ended : Ended) (seen said : List ℕ) (left left_new taken taken_new : Option (List ℕ)) → left ≡ before_told seen left_new
      → taken_new ≡ after_told taken said → Ends limit reply seen said left_new ended → SaysOf limit reply left taken taken_new ended
  says_of Done seen said left left_new taken taken_new read wrote e =
      let whole : whole_output limit reply (seen ++ []) ≡ said =
      ap (whole_output limit reply) (append-nil seen) ∙ whole_output-within limit reply seen e.0 ∙ sym e.1 in
      says Done seen said [] left left_new taken taken_new read wrote e.2 ([], whole ∙ sym (append-nil said))
      (wrote ∙ ap (after_told taken) (sym whole), omega (arith, e.0, ap length (append-nil seen)))
  says_of ReadFault seen said left left_new taken taken_new read wrote e =
      let more = some_more left_new in
      says ReadFault seen said more.0 left left_new taken taken_new read wrote more.1
      (subst (λ (s : List ℕ). IsPrefix s (whole_output limit reply (seen ++ more.0))) (sym e.1) (said_of_whole limit reply seen more.0 e.0)) tt
  says_of TooMuchInput seen said left left_new taken taken_new read wrote e =
      let more = some_more left_new in
      let past : limit < length seen = omega (arith, e.0) in
      let whole : whole_output limit reply (seen ++ more.0) ≡ said = whole_output-past seen more.0 past ∙ sym e.1 in
      says TooMuchInput seen said more.0 left left_new taken taken_new read wrote more.1 ([], whole ∙ sym (append-nil said))
      (wrote ∙ ap (after_told taken) (sym whole), omega (arith, past, length-append seen more.0))
  says_of WriteFault seen said left left_new taken taken_new read wrote e =
      says WriteFault seen said e.0 left left_new taken taken_new read wrote e.1 e.2 tt
  says_of Memory seen said left left_new taken taken_new read wrote e = says Memory seen said e.0 left left_new taken taken_new read wrote e.1 e.2 tt

  -- what was said, as a part of all that is said to the input
  pub talks-says : (ended : Ended) (left left_new taken taken_new : Option (List ℕ)) → Talks limit reply left left_new taken taken_new ended
      → SaysOf limit reply left taken taken_new ended
  talks-says ended left left_new taken taken_new t = says_of ended t.seen t.said left left_new taken taken_new t.read t.wrote t.ends

-- what was taken from the source
pub talks-takes : (limit : ℕ) (reply : List ℕ → List ℕ) (ended : Ended) (left left_new taken taken_new : Option (List ℕ))
    → Talks limit reply left left_new taken taken_new ended → TakesAtMost (limit + 1) left left_new
talks-takes limit reply ended left left_new taken taken_new t = record { seen = t.seen; read = t.read; bounded = t.bounded }

pub takes_nothing : (most : ℕ) (left : Option (List ℕ)) → TakesAtMost most left left
takes_nothing most left = record { seen = []; read = sym (before-nothing left); bounded = omega arith }
