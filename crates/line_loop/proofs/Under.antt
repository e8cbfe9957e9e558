-- A conversation that is under way.
use Rattle.std.proofs.Common.{◌≡◌, ◌⊎◌, inl, inr, ℕ, ◌+◌, ◌-◌, ◌<◌, ◌≤◌, List, [], ◌++◌, length, take, Option, Some, None, refl, sym, ap, subst, ◌∙◌, append_assoc, arith, length-append}
use Rattle.std.specs.Prelude.{IfSome}
use Rattle.std.proofs.lemmas.List.{append-nil, take_at}
use Rattle.std.proofs.lemmas.Grind.{flat_map-append}
use Rattle.outside_io.specs.Told.{before_told, after_told, AppendsFront}
use Rattle.outside_io.proofs.Telling.{after-nothing, both_taken, before-nothing, before-before}
use Rattle.line_loop.specs.declared.conversation.Ended.{Ended}
use Rattle.line_loop.specs.declared.conversation.Ended.TheVariants.{Done, Memory, ReadFault, WriteFault, TooMuchInput}
use Rattle.line_loop.specs.Lines.{Cut, cut, cut_from, last_line, lines, answer_to, answers, too_much_text, whole_output, IsPrefix}
use Rattle.line_loop.specs.Talk.{Tells, SaidInPart, Ends, Talks}
use Rattle.line_loop.proofs.Cutting.{more_input, prefix-trans, said_of_whole, whole_output-within, whole_output-over}

module _ (limit : ℕ) (reply : List ℕ → List ℕ) where
  -- these bytes were read, the lines that are whole in them were answered, and a line is begun
  pub record Under (room : ℕ) (left left_now taken taken_now : Option (List ℕ)) (line : List ℕ) : Type 0 where
    pub seen : List ℕ
    pub read : left ≡ before_told seen left_now
    pub wrote : taken_now ≡ after_told taken (answers reply (cut seen).0)
    pub line_is : line ≡ (cut seen).1
    pub room_is : length seen + room ≡ limit

  pub started : (left taken : Option (List ℕ)) → Under limit left left taken taken []
  started left taken = record { seen = []; read = sym (before-nothing left); wrote = after-nothing taken; line_is = refl; room_is = omega arith }

  reads : (left left1 left2 : Option (List ℕ)) (seen got : List ℕ) → left ≡ before_told seen left1 → left1 ≡ before_told got left2
      → left ≡ before_told (seen ++ got) left2
  reads left left1 left2 seen got first next = first ∙ ap (before_told seen) next ∙ before-before left2 seen got

  answers-more : (seen line piece : List ℕ) → line ≡ (cut seen).1
      → answers reply (cut seen).0 ++ answers reply (cut_from line piece).0 ≡ answers reply (cut (seen ++ piece)).0
  answers-more seen line piece is =
      ap (λ (l : List ℕ). answers reply (cut seen).0 ++ answers reply (cut_from l piece).0) is
      ∙ sym (flat_map-append (answer_to reply) (cut seen).0 (cut_from (cut seen).1 piece).0)
      ∙ sym (ap (λ (c : Cut). answers reply c.0) (more_input seen piece))

  -- a piece more was read and answered
  pub fed : (room count : ℕ) (left left1 left2 taken taken1 taken2 : Option (List ℕ)) (line line2 piece : List ℕ) → Under room left left1 taken taken1 line
      → left1 ≡ before_told piece left2
      → length piece ≡ count → count ≤ room → taken2 ≡ after_told taken1 (answers reply (cut_from line piece).0) → line2 ≡ (cut_from line piece).1
      → Under (room - count) left left2 taken taken2 line2
  fed room count left left1 left2 taken taken1 taken2 line line2 piece u got len within said goes = record {
    seen = u.seen ++ piece;
    read = reads left left1 left2 u.seen piece u.read got;
    wrote = both_taken taken taken1 taken2 (answers reply (cut u.seen).0) (answers reply (cut_from line piece).0) u.wrote said
        ∙ ap (after_told taken) (answers-more u.seen line piece u.line_is);
    line_is = goes ∙ ap (λ (l : List ℕ). (cut_from l piece).1) u.line_is ∙ sym (ap (λ (c : Cut). c.1) (more_input u.seen piece));
    room_is = omega (arith, u.room_is, length-append u.seen piece);
  }

  pub read_failed : (room : ℕ) (left left1 left2 taken taken1 : Option (List ℕ)) (line : List ℕ) → Under room left left1 taken taken1 line → left2 ≡ left1
      → Talks limit reply left left2 taken taken1 ReadFault
  read_failed room left left1 left2 taken taken1 line u same =
      record {
        seen = u.seen;
        said = answers reply (cut u.seen).0;
        read = u.read ∙ ap (before_told u.seen) (sym same);
        wrote = u.wrote;
        bounded = omega (arith, u.room_is);
        ends = (omega (arith, u.room_is), refl);
      }

  -- ---- cut short while a piece is answered

  fed_in_part : (seen piece : List ℕ) (left2 : Option (List ℕ)) (said : List ℕ) → length (seen ++ piece) ≤ limit
      → IsPrefix said (answers reply (cut (seen ++ piece)).0) → SaidInPart limit reply (seen ++ piece) said left2
  fed_in_part seen piece None said within part = ([], tt, prefix-trans _ _ _ part (said_of_whole limit reply (seen ++ piece) [] within))
  fed_in_part seen piece (Some more) said within part = (more, refl, prefix-trans _ _ _ part (said_of_whole limit reply (seen ++ piece) more within))

  pub fed_cut_short : (ended : Ended) (room : ℕ) (left left1 left2 taken taken1 taken2 : Option (List ℕ)) (line piece : List ℕ)
      → Under room left left1 taken taken1 line → left1 ≡ before_told piece left2
      → length piece ≤ room → AppendsFront taken1 taken2 (answers reply (cut_from line piece).0) → (ended ≡ Memory) ⊎ (ended ≡ WriteFault)
      → Talks limit reply left left2 taken taken2 ended
  fed_cut_short ended room left left1 left2 taken taken1 taken2 line piece u got within a which =
      let said = answers reply (cut u.seen).0 ++ a.front in
      let whole : answers reply (cut (u.seen ++ piece)).0 ≡ said ++ a.rest =
      sym (answers-more u.seen line piece u.line_is) ∙ ap (λ (l : List ℕ). answers reply (cut u.seen).0 ++ l) a.parts
      ∙ sym (append_assoc (answers reply (cut u.seen).0) a.front a.rest) in
      let part = fed_in_part u.seen piece left2 said (omega (arith, u.room_is, length-append u.seen piece)) (a.rest, whole) in
      record {
        seen = u.seen ++ piece;
        said = said;
        read = reads left left1 left2 u.seen piece u.read got;
        wrote = both_taken taken taken1 taken2 (answers reply (cut u.seen).0) a.front u.wrote a.taken;
        bounded = omega (arith, u.room_is, length-append u.seen piece);
        ends = elim which [
          | inl is ↦ subst (Ends limit reply (u.seen ++ piece) said left2) (sym is) part
          | inr is ↦ subst (Ends limit reply (u.seen ++ piece) said left2) (sym is) part
        ];
      }

  -- ---- at the end of the input

  ended_in_part : (seen : List ℕ) (left2 : Option (List ℕ)) (said : List ℕ) → length seen ≤ limit → Tells left2 []
      → IsPrefix said (answers reply (lines seen)) → SaidInPart limit reply seen said left2
  ended_in_part seen left2 said within none part = (
    [],
    none,
    subst (λ (l : List ℕ). IsPrefix said (whole_output limit reply l)) (sym (append-nil seen))
        (subst (IsPrefix said) (sym (whole_output-within limit reply seen within)) part),
  )

  lines-answers : (seen line : List ℕ) → line ≡ (cut seen).1 → answers reply (lines seen) ≡ answers reply (cut seen).0 ++ answers reply (last_line line)
  lines-answers seen line is = flat_map-append (answer_to reply) (cut seen).0 (last_line (cut seen).1)
      ∙ ap (λ (l : List ℕ). answers reply (cut seen).0 ++ answers reply (last_line l)) (sym is)

  pub at_end : (ended : Ended) (room : ℕ) (left left1 left2 taken taken1 taken2 : Option (List ℕ)) (line : List ℕ) → Under room left left1 taken taken1 line
      → left1 ≡ before_told [] left2 → IfSome left1 (λ xs. xs ≡ [])
      → AppendsFront taken1 taken2 (answers reply (last_line line)) → (ended ≡ Done → taken2 ≡ after_told taken1 (answers reply (last_line line)))
      → (ended ≡ Done) ⊎ (ended ≡ Memory) ⊎ (ended ≡ WriteFault) → Talks limit reply left left2 taken taken2 ended
  at_end ended room left left1 left2 taken taken1 taken2 line u got over a all which =
      let same : left1 ≡ left2 = got ∙ before-nothing left2 in
      let none : IfSome left2 (λ xs. xs ≡ []) = subst (λ (t : Option (List ℕ)). IfSome t (λ xs. xs ≡ [])) same over in
      let within : length u.seen ≤ limit = omega (arith, u.room_is) in
      let bounded : length u.seen ≤ limit + 1 = omega (arith, within) in
      let read_is : left ≡ before_told u.seen left2 = u.read ∙ ap (before_told u.seen) same in
      let one = answers reply (cut u.seen).0 in
      let said = one ++ a.front in
      let parts : answers reply (lines u.seen) ≡ said ++ a.rest =
      lines-answers u.seen line u.line_is ∙ ap (λ (l : List ℕ). one ++ l) a.parts ∙ sym (append_assoc one a.front a.rest) in
      let part = ended_in_part u.seen left2 said within none (a.rest, parts) in
      let short : taken2 ≡ after_told taken said = both_taken taken taken1 taken2 one a.front u.wrote a.taken in
      elim which [
        | inl is ↦ record {
          seen = u.seen;
          said = answers reply (lines u.seen);
          read = read_is;
          wrote = both_taken taken taken1 taken2 one (answers reply (last_line line)) u.wrote (all is)
              ∙ ap (after_told taken) (sym (lines-answers u.seen line u.line_is));
          bounded = bounded;
          ends = subst (Ends limit reply u.seen (answers reply (lines u.seen)) left2) (sym is) (within, refl, none);
        }
        | inr more ↦ elim more [
          | inl is ↦ record {
            seen = u.seen;
            said = said;
            read = read_is;
            wrote = short;
            bounded = bounded;
            ends =
                subst (Ends limit reply u.seen said left2) (sym is) part;
          }
          | inr is ↦ record {
            seen = u.seen;
            said = said;
            read = read_is;
            wrote = short;
            bounded = bounded;
            ends =
                subst (Ends limit reply u.seen said left2) (sym is) part;
          }
        ]
      ]

  -- ---- past the limit

  over_by : (seen piece more said : List ℕ) → length seen ≡ limit → limit < length (seen ++ piece)
      → IsPrefix said (answers reply (cut seen).0 ++ too_much_text) → IsPrefix said (whole_output limit reply ((seen ++ piece) ++ more))
  over_by seen piece more said size past part =
      let whole = (seen ++ piece) ++ more in
      let longer : limit < length whole = omega (arith, past, length-append (seen ++ piece) more) in
      let first : take limit whole ≡ seen = ap (take limit) (append_assoc seen piece more) ∙ take_at seen (piece ++ more) limit size in
      subst (IsPrefix said) (sym (whole_output-over limit reply whole longer ∙ ap (λ (l : List ℕ). answers reply (cut l).0 ++ too_much_text) first)) part

  over_in_part : (seen piece : List ℕ) (left2 : Option (List ℕ)) (said : List ℕ) → length seen ≡ limit → limit < length (seen ++ piece)
      → IsPrefix said (answers reply (cut seen).0 ++ too_much_text) → SaidInPart limit reply (seen ++ piece) said left2
  over_in_part seen piece None said size past part = ([], tt, over_by seen piece [] said size past part)
  over_in_part seen piece (Some more) said size past part = (more, refl, over_by seen piece more said size past part)

  pub over : (ended : Ended) (room : ℕ) (left left1 left2 taken taken1 taken2 : Option (List ℕ)) (line piece : List ℕ)
      → Under room left left1 taken taken1 line → room ≡ 0 → left1 ≡ before_told piece left2 → 0 < length piece → length piece ≤ 1
      → AppendsFront taken1 taken2 too_much_text → (ended ≡ TooMuchInput → taken2 ≡ after_told taken1 too_much_text)
      → (ended ≡ TooMuchInput) ⊎ (ended ≡ WriteFault) → Talks limit reply left left2 taken taken2 ended
  over ended room left left1 left2 taken taken1 taken2 line piece u none got some lone a all which =
      let seen = u.seen ++ piece in
      let size : length u.seen ≡ limit = omega (arith, u.room_is) in
      let past : limit < length seen = omega (arith, u.room_is, length-append u.seen piece) in
      let bounded : length seen ≤ limit + 1 = omega (arith, size, lone, length-append u.seen piece) in
      let read_is = reads left left1 left2 u.seen piece u.read got in
      let one = answers reply (cut u.seen).0 in
      let first : take limit seen ≡ u.seen = take_at u.seen piece limit size in
      let part = over_in_part u.seen piece left2 (one ++ a.front) size past (
        a.rest,
        ap (λ (l : List ℕ). one ++ l) a.parts
            ∙ sym (append_assoc one a.front a.rest),
      ) in
      elim which [
        | inl is ↦ record {
          seen = seen;
          said = one ++ too_much_text;
          read = read_is;
          wrote = both_taken taken taken1 taken2 one too_much_text u.wrote (all is);
          bounded = bounded;
          ends = subst (Ends limit reply seen (one ++ too_much_text) left2) (sym is)
              (omega (arith, size, some, lone, length-append u.seen piece), ap (λ (l : List ℕ). answers reply (cut l).0 ++ too_much_text) (sym first));
        }
        | inr is ↦ record {
          seen = seen;
          said = one ++ a.front;
          read = read_is;
          wrote = both_taken taken taken1 taken2 one a.front u.wrote a.taken;
          bounded = bounded;
          ends = subst (Ends limit reply seen (one ++ a.front) left2) (sym is) part;
        }
      ]

  -- nothing was read and nothing said
  no_part : (left : Option (List ℕ)) → SaidInPart limit reply [] [] left
  no_part None = ([], tt, (whole_output limit reply [], refl))
  no_part (Some more) = (more, refl, (whole_output limit reply more, refl))

  pub never_begun : (left taken : Option (List ℕ)) → Talks limit reply left left taken taken Memory
  never_begun left taken = record {
    seen = [];
    said = [];
    read = sym (before-nothing left);
    wrote = after-nothing taken;
    bounded = omega arith;
    ends =
        no_part left;
  }
