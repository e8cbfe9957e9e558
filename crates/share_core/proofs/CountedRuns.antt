-- What runs count.
use Rattle.std.proofs.Common.{◌≡◌, ℕ, suc, ◌<◌, ◌⊎◌, nat_eq, List, [], ◌∷◌, ◌++◌, get_or, refl, sym, ◌∙◌}
use Rattle.std.proofs.Common.{ap, subst, inl, inr, arith, append_assoc}
use Rattle.std.specs.Prelude.{◌≢◌, ◌↔◌, count_by, Contains, All, AllPairs}
use Rattle.std.proofs.lemmas.List.{map-append, append-nil, length-map, get_or-map}
use Rattle.std.proofs.lemmas.List.Concat.{flat_map-cons}
use Rattle.std.proofs.lemmas.List.Elements.{All-push, All-nil, All-weaker}
use Rattle.share_model.specs.Checked.{Checked}
use Rattle.share_model.specs.declared.share.Share.{Share}
use Rattle.share_merge.specs.Turns.{HasIndex, HasAll}
use Rattle.share_core.specs.declared.events.Event.{Event}
use Rattle.share_core.specs.declared.events.Event.TheVariants.{Grant, Deliver, Lose, Restart}
use Rattle.share_core.specs.declared.events.Answer.{Answer}
use Rattle.share_core.specs.declared.events.Answer.TheVariants.{Granted, NoneOpen, Counted, Repeat, Refused, Freed, Restarted}
use Rattle.share_core.specs.declared.events.Refusal.TheVariants.{Other, Share as Faulty}
use Rattle.share_core.specs.Lists.{Lists, indices_of, empty}
use Rattle.share_core.specs.Coordinations.{Setting, AreLists}
use Rattle.share_core.specs.Steps.{Counts, Grants, Delivers, Loses, Restarts, Answers}
use Rattle.share_core.specs.Runs.{Runs, index_counted, counted_in, IsFirstDelivered, IsDeliveryOf, IsRefused}
use Rattle.share_core.proofs.ListFacts.{AllPairs-map, HasIndex-push, HasIndex-more}
use Rattle.share_core.proofs.KeptLists.{empty_lists, step_keeps}
use Rattle.share_core.proofs.IndexCounts.{once, found, nothing_there, Contains-cases}

refused_or_not : (answer : Answer) → IsRefused answer ⊎ ¬ (IsRefused answer)
refused_or_not (Refused why) = inl tt
refused_or_not (Granted i) = inr (λ never. never)
refused_or_not NoneOpen = inr (λ never. never)
refused_or_not (Counted i) = inr (λ never. never)
refused_or_not (Repeat i) = inr (λ never. never)
refused_or_not (Freed n) = inr (λ never. never)
refused_or_not Restarted = inr (λ never. never)

module _ {R E : Type 0} (value : E → ℕ) (setting : Setting R) where
  -- a step that counts nothing; what it delivers is refused, or was counted before
  pub record LeavesCounted (old : Lists R E) (event : Event) (answer : Answer) (new : Lists R E) : Type 0 where
    pub same : new.counted ≡ old.counted
    pub none : index_counted answer ≡ []
    pub settled : (i : ℕ) → IsDeliveryOf i event → ¬ (IsRefused answer) → HasIndex old.counted i

  -- a step that counts a share
  pub record CountsOne (old : Lists R E) (event : Event) (answer : Answer) (new : Lists R E) : Type 0 where
    pub share : Share
    pub event_is : event ≡ Deliver share
    pub answer_is : answer ≡ Counted share.id.index
    pub counts : Counts value setting old share new

  leaves : (old new : Lists R E) (event : Event) (answer : Answer) → new.counted ≡ old.counted → index_counted answer ≡ []
      → ((i : ℕ) → IsDeliveryOf i event → ¬ (IsRefused answer) → HasIndex old.counted i)
      → LeavesCounted old event answer new ⊎ CountsOne old event answer new
  leaves old new event answer same none settled = inl (record { same = same; none = none; settled = settled })

  grant_counts : (old new : Lists R E) (worker : ℕ) (answer : Answer) → Grants setting.of old worker answer new
      → LeavesCounted old (Grant worker) answer new ⊎ CountsOne old (Grant worker) answer new
  grant_counts old new worker (Granted i) (least, is) =
      leaves old new (Grant worker) (Granted i) (ap (λ (l : Lists R E). l.counted) is) refl (λ k never. absurd never)
  grant_counts old new worker NoneOpen (none, is) =
      leaves old new (Grant worker) NoneOpen (ap (λ (l : Lists R E). l.counted) is) refl (λ k never. absurd never)
  grant_counts old new worker (Counted i) never = absurd never
  grant_counts old new worker (Repeat i) never = absurd never
  grant_counts old new worker (Refused why) never = absurd never
  grant_counts old new worker (Freed n) never = absurd never
  grant_counts old new worker Restarted never = absurd never

  deliver_counts : (old new : Lists R E) (share : Share) (answer : Answer) → Delivers value setting old share answer new
      → LeavesCounted old (Deliver share) answer new ⊎ CountsOne old (Deliver share) answer new
  deliver_counts old new share (Refused Other) (unfit, is) =
      leaves old new (Deliver share) (Refused Other) (ap (λ (l : Lists R E). l.counted) is) refl (λ k of_index open_case. absurd (open_case tt))
  deliver_counts old new share (Refused (Faulty fault)) (is_new, told, is) =
      leaves old new (Deliver share) (Refused (Faulty fault)) (ap (λ (l : Lists R E). l.counted) is) refl
      (λ k of_index open_case. absurd (open_case tt))
  deliver_counts old new share (Repeat i) (repeats, index, is) =
      leaves old new (Deliver share) (Repeat i) (ap (λ (l : Lists R E). l.counted) is) refl
      (λ k of_index open_case. subst (HasIndex old.counted) of_index repeats.counted)
  deliver_counts old new share (Counted i) (counts, index) =
      inr (record { share = share; event_is = refl; answer_is = ap Counted index; counts = counts })
  deliver_counts old new share (Granted i) never = absurd never
  deliver_counts old new share NoneOpen never = absurd never
  deliver_counts old new share (Freed n) never = absurd never
  deliver_counts old new share Restarted never = absurd never

  lose_counts : (old new : Lists R E) (worker : ℕ) (answer : Answer) → Loses old worker answer new
      → LeavesCounted old (Lose worker) answer new ⊎ CountsOne old (Lose worker) answer new
  lose_counts old new worker (Freed n) (count, is) =
      leaves old new (Lose worker) (Freed n) (ap (λ (l : Lists R E). l.counted) is) refl (λ k never. absurd never)
  lose_counts old new worker (Granted i) never = absurd never
  lose_counts old new worker NoneOpen never = absurd never
  lose_counts old new worker (Counted i) never = absurd never
  lose_counts old new worker (Repeat i) never = absurd never
  lose_counts old new worker (Refused why) never = absurd never
  lose_counts old new worker Restarted never = absurd never

  restart_counts : (old new : Lists R E) (answer : Answer) → Restarts old answer new
      → LeavesCounted old Restart answer new ⊎ CountsOne old Restart answer new
  restart_counts old new Restarted is =
      leaves old new Restart Restarted (ap (λ (l : Lists R E). l.counted) is) refl (λ k never. absurd never)
  restart_counts old new (Granted i) never = absurd never
  restart_counts old new NoneOpen never = absurd never
  restart_counts old new (Counted i) never = absurd never
  restart_counts old new (Repeat i) never = absurd never
  restart_counts old new (Refused why) never = absurd never
  restart_counts old new (Freed n) never = absurd never

  step_counts : (old new : Lists R E) (event : Event) (answer : Answer) → Answers value setting old event answer new
      → LeavesCounted old event answer new ⊎ CountsOne old event answer new
  step_counts old new (Grant worker) answer answers = grant_counts old new worker answer answers
  step_counts old new (Deliver share) answer answers = deliver_counts old new share answer answers
  step_counts old new (Lose worker) answer answers = lose_counts old new worker answer answers
  step_counts old new Restart answer answers = restart_counts old new answer answers

  -- lists stay shares of the table
  run_keeps : (steps : List (Event × Answer)) (old new : Lists R E) → AreLists setting old → Runs value setting steps old new → AreLists setting new
  run_keeps [] old new kept same = subst (AreLists setting) (sym same) kept
  run_keeps (s ∷ steps) old new kept (mid, answers, runs) =
      run_keeps steps mid new (step_keeps value setting old s.0 s.1 mid kept answers) runs

  pub lists_of_run : (steps : List (Event × Answer)) (lists : Lists R E) → Runs value setting steps empty lists → AreLists setting lists
  lists_of_run steps lists runs = run_keeps steps empty lists (empty_lists setting) runs

  indices_step : (old new : Lists R E) (event : Event) (answer : Answer) → LeavesCounted old event answer new ⊎ CountsOne old event answer new
      → indices_of new.counted ≡ indices_of old.counted ++ index_counted answer
  indices_step old new event answer (inl leaves) =
      ap (λ (l : List (Checked R E)). indices_of l) leaves.same ∙ sym (append-nil (indices_of old.counted))
      ∙ ap (λ l. indices_of old.counted ++ l) (sym leaves.none)
  indices_step old new event answer (inr one) =
      let c = one.counts.checked in
      let index : c.id.index ≡ one.share.id.index = ap (λ id. id.index) one.counts.read.id in
      ap (λ (l : Lists R E). indices_of l.counted) one.counts.lists ∙ map-append (λ (d : Checked R E). d.id.index) old.counted (c ∷ [])
      ∙ ap (λ i. indices_of old.counted ++ i ∷ []) index ∙ ap (λ a. indices_of old.counted ++ index_counted a) (sym one.answer_is)

  indices_run : (steps : List (Event × Answer)) (old new : Lists R E) → Runs value setting steps old new
      → indices_of new.counted ≡ indices_of old.counted ++ counted_in steps
  indices_run [] old new same = ap (λ (l : Lists R E). indices_of l.counted) same ∙ sym (append-nil (indices_of old.counted))
  indices_run (s ∷ steps) old new (mid, answers, runs) =
      indices_run steps mid new runs
      ∙ ap (λ l. l ++ counted_in steps) (indices_step old mid s.0 s.1 (step_counts old mid s.0 s.1 answers))
      ∙ append_assoc (indices_of old.counted) (index_counted s.1) (counted_in steps)
      ∙ ap (λ l. indices_of old.counted ++ l) (sym (flat_map-cons (λ (t : Event × Answer). index_counted t.1) s steps))

  -- the counted indices are those of the answers
  pub indices_of_run : (steps : List (Event × Answer)) (lists : Lists R E) → Runs value setting steps empty lists
      → indices_of lists.counted ≡ counted_in steps
  indices_of_run steps lists runs = indices_run steps empty lists runs

  pub apart_in_run : (steps : List (Event × Answer)) (lists : Lists R E) → Runs value setting steps empty lists
      → AllPairs (λ i k. i ≢ k) (counted_in steps)
  apart_in_run steps lists runs =
      subst (AllPairs (λ i k. i ≢ k)) (indices_of_run steps lists runs)
      (AllPairs-map (λ i k. i ≢ k) (λ (c : Checked R E). c.id.index) lists.counted (lists_of_run steps lists runs).apart)

  -- what holds of the counted shares after the steps that are done
  pub record Traces (steps : List (Event × Answer)) (lists : Lists R E) : Type 0 where
    pub first : All (IsFirstDelivered value setting steps) lists.counted
    pub taken : All (λ s. (i : ℕ) → IsDeliveryOf i s.0 → ¬ (IsRefused s.1) → HasIndex lists.counted i) steps

  first_stays : (steps : List (Event × Answer)) (s : Event × Answer) (c : Checked R E) → IsFirstDelivered value setting steps c
      → IsFirstDelivered value setting (steps ++ s ∷ []) c
  first_stays steps s c first = record {
    front = first.front;
    share = first.share;
    behind = first.behind ++ s ∷ [];
    is = ap (λ l. l ++ s ∷ []) first.is ∙ append_assoc first.front ((Deliver first.share, Counted c.id.index) ∷ first.behind) (s ∷ []);
    read = first.read;
    result = first.result;
    refused = first.refused;
  }

  first_counted : (steps : List (Event × Answer)) (s : Event × Answer) (old new : Lists R E) → Traces steps old → (one : CountsOne old s.0 s.1 new)
      → IsFirstDelivered value setting (steps ++ s ∷ []) one.counts.checked
  first_counted steps s old new traces one =
      let c = one.counts.checked in
      let index : c.id.index ≡ one.share.id.index = ap (λ id. id.index) one.counts.read.id in
      record {
        front = steps;
        share = one.share;
        behind = [];
        is = λ k. steps ++ (one.event_is k, (one.answer_is ∙ ap Counted (sym index)) k) ∷ [];
        read = one.counts.read;
        result = one.counts.result;
        refused = λ k d inside of_index. elim (refused_or_not (get_or steps k d).1) [
          | inl refused ↦ refused
          | inr not_refused ↦ absurd (one.counts.is_new.fresh (subst (HasIndex old.counted) index (traces.taken k d inside c.id.index of_index not_refused)))
        ];
      }

  traces_step : (steps : List (Event × Answer)) (s : Event × Answer) (old new : Lists R E) → Traces steps old
      → LeavesCounted old s.0 s.1 new ⊎ CountsOne old s.0 s.1 new → Traces (steps ++ s ∷ []) new
  traces_step steps s old new traces (inl leaves) =
      let there : (i : ℕ) → HasIndex old.counted i → HasIndex new.counted i =
      λ i h. subst (λ (l : List (Checked R E)). HasIndex l i) (sym leaves.same) h in
      record {
        first = subst (All (IsFirstDelivered value setting (steps ++ s ∷ []))) (sym leaves.same)
            (All-weaker (IsFirstDelivered value setting steps) (IsFirstDelivered value setting (steps ++ s ∷ [])) (first_stays steps s) old.counted
            traces.first);
        taken = All-push (λ t. (i : ℕ) → IsDeliveryOf i t.0 → ¬ (IsRefused t.1) → HasIndex new.counted i) steps s
            (λ k d inside i of_index not_refused. there i (traces.taken k d inside i of_index not_refused))
            (λ i of_index not_refused. there i (leaves.settled i of_index not_refused));
      }
  traces_step steps s old new traces (inr one) =
      let c = one.counts.checked in
      let index : c.id.index ≡ one.share.id.index = ap (λ id. id.index) one.counts.read.id in
      let counted : new.counted ≡ old.counted ++ c ∷ [] = ap (λ (l : Lists R E). l.counted) one.counts.lists in
      let there : (i : ℕ) → HasIndex (old.counted ++ c ∷ []) i → HasIndex new.counted i =
      λ i h. subst (λ (l : List (Checked R E)). HasIndex l i) (sym counted) h in
      record {
        first = subst (All (IsFirstDelivered value setting (steps ++ s ∷ []))) (sym counted)
            (All-push (IsFirstDelivered value setting (steps ++ s ∷ [])) old.counted c
            (All-weaker (IsFirstDelivered value setting steps) (IsFirstDelivered value setting (steps ++ s ∷ [])) (first_stays steps s) old.counted
            traces.first)
            (first_counted steps s old new traces one));
        taken = All-push (λ t. (i : ℕ) → IsDeliveryOf i t.0 → ¬ (IsRefused t.1) → HasIndex new.counted i) steps s
            (λ k d inside i of_index not_refused. there i (HasIndex-more old.counted c i (traces.taken k d inside i of_index not_refused)))
            (λ i of_index not_refused. there i (subst (HasIndex (old.counted ++ c ∷ []))
            (index ∙ subst (IsDeliveryOf i) one.event_is of_index) (HasIndex-push old.counted c)));
      }

  traces_run : (done steps : List (Event × Answer)) (old new : Lists R E) → Traces done old → Runs value setting steps old new
      → Traces (done ++ steps) new
  traces_run done [] old new traces same =
      subst (λ (l : Lists R E). Traces (done ++ []) l) (sym same) (subst (λ l. Traces l old) (sym (append-nil done)) traces)
  traces_run done (s ∷ steps) old new traces (mid, answers, runs) =
      subst (λ l. Traces l new) (append_assoc done (s ∷ []) steps)
      (traces_run (done ++ s ∷ []) steps mid new (traces_step done s old mid traces (step_counts old mid s.0 s.1 answers)) runs)

  pub traces_of_run : (steps : List (Event × Answer)) (lists : Lists R E) → Runs value setting steps empty lists → Traces steps lists
  traces_of_run steps lists runs =
      traces_run [] steps empty lists (record {
        first = All-nil (IsFirstDelivered value setting []);
        taken = All-nil (λ s. (i : ℕ) → IsDeliveryOf i s.0 → ¬ (IsRefused s.1) → HasIndex [] i);
      }) runs

  index_there : (counted : List (Checked R E)) (i : ℕ) → HasIndex counted i → Contains (indices_of counted) i
  index_there counted i (k, c, inside, at, is) = (
    k,
    subst (λ n. k < n) (sym (length-map counted (λ (d : Checked R E). d.id.index))) inside,
    get_or-map (λ (d : Checked R E). d.id.index) counted k c i inside ∙ ap (λ (d : Checked R E). d.id.index) at ∙ is,
  )

  share_there : (counted : List (Checked R E)) (i : ℕ) → Contains (indices_of counted) i → HasIndex counted i
  share_there [] i there = absurd (nothing_there i there)
  share_there (c ∷ counted) i there =
      elim (Contains-cases c.id.index (indices_of counted) i there) [
        | inl same ↦ (0, c, omega arith, refl, same)
        | inr behind ↦ let h = share_there counted i behind in (suc h.0, h.1, omega (arith, h.2), h.3, h.4)
      ]

  -- all are counted exactly where each is counted once
  pub done_in_run : (steps : List (Event × Answer)) (lists : Lists R E) → Runs value setting steps empty lists
      → HasAll setting.of lists.counted ↔ ((i : ℕ) → i < setting.of → count_by (λ k. nat_eq k i) (counted_in steps) ≡ 1)
  done_in_run steps lists runs = (
    λ all i below. once i (counted_in steps) (apart_in_run steps lists runs)
        (subst (λ l. Contains l i) (indices_of_run steps lists runs) (index_there lists.counted i (all i below))),
    λ each i below. share_there lists.counted i
        (subst (λ l. Contains l i) (sym (indices_of_run steps lists runs)) (found i (counted_in steps) (omega (arith, each i below)))),
  )
