-- What runs grant.
use Rattle.std.proofs.Common.{◌≡◌, ℕ, ◌⊎◌, Bool, true, false, not, cond, nat_eq, List, [], ◌∷◌, ◌++◌, refl, sym}
use Rattle.std.proofs.Common.{◌∙◌, ap, subst, inl, inr}
use Rattle.std.specs.Prelude.{◌≢◌, ◌↔◌, Contains, All, filter}
use Rattle.std.proofs.lemmas.Bool.{eqb-true, eq-eqb}
use Rattle.std.proofs.lemmas.List.Elements.{All-nil, All-cons, All-head, All-tail, All-filter, All-contains, All-contains_itself, filter_passes}
use Rattle.std.proofs.lemmas.List.Elements.{Contains-push, Contains-push_cases, Contains-append_left}
use Rattle.share_model.specs.declared.share.Share.{Share}
use Rattle.share_core.specs.declared.events.Event.{Event}
use Rattle.share_core.specs.declared.events.Event.TheVariants.{Grant, Deliver, Lose, Restart}
use Rattle.share_core.specs.declared.events.Answer.{Answer}
use Rattle.share_core.specs.declared.events.Answer.TheVariants.{Granted, NoneOpen, Counted, Repeat, Refused, Freed, Restarted}
use Rattle.share_core.specs.declared.events.Refusal.TheVariants.{Other, Share as Faulty}
use Rattle.share_core.specs.Lists.{Lists, empty}
use Rattle.share_core.specs.Coordinations.{Setting}
use Rattle.share_core.specs.Steps.{Grants, Delivers, Loses, Restarts, Answers}
use Rattle.share_core.specs.Runs.{Runs, Ends, IsGrantedIn}
use Rattle.share_core.proofs.IndexCounts.{nothing_there, Contains-cases, Contains-first, Contains-behind}

module _ {X : Type 0} (p : X → Bool) where
  -- what a filter keeps
  kept_by : (xs : List X) (x : X) → Contains (filter p xs) x → Contains xs x × (p x ≡ true)
  kept_by xs x there = (
    All-contains (Contains xs) (filter p xs) x (All-filter p (Contains xs) xs (All-contains_itself xs)) there,
    All-contains (λ y. p y ≡ true) (filter p xs) x (filter_passes p xs) there,
  )

  keeps_cons : (y : X) (xs : List X) (x : X) (b : Bool) → b ≡ p y → Contains (y ∷ xs) x → p x ≡ true → (Contains xs x → Contains (filter p xs) x)
      → Contains (cond b (y ∷ filter p xs) (filter p xs)) x
  keeps_cons y xs x true e there passes rest =
      elim (Contains-cases y xs x there) [
        | inl same ↦ Contains-first y (filter p xs) x same
        | inr behind ↦ Contains-behind y (filter p xs) x (rest behind)
      ]
  keeps_cons y xs x false e there passes rest =
      elim (Contains-cases y xs x there) [
        | inl same ↦ let passed : p y ≡ true = ap p same ∙ passes in absurd (cc (passed, e))
        | inr behind ↦ rest behind
      ]

  keeps : (xs : List X) (x : X) → Contains xs x → p x ≡ true → Contains (filter p xs) x
  keeps [] x there passes = absurd (nothing_there x there)
  keeps (y ∷ xs) x there passes = keeps_cons y xs x (p y) refl there passes (λ behind. keeps xs x behind passes)

other_then : (a b : ℕ) → not (nat_eq a b) ≡ true → a ≢ b
other_then a b passes same = let equal : nat_eq a b ≡ true = eq-eqb a b same in let turned : not (nat_eq a b) ≡ false = ap not equal in
    absurd (cc (passes, turned))

passes_other : (a b : ℕ) (r : Bool) → r ≡ nat_eq a b → a ≢ b → not r ≡ true
passes_other a b true e other = absurd (other (eqb-true a b (sym e)))
passes_other a b false e other = refl

if_other : (a b : ℕ) → a ≢ b → not (nat_eq a b) ≡ true
if_other a b other = passes_other a b (nat_eq a b) refl other

-- the pair was there and the step does not end it, or the step grants it
abbrev pub StaysOrComes : List (ℕ × ℕ) → Event → Answer → ℕ → ℕ → Type 0
StaysOrComes granted event answer i worker =
    (Contains granted (i, worker) × ¬ (Ends i worker event answer)) ⊎ ((event ≡ Grant worker) × (answer ≡ Granted i))

module _ {R E : Type 0} (value : E → ℕ) (setting : Setting R) where
  at_granted : (old new : Lists R E) (granted : List (ℕ × ℕ)) (P : Type 0) (i worker : ℕ) → new.granted ≡ granted
      → (Contains granted (i, worker) ↔ P) → Contains new.granted (i, worker) ↔ P
  at_granted old new granted P i worker same both =
      subst (λ (l : List (ℕ × ℕ)). Contains l (i, worker) ↔ P) (sym same) both

  -- nothing comes and nothing ends
  stays : (old new : Lists R E) (event : Event) (answer : Answer) (i worker : ℕ) → new ≡ old → ¬ (Ends i worker event answer)
      → ¬ ((event ≡ Grant worker) × (answer ≡ Granted i)) → Contains new.granted (i, worker) ↔ StaysOrComes old.granted event answer i worker
  stays old new event answer i worker same lasts none =
      at_granted old new old.granted (StaysOrComes old.granted event answer i worker) i worker (ap (λ (l : Lists R E). l.granted) same) (
        λ there. inl (there, lasts),
        λ either. elim either [ inl there ↦ there.0 | inr comes ↦ absurd (none comes) ],
      )

  -- nothing comes, and what fails the test ends
  thins : (old new : Lists R E) (p : ℕ × ℕ → Bool) (event : Event) (answer : Answer) (i worker : ℕ) → new.granted ≡ filter p old.granted
      → (p (i, worker) ≡ true → ¬ (Ends i worker event answer)) → (¬ (Ends i worker event answer) → p (i, worker) ≡ true)
      → ¬ (event ≡ Grant worker) → Contains new.granted (i, worker) ↔ StaysOrComes old.granted event answer i worker
  thins old new p event answer i worker same lasts passes none =
      at_granted old new (filter p old.granted) (StaysOrComes old.granted event answer i worker) i worker same (
        λ there. let k = kept_by p old.granted (i, worker) there in inl (k.0, lasts k.1),
        λ either. elim either [ inl there ↦ keeps p old.granted (i, worker) there.0 (passes there.1) | inr comes ↦ absurd (none comes.0) ],
      )

  grant_grants : (old new : Lists R E) (other : ℕ) (answer : Answer) (i worker : ℕ) → Grants setting.of old other answer new
      → Contains new.granted (i, worker) ↔ StaysOrComes old.granted (Grant other) answer i worker
  grant_grants old new other (Granted k) i worker (least, is) =
      at_granted old new (old.granted ++ (k, other) ∷ []) (StaysOrComes old.granted (Grant other) (Granted k) i worker) i worker
      (ap (λ (l : Lists R E). l.granted) is) (
        λ there. elim (Contains-push_cases old.granted (k, other) (i, worker) there) [
          | inl before ↦ inl (before, λ never. never)
          | inr last ↦ inr (ap (λ (g : ℕ × ℕ). Grant g.1) last, ap (λ (g : ℕ × ℕ). Granted g.0) last)
        ],
        λ either. elim either [
          | inl there ↦ Contains-append_left old.granted ((k, other) ∷ []) (i, worker) there.0
          | inr comes ↦ let e = comes.0 in let a = comes.1 in let same_worker : other ≡ worker = cc e in let same_index : k ≡ i = cc a in
              subst (λ (g : ℕ × ℕ). Contains (old.granted ++ (k, other) ∷ []) g) (λ j. (same_index j, same_worker j)) (Contains-push old.granted (k, other))
        ],
      )
  grant_grants old new other NoneOpen i worker (none, is) =
      stays old new (Grant other) NoneOpen i worker is (λ never. never) (λ comes. let a = comes.1 in absurd (cc a))
  grant_grants old new other (Counted k) i worker never = absurd never
  grant_grants old new other (Repeat k) i worker never = absurd never
  grant_grants old new other (Refused why) i worker never = absurd never
  grant_grants old new other (Freed n) i worker never = absurd never
  grant_grants old new other Restarted i worker never = absurd never

  deliver_grants : (old new : Lists R E) (share : Share) (answer : Answer) (i worker : ℕ) → Delivers value setting old share answer new
      → Contains new.granted (i, worker) ↔ StaysOrComes old.granted (Deliver share) answer i worker
  deliver_grants old new share (Refused Other) i worker (unfit, is) =
      stays old new (Deliver share) (Refused Other) i worker is (λ never. never) (λ comes. let a = comes.1 in absurd (cc a))
  deliver_grants old new share (Refused (Faulty fault)) i worker (is_new, told, is) =
      stays old new (Deliver share) (Refused (Faulty fault)) i worker is (λ never. never) (λ comes. let a = comes.1 in absurd (cc a))
  deliver_grants old new share (Repeat k) i worker (repeats, index, is) =
      stays old new (Deliver share) (Repeat k) i worker is (λ never. never) (λ comes. let a = comes.1 in absurd (cc a))
  deliver_grants old new share (Counted k) i worker (counts, index) =
      thins old new (λ g. not (nat_eq g.0 share.id.index)) (Deliver share) (Counted k) i worker (ap (λ (l : Lists R E). l.granted) counts.lists)
      (λ passes ends. other_then i share.id.index passes (sym ends ∙ index))
      (λ lasts. if_other i share.id.index (λ same. lasts (index ∙ sym same)))
      (λ e. absurd (cc e))
  deliver_grants old new share (Granted k) i worker never = absurd never
  deliver_grants old new share NoneOpen i worker never = absurd never
  deliver_grants old new share (Freed n) i worker never = absurd never
  deliver_grants old new share Restarted i worker never = absurd never

  lose_grants : (old new : Lists R E) (other : ℕ) (answer : Answer) (i worker : ℕ) → Loses old other answer new
      → Contains new.granted (i, worker) ↔ StaysOrComes old.granted (Lose other) answer i worker
  lose_grants old new other (Freed n) i worker (count, is) =
      thins old new (λ g. not (nat_eq g.1 other)) (Lose other) (Freed n) i worker (ap (λ (l : Lists R E). l.granted) is)
      (λ passes ends. other_then worker other passes (sym ends))
      (λ lasts. if_other worker other (λ same. lasts (sym same)))
      (λ e. absurd (cc e))
  lose_grants old new other (Granted k) i worker never = absurd never
  lose_grants old new other NoneOpen i worker never = absurd never
  lose_grants old new other (Counted k) i worker never = absurd never
  lose_grants old new other (Repeat k) i worker never = absurd never
  lose_grants old new other (Refused why) i worker never = absurd never
  lose_grants old new other Restarted i worker never = absurd never

  restart_grants : (old new : Lists R E) (answer : Answer) (i worker : ℕ) → Restarts old answer new
      → Contains new.granted (i, worker) ↔ StaysOrComes old.granted Restart answer i worker
  restart_grants old new Restarted i worker is =
      at_granted old new [] (StaysOrComes old.granted Restart Restarted i worker) i worker (ap (λ (l : Lists R E). l.granted) is) (
        λ there. absurd (nothing_there (i, worker) there),
        λ either. elim either [ inl there ↦ absurd (there.1 tt) | inr comes ↦ let e = comes.0 in absurd (cc e) ],
      )
  restart_grants old new (Granted k) i worker never = absurd never
  restart_grants old new NoneOpen i worker never = absurd never
  restart_grants old new (Counted k) i worker never = absurd never
  restart_grants old new (Repeat k) i worker never = absurd never
  restart_grants old new (Refused why) i worker never = absurd never
  restart_grants old new (Freed n) i worker never = absurd never

  step_grants : (old new : Lists R E) (event : Event) (answer : Answer) (i worker : ℕ) → Answers value setting old event answer new
      → Contains new.granted (i, worker) ↔ StaysOrComes old.granted event answer i worker
  step_grants old new (Grant other) answer i worker answers = grant_grants old new other answer i worker answers
  step_grants old new (Deliver share) answer i worker answers = deliver_grants old new share answer i worker answers
  step_grants old new (Lose other) answer i worker answers = lose_grants old new other answer i worker answers
  step_grants old new Restart answer i worker answers = restart_grants old new answer i worker answers

  -- no step of the run ends the grant
  abbrev Lasts : ℕ → ℕ → List (Event × Answer) → Type 0
  Lasts i worker steps = All (λ s. ¬ (Ends i worker s.0 s.1)) steps

  granted_behind : (s : Event × Answer) (steps : List (Event × Answer)) (i worker : ℕ) → IsGrantedIn steps i worker → IsGrantedIn (s ∷ steps) i worker
  granted_behind s steps i worker g = record { front = s ∷ g.front; behind = g.behind; is = ap (λ l. s ∷ l) g.is; kept = g.kept }

  granted_first : (s : Event × Answer) (steps : List (Event × Answer)) (i worker : ℕ) → s.0 ≡ Grant worker → s.1 ≡ Granted i → Lasts i worker steps
      → IsGrantedIn (s ∷ steps) i worker
  granted_first s steps i worker event answer lasts =
      record { front = []; behind = steps; is = λ k. (event k, answer k) ∷ steps; kept = lasts }

  granted_cases : (s : Event × Answer) (steps front behind : List (Event × Answer)) (i worker : ℕ) → s ∷ steps ≡ front ++ (Grant worker, Granted i) ∷ behind
      → Lasts i worker behind → ((s.0 ≡ Grant worker) × (s.1 ≡ Granted i) × Lasts i worker steps) ⊎ IsGrantedIn steps i worker
  granted_cases s steps [] behind i worker is lasts =
      let first : s ≡ (Grant worker, Granted i) = cc is in
      let rest : steps ≡ behind = cc is in
      inl (ap (λ (t : Event × Answer). t.0) first, ap (λ (t : Event × Answer). t.1) first, subst (Lasts i worker) (sym rest) lasts)
  granted_cases s steps (f ∷ front) behind i worker is lasts =
      let rest : steps ≡ front ++ (Grant worker, Granted i) ∷ behind = cc is in
      inr (record { front = front; behind = behind; is = rest; kept = lasts })

  never_in : (front behind : List (Event × Answer)) (i worker : ℕ) → ¬ ([] ≡ front ++ (Grant worker, Granted i) ∷ behind)
  never_in [] behind i worker is = absurd (cc is)
  never_in (f ∷ front) behind i worker is = absurd (cc is)

  never_granted : (i worker : ℕ) → ¬ (IsGrantedIn [] i worker)
  never_granted i worker g = never_in g.front g.behind i worker g.is

  -- a pair is granted behind a run where it was granted before and lasted, or was granted in it
  granted_run : (steps : List (Event × Answer)) (old new : Lists R E) (i worker : ℕ) → Runs value setting steps old new
      → Contains new.granted (i, worker) ↔ ((Contains old.granted (i, worker) × Lasts i worker steps) ⊎ IsGrantedIn steps i worker)
  granted_run [] old new i worker same = (
    λ there. inl (subst (λ (l : Lists R E). Contains l.granted (i, worker)) same there, All-nil (λ s. ¬ (Ends i worker s.0 s.1))),
    λ either. elim either [
      | inl there ↦ subst (λ (l : Lists R E). Contains l.granted (i, worker)) (sym same) there.0
      | inr granted ↦ absurd (never_granted i worker granted)
    ],
  )
  granted_run (s ∷ steps) old new i worker (mid, answers, runs) =
      let behind = granted_run steps mid new i worker runs in
      let here = step_grants old mid s.0 s.1 i worker answers in (
        λ there. elim (behind.0 there) [
          | inl before ↦ elim (here.0 before.0) [
            | inl stays ↦ inl (stays.0, All-cons (λ t. ¬ (Ends i worker t.0 t.1)) s steps stays.1 before.1)
            | inr comes ↦ inr (granted_first s steps i worker comes.0 comes.1 before.1)
          ]
          | inr granted ↦ inr (granted_behind s steps i worker granted)
        ],
        λ either. elim either [
          | inl there ↦ behind.1 (inl (
            here.1 (inl (there.0, All-head (λ t. ¬ (Ends i worker t.0 t.1)) s steps there.1)),
            All-tail (λ t. ¬ (Ends i worker t.0 t.1)) s steps there.1,
          ))
          | inr granted ↦ elim (granted_cases s steps granted.front granted.behind i worker granted.is granted.kept) [
            | inl comes ↦ behind.1 (inl (here.1 (inr (comes.0, comes.1)), comes.2))
            | inr later ↦ behind.1 (inr later)
          ]
        ],
      )

  -- granted are the pairs that the run granted and did not end
  pub granted_of_run : (steps : List (Event × Answer)) (lists : Lists R E) (i worker : ℕ) → Runs value setting steps empty lists
      → Contains lists.granted (i, worker) ↔ IsGrantedIn steps i worker
  granted_of_run steps lists i worker runs =
      let both = granted_run steps empty lists i worker runs in (
        λ there. elim (both.0 there) [ inl before ↦ absurd (nothing_there (i, worker) before.0) | inr granted ↦ granted ],
        λ granted. both.1 (inr granted),
      )
