-- Files as deliveries of their shares to a coordinator, over whatever ring.
use Rattle.std.specs.Prelude.{◌≡◌, ℕ, List, [], ◌∷◌, map}
use Rattle.table_model.specs.Faults.Verdict.{Whole, BadRow, NotReduced, Missing}
use Rattle.cert_checker.specs.Certified.{residues_at}
use Rattle.share_model.specs.declared.share.Share.{Share}
use Rattle.share_model.specs.declared.fault.ShareFault.TheVariants as fault
use Rattle.share_model.specs.Checked.{Checked}
use Rattle.share_core.specs.declared.events.Event.{Event}
use Rattle.share_core.specs.declared.events.Event.TheVariants.{Deliver}
use Rattle.share_core.specs.declared.events.Answer.{Answer}
use Rattle.share_core.specs.declared.events.Refusal.{Refusal}
use Rattle.share_core.specs.declared.events.Refusal.TheVariants as refusal
use Rattle.share_core.specs.Runs.{IsRefused}
use Rattle.merge_runs.specs.Files.{AreOfShare}
use Rattle.merge_runs.specs.Taking.{Why}
use Rattle.merge_runs.specs.Taking.Why.{Other, Found}
use Rattle.merge_runs.specs.Plain.{plain_of, plain_shares}

-- a step that is the delivery of the share in the file
abbrev pub IsDelivery : List ℕ → Event → Type 0
IsDelivery file (Deliver share) = AreOfShare file share
IsDelivery file _ = ⊥

-- one for each file, in order, and none is refused
abbrev pub AreDelivered : List (List ℕ) → List (Event × Answer) → Type 0
AreDelivered [] [] = Unit {0}
AreDelivered [] (s ∷ steps) = ⊥
AreDelivered (file ∷ files) [] = ⊥
AreDelivered (file ∷ files) (s ∷ steps) = IsDelivery file s.0 × (¬ (IsRefused s.1)) × AreDelivered files steps

-- the coordinator counts these shares, with elements of its ring for residues
abbrev pub CountsThese : {R E : Type 0} → (E → ℕ) → List (Checked R E) → List Share → Type 0
CountsThese value list counted = map (plain_of value) list ≡ plain_shares counted

-- why a file is refused whose share a coordinator refuses
abbrev pub why_refused : Refusal → Why
why_refused refusal.Other = Other
why_refused (refusal.Share (fault.NoInverseWord value word)) = Found Whole
why_refused (refusal.Share (fault.NoInverseRelation value n)) = Found Whole
why_refused (refusal.Share (fault.BadRow i)) = Found (BadRow i)
why_refused (refusal.Share (fault.NotReduced i)) = Found (NotReduced i)
why_refused (refusal.Share (fault.Missing n rest)) = Found (Missing n (residues_at rest))
why_refused (refusal.Share (fault.Memory e)) = Found Whole
