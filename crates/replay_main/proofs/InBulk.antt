-- Which faults a replay of the generated script may have.
use Rattle.std.proofs.Common.{◌≡◌, ◌⊎◌, ℕ, refl, sym, ap, subst, ◌∙◌, inl, inr, Option, Some, None}
use Rattle.outside.specs.Generated.{generated}
use Rattle.replay_main.specs.declared.fault.Fault.{Fault}
use Rattle.replay_main.specs.declared.fault.Fault.TheVariants as fault
use Rattle.replay_main.specs.Faults.{IsJudgingFault}
use Rattle.replay_main.specs.Run.{DecidesOn, IsOfText}
use Rattle.replay_main.specs.Words.{AreRounds}
use Rattle.replay_main.proofs.OneJudgement.{script_has_no_fault}
use Rattle.replay_main.proofs.GeneratedScript.{generated_is}

-- no fault decides on a generated script
pub nothing_decides : (rounds : ℕ) (f : Fault) → AreRounds rounds → DecidesOn f (generated rounds) → ⊥
nothing_decides rounds f are h = script_has_no_fault _ f (generated_is rounds are).looks_so h

-- so judging it can only want memory
pub only_memory : (rounds : ℕ) (f : Fault) → AreRounds rounds → (f ≡ fault.ReadFault → ⊥) → (IsOfText f → DecidesOn f (generated rounds)) → IsJudgingFault f → f ≡ fault.Memory
only_memory rounds fault.Usage are read text judging = absurd judging
only_memory rounds fault.ReadFault are read text judging = absurd (read refl)
only_memory rounds fault.WriteFault are read text judging = absurd judging
only_memory rounds (fault.Syntax line) are read text judging = absurd (nothing_decides rounds (fault.Syntax line) are (text tt))
only_memory rounds (fault.Limit which line) are read text judging = absurd (nothing_decides rounds (fault.Limit which line) are (text tt))
only_memory rounds (fault.CaptureBad line place) are read text judging = absurd (nothing_decides rounds (fault.CaptureBad line place) are (text tt))
only_memory rounds (fault.NoPacket line) are read text judging = absurd (nothing_decides rounds (fault.NoPacket line) are (text tt))
only_memory rounds fault.Memory are read text judging = refl

-- the faults that are left
abbrev pub IsLeft : Fault → Type 0
IsLeft fault.WriteFault = Unit {0}
IsLeft fault.Memory = Unit {0}
IsLeft _ = ⊥

pub is_left : (f : Fault) → (f ≡ fault.WriteFault) ⊎ (f ≡ fault.Memory) → IsLeft f
is_left f (inl e) = subst IsLeft (sym e) tt
is_left f (inr e) = subst IsLeft (sym e) tt

-- they are none of the text's
pub none_of_text : (f : Fault) → IsLeft f → IsOfText f → ⊥
none_of_text fault.Usage h of = h
none_of_text fault.ReadFault h of = h
none_of_text fault.WriteFault h of = of
none_of_text (fault.Syntax line) h of = h
none_of_text (fault.Limit which line) h of = h
none_of_text (fault.CaptureBad line place) h of = h
none_of_text (fault.NoPacket line) h of = h
none_of_text fault.Memory h of = of

module _ (Write : Type 0) (whole : Option Fault) (faults : (f : Fault) → whole ≡ Some f → (f ≡ fault.WriteFault) ⊎ (f ≡ fault.Memory)) (write : whole ≡ Some fault.WriteFault → Write) (unwritten : Write → ⊥) where
  done_by : (o : Option Fault) → whole ≡ o → (whole ≡ None) ⊎ (whole ≡ Some fault.Memory)
  done_by None is = inl is
  done_by (Some f) is = pick (faults f is)
    where
      pick : (f ≡ fault.WriteFault) ⊎ (f ≡ fault.Memory) → (whole ≡ None) ⊎ (whole ≡ Some fault.Memory)
      pick (inl e) = absurd (unwritten (write (is ∙ ap (λ (g : Fault). Some g) e)))
      pick (inr e) = inr (is ∙ ap (λ (g : Fault). Some g) e)

  -- where no write fails it is done, unless memory is wanting
  pub bulk_is_done : (whole ≡ None) ⊎ (whole ≡ Some fault.Memory)
  bulk_is_done = done_by whole refl
