-- What was read of a source, and what is true of it.
use Rattle.std.proofs.Common.{◌≡◌, ◌⊎◌, ℕ, List, ◌++◌, take, refl, sym, ap, subst, ◌∙◌, arith, inl, inr, Option, Some, None, append-nil, ◌≢◌, Result, Err, IsErrOf, IfSome, IfNone}
use Rattle.std.proofs.lemmas.List.{take_all}
use Rattle.hook_engine.specs.Ends.{Told}
use Rattle.outside.specs.Generated.{generated}
use Rattle.script_text.specs.declared.limits.Counts.{Counts}
use Rattle.shelf.specs.declared.report.Report.{Report}
use Rattle.replay_main.specs.declared.fault.Fault.{Fault}
use Rattle.replay_main.specs.declared.fault.Fault.TheVariants as fault
use Rattle.replay_main.specs.declared.words.Form.{Form}
use Rattle.replay_main.specs.declared.words.Form.TheVariants.{Replay, Plain, Check, Gen, Bulk}
use Rattle.replay_main.specs.Judged.{IsScriptText}
use Rattle.replay_main.specs.Judgements.{ScriptHasNoFault, OneFault}
use Rattle.replay_main.specs.Reached.{IsRead, IsPlain, IsCheckedAs}
use Rattle.replay_main.specs.Run.{WasSo, TellsSo, LooksLikeScript, DecidesOn, IsOfText, IsReplayed, Gives, HasRun}
use Rattle.replay_main.specs.Words.{IsPlainForm}

-- what was read is a script
pub read_script : (was now : Option (List ℕ)) (text : List ℕ) → IsRead was now text → IsScriptText text → WasSo LooksLikeScript was
read_script None now text read is = tt
read_script (Some whole) None text read is = absurd read.read
read_script (Some whole) (Some rest) text read is =
    let same : whole ≡ text = read.read ∙ ap (λ (r : List ℕ). text ++ r) read.end ∙ append-nil text in
    subst IsScriptText (sym (ap (take 268435457) same ∙ take_all 268435457 text (omega (arith, read.within)))) is

pub plain_script : (text : List ℕ) (report : Report) → IsPlain text report → IsScriptText text
plain_script text report is = (is.header, is.sections, is.calls, is.judged)

pub checked_script : (text : List ℕ) (counts : Counts) → IsCheckedAs text counts → IsScriptText text
checked_script text counts is = (is.header, is.sections, is.calls, is.judged)

pub replayed_script : (text : List ℕ) (report : Report) (before after : Option Told) → IsReplayed text report before after → IsScriptText text
replayed_script text report before after is = (is.header, is.sections, is.calls, is.judged)

-- what is done on one thread tells no tally, whatever that tells
plain_gives : (form : Form) (script : List ℕ) (before after : Option Told) (report : Option Report) (text : List ℕ) → IsPlainForm form → Gives form script None None report text → Gives form script before after report text
plain_gives (Replay receipts) script before after report text plain h = absurd plain
plain_gives (Plain receipts) script before after None text plain h = absurd h
plain_gives (Plain receipts) script before after (Some report) text plain h = h
plain_gives Check script before after None text plain h = h
plain_gives Check script before after (Some report) text plain h = absurd h
plain_gives (Gen rounds) script before after None text plain h = h
plain_gives (Gen rounds) script before after (Some report) text plain h = absurd h
plain_gives (Bulk rounds) script before after report text plain h = absurd plain

pub plain_run : (form : Form) (was now : Option (List ℕ)) (before after : Option Told) (report : Option Report) (Writes : List ℕ → Type 0) → IsPlainForm form → HasRun form was now None None report Writes → HasRun form was now before after report Writes
plain_run form was now before after report Writes plain h = record { script = h.script; read = h.read; text = h.text; gives = plain_gives form h.script before after report h.text plain h.gives; writes = h.writes }

-- the generated script was written, or a front of it
pub gen_run : (rounds : ℕ) (left : Option (List ℕ)) (before after : Option Told) (report : Option Report) (Writes : List ℕ → Type 0) → report ≡ None → Writes (generated rounds) → HasRun (Gen rounds) left left before after report Writes
gen_run rounds left before after report Writes none wrote = record {
  script = generated rounds;
  read = (refl, refl);
  text = generated rounds;
  gives = subst (λ (r : Option Report). Gives (Gen rounds) (generated rounds) before after r (generated rounds)) (sym none) refl;
  writes = wrote;
}

-- only a write may fail there
pub gen_fault : (whole : Option Fault) (f : Fault) → (whole ≡ None) ⊎ (whole ≡ Some fault.WriteFault) → whole ≡ Some f → f ≡ fault.WriteFault
gen_fault whole f (inl none) is = absurd (let a : None ≡ Some f = sym none ∙ is in cc)
gen_fault whole f (inr wrote) is = let a : Some f ≡ Some fault.WriteFault = sym is ∙ wrote in cc

-- what was read of a source that tells its bytes is what they were
pub read_whole : (whole : List ℕ) (now : Option (List ℕ)) (text : List ℕ) → IsRead (Some whole) now text → text ≡ whole
read_whole whole None text read = absurd read.read
read_whole whole (Some rest) text read = sym (read.read ∙ ap (λ (r : List ℕ). text ++ r) read.end ∙ append-nil text)

-- a script that was replayed is one, looked at as far as a text is
pub generated_script : (now : Option (List ℕ)) (whole text : List ℕ) (report : Report) (before after : Option Told) → IsRead (Some whole) now text → IsReplayed text report before after → IsReplayed whole report before after
generated_script now whole text report before after read is = subst (λ (t : List ℕ). IsReplayed t report before after) (read_whole whole now text read) is

-- ---- which fault comes

apart : ScriptHasNoFault → (f : Fault) (left : Option (List ℕ)) → TellsSo LooksLikeScript left → WasSo (DecidesOn f) left → ⊥
apart law f None tells was = tells
apart law f (Some text) tells was = law _ f tells was

apart_too : ScriptHasNoFault → (f : Fault) (left : Option (List ℕ)) → WasSo LooksLikeScript left → TellsSo (DecidesOn f) left → ⊥
apart_too law f None was tells = tells
apart_too law f (Some text) was tells = law _ f was tells

same_fault : OneFault → (f g : Fault) (left : Option (List ℕ)) → WasSo (DecidesOn f) left → TellsSo (DecidesOn g) left → f ≡ g
same_fault law f g None was tells = absurd tells
same_fault law f g (Some text) was tells = law _ f g was tells

-- a fault that is none of memory has its cause
pub caused : (Read Write : Type 0) (P : Fault → Type 0) (f : Fault) (whole : Option Fault) → whole ≡ Some f → whole ≢ Some fault.Usage → (whole ≡ Some fault.ReadFault → Read) → (Read → ⊥)
    → (whole ≡ Some fault.WriteFault → Write) → (Write → ⊥) → ((f : Fault) → whole ≡ Some f → IsOfText f → P f) → (f ≡ fault.Memory) ⊎ P f
caused Read Write P fault.Usage whole is usage read unread write unwritten text = absurd (usage is)
caused Read Write P fault.ReadFault whole is usage read unread write unwritten text = absurd (unread (read is))
caused Read Write P fault.WriteFault whole is usage read unread write unwritten text = absurd (unwritten (write is))
caused Read Write P (fault.Syntax line) whole is usage read unread write unwritten text = inr (text _ is tt)
caused Read Write P (fault.Limit which line) whole is usage read unread write unwritten text = inr (text _ is tt)
caused Read Write P (fault.CaptureBad line place) whole is usage read unread write unwritten text = inr (text _ is tt)
caused Read Write P (fault.NoPacket line) whole is usage read unread write unwritten text = inr (text _ is tt)
caused Read Write P fault.Memory whole is usage read unread write unwritten text = inl refl

module _ (Read Write : Type 0) (left : Option (List ℕ)) (whole : Option Fault) (usage : whole ≢ Some fault.Usage) (read : whole ≡ Some fault.ReadFault → Read) (unread : Read → ⊥)
    (write : whole ≡ Some fault.WriteFault → Write) (unwritten : Write → ⊥) (text : (f : Fault) → whole ≡ Some f → IsOfText f → WasSo (DecidesOn f) left) where
  complete_by : ScriptHasNoFault → TellsSo LooksLikeScript left → (o : Option Fault) → whole ≡ o → (o ≡ None) ⊎ (o ≡ Some fault.Memory)
  complete_by law tells None is = inl refl
  complete_by law tells (Some f) is = pick (caused Read Write (λ f. WasSo (DecidesOn f) left) f whole is usage read unread write unwritten text)
    where
      pick : (f ≡ fault.Memory) ⊎ WasSo (DecidesOn f) left → (Some f ≡ None) ⊎ (Some f ≡ Some fault.Memory)
      pick (inl memory) = inr (ap (λ (g : Fault). Some g) memory)
      pick (inr was) = absurd (apart law f left tells was)

  pub complete_run : ScriptHasNoFault → TellsSo LooksLikeScript left → (whole ≡ None) ⊎ (whole ≡ Some fault.Memory)
  complete_run law tells = complete_by law tells whole refl

  exact_by : ScriptHasNoFault → OneFault → (g : Fault) → TellsSo (DecidesOn g) left → (whole ≡ None → WasSo LooksLikeScript left) → (o : Option Fault) → whole ≡ o → (o ≡ Some g) ⊎ (o ≡ Some fault.Memory)
  exact_by law one g tells script None is = absurd (apart_too law g left (script is) tells)
  exact_by law one g tells script (Some f) is = pick (caused Read Write (λ f. WasSo (DecidesOn f) left) f whole is usage read unread write unwritten text)
    where
      pick : (f ≡ fault.Memory) ⊎ WasSo (DecidesOn f) left → (Some f ≡ Some g) ⊎ (Some f ≡ Some fault.Memory)
      pick (inl memory) = inr (ap (λ (g : Fault). Some g) memory)
      pick (inr was) = inl (ap (λ (g : Fault). Some g) (same_fault one f g left was tells))

  pub exact_run : ScriptHasNoFault → OneFault → (g : Fault) → TellsSo (DecidesOn g) left → (whole ≡ None → WasSo LooksLikeScript left) → (whole ≡ Some g) ⊎ (whole ≡ Some fault.Memory)
  exact_run law one g tells script = exact_by law one g tells script whole refl

-- ---- the fault of an answer

pub err_is : {T : Type 0} (r : Result T Fault) (f e : Fault) → IsErrOf r f → r ≡ Err e → f ≡ e
err_is r f e is at = cc

pub some_is : {T : Type 0} {o : Option T} {x : T} (P : T → Type 0) → IfSome o P → o ≡ Some x → P x
some_is {T} {o} {x} P h is = subst (λ (o : Option T). IfSome o P) is h

pub none_is : {T : Type 0} {o : Option T} {P : Type 0} → IfNone o P → o ≡ None → P
none_is {T} {o} {P} h is = subst (λ (o : Option T). IfNone o P) is h
