use Rattle.std.proofs.Common.{◌≡◌, ℕ, Bool, true, false, List, refl, sym, ap, subst, ◌∙◌}
use Rattle.std.specs.Prelude.{if◌then◌else◌, Option}
use Rattle.acct_base.specs.declared.register.Key.TheVariants as key
use Rattle.acct_base.specs.declared.register.Write.{Write}
use Rattle.acct_base.specs.declared.sizes.RegSizes.{RegSizes}
use Rattle.acct_base.specs.Journal.{current}
use Rattle.desk_core.specs.declared.command.Bit.{Bit}
use Rattle.desk_core.specs.declared.command.Chain.{Chain}
use Rattle.desk_core.specs.declared.command.Chain.TheVariants.{Dozable, Standby, PowerSave}
use Rattle.desk_core.specs.declared.command.Command.TheVariants.{Replace}
use Rattle.desk_core.specs.Commands.{bit_value, chain_bit, entry_has, entry_with, entry_without, is_listed, after_command}
use Rattle.acct_base.specs.Rules.{iface_bit}
use Rattle.std.specs.Prelude.{◌==◌}
use Rattle.desk_core.specs.Laws.{KeepsOtherBits, KeepsIface}
use Rattle.desk_core.proofs.EntryLemmas.{has-with, has-without, others-with, others-without, iface-with, iface-without}
use Rattle.desk_core.proofs.ValueLemmas.{after-done, after-either, replaced, replaced-other}
use Rattle.desk_core.proofs.laws.replacement_makes_the_list.Goals as goal

abbrev entry_after : Bit → Bool → Bool → Option ℕ → Option ℕ
entry_after b listed had o = if listed then entry_with (bit_value b) 0 o else if had then entry_without (bit_value b) o else o

has : (b : Bit) (listed had : Bool) (o : Option ℕ) → entry_has (bit_value b) o ≡ had → entry_has (bit_value b) (entry_after b listed had o) ≡ listed
has b true had o e = has-with b o 0
has b false true o e = has-without b o
has b false false o e = e

others : (b : Bit) (listed had : Bool) (o : Option ℕ) → KeepsOtherBits (bit_value b) o (entry_after b listed had o)
others b true had o = others-with b o 0
others b false true o = others-without b o
others b false false o = λ place within other. refl

chain_not_iface : (c : Chain) → (bit_value (chain_bit c) == iface_bit) ≡ false
chain_not_iface Dozable = refl
chain_not_iface Standby = refl
chain_not_iface PowerSave = refl

ifaces : (c : Chain) (listed had : Bool) (o : Option ℕ) → KeepsIface o (entry_after (chain_bit c) listed had o)
ifaces c true had o = λ left. iface-with (chain_bit c) o 0
ifaces c false true o = iface-without (chain_bit c) o (chain_not_iface c)
ifaces c false false o = λ left. refl

rest : (journal : List Write) (privileged : List ℕ) (limits : RegSizes) (c : Chain) (uids : List ℕ) (uid : ℕ) (P : Option ℕ → Type 0)
    → P (current journal (key.Owner uid)) → ((listed had : Bool) → P (entry_after (chain_bit c) listed had (current journal (key.Owner uid))))
    → P (current (after_command privileged limits journal (Replace c uids)) (key.Owner uid))
rest journal privileged limits c uids uid P same each =
    after-either (λ (j : List Write). P (current j (key.Owner uid))) journal privileged limits (Replace c uids) same
    (subst P (sym (replaced journal (bit_value (chain_bit c)) uids uid)) (each (is_listed uids uid) (entry_has (bit_value (chain_bit c)) (current journal (key.Owner uid)))))

pub returns-clause-listed : goal.returns-clause-listed
returns-clause-listed c = λ journal privileged limits chain uids uid done.
    ap (λ (j : List Write). entry_has (bit_value (chain_bit chain)) (current j (key.Owner uid))) (after-done journal privileged limits (Replace chain uids) done)
    ∙ ap (entry_has (bit_value (chain_bit chain))) (replaced journal (bit_value (chain_bit chain)) uids uid)
    ∙ has (chain_bit chain) (is_listed uids uid) (entry_has (bit_value (chain_bit chain)) (current journal (key.Owner uid))) (current journal (key.Owner uid)) refl

pub returns-clause-rest : goal.returns-clause-rest
returns-clause-rest c = λ journal privileged limits chain uids uid. (
  rest journal privileged limits chain uids uid (KeepsOtherBits (bit_value (chain_bit chain)) (current journal (key.Owner uid)))
      (λ place within other. refl) (λ listed had. others (chain_bit chain) listed had (current journal (key.Owner uid))),
  rest journal privileged limits chain uids uid (KeepsIface (current journal (key.Owner uid)))
      (λ left. refl) (λ listed had. ifaces chain listed had (current journal (key.Owner uid))),
)

pub returns-clause-other_keys : goal.returns-clause-other_keys
returns-clause-other_keys c = λ journal privileged limits chain uids k h.
    after-either (λ (j : List Write). current j k ≡ current journal k) journal privileged limits (Replace chain uids) refl
    (replaced-other journal (bit_value (chain_bit chain)) uids k h)
