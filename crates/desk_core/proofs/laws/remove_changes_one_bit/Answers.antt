use Rattle.std.proofs.Common.{List, refl, sym, ap, subst, ◌∙◌}
use Rattle.acct_base.specs.declared.register.Key.TheVariants as key
use Rattle.acct_base.specs.declared.register.Write.{Write}
use Rattle.acct_base.specs.Journal.{current}
use Rattle.acct_base.specs.Rules.{iface_bit}
use Rattle.desk_core.specs.declared.command.Bit.TheVariants as bit
use Rattle.desk_core.specs.declared.command.Command.TheVariants.{Remove}
use Rattle.desk_core.specs.Commands.{bit_value, entry_has, iface_in, take_bit}
use Rattle.desk_core.specs.Laws.{KeepsOtherBits, KeepsIface, ChangesBitAlone}
use Rattle.desk_core.proofs.EntryLemmas.{has-without, others-without, iface-without, iface-gone, not_iface}
use Rattle.desk_core.proofs.ValueLemmas.{after-done, after-either, written_own, written_other}
use Rattle.desk_core.proofs.laws.remove_changes_one_bit.Goals as goal

pub returns-clause-own : goal.returns-clause-own
returns-clause-own c = λ journal privileged limits uid b done.
    ap (λ (j : List Write). entry_has (bit_value b) (current j (key.Owner uid))) (after-done journal privileged limits (Remove uid b) done)
    ∙ ap (entry_has (bit_value b)) (written_own journal (take_bit journal (bit_value b) uid))
    ∙ has-without b (current journal (key.Owner uid))

pub returns-clause-iface : goal.returns-clause-iface
returns-clause-iface c = λ journal privileged limits uid. (
  λ done.
      ap (λ (j : List Write). iface_in (current j (key.Owner uid))) (after-done journal privileged limits (Remove uid bit.Iface) done)
      ∙ ap iface_in (written_own journal (take_bit journal iface_bit uid))
      ∙ iface-gone (current journal (key.Owner uid)),
  λ b other.
      after-either (λ (j : List Write). KeepsIface (current journal (key.Owner uid)) (current j (key.Owner uid))) journal privileged limits (Remove uid b)
      (λ left. refl)
      (subst (KeepsIface (current journal (key.Owner uid))) (sym (written_own journal (take_bit journal (bit_value b) uid)))
      (iface-without b (current journal (key.Owner uid)) (not_iface b other))),
)

pub returns-clause-others : goal.returns-clause-others
returns-clause-others c = λ journal privileged limits uid b.
    after-either (λ (j : List Write). ChangesBitAlone journal j uid (bit_value b)) journal privileged limits (Remove uid b)
    (record { bits = λ place within other. refl; keys = λ k other. refl })
    (record {
      bits = subst (KeepsOtherBits (bit_value b) (current journal (key.Owner uid))) (sym (written_own journal (take_bit journal (bit_value b) uid)))
          (others-without b (current journal (key.Owner uid)));
      keys = λ k other. written_other journal (take_bit journal (bit_value b) uid) k other;
    })
