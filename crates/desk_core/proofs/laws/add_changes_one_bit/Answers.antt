use Rattle.std.proofs.Common.{List, refl, sym, ap, subst, ◌∙◌}
use Rattle.acct_base.specs.declared.register.Key.TheVariants as key
use Rattle.acct_base.specs.declared.register.Write.{Write}
use Rattle.acct_base.specs.Journal.{current}
use Rattle.desk_core.specs.declared.command.Command.TheVariants.{Add}
use Rattle.desk_core.specs.Commands.{bit_value, entry_has, iface_in, put_bit}
use Rattle.desk_core.specs.Laws.{KeepsOtherBits, ChangesBitAlone}
use Rattle.desk_core.proofs.EntryLemmas.{has-with, others-with, iface-with}
use Rattle.desk_core.proofs.ValueLemmas.{after-done, after-either, written_own, written_other}
use Rattle.desk_core.proofs.laws.add_changes_one_bit.Goals as goal

pub returns-clause-own : goal.returns-clause-own
returns-clause-own c = λ journal privileged limits uid b iface done.
    ap (λ (j : List Write). entry_has (bit_value b) (current j (key.Owner uid))) (after-done journal privileged limits (Add uid b iface) done)
    ∙ ap (entry_has (bit_value b)) (written_own journal (put_bit journal (bit_value b) iface uid))
    ∙ has-with b (current journal (key.Owner uid)) iface

pub returns-clause-iface : goal.returns-clause-iface
returns-clause-iface c = λ journal privileged limits uid b iface done.
    ap (λ (j : List Write). iface_in (current j (key.Owner uid))) (after-done journal privileged limits (Add uid b iface) done)
    ∙ ap iface_in (written_own journal (put_bit journal (bit_value b) iface uid))
    ∙ iface-with b (current journal (key.Owner uid)) iface

pub returns-clause-others : goal.returns-clause-others
returns-clause-others c = λ journal privileged limits uid b iface.
    after-either (λ (j : List Write). ChangesBitAlone journal j uid (bit_value b)) journal privileged limits (Add uid b iface)
    (record { bits = λ place within other. refl; keys = λ k other. refl })
    (record {
      bits = subst (KeepsOtherBits (bit_value b) (current journal (key.Owner uid))) (sym (written_own journal (put_bit journal (bit_value b) iface uid)))
          (others-with b (current journal (key.Owner uid)) iface);
      keys = λ k other. written_other journal (put_bit journal (bit_value b) iface uid) k other;
    })
