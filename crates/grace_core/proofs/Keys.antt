-- Labels that agree in all fields have the same keys, and the other way round.
use Rattle.std.proofs.Common.{◌≡◌, true, ap, subst}
use Rattle.acct_base.specs.declared.label.Label.{Label}
use Rattle.acct_base.specs.Amounts.{IsValidLabel, same_label}
use Rattle.acct_base.proofs.Keys.{label_same, label_self}
use Rattle.row_probe.specs.Keys.{pack1, pack2}
use Rattle.row_probe.proofs.Packing.{pack-injective}

pub same_keys : (l m : Label) → IsValidLabel l → IsValidLabel m → pack1 l ≡ pack1 m → pack2 l ≡ pack2 m → same_label l m ≡ true
same_keys l m a b e f = subst (λ (z : Label). same_label l z ≡ true) (pack-injective l m a b e f) (label_self l)

pub same_true : (l m : Label) → same_label l m ≡ true → (pack1 l ≡ pack1 m) × (pack2 l ≡ pack2 m)
same_true l m e = let s = label_same l m e in (ap pack1 s, ap pack2 s)
