-- A label as two words, under which its row is kept.
use Rattle.std.specs.Prelude.{◌≡◌, ℕ, ◌+◌, ◌-◌, ◌*◌, ◌/◌, ◌%◌, ◌^◌, ◌&&◌, Bool, nat_lt, nat_le, if◌then◌else◌, Option, None, Some}
use Rattle.acct_base.specs.declared.label.Label.{Label}
use Rattle.acct_base.specs.Amounts.{IsValidLabel}

-- The first word has the uid and one more above the tag, so that it is never 0.
abbrev pub pack1 : Label → ℕ
pack1 label = (label.uid + 1) * 2 ^ 32 + label.tag

-- The second word has the interface above the counter set. An interface is at least 1, so this word is never 0 either.
abbrev pub pack2 : Label → ℕ
pack2 label = label.iface * 2 + label.set

-- The two words are those of a valid label.
pub record ArePair (k1 k2 : ℕ) (label : Label) : Type 0 where
  pub valid : IsValidLabel label
  pub first : pack1 label ≡ k1
  pub second : pack2 label ≡ k2

-- The words are in the ranges of labels' words: the first has a uid in it and is 64 bits wide, the second has an interface in it and is 25.
abbrev pub holds_label : ℕ → ℕ → Bool
holds_label k1 k2 = nat_le (2 ^ 32) k1 && nat_lt k1 (2 ^ 64) && nat_le 2 k2 && nat_lt k2 (2 ^ 25)

-- The label that the words are put together from.
abbrev pub label_of : ℕ → ℕ → Label
label_of k1 k2 = record { uid = k1 / 2 ^ 32 - 1; tag = k1 % 2 ^ 32; set = k2 % 2; iface = k2 / 2 }

-- The valid label whose words these are, if there is one.
unfoldable pub unpack : ℕ → ℕ → Option Label
unpack k1 k2 = if holds_label k1 k2 then Some (label_of k1 k2) else None
