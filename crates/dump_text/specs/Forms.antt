-- How the word of a register is printed.
use Rattle.std.specs.Prelude.{ℕ, List, decimal}
use Rattle.dump_text.specs.declared.receipts.Form.{Form}
use Rattle.dump_text.specs.declared.receipts.Form.TheVariants.{Number, Tag, Owner}
use Rattle.dump_text.specs.Dump.{tag_value, owner_value}

-- The word in its form.
abbrev pub spelled : Form → ℕ → List ℕ
spelled Number word = decimal word
spelled Tag word = tag_value word
spelled Owner word = owner_value word
