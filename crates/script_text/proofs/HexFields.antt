-- Bytes that a field writes.
use Rattle.std.proofs.Common.{◌≡◌, ℕ, suc, zero, List, [], ◌∷◌, sym, ap, ◌∙◌, arith}
use Rattle.std.specs.Prelude.{Result, Ok, Err}
use Rattle.hex.specs.Hex.{encode_lower, decode_of, IsBytes}
use Rattle.hex.specs.declared.error.FromHexError.{FromHexError}
use Rattle.hex.proofs.HexLemmas.{decode_of-encode_lower, decode_of-ok}
use Rattle.script_text.specs.Lines.{AreBytes}

pub to_bytes : (bs : List ℕ) → AreBytes bs → IsBytes bs
to_bytes [] h i = omega arith
to_bytes (b ∷ bs) h zero = h.0
to_bytes (b ∷ bs) h (suc i) = to_bytes bs h.1 i

pub from_bytes : (bs : List ℕ) → IsBytes bs → AreBytes bs
from_bytes [] h = tt
from_bytes (b ∷ bs) h = (h zero, from_bytes bs (λ i. h (suc i)))

abbrev okay : List ℕ → Result (List ℕ) FromHexError
okay bs = Ok bs

ok_same : (a b : List ℕ) → okay a ≡ okay b → a ≡ b
ok_same a b e = cc

pub same_bytes : (field found bytes : List ℕ) → decode_of field ≡ Ok found → AreBytes bytes → field ≡ encode_lower bytes → bytes ≡ found
same_bytes field found bytes read fits e = ok_same bytes found (sym (decode_of-encode_lower bytes (to_bytes bytes fits)) ∙ ap decode_of (sym e) ∙ read)

not_both : (bytes : List ℕ) (f : FromHexError) → okay bytes ≡ Err f → ⊥
not_both bytes f e = absurd cc

pub no_fault : (field bytes : List ℕ) (f : FromHexError) → decode_of field ≡ Err f → AreBytes bytes → field ≡ encode_lower bytes → ⊥
no_fault field bytes f read fits e = not_both bytes f (sym (decode_of-encode_lower bytes (to_bytes bytes fits)) ∙ ap decode_of (sym e) ∙ read)

pub bytes_read : (field found : List ℕ) → decode_of field ≡ Ok found → AreBytes found
bytes_read field found read = from_bytes found (decode_of-ok field found read).3
