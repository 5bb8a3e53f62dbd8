-- How a read of a register that no command wrote is printed.
use Rattle.std.proofs.Common.{◌≡◌, ℕ, List, ◌∷◌, ◌++◌, sym, ap, subst, arith}
use Rattle.std.proofs.lemmas.Fmt.{decimal_digit}
use Rattle.std.specs.Prelude.{◌==◌, if◌then◌else◌, codes, decimal}
use Rattle.acct_base.specs.declared.register.Seen.{Seen}
use Rattle.dump_text.specs.Dump.{or_dash, seen_word}

pub unwritten : (spell : ℕ → List ℕ) (seen : Seen) → seen.version ≡ 0 → codes " 0:-" ≡ 32 ∷ seen_word spell seen
unwritten spell seen is =
    subst (λ (v : ℕ). codes " 0:-" ≡ 32 ∷ (decimal v ++ (codes ":" ++ (if v == 0 then codes "-" else or_dash spell seen.value)))) (sym is)
    (ap (λ (digits : List ℕ). 32 ∷ (digits ++ codes ":-")) (sym (decimal_digit 0 (omega arith))))
