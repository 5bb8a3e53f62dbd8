-- Charges and adds that land in turn, put together.
use Rattle.std.proofs.Common.{ℕ, List, [], ◌∷◌, ◌++◌, sym, subst, append_assoc, append-nil}
use Rattle.acct_base.specs.declared.charge.Charge.{Charge}
use Rattle.acct_base.specs.Receipts.{Add}
use Rattle.acct_base.specs.Landings.{LandInTurn, AddInTurn}

pub land_append : (size : ℕ) (before xs ys : List Charge) → LandInTurn size before xs → LandInTurn size (before ++ xs) ys → LandInTurn size before (xs ++ ys)
land_append size before [] ys h k = subst (λ (cs : List Charge). LandInTurn size cs ys) (append-nil before) k
land_append size before (x ∷ xs) ys h k =
    (h.0, land_append size (before ++ x ∷ []) xs ys h.1 (subst (λ (cs : List Charge). LandInTurn size cs ys) (sym (append_assoc before (x ∷ []) xs)) k))

pub add_append : (size : ℕ) (before xs ys : List Add) → AddInTurn size before xs → AddInTurn size (before ++ xs) ys → AddInTurn size before (xs ++ ys)
add_append size before [] ys h k = subst (λ (cs : List Add). AddInTurn size cs ys) (append-nil before) k
add_append size before (x ∷ xs) ys h k =
    (h.0, add_append size (before ++ x ∷ []) xs ys h.1 (subst (λ (cs : List Add). AddInTurn size cs ys) (sym (append_assoc before (x ∷ []) xs)) k))
