-- A desk's deletions divide their phases, and are bounded by what was added before their section and through it.
use Rattle.std.proofs.Common.{◌≡◌, ℕ, zero, suc, ◌+◌, List, [], ◌∷◌, ◌++◌, length, take, refl, sym, ap, subst, ◌∙◌, arith, Option, Some, None, Bool, true, false, length-append, append_assoc, append-nil}
use Rattle.std.specs.Prelude.{slice_get, filter, not, cond}
use Rattle.std.specs.List.{AllByRecursion}
use Rattle.acct_base.specs.declared.amount.Amount.{Amount}
use Rattle.acct_base.specs.declared.amount.Row.{Row}
use Rattle.acct_base.specs.declared.amount.Snapshot.{Snapshot}
use Rattle.acct_base.specs.Amounts.{IsAtMost}
use Rattle.acct_base.specs.Receipts.{Add}
use Rattle.acct_base.specs.Sums.{added}
use Rattle.desk_core.specs.declared.command.Command.{Command}
use Rattle.desk_core.specs.declared.command.Command.TheVariants as command
use Rattle.shelf.specs.declared.shelf.Deletion.{Deletion}
use Rattle.shelf.specs.Shelved.{Phases}
use Rattle.shelf.specs.Phases.{deleted_app, is_deleted, uid_of, IsShelved, IsDividedBy}
use Rattle.captures.specs.Honest.{IsDivided, Divides, IsCollected, AppIsBounded, Collection}
use Rattle.captures.proofs.Lists.{place_right, all_more}
use Rattle.collector.specs.Collectors.{Gathered, IsLevel}
use Rattle.collector.specs.Deletions.{IsDropped, AppIsKnown}
use Rattle.lanes.proofs.DeskLemmas.{AllEnded, drop_of}

pub at_most_trans : (a b c : Amount) → IsAtMost a b → IsAtMost b c → IsAtMost a c
at_most_trans a b c h k = record {
  rx_packets = omega (arith, h.rx_packets, k.rx_packets);
  rx_bytes = omega (arith, h.rx_bytes, k.rx_bytes);
  tx_packets = omega (arith, h.tx_packets, k.tx_packets);
  tx_bytes = omega (arith, h.tx_bytes, k.tx_bytes);
}

pub at_most_same : (a : Amount) → IsAtMost a a
at_most_same a = record { rx_packets = omega arith; rx_bytes = omega arith; tx_packets = omega arith; tx_bytes = omega arith }

-- ---- a division by two filters

kept_all : {X : Type 0} (p : X → Bool) (xs : List X) → AllByRecursion (λ x. p x ≡ true) (filter p xs)
kept_all p [] = tt
kept_all {X} p (x ∷ xs) =
    let step : (b : Bool) → p x ≡ b → AllByRecursion (λ x. p x ≡ true) (cond b (x ∷ filter p xs) (filter p xs)) =
    λ b. elim b as (λ b. p x ≡ b → AllByRecursion (λ x. p x ≡ true) (cond b (x ∷ filter p xs) (filter p xs))) [ true ↦ λ e. (e, kept_all p xs) | false ↦ λ e. kept_all p xs ] in
    step (p x) refl

not_true : (b : Bool) → not b ≡ true → b ≡ false
not_true true e = absurd (cc)
not_true false e = refl

divides : (n caller uid tag : ℕ) (given s : Snapshot) (d : Deletion) → IsDividedBy given s d → IsDropped n (Some (uid, tag)) (Some d) → Divides n uid tag s d
divides n caller uid tag given s d h k =
    let taken : d.rows ≡ filter (is_deleted uid tag) given.rows = h.taken ∙ (λ i. filter (is_deleted (k.1 i) (k.2 i)) given.rows) in
    let left : s.rows ≡ filter (λ row. not (is_deleted uid tag row)) given.rows = h.left ∙ (λ i. filter (λ row. not (is_deleted (k.1 i) (k.2 i) row)) given.rows) in
    record {
      phase = k.0;
      uid_is = k.1;
      tag_is = k.2;
      taken = subst (λ (rows : List Row). AllByRecursion (λ row. is_deleted uid tag row ≡ true) rows) (sym taken) (kept_all (is_deleted uid tag) given.rows);
      left = subst (λ (rows : List Row). AllByRecursion (λ row. is_deleted uid tag row ≡ false) rows) (sym left)
          (all_more (λ (row : Row). not (is_deleted uid tag row) ≡ true) (λ (row : Row). is_deleted uid tag row ≡ false) (λ row e. not_true (is_deleted uid tag row) e)
          (filter (λ row. not (is_deleted uid tag row)) given.rows) (kept_all (λ (row : Row). not (is_deleted uid tag row)) given.rows));
      app = k.3;
    }

divided_is : (n : ℕ) (c : Command) (given : Snapshot) (p : Snapshot × Option Deletion) → IsShelved given p → IsDropped n (drop_of c) p.1 → IsDivided n c p
divided_is n (command.Delete caller uid tag) given (s, Some d) h k = divides n caller uid tag given s d h k
divided_is n (command.Delete caller uid tag) given (s, None) h k = absurd k
divided_is n _ given (s, None) h k = tt
divided_is n _ given (s, Some d) h k = absurd k

-- ---- collections one after another

known_grows : (start : Gathered) (done : List Command) (end : Gathered) → AllEnded start done end → (uid : ℕ) → IsAtMost (start.known uid) (end.known uid)
known_grows start [] end h uid = subst (λ (x : Gathered). IsAtMost (start.known uid) (x.known uid)) h (at_most_same (start.known uid))
known_grows start (c ∷ cs) end h uid = at_most_trans _ _ _ (h.1.known uid) (known_grows h.0 cs end h.2 uid)

pub shelf_begins : (start : Gathered) (done : List Command) (end : Gathered) → AllEnded start done end → (more : Phases) × (end.phases ≡ start.phases ++ more)
shelf_begins start [] end h = ([], sym (ap (λ (x : Gathered). x.phases) h) ∙ sym (append-nil start.phases))
shelf_begins start (c ∷ cs) end h =
    let rest = shelf_begins h.0 cs end h.2 in
    (h.1.shelved ∷ rest.0, rest.1 ∙ ap (λ (xs : Phases). xs ++ rest.0) h.1.put ∙ append_assoc start.phases (h.1.shelved ∷ []) rest.0)

pub shelf_long : (start : Gathered) (done : List Command) (end : Gathered) → AllEnded start done end → length end.phases ≡ length start.phases + length done
shelf_long start [] end h = let same : length start.phases ≡ length end.phases = ap (λ (x : Gathered). length x.phases) h in omega (arith, same)
shelf_long start (c ∷ cs) end h =
    let first : length h.0.phases ≡ length start.phases + 1 = ap (λ (xs : Phases). length xs) h.1.put ∙ length-append start.phases (h.1.shelved ∷ []) in
    let rest = shelf_long h.0 cs end h.2 in
    omega (arith, first, rest)

take_whole : {X : Type 0} (xs more : List X) (n : ℕ) → n ≡ length xs → take n (xs ++ more) ≡ xs
take_whole [] more n e = ap (λ k. take k more) e
take_whole (x ∷ xs) more zero e = absurd (omega arith)
take_whole {X} (x ∷ xs) more (suc n) e = ap (λ (ys : List X). x ∷ ys) (take_whole xs more n (omega arith))

app_bounded : (c : Collection) (known then : ℕ → Amount) (phases : Phases) (o : Option Deletion) → ((uid : ℕ) → IsAtMost (added c.before uid) (known uid)) →
    ((uid : ℕ) → IsAtMost (then uid) (added c.through uid)) → AppIsKnown known then (deleted_app phases (uid_of o)) o → AppIsBounded c (deleted_app phases (uid_of o)) o
app_bounded c known then phases None low high h = tt
app_bounded c known then phases (Some d) low high h = λ sure. record {
  least = at_most_trans _ _ _ (low d.uid) (h sure).least;
  most = at_most_trans _ _ _ (h sure).most (high d.uid);
}

pub bounds : (start end : Gathered) (done : List Command) (before after : List Add) → IsLevel start → AllEnded start done end →
    -- what the two meetings of the seats of the app totals say
    ((uid : ℕ) → IsAtMost (added before uid) (start.known uid)) → ((uid : ℕ) → IsAtMost (end.known uid) (added after uid)) →
    (i : ℕ) (c : Command) (p : Snapshot × Option Deletion) → slice_get done i ≡ Some c → slice_get end.phases (length start.phases + i) ≡ Some p →
    IsCollected end.phases (length start.phases + i) (record { command = c; before = before; through = after }) p
bounds start end [] before after level h low high i c p e k = absurd (cc)
bounds start end (d ∷ ds) before after level h low high zero c p e k =
    let next = h.0 in
    let rest = shelf_begins next ds end h.2 in
    let whole : end.phases ≡ start.phases ++ (h.1.shelved ∷ rest.0) = rest.1 ∙ ap (λ (xs : Phases). xs ++ rest.0) h.1.put ∙ append_assoc start.phases (h.1.shelved ∷ []) rest.0 in
    let found : slice_get end.phases (length start.phases + 0) ≡ Some h.1.shelved =
    ap (λ (xs : Phases). slice_get xs (length start.phases + 0)) whole ∙ place_right start.phases (h.1.shelved ∷ rest.0) 0 (length start.phases + 0) refl in
    let is_p : h.1.shelved ≡ p = cc in
    let is_c : d ≡ c = cc in
    let front : take (suc (length start.phases + 0)) end.phases ≡ next.phases =
    ap (take (suc (length start.phases + 0))) rest.1
    ∙ take_whole next.phases rest.0 (suc (length start.phases + 0)) (let long : length next.phases ≡ length start.phases + 1 = ap length h.1.put ∙ length-append start.phases (h.1.shelved ∷ []) in omega (arith, long)) in
    let uid = uid_of h.1.shelved.1 in
    let at : start.phase ≡ length start.phases + 0 = let same = level.phase in omega (arith, same) in
    let fact : IsCollected end.phases (length start.phases + 0) (record { command = d; before = before; through = after }) h.1.shelved = record {
      divided = subst (λ (n : ℕ). IsDivided n d h.1.shelved) at (divided_is start.phase d h.1.given h.1.shelved h.1.is_shelved h.1.dropped);
      app = subst (λ (xs : Phases). AppIsBounded (record { command = d; before = before; through = after }) (deleted_app xs uid) h.1.shelved.1) (sym front)
          (app_bounded (record { command = d; before = before; through = after }) start.known next.known next.phases h.1.shelved.1 low
          (λ uid. at_most_trans _ _ _ (known_grows next ds end h.2 uid) (high uid)) h.1.app);
    } in
    subst (λ (x : Command × (Snapshot × Option Deletion)). IsCollected end.phases (length start.phases + 0) (record { command = x.0; before = before; through = after }) x.1) (λ j. (is_c j, is_p j)) fact
bounds start end (d ∷ ds) before after level h low high (suc i) c p e k =
    let next = h.0 in
    let long : length next.phases ≡ length start.phases + 1 = ap length h.1.put ∙ length-append start.phases (h.1.shelved ∷ []) in
    let same : length start.phases + suc i ≡ length next.phases + i = omega (arith, long) in
    subst (λ (n : ℕ). IsCollected end.phases n (record { command = c; before = before; through = after }) p) (sym same)
    (bounds next end ds before after h.1.level h.2 (λ uid. at_most_trans _ _ _ (low uid) (h.1.known uid)) high i c p e (ap (slice_get end.phases) (sym same) ∙ k))
